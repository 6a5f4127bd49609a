-- What a turn's methods come to: a decision is made.
use Rattle.std.specs.Prelude.{◌≡◌, ℕ, suc, ◌<◌, ℤ, List, Result, Ok, Err}
use Rattle.bn_types.specs.declared.act.Act.{Act}
use Rattle.bn_types.specs.declared.digest.Digest.{Digest}
use Rattle.bn_types.specs.declared.event.Event.{Event}
use Rattle.bn_types.specs.declared.event.Event.TheVariants.{Turn}
use Rattle.bn_types.specs.declared.gpn.Gpn.{Gpn}
use Rattle.bn_types.specs.declared.reg.Reg.{Reg}
use Rattle.bn_types.specs.declared.request.Request.TheVariants as request
use Rattle.bn_model.specs.Deciding.{decision_of, decision_of_act, decision_of_asked}
use Rattle.bn_model.specs.Decision.{Asked, Decision, Evict, Refuse}
use Rattle.bn_model.specs.Records.{set_word}
use Rattle.bn_model.specs.Refusals.{minus}
use Rattle.bn_model.specs.Spelling.{text_of}
use Rattle.bn_model.specs.Rows.{with_row}
use Rattle.bn_model.specs.State.{State, frame_of, hart_after_stop, hart_at, one_more, with_hart}
use Rattle.bn_model.specs.Stepping.{after_tick, after_turn, lines_of_turn, pages_after_poke}
use Rattle.bn_model.specs.Stepping.{seen_page}
use Rattle.bn_model.specs.Switching.{row_after_stop}
use Rattle.bn_table.specs.Evictions.{evict_code}
use Rattle.bn_table.specs.declared.evict_refused.EvictRefused.{EvictRefused}
use Rattle.bn_switch.specs.declared.context.Context.{Context}
use Rattle.bn_machine.specs.Harts.{hart_in_context}

-- the state after hart h's turn that comes to this, and the text of its lines
abbrev pub state_after : State → ℕ → Decision → State
state_after s h d = after_turn s h (hart_at s h) d

abbrev pub text_after : State → ℕ → Decision → List ℕ
text_after s h d = text_of (lines_of_turn s.clock s.next h (hart_at s h) d)

-- the decision is made
pub record IsMade (old new : State) (text : List ℕ) (h : ℕ) (d : Decision) : Type 0 where
  pub stepped : new ≡ state_after old h d
  pub told : text ≡ text_after old h d

-- what is asked of hart h is made
abbrev pub MakesAsked : (old new : State) → List ℕ → ℕ → Asked → Type 0
MakesAsked old new text h asked =
    IsMade old new text h (decision_of_asked old h (hart_at old h) asked)

-- what its instruction asks for is made
abbrev pub MakesAct : (old new : State) → List ℕ → ℕ → Act → Type 0
MakesAct old new text h act = IsMade old new text h (decision_of_act old h (hart_at old h) act)

-- a turn of hart h is made
abbrev pub MakesTurn : (old new : State) → List ℕ → ℕ → Type 0
MakesTurn old new text h = IsMade old new text h (decision_of old h)

-- the state after the module that hart h runs is stopped
abbrev pub state_after_stop : State → ℕ → State
state_after_stop s h =
    let hart = hart_at s h in
    with_hart (record s { rows = with_row hart.current.0 (row_after_stop (frame_of hart)) s.rows })
    h (hart_after_stop hart)

-- the state after an event in which hart h goes on in a context
abbrev pub state_in_context : State → ℕ → Context → State
state_in_context s h context =
    let hart = hart_in_context (hart_at s h) context in
    after_tick (with_hart s h (record hart { retired = one_more hart.retired }))

-- minus a small number above 0
pub record IsRefusalCode (code : ℤ) : Type 0 where
  pub number : ℕ
  pub small : number < 32
  pub is : code ≡ minus (suc number)

-- what an eviction comes to, by its refusal
abbrev pub decision_by_refusal : Reg → (id count : ℕ) → Result ℕ EvictRefused → Decision
decision_by_refusal rd id count (Ok number) = Evict rd id count
decision_by_refusal rd id count (Err refusal) = Refuse rd request.Evict (evict_code refusal)

-- the state after a word of an identity is stored, but for the hart and the clock
abbrev pub after_set : State → Digest → (index value : ℕ) → State
after_set s who index value = record s { records = set_word s.records who index value }

-- an event of a device, and of no hart
abbrev pub IsOfDevice : Event → Type 0
IsOfDevice (Turn h) = ⊥
IsOfDevice event = Unit {0}

-- the state after a device wrote a byte where it reaches one, but for the clock
abbrev pub after_write : State → Gpn → (offset byte : ℕ) → State
after_write s page offset byte =
    record s { pages = pages_after_poke (seen_page s page) s.pages page.0 offset byte }
