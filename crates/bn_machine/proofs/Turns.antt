-- How the parts of a turn join.
use Rattle.std.proofs.Common.{◌≡◌, ℕ, zero, suc, ◌+◌, ◌<◌, ◌≤◌, length, List, Option, Some}
use Rattle.std.proofs.Common.{None, Result, Ok, Err, OnOk, sym, ap, subst, arith}
use Rattle.bn_types.specs.declared.act.Act.{Act}
use Rattle.bn_types.specs.declared.act.Act.TheVariants as act
use Rattle.bn_types.specs.declared.event.Event.{Event}
use Rattle.bn_types.specs.declared.event.Event.TheVariants.{Poke, Turn}
use Rattle.bn_types.specs.declared.mod_id.ModId.{ModId}
use Rattle.bn_types.specs.declared.fault.Fault.{Fault}
use Rattle.bn_types.specs.declared.gpn.Gpn.{Gpn}
use Rattle.bn_types.specs.declared.kind.Kind.TheVariants as kind
use Rattle.bn_types.specs.declared.width.Width.{Width}
use Rattle.bn_types.specs.declared.width.Width.TheVariants.{B4}
use Rattle.bn_model.specs.declared.place.Place.{Place}
use Rattle.bn_model.specs.Accessing.{access, answer_of_load}
use Rattle.bn_model.specs.Deciding.{asked_of_denial, asked_of_fault, asked_of_fetch}
use Rattle.bn_model.specs.Deciding.{asked_of_insn, asked_of_interrupt, asked_of_stopped}
use Rattle.bn_model.specs.Decision.{Asked, Nothing, Interrupted, Unfetched, Resuming, Unknown}
use Rattle.bn_model.specs.Decision.{Acting}
use Rattle.bn_model.specs.Decoding.{insn_of}
use Rattle.bn_model.specs.Soundness.{IsSound}
use Rattle.bn_model.specs.State.{State, asker, hart_at, memory}
use Rattle.bn_model.specs.Stepping.{Fits, step}
use Rattle.bn_model.specs.Switching.{stopped_at}
use Rattle.bn_model.specs.Walking.{vpn_of}
use Rattle.bn_model.proofs.SoundKept.{sound-kept}
use Rattle.bn_unit.specs.Holding.{Cache}
use Rattle.bn_machine.specs.Costs.{CountsAct, CountsAsked}
use Rattle.bn_machine.specs.Keys.{KeepsAsked}
use Rattle.bn_machine.specs.Making.{MakesAsked, MakesTurn, after_write}

-- the answer of hart h's fetch
abbrev pub fetched : State → ℕ → Result ℕ Fault
fetched s h =
    let hart = hart_at s h in
    answer_of_load s.pages B4 (access (memory s) (asker h hart) kind.Fetch hart.pc B4)

-- a word was fetched, and what it asks for was made
pub made-fetched : (s t new : State) (text : List ℕ) (h word : ℕ)
    → t ≡ s → fetched s h ≡ Ok word
    → MakesAsked t new text h (asked_of_insn (hart_at t h) (insn_of word))
    → MakesAsked s new text h (asked_of_interrupt s h (hart_at s h) None)
made-fetched s t new text h word same e made =
    subst (λ (asked : Asked). MakesAsked s new text h asked)
    (sym (ap (asked_of_fetch s.rows (hart_at s h)) e))
    (subst (λ (t : State).
    MakesAsked t new text h (asked_of_insn (hart_at t h) (insn_of word))) same made)

-- the fetch failed
pub made-unfetched : (s t new : State) (text : List ℕ) (h : ℕ)
    (fault : Fault) → t ≡ s → fetched s h ≡ Err fault
    → MakesAsked t new text h (asked_of_fault (hart_at t h).current.0 t.rows (hart_at t
    h) fault)
    → MakesAsked s new text h (asked_of_interrupt s h (hart_at s h) None)
made-unfetched s t new text h fault same e made =
    subst (λ (asked : Asked). MakesAsked s new text h asked)
    (sym (ap (asked_of_fetch s.rows (hart_at s h)) e))
    (subst (λ (t : State).
    MakesAsked t new text h (asked_of_fault (hart_at t h).current.0 t.rows (hart_at t h)
    fault))
    same made)

-- a turn keeps soundness
pub sound-turn : (s new : State) (text : List ℕ) (h : ℕ)
    → h < length s.harts → IsSound s → MakesTurn s new text h → IsSound new
unfolding step
sound-turn s new text h within sound made =
    subst IsSound (sym made.stepped) (sound-kept s (Turn h) within sound)

-- ---- table words

-- what was asked counts at most 15 more with the fetch
counted-more : (asked : Asked) (old mid new : ℕ) → mid ≤ old + 15 → CountsAsked asked 15 mid new
    → CountsAsked asked 30 old new
counted-more Nothing old mid new fetch count = omega arith
counted-more (Interrupted cause) old mid new fetch count = omega arith
counted-more (Unfetched fault) old mid new fetch count = omega arith
counted-more (Resuming id) old mid new fetch count = omega arith
counted-more Unknown old mid new fetch count = omega arith
counted-more (Acting asked) old mid new fetch count = by_act asked count
  where
    by_act : (asked : Act) → CountsAct asked 15 mid new → CountsAct asked 30 old new
    by_act (act.Bastion secure) count = tt
    by_act (act.Set rd value) count = omega arith
    by_act (act.Jump target rd link) count = omega arith
    by_act act.Next count = omega arith
    by_act (act.LoadAt va width signed rd) count = omega arith
    by_act (act.StoreAt va width value) count = omega arith
    by_act (act.Csr op number operand reads writes rd) count = omega arith
    by_act act.Ecall count = omega arith
    by_act act.Ebreak count = omega arith
    by_act act.Sret count = omega arith
    by_act act.Wfi count = omega arith
    by_act act.SfenceVma count = omega arith
    by_act (act.Trap cause value) count = omega arith

-- a word was fetched
pub counted-fetched : (s t : State) (h word old mid new : ℕ) → t ≡ s → fetched s h ≡ Ok word
    → mid ≤ old + 15
    → CountsAsked (asked_of_insn (hart_at t h) (insn_of word)) 15 mid new
    → CountsAsked (asked_of_interrupt s h (hart_at s h) None) 30 old new
counted-fetched s t h word old mid new same e fetch count =
    subst (λ (asked : Asked). CountsAsked asked 30 old new)
    (sym (ap (asked_of_fetch s.rows (hart_at s h)) e))
    (counted-more (asked_of_insn (hart_at s h) (insn_of word)) old mid new fetch
    (subst (λ (t : State).
    CountsAsked (asked_of_insn (hart_at t h) (insn_of word)) 15 mid new) same count))

-- the fetch failed
pub counted-unfetched : (s : State) (h : ℕ) (fault : Fault) (old mid : ℕ) → fetched s h ≡ Err fault
    → mid ≤ old + 15
    → CountsAsked (asked_of_interrupt s h (hart_at s h) None) 30 old mid
counted-unfetched s h fault old mid e fetch =
    subst (λ (asked : Asked). CountsAsked asked 30 old mid)
    (sym (ap (asked_of_fetch s.rows (hart_at s h)) e))
    (by_current (hart_at s h).current.0)
  where
    by_stopped : (id : Option ModId) → CountsAsked (asked_of_stopped fault id) 30 old mid
    by_stopped None = omega arith
    by_stopped (Some id) = omega arith

    by_page : (page : Option Gpn)
        → CountsAsked (asked_of_denial s.rows (hart_at s h) fault page) 30 old mid
    by_page None = omega arith
    by_page (Some page) =
        by_stopped (stopped_at s.rows page.0 (vpn_of (hart_at s h).pc) (hart_at s h).pc
        (hart_at s h).mode)

    by_current : (current : ℕ)
        → CountsAsked (asked_of_fault current s.rows (hart_at s h) fault) 30 old mid
    by_current zero = by_page fault.denied
    by_current (suc m) = omega arith

-- so does an event of a device
pub sound_event : (s new : State) (event : Event) → Fits s event → IsSound s → new ≡ step s event
    → IsSound new
sound_event s new event fits sound is = subst IsSound (sym is) (sound-kept s event fits sound)

-- and so does what a device writes without an event
pub sound_write : (s : State) (page : Gpn) (offset byte : ℕ) → offset < 4096 → IsSound s
    → IsSound (after_write s page offset byte)
unfolding step
sound_write s page offset byte fits sound =
    let told = sound-kept s (Poke page offset byte) fits sound in record {
      ids = sound.ids;
      claims = told.claims;
      acceptances = sound.acceptances;
      states = sound.states;
      asleep = sound.asleep;
      modes = sound.modes;
      rows = sound.rows;
      harts = sound.harts;
      some_harts = sound.some_harts;
      few_harts = sound.few_harts;
      some_pages = told.some_pages;
      few_pages = told.few_pages;
      pages = told.pages;
      few_keys = sound.few_keys;
      keys = sound.keys;
      records = sound.records;
    }

-- ---- the keys that are held after a turn

-- a word was fetched
pub keeps-fetched : (s t : State) (h word : ℕ) (m : Cache) → t ≡ s → fetched s h ≡ Ok word
    → KeepsAsked t h (asked_of_insn (hart_at t h) (insn_of word)) m
    → KeepsAsked s h (asked_of_interrupt s h (hart_at s h) None) m
keeps-fetched s t h word m same e keeps =
    subst (λ (asked : Asked). KeepsAsked s h asked m)
    (sym (ap (asked_of_fetch s.rows (hart_at s h)) e))
    (subst (λ (t : State). KeepsAsked t h (asked_of_insn (hart_at t h) (insn_of word)) m) same
    keeps)

-- the fetch failed
pub keeps-unfetched : (s : State) (h : ℕ) (fault : Fault) (m : Cache) → fetched s h ≡ Err fault
    → KeepsAsked s h (asked_of_interrupt s h (hart_at s h) None) m
keeps-unfetched s h fault m e =
    subst (λ (asked : Asked). KeepsAsked s h asked m)
    (sym (ap (asked_of_fetch s.rows (hart_at s h)) e))
    (by_current (hart_at s h).current.0)
  where
    by_stopped : (id : Option ModId) → KeepsAsked s h (asked_of_stopped fault id) m
    by_stopped None = tt
    by_stopped (Some id) = tt

    by_page : (page : Option Gpn)
        → KeepsAsked s h (asked_of_denial s.rows (hart_at s h) fault page) m
    by_page None = tt
    by_page (Some page) =
        by_stopped (stopped_at s.rows page.0 (vpn_of (hart_at s h).pc) (hart_at s h).pc
        (hart_at s h).mode)

    by_current : (current : ℕ)
        → KeepsAsked s h (asked_of_fault current s.rows (hart_at s h) fault) m
    by_current zero = by_page fault.denied
    by_current (suc number) = tt

-- what a load answers tells whether it reached a place
pub keeps-answered : (pages : List (List ℕ)) (width : Width) (answer : Result ℕ Fault)
    (reached : Result Place Fault) (P : Type 0) → answer ≡ answer_of_load pages width reached
    → OnOk answer P → OnOk reached P
keeps-answered pages width answer (Ok place) P e held =
    subst (λ (answer : Result ℕ Fault). OnOk answer P) e held
keeps-answered pages width answer (Err fault) P e held = tt
