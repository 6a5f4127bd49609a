-- A hart that isn't started runs no module, after each turn.
use Rattle.std.proofs.Common.{◌≡◌, ℕ, zero, suc, Bool, true, false, List, [], ◌∷◌, set}
use Rattle.std.proofs.Common.{refl, ap}
use Rattle.std.proofs.lemmas.List.Elements.{All-cons, All-head, All-nil, All-set, All-tail}
use Rattle.std.specs.List.{All}
use Rattle.bn_types.specs.declared.cause.Cause.{Cause}
use Rattle.bn_model.specs.Deciding.{asked_if_started, decision_of_asked, decision_of_hart}
use Rattle.bn_model.specs.Decision.{Decision, Rest, Trap, Deny, Next, Set, Jump, Store, Csr}
use Rattle.bn_model.specs.Decision.{ReturnFromTrap, Put, Answer, ShutDown, SetTimer, TakeKey, NoKey}
use Rattle.bn_model.specs.Decision.{Start, Send, Refuse, Launch, Call, Return, Resume, Evict, Tell}
use Rattle.bn_model.specs.Decision.{SetWord}
use Rattle.bn_model.specs.Each.{each}
use Rattle.bn_model.specs.Bits.{is_set}
use Rattle.bn_model.specs.Soundness.{AreAsleep}
use Rattle.bn_model.specs.State.{Hart, State, hart_after_answer, started_hart}
use Rattle.bn_model.specs.State.{untrusted}
use Rattle.bn_model.specs.Stepping.{after_trap_in, after_turn, hart_by_mask, hart_if_named}
use Rattle.bn_model.specs.Walking.{access_fault}

pub All-each : {X : Type 0} (P : X → Type 0) (change : ℕ → X → X)
    → ((k : ℕ) (x : X) → P x → P (change k x))
    → (i : ℕ) (xs : List X) → All P xs → All P (each change i xs)
All-each P change kept i [] all = All-nil P
All-each P change kept i (x ∷ xs) all =
    All-cons P (change i x) (each change (suc i) xs) (kept i x (All-head P x xs all))
    (All-each P change kept (suc i) xs (All-tail P x xs all))

-- a hart that isn't started does nothing
pub sleeps : (s : State) (h : ℕ) (hart : Hart) → hart.started ≡ false
    → decision_of_hart s h hart ≡ Rest
sleeps s h hart e = ap (λ (b : Bool). decision_of_asked s h hart (asked_if_started b s h hart)) e

abbrev IsAsleep : Hart → Type 0
IsAsleep hart = hart.started ≡ false → hart.current ≡ untrusted

module _ (s : State) (h : ℕ) (hart : Hart) (asleep : AreAsleep s.harts)
    (mine : hart.started ≡ false → hart.current ≡ untrusted) where
  one : (new : Hart) → IsAsleep new → AreAsleep (set s.harts h new)
  one new is = All-set IsAsleep s.harts h new is asleep

  trap-asleep : (cause : Cause) (value current : ℕ)
      → AreAsleep (after_trap_in current s h hart cause value).harts
  trap-asleep cause value zero = one _ mine
  trap-asleep cause value (suc m) = one _ (λ e. refl)

  named : (b : Bool) (x : Hart) → IsAsleep x → IsAsleep (hart_if_named b x)
  named true x is = is
  named false x is = is

  pub turn-asleep : (d : Decision) → (hart.started ≡ false → d ≡ Rest)
      → AreAsleep (after_turn s h hart d).harts
  turn-asleep Rest rests = asleep
  turn-asleep (Trap cause value) rests = trap-asleep cause value hart.current.0
  turn-asleep (Deny kind va) rests = trap-asleep (access_fault kind) va hart.current.0
  turn-asleep (Start target pc opaque) rests =
      All-set IsAsleep (set s.harts h (hart_after_answer hart 0)) target
      (started_hart target pc opaque) (λ e. refl) (one (hart_after_answer hart 0) mine)
  turn-asleep (Send mask) rests =
      All-each IsAsleep (hart_by_mask mask) (λ k x is. named (is_set mask k) x is) 0
      (set s.harts h (hart_after_answer hart 0)) (one (hart_after_answer hart 0) mine)
  turn-asleep (Call rd callee entry) rests = one _ (λ e. let r = rests e in absurd cc)
  turn-asleep (Return caller pc) rests = one _ (λ e. let r = rests e in absurd cc)
  turn-asleep (Resume id) rests = one _ (λ e. let r = rests e in absurd cc)
  turn-asleep Next rests = one _ mine
  turn-asleep (Set rd value) rests = one _ mine
  turn-asleep (Jump target rd link) rests = one _ mine
  turn-asleep (Store place width value) rests = one _ mine
  turn-asleep (Csr rd old csrs) rests = one _ mine
  turn-asleep ReturnFromTrap rests = one _ mine
  turn-asleep (Put byte) rests = one _ mine
  turn-asleep (Answer error) rests = one _ mine
  turn-asleep ShutDown rests = one _ mine
  turn-asleep (SetTimer timer) rests = one _ mine
  turn-asleep (TakeKey key rest) rests = one _ mine
  turn-asleep NoKey rests = one _ mine
  turn-asleep (Refuse rd request code) rests = one _ mine
  turn-asleep (Launch rd judged) rests = one _ mine
  turn-asleep (Evict rd id count) rests = one _ mine
  turn-asleep (Tell rd value) rests = one _ mine
  turn-asleep (SetWord rd index records) rests = one _ mine
