-- Laws of one step.
use Rattle.std.proofs.Common.{◌≡◌, ℕ, zero, suc, ◌+◌, List, [], ◌∷◌, length, refl, ap, ◌∙◌}
use Rattle.std.proofs.lemmas.List.{length-set}
use Rattle.bn_types.specs.declared.event.Event.{Event}
use Rattle.bn_types.specs.declared.event.Event.TheVariants.{Turn, Key, Poke, Peek}
use Rattle.bn_types.specs.declared.cause.Cause.{Cause}
use Rattle.bn_model.specs.Deciding.{decision_of}
use Rattle.bn_model.specs.Decision.{Decision, Rest, Trap, Deny, Next, Set, Jump, Store, Csr}
use Rattle.bn_model.specs.Decision.{ReturnFromTrap, Put, Answer, ShutDown, SetTimer, TakeKey, NoKey}
use Rattle.bn_model.specs.Decision.{Start, Send, Refuse, Launch, Call, Return, Resume, Evict, Tell}
use Rattle.bn_model.specs.Decision.{SetWord}
use Rattle.bn_model.specs.Each.{each}
use Rattle.bn_model.specs.State.{Hart, State, hart_after_answer, hart_at, with_hart}
use Rattle.bn_model.specs.Stepping.{step, after_trap_in, after_turn, hart_by_mask}
use Rattle.bn_model.specs.Walking.{access_fault}

length-each : {X Y : Type 0} (change : ℕ → X → Y) (i : ℕ) (xs : List X)
    → length (each change i xs) ≡ length xs
length-each change i [] = refl
length-each change i (x ∷ xs) = ap suc (length-each change (suc i) xs)

harts_after_trap : (current : ℕ) (s : State) (h : ℕ) (hart : Hart) (cause : Cause) (value : ℕ)
    → length (after_trap_in current s h hart cause value).harts ≡ length s.harts
harts_after_trap zero s h hart cause value = length-set s.harts h _
harts_after_trap (suc m) s h hart cause value = length-set s.harts h _

harts_after_turn : (s : State) (h : ℕ) (hart : Hart) (d : Decision)
    → length (after_turn s h hart d).harts ≡ length s.harts
harts_after_turn s h hart Rest = refl
harts_after_turn s h hart (Trap cause value) = harts_after_trap hart.current.0 s h hart cause value
harts_after_turn s h hart (Deny kind va) =
    harts_after_trap hart.current.0 s h hart (access_fault kind) va
harts_after_turn s h hart Next = length-set s.harts h _
harts_after_turn s h hart (Set rd value) = length-set s.harts h _
harts_after_turn s h hart (Jump target rd link) = length-set s.harts h _
harts_after_turn s h hart (Store place width value) = length-set s.harts h _
harts_after_turn s h hart (Csr rd old csrs) = length-set s.harts h _
harts_after_turn s h hart ReturnFromTrap = length-set s.harts h _
harts_after_turn s h hart (Put byte) = length-set s.harts h _
harts_after_turn s h hart (Answer error) = length-set s.harts h _
harts_after_turn s h hart ShutDown = length-set s.harts h _
harts_after_turn s h hart (SetTimer timer) = length-set s.harts h _
harts_after_turn s h hart (TakeKey key rest) = length-set s.harts h _
harts_after_turn s h hart NoKey = length-set s.harts h _
harts_after_turn s h hart (Start target pc opaque) =
    length-set (with_hart s h (hart_after_answer hart 0)).harts target _ ∙ length-set s.harts h _
harts_after_turn s h hart (Send mask) =
    length-each (hart_by_mask mask) 0 (with_hart s h (hart_after_answer hart 0)).harts
    ∙ length-set s.harts h _
harts_after_turn s h hart (Refuse rd request code) = length-set s.harts h _
harts_after_turn s h hart (Launch rd judged) = length-set s.harts h _
harts_after_turn s h hart (Call rd callee entry) = length-set s.harts h _
harts_after_turn s h hart (Return caller pc) = length-set s.harts h _
harts_after_turn s h hart (Resume id) = length-set s.harts h _
harts_after_turn s h hart (Evict rd id count) = length-set s.harts h _
harts_after_turn s h hart (Tell rd value) = length-set s.harts h _
harts_after_turn s h hart (SetWord rd index records) = length-set s.harts h _

-- there are as many harts after an event as before
pub harts_after : (s : State) (e : Event) → length (step s e).harts ≡ length s.harts
unfolding step
harts_after s (Turn h) = harts_after_turn s h (hart_at s h) (decision_of s h)
harts_after s (Key byte) = refl
harts_after s (Poke page offset byte) = refl
harts_after s (Peek page offset) = refl

clock_after_trap : (current : ℕ) (s : State) (h : ℕ) (hart : Hart) (cause : Cause) (value : ℕ)
    → (after_trap_in current s h hart cause value).clock ≡ s.clock
clock_after_trap zero s h hart cause value = refl
clock_after_trap (suc m) s h hart cause value = refl

clock_after_turn : (s : State) (h : ℕ) (hart : Hart) (d : Decision)
    → (after_turn s h hart d).clock ≡ s.clock + 1
clock_after_turn s h hart (Trap cause value) =
    ap (λ n. n + 1) (clock_after_trap hart.current.0 s h hart cause value)
clock_after_turn s h hart (Deny kind va) =
    ap (λ n. n + 1) (clock_after_trap hart.current.0 s h hart (access_fault kind) va)
clock_after_turn s h hart d = refl

-- every event is counted by the clock
pub clock_after : (s : State) (e : Event) → (step s e).clock ≡ s.clock + 1
unfolding step
clock_after s (Turn h) = clock_after_turn s h (hart_at s h) (decision_of s h)
clock_after s (Key byte) = refl
clock_after s (Poke page offset byte) = refl
clock_after s (Peek page offset) = refl
