-- The interrupts that come to a hart from outside its CSRs.
use Rattle.std.specs.Prelude.{ℕ, zero, suc, Bool, true, false, nat_le, List, [], ◌∷◌, Option}
use Rattle.bn_types.specs.declared.cause.Cause.{Cause}
use Rattle.bn_model.specs.declared.wires.Wires.{Wires}
use Rattle.bn_model.specs.State.{Hart, State}
use Rattle.bn_model.specs.Trapping.{interrupt_taken}

-- the clock has reached the hart's timer
abbrev pub timer_pending : State → Hart → Bool
timer_pending s hart = nat_le hart.timer s.clock

abbrev pub is_key_there : List ℕ → Bool
is_key_there [] = false
is_key_there (key ∷ keys) = true

-- keys wait, which come to hart 0 alone
abbrev pub key_pending : (h : ℕ) → List ℕ → Bool
key_pending zero keys = is_key_there keys
key_pending (suc h) keys = false

abbrev pub external_pending : State → ℕ → Bool
external_pending s h = key_pending h s.keys

-- both
abbrev pub wires_of : State → ℕ → Hart → Wires
wires_of s h hart = record { timer = timer_pending s hart; external = external_pending s h }

-- the interrupt that hart h takes before its next instruction
abbrev pub interrupt_of : State → ℕ → Hart → Option Cause
interrupt_of s h hart = interrupt_taken hart.csrs hart.mode (wires_of s h hart)
