-- Lists of at most four harts.
use Rattle.std.proofs.Common.{◌≡◌, ℕ, ◌≤◌, List, [], ◌∷◌, length, map, take, refl, arith}
use Rattle.bn_types.specs.declared.sbi_ask.SbiAsk.{SbiAsk}
use Rattle.bn_types.specs.declared.sbi_ask.SbiAsk.TheVariants as ask
use Rattle.bn_model.specs.Deciding.{is_started}
use Rattle.bn_model.specs.Each.{each}
use Rattle.bn_model.specs.Hypervisor.{ask_of}
use Rattle.bn_model.specs.Soundness.{IsSound}
use Rattle.bn_model.specs.State.{Hart, State, hart_at, hart_in, resting_hart, untrusted}
use Rattle.bn_model.specs.Stepping.{hart_by_mask}
use Rattle.bn_model.proofs.Evidence.{AskHolds, asked-holds}
use Rattle.bn_machine.specs.Harts.{raised}
use Rattle.bn_machine.specs.Standing.{MayBeAsked}

pub started_are : (harts : List Hart) → length harts ≤ 4
    → take (length harts) (is_started (hart_in harts 0) ∷ is_started (hart_in harts 1)
    ∷ is_started (hart_in harts 2) ∷ is_started (hart_in harts 3) ∷ []) ≡ map is_started harts
started_are [] few = refl
started_are (a ∷ []) few = refl
started_are (a ∷ b ∷ []) few = refl
started_are (a ∷ b ∷ c ∷ []) few = refl
started_are (a ∷ b ∷ c ∷ d ∷ []) few = refl
started_are (a ∷ b ∷ c ∷ d ∷ e ∷ harts) few = absurd (omega arith)

pub raised_are : (mask : ℕ) (harts : List Hart) → length harts ≤ 4
    → raised mask 3 (raised mask 2 (raised mask 1 (raised mask 0 harts)))
    ≡ each (hart_by_mask mask) 0 harts
raised_are mask [] few = refl
raised_are mask (a ∷ []) few = refl
raised_are mask (a ∷ b ∷ []) few = refl
raised_are mask (a ∷ b ∷ c ∷ []) few = refl
raised_are mask (a ∷ b ∷ c ∷ d ∷ []) few = refl
raised_are mask (a ∷ b ∷ c ∷ d ∷ e ∷ harts) few = absurd (omega arith)

-- a hart that is to be started runs no module
pub asked_starts : (s : State) (h : ℕ) → IsSound s
    → MayBeAsked s (ask_of (hart_at s h).regs (length s.harts) (map is_started s.harts))
unfolding AskHolds
asked_starts s h sound =
    by_ask (ask_of (hart_at s h).regs (length s.harts) (map is_started s.harts))
    (asked-holds s h caller refl)
  where
    -- evidence is of harts that run the untrusted world; only its registers count here
    caller : Hart
    caller = record (hart_at s h) { current = untrusted }

    by_ask : (asked : SbiAsk) → AskHolds s h caller asked → MayBeAsked s asked
    by_ask (ask.SetTimer timer) holds = tt
    by_ask (ask.Put byte) holds = tt
    by_ask ask.Get holds = tt
    by_ask ask.Shutdown holds = tt
    by_ask (ask.Start target pc opaque) holds = record {
      within = holds.within;
      outside = sound.asleep target resting_hart holds.within holds.asleep;
    }
    by_ask (ask.Ipi harts) holds = tt
    by_ask (ask.Refuse error) holds = tt
