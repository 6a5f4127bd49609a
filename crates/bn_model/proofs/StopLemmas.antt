-- What a trap out of a module leaves on the hart.
use Rattle.std.proofs.Common.{◌≡◌, ℕ, zero, suc, ◌<◌, ◌≤◌, ◌⊎◌, List, length, Some, option_map, inl}
use Rattle.std.proofs.Common.{inr, refl, sym, ap, subst, ◌∙◌}
use Rattle.std.proofs.lemmas.Bool.{cases_lt}
use Rattle.std.proofs.lemmas.List.{get_or-set_same, get_or_past}
use Rattle.bn_types.specs.declared.cause.Cause.{Cause}
use Rattle.bn_types.specs.declared.row.Row.{Row}
use Rattle.bn_model.specs.Deciding.{decision_of}
use Rattle.bn_model.specs.Decision.{Decision, Trap, Deny}
use Rattle.bn_model.specs.Rows.{row_of, with_row}
use Rattle.bn_model.specs.State.{frame_of, Hart, State, hart_after_stop, hart_after_trap, hart_at}
use Rattle.bn_model.specs.State.{hart_in, resting_hart}
use Rattle.bn_model.specs.Stepping.{after_trap_in, after_turn, page_address, step}
use Rattle.bn_model.specs.Switching.{row_after_stop}
use Rattle.bn_model.specs.SwitchingLaws.{IsCleared, IsTrap, StopsClear, StopsSave}
use Rattle.bn_model.specs.Walking.{access_fault}
use Rattle.bn_model.proofs.RowLemmas.{row_of-same}

-- a hart that runs a module is one of the machine's
pub within : (harts : List Hart) (h m : ℕ) → (hart_in harts h).current.0 ≡ suc m → h < length harts
within harts h m runs = by_place (cases_lt h (length harts))
  where
    by_place : (h < length harts) ⊎ (length harts ≤ h) → h < length harts
    by_place (inl inside) = inside
    by_place (inr past) =
        let none : suc m ≡ 0 =
        sym runs ∙ ap (λ (hart : Hart). hart.current.0) (get_or_past harts h resting_hart past) in
        cc

trap-clears : (s : State) (h current m : ℕ) → h < length s.harts → current ≡ suc m
    → (hart : Hart) (cause : Cause) (value : ℕ)
    → IsCleared (hart_at (after_trap_in current s h hart cause value) h)
trap-clears s h zero m inside is hart cause value = cc
trap-clears s h (suc k) m inside is hart cause value =
    subst IsCleared
    (sym
    (get_or-set_same s.harts h
    (hart_after_trap (hart_after_stop hart) cause (page_address value)) resting_hart inside))
    (record { outside = refl; registers = refl })

turn-clears : (s : State) (h m : ℕ) → h < length s.harts → (hart : Hart) → hart.current.0 ≡ suc m
    → (d : Decision) → IsTrap d
    → IsCleared (hart_at (after_turn s h hart d) h)
turn-clears s h m inside hart runs (Trap cause value) trap =
    trap-clears s h hart.current.0 m inside runs hart cause value
turn-clears s h m inside hart runs (Deny kind va) trap =
    trap-clears s h hart.current.0 m inside runs hart (access_fault kind) va
turn-clears s h m inside hart runs decision trap = absurd trap

pub stops-clear : StopsClear
unfolding step
stops-clear s h m runs trap =
    turn-clears s h m (within s.harts h m runs) (hart_at s h) runs (decision_of s h) trap

-- ---- the row

-- the row of a module that is stopped
abbrev saved-row : Hart → Row → Row
saved-row hart row = row_after_stop (frame_of hart) row

trap-saves : (s : State) (h current m : ℕ) (row : Row) → current ≡ suc m
    → row_of s.rows (suc m) ≡ Some row → (hart : Hart) (cause : Cause) (value : ℕ)
    → row_of (after_trap_in current s h hart cause value).rows (suc m) ≡ Some (saved-row hart row)
trap-saves s h zero m row is found hart cause value = cc
trap-saves s h (suc k) m row is found hart cause value =
    ap (λ (n : ℕ). row_of (with_row n (saved-row hart) s.rows) (suc m)) is
    ∙ row_of-same (suc m) (saved-row hart) (record { same = λ other. refl }) s.rows
    ∙ ap (option_map (saved-row hart)) found

turn-saves : (s : State) (h m : ℕ) (row : Row) → row_of s.rows (suc m) ≡ Some row → (hart : Hart)
    → hart.current.0 ≡ suc m → (d : Decision) → IsTrap d
    → row_of (after_turn s h hart d).rows (suc m) ≡ Some (saved-row hart row)
turn-saves s h m row found hart runs (Trap cause value) trap =
    trap-saves s h hart.current.0 m row runs found hart cause value
turn-saves s h m row found hart runs (Deny kind va) trap =
    trap-saves s h hart.current.0 m row runs found hart (access_fault kind) va
turn-saves s h m row found hart runs decision trap = absurd trap

pub stops-save : StopsSave
unfolding step
stops-save s h m row runs trap found =
    turn-saves s h m row found (hart_at s h) runs (decision_of s h) trap
