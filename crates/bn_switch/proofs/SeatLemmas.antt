-- What is known of the seat of a hart in a sound state.
use Rattle.std.proofs.Common.{◌≡◌, ℕ, zero, suc, List, Option, Some, None, refl, sym, ap, subst}
use Rattle.std.proofs.Common.{◌∙◌}
use Rattle.bn_types.specs.declared.mod_id.ModId.{ModId}
use Rattle.bn_types.specs.declared.row.Row.{Row}
use Rattle.bn_types.specs.declared.row_state.RowState.TheVariants.{Running}
use Rattle.bn_model.specs.Soundness.{AreStates, state_at}
use Rattle.bn_model.specs.State.{Hart, hart_in}
use Rattle.bn_table.specs.Tables.{IsRunning}
use Rattle.bn_switch.specs.Contexts.{HasSeat, IsOfModule, IsSeated, module_in}

-- the seat of a hart's module is that of a module that runs
pub sound_seat : (harts : List Hart) (rows : List Row) (h : ℕ) (seat : Option ModId)
    → AreStates harts rows → (hart_in harts h).current ≡ module_in seat → IsOfModule seat
    → IsSeated rows seat
sound_seat harts rows h None states is inside = tt
sound_seat harts rows h (Some id) states is inside = by_id id.0 refl where
  by_id : (n : ℕ) → id.0 ≡ n → IsRunning (state_at rows id.0)
  by_id zero none = absurd (inside none)
  by_id (suc m) some =
      let runs : state_at rows (suc m) ≡ Some (Running h) =
      states.current h m (ap (λ (current : ModId). current.0) is ∙ some) in
      subst (λ (n : ℕ). IsRunning (state_at rows n)) (sym some) (subst IsRunning (sym runs) tt)

-- in a module there is a seat
pub seat_inside : (rows : List Row) (seat : Option ModId) → IsSeated rows seat
    → ((module_in seat).0 ≡ 0 → ⊥) → HasSeat rows seat
seat_inside rows None seated inside = inside refl
seat_inside rows (Some id) seated inside = seated

-- in the untrusted world there is none
pub seat_outside : (seat : Option ModId) → IsOfModule seat → (module_in seat).0 ≡ 0 → seat ≡ None
seat_outside None inside outside = refl
seat_outside (Some id) inside outside = absurd (inside outside)
