-- Laws of ids that ascend.
use Rattle.std.proofs.Common.{◌≡◌, ℕ, ◌<◌, ◌⊎◌, true, List, [], ◌∷◌, inl, inr, arith, eqb-true}
use Rattle.std.proofs.lemmas.Bool.{or_cases}
use Rattle.bn_types.specs.declared.row.Row.{Row}
use Rattle.bn_model.specs.Owners.{is_live}
use Rattle.bn_model.specs.Rows.{enclaves, has_id, owners}
use Rattle.bn_model.specs.Soundness.{Ascend}

-- a live module's id lies between the bounds of ids
pub live-between : (low id : ℕ) (rows : List Row) (next : ℕ) → Ascend low (enclaves rows) next
    → is_live (owners rows) id ≡ true
    → (low < id) × (id < next)
unfolding enclaves owners
live-between low id [] next ids live = cc
live-between low id (row ∷ rows) next ids live =
    by_row (or_cases (has_id id row) (is_live (owners rows) id) live)
    (live-between row.id.0 id rows next ids.2)
  where
    by_row : (has_id id row ≡ true) ⊎ (is_live (owners rows) id ≡ true)
        → (is_live (owners rows) id ≡ true → (row.id.0 < id) × (id < next)) → (low < id)
        × (id < next)
    by_row (inl is) deeper =
        let same : row.id.0 ≡ id = eqb-true row.id.0 id is in
        let one = ids.0 in
        let two = ids.1 in
        (omega arith, omega arith)
    by_row (inr later) deeper =
        let found = deeper later in
        let one = ids.0 in
        let two = found.0 in
        (omega arith, found.1)
