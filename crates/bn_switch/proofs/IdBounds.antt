-- The ids of a table's rows are at least 1 and below the next.
use Rattle.std.proofs.Common.{◌≡◌, ℕ, ◌<◌, ◌≤◌, ◌^◌, Option, Some, None, is_some, refl, ap, arith}
use Rattle.std.proofs.Common.{◌∙◌, sym}
use Rattle.bn_types.specs.declared.row.Row.{Row}
use Rattle.bn_types.specs.declared.row_state.RowState.{RowState}
use Rattle.bn_model.specs.Rows.{row_of}
use Rattle.bn_model.specs.Soundness.{state_at, state_if_some}
use Rattle.bn_model.proofs.IdLemmas.{live-between}
use Rattle.bn_model.proofs.RowLemmas.{is_live-row_of}
use Rattle.bn_table.specs.Tables.{IsTable, Tabled}

-- an id that has a row is at least 1 and below the next
pub row_of-between : (m : Tabled) → IsTable m → (id : ℕ) (row : Row) → row_of m.rows id ≡ Some row
    → (0 < id) × (id < m.next)
row_of-between m table id row is =
    live-between 0 id m.rows m.next table.ascend (is_live-row_of id m.rows ∙ ap is_some is)

-- what is in some state is a module
pub state_at_zero : (m : Tabled) (id : ℕ) (state : RowState) → IsTable m
    → state_at m.rows id ≡ Some state → id ≡ 0 → ⊥
state_at_zero m id state table e is = by_row (row_of m.rows id) refl where
  by_row : (found : Option Row) → row_of m.rows id ≡ found → ⊥
  by_row None none = never (sym (ap state_if_some none) ∙ e) where
    never : None ≡ Some state → ⊥
    never e = cc
  by_row (Some row) found = let between = (row_of-between m table id row found).0 in omega arith

pub row_of_large : (m : Tabled) (id : ℕ) → IsTable m → 2 ^ 16 ≤ id → row_of m.rows id ≡ None
row_of_large m id table large = by_row (row_of m.rows id) refl where
  by_row : (found : Option Row) → row_of m.rows id ≡ found → row_of m.rows id ≡ None
  by_row None is = is
  by_row (Some row) is =
      let between = row_of-between m table id row is in
      let above = between.1 in
      let last = table.last in
      absurd (omega arith)
