-- What a module declares, by its row.
use Rattle.std.proofs.Common.{◌≡◌, ◌≢◌, ℕ, zero, suc, List, Option, Some, None, is_some, refl, ap}
use Rattle.std.proofs.Common.{option_map, ◌∙◌}
use Rattle.bn_types.specs.declared.row.Row.{Row}
use Rattle.bn_model.specs.Admission.{declaration, declared_by}
use Rattle.bn_model.specs.Owners.{is_live, is_module}
use Rattle.bn_model.specs.Rows.{has_id, owner_of, owners, row_of}
use Rattle.bn_model.proofs.RowLemmas.{is_live-row_of}
use Rattle.bn_model.proofs.TestLemmas.{find-map}
use Rattle.bn_machine.specs.Acts.{decl_in_row}

by-row : (vpn : ℕ) (row : Option Row)
    → declared_by vpn (option_map owner_of row) ≡ decl_in_row vpn row
by-row vpn None = refl
by-row vpn (Some row) = refl

pub declared_by_row : (rows : List Row) (current vpn : ℕ) → current ≢ 0
    → declaration (owners rows) current vpn ≡ decl_in_row vpn (row_of rows current)
unfolding owners
declared_by_row rows zero vpn inside = absurd (inside refl)
declared_by_row rows (suc m) vpn inside =
    ap (declared_by vpn) (find-map (is_module (suc m)) (has_id (suc m)) owner_of (λ row. refl) rows)
    ∙ by-row vpn (row_of rows (suc m))

pub is_live_row : (id : ℕ) (rows : List Row) → is_live (owners rows) id ≡ is_some (row_of rows id)
is_live_row = is_live-row_of
