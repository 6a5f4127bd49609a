-- Searches of rows, where the definitions search what never changes of them.
use Rattle.std.proofs.Common.{◌≡◌, ℕ, List, find, Option, Some, None, option_map, refl}
use Rattle.std.proofs.Common.{ap, ◌∙◌}
use Rattle.std.specs.List.{list_any}
use Rattle.bn_types.specs.declared.digest.Digest.{Digest}
use Rattle.bn_types.specs.declared.rights.Rights.{Rights}
use Rattle.bn_types.specs.declared.row.Row.{Row}
use Rattle.bn_model.specs.Launching.{has_identity, id_if_some, offerer, offers}
use Rattle.bn_model.specs.Rows.{enclave_of, enclaves}
use Rattle.bn_model.specs.Switching.{id_of_row}
use Rattle.bn_model.proofs.TestLemmas.{any-map, find-map}
use Rattle.bn_table.specs.Tables.{row_has_identity, row_offers}

same_id : (found : Option Row) → id_if_some (option_map enclave_of found) ≡ id_of_row found
same_id None = refl
same_id (Some row) = refl

pub offerer_rows : (rows : List Row) (who : Digest) (page : ℕ) (rights : Rights)
    → offerer (enclaves rows) who page rights ≡ id_of_row (find (row_offers who page rights) rows)
unfolding offerer enclaves
offerer_rows rows who page rights =
    ap id_if_some (find-map (offers who page rights) (row_offers who page rights) enclave_of
    (λ row. refl) rows)
    ∙ same_id (find (row_offers who page rights) rows)

pub known_rows : (rows : List Row) (who : Digest)
    → list_any (has_identity who) (enclaves rows) ≡ list_any (row_has_identity who) rows
unfolding enclaves
known_rows rows who = any-map (has_identity who) (row_has_identity who) enclave_of (λ row. refl)
    rows
