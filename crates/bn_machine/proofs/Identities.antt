-- The identity of a module, by its row.
use Rattle.std.proofs.Common.{◌≡◌, ℕ, List, Option}
use Rattle.std.proofs.Common.{refl, ap, option_map}
use Rattle.bn_types.specs.declared.row.Row.{Row}
use Rattle.bn_model.specs.Deciding.{enclave_at, identity_if_some, identity_of, identity_word}
use Rattle.bn_model.specs.Deciding.{is_enclave}
use Rattle.bn_model.specs.Rows.{Enclave, enclave_of, enclaves, has_id, row_of}
use Rattle.bn_model.proofs.TestLemmas.{find-map}

enclave-row : (rows : List Row) (id : ℕ)
    → enclave_at (enclaves rows) id ≡ option_map enclave_of (row_of rows id)
unfolding enclaves
enclave-row rows id = find-map (is_enclave id) (has_id id) enclave_of (λ row. refl) rows

pub word_of_row : (rows : List Row) (id word : ℕ)
    → identity_word (enclave_at (enclaves rows) id) word
    ≡ identity_word (option_map enclave_of (row_of rows id)) word
word_of_row rows id word =
    ap (λ (enclave : Option Enclave). identity_word enclave word) (enclave-row rows id)

pub identity_of_row : (rows : List Row) (id : ℕ)
    → identity_of (enclaves rows) id ≡ identity_if_some (option_map enclave_of (row_of rows id))
identity_of_row rows id = ap identity_if_some (enclave-row rows id)
