-- Eviction: which rows go, and what becomes of their pages (this project's own rules).
use Rattle.std.specs.Prelude.{ℕ, zero, suc, Bool, true, false, not, ◌&&◌, List, [], ◌∷◌, length}
use Rattle.std.specs.Prelude.{Option, Some, None}
use Rattle.std.specs.List.{filter, list_any}
use Rattle.bn_types.specs.Numbers.{zero_page}
use Rattle.bn_types.specs.declared.row.Row.{Row}
use Rattle.bn_model.specs.declared.owner.Owner.{Owner}
use Rattle.bn_model.specs.Each.{each}
use Rattle.bn_model.specs.Owners.{Claim, claims, is_on, is_own}
use Rattle.bn_model.specs.Rows.{has_id, row_of}

abbrev pub is_other : ℕ → Row → Bool
is_other id row = not (has_id id row)

abbrev pub rows_without : ℕ → List Row → List Row
rows_without id rows = filter (is_other id) rows

-- a row goes, and with it the one that called it
abbrev pub chain_from : (ℕ → List Row) → Option Row → List Row
chain_from callers None = []
chain_from callers (Some row) = row ∷ callers row.caller.0

-- at most so many rows: that of an id, the one that waits for it, and so on
unfoldable pub chain : ℕ → List Row → ℕ → List Row
chain zero rows id = []
chain (suc n) rows id = chain_from (chain n (rows_without id rows)) (row_of rows id)

-- the rows that go with a module: those that wait for it, directly or through others
unfoldable pub evicted_rows : List Row → ℕ → List Row
evicted_rows rows id = chain (length rows) rows id

-- ---- what they leave

abbrev pub is_among : List Row → ℕ → Bool
is_among gone id = list_any (has_id id) gone

abbrev pub stays : List Row → Row → Bool
stays gone row = not (is_among gone row.id.0)

unfoldable pub rows_left : List Row → List Row → List Row
rows_left gone rows = filter (stays gone) rows

abbrev pub zeros_if : Bool → List ℕ → List ℕ
zeros_if true bytes = zero_page
zeros_if false bytes = bytes

-- a private or offered page of a module that goes
abbrev pub is_given_up : List Row → ℕ → Claim → Bool
is_given_up gone page claim = is_among gone claim.owner.0 && is_own claim.decl.sort && is_on page
    claim

abbrev pub page_left : List Row → List Owner → ℕ → List ℕ → List ℕ
page_left gone owners page bytes = zeros_if (list_any (is_given_up gone page) (claims owners)) bytes

-- their pages are zeroed
unfoldable pub pages_left : List Row → List Owner → List (List ℕ) → List (List ℕ)
pages_left gone owners pages = each (page_left gone owners) 0 pages
