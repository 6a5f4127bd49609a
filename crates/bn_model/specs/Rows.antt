-- The rows of live modules.
use Rattle.std.specs.Prelude.{ℕ, ◌==◌, Bool, true, false, find, List, map, Option, Some, None}
use Rattle.bn_types.specs.Registers.{zero_frame}
use Rattle.bn_types.specs.declared.judged.Judged.{Judged}
use Rattle.bn_types.specs.declared.mod_id.ModId.{ModId}
use Rattle.bn_types.specs.declared.row.Row.{Row}
use Rattle.bn_types.specs.declared.row_state.RowState.TheVariants.{Idle}
use Rattle.bn_types.specs.declared.saved_frame.SavedFrame.{SavedFrame}
use Rattle.bn_model.specs.declared.owner.Owner.{Owner}

-- what never changes of a row
pub record Enclave : Type 0 where
  pub id : ModId
  pub judged : Judged

abbrev pub enclave_of : Row → Enclave
enclave_of row = record { id = row.id; judged = row.judged }

unfoldable pub enclaves : List Row → List Enclave
enclaves rows = map enclave_of rows

-- what admission needs of a row
abbrev pub owner_of : Row → Owner
owner_of row = record { id = row.id; decls = row.judged.decls }

unfoldable pub owners : List Row → List Owner
owners rows = map owner_of rows

-- ---- look-ups and changes

abbrev pub has_id : ℕ → Row → Bool
has_id id row = row.id.0 == id

abbrev pub row_of : List Row → ℕ → Option Row
row_of rows id = find (has_id id) rows

abbrev pub change_if : Bool → (Row → Row) → Row → Row
change_if true change row = change row
change_if false change row = row

abbrev pub change_at : ℕ → (Row → Row) → Row → Row
change_at id change row = change_if (has_id id row) change row

-- the rows with that of an id changed
unfoldable pub with_row : ℕ → (Row → Row) → List Row → List Row
with_row id change rows = map (change_at id change) rows

abbrev pub saved_of : Option Row → SavedFrame
saved_of None = zero_frame
saved_of (Some row) = row.saved

abbrev pub back_of : Option Row → SavedFrame
back_of None = zero_frame
back_of (Some row) = row.back

-- the row of a module that was launched
abbrev pub new_row : ℕ → Judged → Row
new_row id judged = record {
  id = record { 0 = id };
  judged = judged;
  state = Idle;
  saved = zero_frame;
  caller = record { 0 = 0 };
  back = zero_frame;
}
