-- A resting module's secrets, and the state without them.
use Rattle.std.specs.Prelude.{ℕ, ◌==◌, Bool, true, false, not, ◌&&◌, List}
use Rattle.std.specs.List.{list_any}
use Rattle.bn_types.specs.Registers.{zero_registers}
use Rattle.bn_types.specs.declared.row.Row.{Row}
use Rattle.bn_model.specs.declared.owner.Owner.{Owner}
use Rattle.bn_model.specs.Each.{each}
use Rattle.bn_model.specs.Evicting.{zeros_if}
use Rattle.bn_model.specs.Owners.{is_live, is_private_page}
use Rattle.bn_model.specs.Rows.{owners, with_row}
use Rattle.bn_model.specs.State.{Hart, State}

abbrev pub runs : ℕ → Hart → Bool
runs m hart = hart.current.0 == m

-- no hart runs module m
abbrev pub rests : ℕ → State → Bool
rests m s = not (list_any (runs m) s.harts)

abbrev pub blank_page : List Owner → ℕ → ℕ → List ℕ → List ℕ
blank_page owners m page bytes = zeros_if (is_private_page owners m page) bytes

-- the private pages of module m are zeros
unfoldable pub blank_pages : List Owner → ℕ → List (List ℕ) → List (List ℕ)
blank_pages owners m pages = each (blank_page owners m) 0 pages

-- its saved registers are zeros; its pc and mode stay
abbrev pub blank_row : Row → Row
blank_row row = record row { saved = record row.saved { regs = zero_registers } }

abbrev pub blanked : ℕ → State → State
blanked m s = record s {
  pages = blank_pages (owners s.rows) m s.pages;
  rows = with_row m blank_row s.rows;
}

abbrev pub blank_if : Bool → ℕ → State → State
blank_if true m s = blanked m s
blank_if false m s = s

-- the state with the secrets of module m zeroed, where it is live and rests
unfoldable pub blank : ℕ → State → State
blank m s = blank_if (is_live (owners s.rows) m && rests m s) m s
