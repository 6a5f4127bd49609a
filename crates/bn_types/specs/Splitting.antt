-- A text in pieces: lines between line feeds, fields between spaces.
use Rattle.std.specs.Prelude.{ℕ, ◌==◌, Bool, true, false, List, [], ◌∷◌}

abbrev pub split_if : Bool → ℕ → List (List ℕ) → List (List ℕ)
split_if true byte pieces = [] ∷ pieces
split_if false byte [] = []
split_if false byte (piece ∷ pieces) = (byte ∷ piece) ∷ pieces

-- the pieces between the marks; there is one more of them than marks
unfoldable pub split_by : (mark : ℕ) → List ℕ → List (List ℕ)
split_by mark [] = [] ∷ []
split_by mark (byte ∷ text) = split_if (byte == mark) byte (split_by mark text)

-- the pieces after a mark, where a text has one in front
abbrev pub pieces_after : (mark : ℕ) → List ℕ → List (List ℕ)
pieces_after mark [] = []
pieces_after mark (first ∷ text) = split_by mark text
