-- How often each kind of line came, and the text that tells of a run, from these counts.
use Rattle.std.specs.Prelude.{◌≡◌, ℕ, ◌+◌, ◌-◌, ◌^◌, ◌<◌, Bool, true, false, List, [], ◌∷◌, ◌++◌}
use Rattle.std.specs.Prelude.{bytes_eq, codes}
use Rattle.std.specs.Prelude.{count_by, decimal, flat_map, length, map, slice_index, slice_index_or}
use Rattle.std.specs.List.{range_with_len}
use Rattle.hex.specs.Hex.{encode_lower}
use Rattle.bn_types.specs.declared.digest.Digest.{Digest}
use Rattle.bn_types.specs.declared.finish.Finish.{Finish}
use Rattle.bn_types.specs.declared.line.Line.{Line}
use Rattle.bn_model.specs.LineShapes.{word_of}
use Rattle.bn_model.specs.Spelling.{finish_word, text_of}
use Rattle.bn_model.specs.Summaries.{event_heads, is_of}
use Rattle.bn_model.specs.declared.head.Head.{Head}
use Rattle.bn_model.specs.declared.head.Head.TheVariants.{Out}

-- of each kind of line that an event gives, in order
unfoldable pub tally_of : List Line → List ℕ
tally_of told = map (λ kind. count_by (is_of kind) told) event_heads

-- one more, or as many
abbrev pub after_one : Bool → ℕ → ℕ
after_one true count = count + 1
after_one false count = count

-- the k-th kind
abbrev pub kind_at : ℕ → Head
kind_at k = slice_index_or event_heads k Out

-- the count of each kind is one more where lines of the kind begin with a word, unless it is as
-- large as can be
pub record CountsWord (word old new : List ℕ) : Type 0 where
  pub long : length new ≡ 18
  pub each : (k : ℕ) → k < 18 → slice_index old k < 2 ^ 64 - 1
      → slice_index new k ≡ after_one (bytes_eq (word_of (kind_at k)) word) (slice_index old k)

-- a text's first line is counted, and the rest is what stands after it
abbrev pub CountsFirst : (text rest old new : List ℕ) → Type 0
CountsFirst text rest old new =
    (told left : List Line) (line : Line) → length told < 2 ^ 64 - 1 → old ≡ tally_of told
    → text ≡ text_of (line ∷ left)
    → (new ≡ tally_of (told ++ (line ∷ []))) × (rest ≡ text_of left)

-- all lines of a text are counted
abbrev pub CountsLines : (text old new : List ℕ) → Type 0
CountsLines text old new =
    (told lines : List Line) → length (told ++ lines) < 2 ^ 64 → old ≡ tally_of told
    → text ≡ text_of lines → new ≡ tally_of (told ++ lines)

-- ---- the summary

-- the number that all was made of, and how many events were made
unfoldable pub first_lines : (number events : ℕ) → List ℕ
first_lines number events =
    codes "gen " ++ decimal number ++ codes "\n" ++
    codes "events " ++ decimal events ++ codes "\n"

unfoldable pub kind_line : Head → (count : ℕ) → List ℕ
kind_line kind count = word_of kind ++ codes " " ++ decimal count ++ codes "\n"

-- the lines of so many kinds, from the i-th on
unfoldable pub kind_lines : (counts : List ℕ) → (i count : ℕ) → List ℕ
kind_lines counts i count =
    flat_map (λ k. kind_line (kind_at k) (slice_index counts k)) (range_with_len i count)

unfoldable pub last_line : Finish → Digest → List ℕ
last_line finish digest =
    codes "end " ++ finish_word finish ++ codes " " ++ encode_lower digest.0 ++ codes "\n"
