-- Lines read whole.
use Rattle.std.proofs.Common.{◌≡◌, ℕ, ◌<◌, List, [], ◌∷◌, length, None, Result, Err, refl, ap}
use Rattle.std.proofs.Common.{arith}
use Rattle.bn_types.specs.Splitting.{pieces_after, split_by}
use Rattle.bn_types.proofs.SplittingLemmas.{length_of_pieces, some_pieces}
use Rattle.bn_types.specs.declared.line.Line.{Line}
use Rattle.bn_model.specs.LineReading.{first_line, head_named, line_in, placed, read_of}

-- a line before more text
pub before_more : (text : List ℕ) (texts : List (List ℕ)) → 0 < length texts →
    first_line (text ∷ texts) ≡ placed (length text) (line_in (split_by 32 text))
before_more text [] some = grind arith
before_more text (more ∷ texts) some = refl

some_after : (mark : ℕ) (rest : List ℕ) → 0 < length rest → 0 < length (pieces_after mark rest)
some_after mark [] some = some
some_after mark (first ∷ rest) some = some_pieces mark rest

pub read_placed : (text line rest : List ℕ) (read : Result Line ℕ)
    → split_by 10 text ≡ line ∷ pieces_after 10 rest → 0 < length rest →
    read ≡ line_in (split_by 32 line) → read_of text ≡ placed (length line) read
unfolding read_of
read_placed text line rest read split some e =
    rw (split, e) (before_more line (pieces_after 10 rest) (some_after 10 rest some))

pub read_endless : (text line rest : List ℕ) → split_by 10 text ≡ line ∷ pieces_after 10 rest
    → rest ≡ [] → line ≡ text →
    read_of text ≡ Err (record { at = length text })
unfolding read_of
read_endless text line rest split none whole = rw (split, none, whole) refl

pub no_head : (line word : List ℕ) (pieces : List (List ℕ)) → split_by 32 line ≡ word ∷ pieces
    → head_named word ≡ None →
    line_in (split_by 32 line) ≡ Err (length line)
no_head line word pieces split unknown =
    rw (split, unknown) (ap Err (length_of_pieces 32 line (word ∷ pieces) split))
