-- Texts in pieces, byte by byte and piece by piece.
use Rattle.std.proofs.Common.{◌≡◌, ℕ, suc, ◌+◌, ◌<◌, ◌==◌, Bool, true, false, List, [], ◌∷◌, ◌++◌}
use Rattle.std.proofs.Common.{length, take, drop, drop-cons, get_or, add-one, append_assoc, refl}
use Rattle.std.proofs.Common.{sym, ◌∙◌, ap, arith}
use Rattle.std.proofs.lemmas.Bool.Decides.{nat_tests}
use Rattle.std.proofs.lemmas.Grind.{common_steps}
use Rattle.std.specs.List.{join_with_byte}
use Rattle.bn_types.specs.Splitting.{pieces_after, split_by, split_if}

-- some pieces with a text in front of the first
abbrev pub prefixed : List ℕ → List (List ℕ) → List (List ℕ)
prefixed front [] = []
prefixed front (piece ∷ pieces) = (front ++ piece) ∷ pieces

prefixed_again : (front : List ℕ) (byte : ℕ) (pieces : List (List ℕ)) →
    prefixed front (split_if false byte pieces) ≡ prefixed (front ++ (byte ∷ [])) pieces
prefixed_again front byte [] = refl
prefixed_again front byte (piece ∷ pieces) =
    ap (λ (x : List ℕ). x ∷ pieces) (sym (append_assoc front (byte ∷ []) piece))

at_other : (mark byte : ℕ) (text : List ℕ) → (byte == mark) ≡ false
    → split_by mark (byte ∷ text) ≡ split_if false byte (split_by mark text)
unfolding split_by
at_other mark byte text e = rw e refl

at_mark : (mark byte : ℕ) (text : List ℕ) → (byte == mark) ≡ true
    → split_by mark (byte ∷ text) ≡ [] ∷ split_by mark text
unfolding split_by
at_mark mark byte text e = rw e refl

take_more : (i : ℕ) (text : List ℕ) → i < length text
    → take (suc i) text ≡ take i text ++ (get_or text i 0 ∷ [])
take_more i text within = grind (arith, common_steps)

-- past a byte that isn't the mark
pub split_on : (mark i : ℕ) (text : List ℕ) → i < length text → (get_or text i 0 == mark) ≡ false →
    prefixed (take i text) (split_by mark (drop i text)) ≡
    prefixed (take (i + 1) text) (split_by mark (drop (i + 1) text))
split_on mark i text within other =
    rw (
      add-one,
      drop-cons text i 0 within,
      at_other mark (get_or text i 0) (drop (suc i) text) other,
      take_more i text within,
    )
    (prefixed_again (take i text) (get_or text i 0) (split_by mark (drop (suc i) text)))

-- at the mark
pub split_here : (mark i : ℕ) (text : List ℕ) → i < length text → (get_or text i 0 == mark) ≡ true →
    prefixed (take i text) (split_by mark (drop i text)) ≡
    take i text ∷ pieces_after mark (drop i text)
split_here mark i text within here =
    rw (drop-cons text i 0 within, at_mark mark (get_or text i 0) (drop (suc i) text) here)
    (grind (arith, common_steps))

pub split_end : (mark : ℕ) (text : List ℕ) → prefixed text (split_by mark []) ≡ text ∷ []
unfolding split_by
split_end mark text = grind (arith, common_steps)

-- the pieces of a text, joined, are the text
cons_split : (mark byte : ℕ) (text : List ℕ) (pieces : List (List ℕ)) → (is_mark : Bool)
    → (byte == mark) ≡ is_mark →
    join_with_byte mark pieces ≡ text → 0 < length pieces
    → join_with_byte mark (split_if is_mark byte pieces) ≡ byte ∷ text
cons_split mark byte text [] b e h some = grind arith
cons_split mark byte text (piece ∷ pieces) true e h some =
    let same : mark ≡ byte = grind (arith, nat_tests) in rw (h, same) refl
cons_split mark byte text (piece ∷ []) false e h some = ap (λ (x : List ℕ). byte ∷ x) h
cons_split mark byte text (piece ∷ more ∷ pieces) false e h some = ap (λ (x : List ℕ). byte ∷ x) h

some_if : (is_mark : Bool) (byte : ℕ) (pieces : List (List ℕ)) → 0 < length pieces
    → 0 < length (split_if is_mark byte pieces)
some_if true byte pieces some = grind arith
some_if false byte [] some = some
some_if false byte (piece ∷ pieces) some = grind arith

pub some_pieces : (mark : ℕ) (text : List ℕ) → 0 < length (split_by mark text)
unfolding split_by
some_pieces mark [] = grind arith
some_pieces mark (byte ∷ text) =
    some_if (byte == mark) byte (split_by mark text) (some_pieces mark text)

pub pieces_joined : (mark : ℕ) (text : List ℕ) → join_with_byte mark (split_by mark text) ≡ text
unfolding split_by
pieces_joined mark [] = refl
pieces_joined mark (byte ∷ text) =
    cons_split mark byte text (split_by mark text) (byte == mark) refl (pieces_joined mark text)
    (some_pieces mark text)

pub length_of_pieces : (mark : ℕ) (text : List ℕ) (pieces : List (List ℕ))
    → split_by mark text ≡ pieces →
    length (join_with_byte mark pieces) ≡ length text
length_of_pieces mark text pieces e =
    ap (λ (p : List (List ℕ)). length (join_with_byte mark p)) (sym e)
    ∙ ap length (pieces_joined mark text)
