-- What items say of an option.
use Rattle.std.proofs.Common.{◌≡◌, ℕ, ◌-◌, ◌<◌, List, [], ◌∷◌, length, take, drop}
use Rattle.std.proofs.Common.{None, refl, sym, ap, arith}
use Rattle.std.proofs.lemmas.List.{take_all}
use Rattle.bn_types.specs.Splitting.{pieces_after, split_by}
use Rattle.bn_types.proofs.SplittingLemmas.{some_pieces}
use Rattle.bn_model.specs.Scripts.{two_of}

three_pieces : (a b : List ℕ) (pieces : List (List ℕ)) → 0 < length pieces
    → two_of (a ∷ b ∷ pieces) ≡ None
three_pieces a b [] some = absurd (omega (arith, some))
three_pieces a b (piece ∷ pieces) some = refl

-- a second mark
pub two_refused : (a b rest : List ℕ) → 0 < length rest
    → two_of (a ∷ b ∷ pieces_after 64 rest) ≡ None
two_refused a b [] some = absurd (omega (arith, some))
two_refused a b (mark ∷ text) some = three_pieces a b (split_by 64 text) (some_pieces 64 text)

pub pieces_from : (rest : List ℕ) → 0 < length rest
    → pieces_after 64 rest ≡ split_by 64 (take (length rest - 1) (drop 1 rest))
pieces_from [] some = absurd (omega (arith, some))
pieces_from (mark ∷ text) some =
    ap (split_by 64) (sym (take_all (length (mark ∷ text) - 1) text (omega arith)))
