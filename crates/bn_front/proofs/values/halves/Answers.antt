use Rattle.std.proofs.Common.{◌≡◌, ◌==◌, ◌∙◌, ◌<◌, ◌∷◌, List, ℕ, length, false, sym, ap, arith}
use Rattle.std.proofs.lemmas.Bool.Decides.{nat_tests}
use Rattle.bn_model.specs.Scripts.{two_of}
use Rattle.bn_front.proofs.ValueLemmas.{pieces_from, two_refused}
use Rattle.bn_front.proofs.values.halves.Goals as goal

pub returns-else-is_empty-2 : goal.returns-else-is_empty-2
returns-else-is_empty-2 c =
    let first = c.split_first.result.0.now in
    let second = c.split_first-2.result.0.now in
    let rest = c.split_first.result.1.now in
    let last = c.split_first-2.result.1.now in
    let test : (length c.split_first.result.1.now == 0) ≡ false = sym c.is_empty.ensures
    ∙ c.if-is_empty.false in
    let more : 0 < length c.split_first.result.1.now = grind (arith, nat_tests) in
    let test_2 : (length c.split_first-2.result.1.now == 0) ≡ false = sym c.is_empty-2.ensures
    ∙ c.if-is_empty-2.false in
    let more_2 : 0 < length c.split_first-2.result.1.now = grind (arith, nat_tests) in
    sym (ap two_of (c.split_first.ensures.pieces
    ∙ ap (λ (ps : List (List ℕ)). first ∷ ps)
    (pieces_from rest more ∙ c.split_first-2.ensures.pieces))
    ∙ two_refused first second last more_2)
