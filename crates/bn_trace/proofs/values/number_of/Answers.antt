use Rattle.std.proofs.Common.{sym, ◌+◌, ◌^◌, arith}
use Rattle.bn_types.proofs.NumeralLemmas.{numeral_none}
use Rattle.bn_trace.proofs.ValueLemmas.{number_beyond, number_found, number_missing, number_within}
use Rattle.bn_trace.proofs.values.number_of.Goals as goal

pub returns-then-n-most-clause-exact : goal.returns-then-n-most-clause-exact
returns-then-n-most-clause-exact c =
    let limit = c.args.most + 1 in let piece = c.args.piece.now in
    sym (number_found limit c.in-Some.n piece (omega arith)
    (number_within (2 ^ 64) limit c.in-Some.n piece (sym c.in-Some.ensures) (omega arith)))

pub returns-else-n-most-clause-exact : goal.returns-else-n-most-clause-exact
returns-else-n-most-clause-exact c =
    let limit = c.args.most + 1 in let piece = c.args.piece.now in
    sym (number_missing limit piece
    (number_beyond (2 ^ 64) limit c.in-Some.n piece (sym c.in-Some.ensures) (omega arith)))

pub returns-in-None-clause-exact : goal.returns-in-None-clause-exact
returns-in-None-clause-exact c =
    let limit = c.args.most + 1 in let piece = c.args.piece.now in
    sym (number_missing limit piece
    (numeral_none (2 ^ 64) limit piece (omega arith) (sym c.in-None.ensures)))
