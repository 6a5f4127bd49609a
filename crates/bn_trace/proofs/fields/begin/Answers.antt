use Rattle.std.proofs.Common.{arith}
use Rattle.std.proofs.lemmas.Grind.{common_steps}
use Rattle.bn_types.proofs.SplittingLemmas.{length_of_pieces}
use Rattle.bn_trace.proofs.fields.begin.Goals as goal

pub returns-clause-left : goal.returns-clause-left
returns-clause-left c =
    let split = c.split_first.ensures.pieces in
    let joined = length_of_pieces 32 _ _ split in
    grind (arith, common_steps, joined)
