use Rattle.std.proofs.Common.{◌≡◌, take, drop}
use Rattle.bn_types.specs.Splitting.{split_by}
use Rattle.bn_types.proofs.SplittingLemmas.{prefixed}
use Rattle.bn_types.proofs.splitting.split_first.Given as goal

abbrev pub invariant-loop-i : goal.invariant-loop-i
invariant-loop-i l =
    split_by l.mark l.text ≡ prefixed (take l.i l.text) (split_by l.mark (drop l.i l.text))
