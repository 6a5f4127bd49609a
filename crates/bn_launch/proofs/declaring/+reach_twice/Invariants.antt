use Rattle.std.proofs.Common.{length}
use Rattle.bn_launch.proofs.declaring.+reach_twice.Given as goal

abbrev pub decreases-reach_twice : goal.decreases-reach_twice
decreases-reach_twice l = length l.decls.now
