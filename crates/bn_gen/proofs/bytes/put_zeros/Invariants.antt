use Rattle.std.proofs.Common.{◌≡◌, ◌++◌}
use Rattle.bn_gen.specs.Parts.{zeros}
use Rattle.bn_gen.proofs.bytes.put_zeros.Given as goal

abbrev pub invariant-loop-zero : goal.invariant-loop-zero
invariant-loop-zero l = l.bytes.items ≡ l.initial.bytes.items ++ zeros l._zero
