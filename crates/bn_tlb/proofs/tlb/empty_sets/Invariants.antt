use Rattle.std.proofs.Common.{◌≡◌, [], replicate}
use Rattle.bn_tlb.proofs.tlb.empty_sets.Given as goal

abbrev pub invariant-loop-set : goal.invariant-loop-set
invariant-loop-set l = l.sets.items ≡ replicate l._set []
