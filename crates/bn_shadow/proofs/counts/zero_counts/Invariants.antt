use Rattle.std.proofs.Common.{◌≡◌, replicate}
use Rattle.bn_shadow.proofs.counts.zero_counts.Given as goal

abbrev pub invariant-loop-page : goal.invariant-loop-page
invariant-loop-page l = l.counts.items ≡ replicate l._page 0
