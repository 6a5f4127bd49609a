use Rattle.bn_shadow.proofs.CountLemmas.{counted-empty}
use Rattle.bn_shadow.proofs.shadow.Shadow.empty.Goals as goal

pub invariant_of-result : goal.invariant_of-result
invariant_of-result c =
    counted-empty c.new.result.items c.in_ok-counts.counts.items _ c.new.ensures
    c.in_ok-counts.ensures
