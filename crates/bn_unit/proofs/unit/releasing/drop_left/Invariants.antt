use Rattle.std.proofs.Common.{◌≡◌}
use Rattle.bn_unit.specs.Dropping.{cache_left}
use Rattle.bn_unit.proofs.unit.releasing.drop_left.Given as goal

-- the first pages are done
abbrev pub invariant-loop-page : goal.invariant-loop-page
invariant-loop-page l = l.tlb ≡ cache_left l.gone l.shadow.live l.page l.initial.tlb
