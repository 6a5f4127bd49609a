use Rattle.std.proofs.Common.{◌≡◌}
use Rattle.bn_model.specs.Evicting.{pages_left}
use Rattle.bn_model.specs.Nesting.{IsNested, contents}
use Rattle.bn_model.proofs.MixedLists.{mixed}
use Rattle.bn_unit.proofs.unit.Unit.zero_pages.Given as goal

-- the pages so far are as the eviction leaves them
abbrev pub invariant-loop-page : goal.invariant-loop-page
invariant-loop-page g l =
    let old = contents l.initial.self.nest in
    (contents l.self.nest ≡ mixed l.page (pages_left l.gone l.initial.self.live old) old)
    × (l.self.live ≡ l.initial.self.live) × (l.self.nest.ram ≡ l.initial.self.nest.ram)
    × (l.self.cache ≡ l.initial.self.cache) × IsNested l.self.nest
