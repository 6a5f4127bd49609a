use Rattle.std.proofs.Common.{arith}
use Rattle.bn_model.proofs.VisiblePages.{length-visible}
use Rattle.bn_unit.proofs.unit.Unit.walk_tables.Goals as goal

pub walk-requires-clause-few : goal.walk-requires-clause-few
walk-requires-clause-few g c =
    rw (length-visible, c.view.ensures)
    (omega (arith, c.facts.ensures.count, c.facts.ensures.range.1))
