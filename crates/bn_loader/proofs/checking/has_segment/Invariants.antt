use Rattle.std.proofs.Common.{◌≡◌, ◌+◌, ◌-◌, ◌*◌}
use Rattle.bn_model.specs.Images.{has_segment, places_from}
use Rattle.bn_loader.proofs.checking.has_segment.Given as goal

abbrev pub invariant-loop-i : goal.invariant-loop-i
invariant-loop-i l =
    has_segment l.file (places_from l.first l.count)
    ≡ has_segment l.file (places_from (l.first + 56 * l.i) (l.count - l.i))
