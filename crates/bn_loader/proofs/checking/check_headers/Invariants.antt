use Rattle.std.proofs.Common.{◌≡◌, ◌+◌, ◌-◌, ◌*◌}
use Rattle.bn_model.specs.Images.{all_checked, places_from}
use Rattle.bn_loader.proofs.checking.check_headers.Given as goal

abbrev pub invariant-loop-i : goal.invariant-loop-i
invariant-loop-i l =
    all_checked l.size l.file (places_from l.first l.count)
    ≡ all_checked l.size l.file (places_from (l.first + 56 * l.i) (l.count - l.i))
