use Rattle.std.proofs.Common.{◌≡◌, map}
use Rattle.std.specs.List.{range_with_len}
use Rattle.bn_model.specs.Segments.{partner_in}
use Rattle.bn_segment.proofs.reading.partners_in.Given as goal

abbrev pub invariant-loop-i : goal.invariant-loop-i
invariant-loop-i l = l.partners.items ≡ map (partner_in l.text) (range_with_len 0 l.i)
