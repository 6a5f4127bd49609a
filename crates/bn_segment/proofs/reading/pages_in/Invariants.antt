use Rattle.std.proofs.Common.{◌≡◌, map}
use Rattle.std.specs.List.{range_with_len}
use Rattle.bn_model.specs.Segments.{page_in}
use Rattle.bn_segment.proofs.reading.pages_in.Given as goal

abbrev pub invariant-loop-i : goal.invariant-loop-i
invariant-loop-i l = l.pages.items ≡ map (page_in l.text) (range_with_len 0 l.i)
