use Rattle.std.proofs.Common.{◌≡◌, map}
use Rattle.std.specs.List.{range_with_len}
use Rattle.bn_model.specs.Segments.{entry_in}
use Rattle.bn_segment.proofs.reading.entries_in.Given as goal

abbrev pub invariant-loop-i : goal.invariant-loop-i
invariant-loop-i l = l.entries.items ≡ map (entry_in l.text) (range_with_len 0 l.i)
