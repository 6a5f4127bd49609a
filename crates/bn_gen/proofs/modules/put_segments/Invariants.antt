use Rattle.std.proofs.Common.{◌≡◌, ◌-◌, ◌++◌}
use Rattle.bn_gen.specs.Parts.{segment_pages}
use Rattle.bn_gen.proofs.modules.put_segments.Given as goal

-- what is made so far and what is left are the whole
abbrev pub invariant-loop-i : goal.invariant-loop-i
invariant-loop-i l =
    l.initial.pages.items ++ segment_pages 0 8 ≡ l.pages.items ++ segment_pages l.i (8 - l.i)
