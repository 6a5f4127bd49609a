use Rattle.std.proofs.Common.{◌≡◌, ◌-◌, ◌++◌}
use Rattle.bn_gen.specs.Tallies.{kind_lines}
use Rattle.bn_gen.proofs.summary.put_counts.Given as goal

-- what is made so far and what is left are the whole
abbrev pub invariant-loop-i : goal.invariant-loop-i
invariant-loop-i l =
    l.initial.text.items ++ kind_lines l.counts 0 18 ≡
    l.text.items ++ kind_lines l.counts l.i (18 - l.i)
