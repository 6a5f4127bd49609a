use Rattle.std.proofs.Common.{◌≡◌, ◌-◌, ◌++◌}
use Rattle.bn_gen.specs.Parts.{launches, listed}
use Rattle.bn_gen.proofs.kernel.put_launches.Given as goal

-- what is made so far and what is left are the whole
abbrev pub invariant-loop-i : goal.invariant-loop-i
invariant-loop-i l =
    l.initial.code.items ++ listed (launches 0 8) ≡
    l.code.items ++ listed (launches l.i (8 - l.i))
