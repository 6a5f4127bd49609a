use Rattle.std.proofs.Common.{◌≡◌, ◌-◌, ◌++◌}
use Rattle.bn_model.specs.Generating.{kernel_calls}
use Rattle.bn_gen.specs.Parts.{listed}
use Rattle.bn_gen.proofs.kernel.put_calls.Given as goal

-- what is made so far and what is left are the whole
abbrev pub invariant-loop-j : goal.invariant-loop-j
invariant-loop-j l = record {
  bytes : l.initial.code.items ++ listed (kernel_calls 0 64 l.initial.stream).value ≡
      l.code.items ++ listed (kernel_calls l.j (64 - l.j) l.stream).value;
  state : (kernel_calls 0 64 l.initial.stream).state ≡ (kernel_calls l.j (64 - l.j) l.stream).state;
}
