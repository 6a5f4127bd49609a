use Rattle.std.proofs.Common.{◌≡◌, ◌-◌, ◌++◌}
use Rattle.bn_gen.specs.Parts.{listed, operations}
use Rattle.bn_gen.proofs.modules.put_operations.Given as goal

-- those so far and those left are all
abbrev pub invariant-loop-operation : goal.invariant-loop-operation
invariant-loop-operation l = record {
  bytes : l.initial.code.items ++ listed (operations 16 l.initial.stream).value ≡
      l.code.items ++ listed (operations (16 - l._operation) l.stream).value;
  state : (operations 16 l.initial.stream).state ≡ (operations (16 - l._operation) l.stream).state;
}
