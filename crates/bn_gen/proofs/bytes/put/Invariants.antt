use Rattle.std.proofs.Common.{◌≡◌, ◌++◌, take}
use Rattle.bn_gen.specs.Parts.{listed}
use Rattle.bn_gen.proofs.bytes.put.Given as goal

abbrev pub invariant-loop-insn : goal.invariant-loop-insn
invariant-loop-insn l =
    l.bytes.items ≡ l.initial.bytes.items ++ listed (take l.insn-index l.insns)
