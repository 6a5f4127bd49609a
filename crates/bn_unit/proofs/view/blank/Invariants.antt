use Rattle.std.proofs.Common.{◌≡◌, ◌++◌, drop, replicate}
use Rattle.bn_unit.proofs.view.blank.Given as goal

-- the bytes so far are zeros
abbrev pub invariant-loop-byte : goal.invariant-loop-byte
invariant-loop-byte l = l.bytes ≡ replicate l.byte-index 0 ++ drop l.byte-index l.initial.bytes
