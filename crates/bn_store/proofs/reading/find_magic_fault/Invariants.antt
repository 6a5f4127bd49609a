use Rattle.std.proofs.Common.{◌≡◌, drop}
use Rattle.bn_model.specs.StoredImages.{magic_fault}
use Rattle.bn_store.proofs.reading.find_magic_fault.Given as goal

-- no byte so far is wrong
abbrev pub invariant-loop-at : goal.invariant-loop-at
invariant-loop-at l = magic_fault 0 l.magic l.text ≡
    magic_fault l.at (drop l.at l.magic) (drop l.at l.text)
