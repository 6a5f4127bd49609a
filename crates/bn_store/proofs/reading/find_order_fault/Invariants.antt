use Rattle.std.proofs.Common.{◌≡◌}
use Rattle.bn_model.specs.StoredImages.{order_fault}
use Rattle.bn_store.specs.Answers.{order_fault_from}
use Rattle.bn_store.proofs.reading.find_order_fault.Given as goal

-- no identity so far is out of order
abbrev pub invariant-loop-number : goal.invariant-loop-number
invariant-loop-number l = order_fault l.records ≡ order_fault_from l.number l.records
