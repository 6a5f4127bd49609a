use Rattle.bn_table.proofs.TableLemmas.{empty-table}
use Rattle.bn_table.proofs.table.Table.empty.Goals as goal

pub invariant_of-result : goal.invariant_of-result
invariant_of-result c = rw c.new.ensures empty-table
