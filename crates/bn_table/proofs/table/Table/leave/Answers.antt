use Rattle.bn_table.proofs.TableLemmas.{return-table}
use Rattle.bn_table.proofs.table.Table.leave.Goals as goal

pub change-requires : goal.change-requires
change-requires c = rw c.spend-id.ensures (return-table _ _ c.facts.ensures c.requires)
