use Rattle.bn_table.proofs.TableLemmas.{wait-table}
use Rattle.bn_table.proofs.table.Table.wait.Goals as goal

pub change-requires : goal.change-requires
change-requires c = rw c.spend-id.ensures (wait-table _ _ _ _ c.facts.ensures c.requires)
