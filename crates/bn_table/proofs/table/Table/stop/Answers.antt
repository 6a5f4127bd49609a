use Rattle.bn_table.proofs.TableLemmas.{stop-table}
use Rattle.bn_table.proofs.table.Table.stop.Goals as goal

pub change-requires : goal.change-requires
change-requires c = rw c.spend-id.ensures (stop-table _ _ _ c.facts.ensures c.requires)
