use Rattle.bn_table.proofs.TableLemmas.{blank-table}
use Rattle.bn_table.proofs.table.Table.blank.Goals as goal

pub change-requires : goal.change-requires
change-requires c = blank-table _ _ c.facts.ensures
