use Rattle.bn_table.proofs.TableLemmas.{answer-runs, come_back-table}
use Rattle.bn_table.proofs.table.Table.come_back.Goals as goal

pub change-requires : goal.change-requires
change-requires c = come_back-table _ _ _ c.facts.ensures c.requires

pub returns-clause-running : goal.returns-clause-running
returns-clause-running c = rw (c.change.ensures, c.of.ensures) (answer-runs _ _ _ c.requires)
