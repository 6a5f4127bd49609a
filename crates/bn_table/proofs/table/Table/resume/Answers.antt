use Rattle.bn_table.proofs.TableLemmas.{resume-runs, resume-table}
use Rattle.bn_table.proofs.table.Table.resume.Goals as goal

pub change-requires : goal.change-requires
change-requires c = resume-table _ _ _ c.facts.ensures c.requires

pub returns-clause-running : goal.returns-clause-running
returns-clause-running c = rw (c.change.ensures, c.of.ensures) (resume-runs _ _ _ c.requires)
