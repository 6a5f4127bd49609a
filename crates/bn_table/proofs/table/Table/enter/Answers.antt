use Rattle.bn_table.proofs.TableLemmas.{call-runs, call-table}
use Rattle.bn_table.proofs.table.Table.enter.Goals as goal

pub change-requires : goal.change-requires
change-requires c =
    call-table _ _ _ _ _ c.facts.ensures c.requires.idle c.requires.caller

pub returns-clause-running : goal.returns-clause-running
returns-clause-running c = rw (c.change.ensures, c.of.ensures) (call-runs _ _ _ _ _ c.requires.idle)
