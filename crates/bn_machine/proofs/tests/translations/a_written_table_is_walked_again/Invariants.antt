use Rattle.bn_machine.proofs.tests.translations.a_written_table_is_walked_again.Given as goal

-- the ledger is the blank's
abbrev pub ghosts-try_leaf : goal.ghosts-try_leaf
ghosts-try_leaf g a = record { name = a.blank.name; parts = a.blank.parts }
