use Rattle.bn_machine.proofs.tests.translations.the_oldest_of_five_leaves.Given as goal

-- the ledger is the blank's
abbrev pub ghosts-try_set : goal.ghosts-try_set
ghosts-try_set g a = record { name = a.blank.name; parts = a.blank.parts }
