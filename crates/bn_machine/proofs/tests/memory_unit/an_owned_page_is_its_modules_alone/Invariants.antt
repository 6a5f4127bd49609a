use Rattle.bn_machine.proofs.tests.memory_unit.an_owned_page_is_its_modules_alone.Given as goal

-- the ledger is the blank's
abbrev pub ghosts-try_owned : goal.ghosts-try_owned
ghosts-try_owned g a = record { name = a.blank.name; parts = a.blank.parts }
