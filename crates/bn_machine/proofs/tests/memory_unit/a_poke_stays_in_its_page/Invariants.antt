use Rattle.bn_machine.proofs.tests.memory_unit.a_poke_stays_in_its_page.Given as goal

-- the ledger is the blank's
abbrev pub ghosts-try_border : goal.ghosts-try_border
ghosts-try_border g a = record { name = a.blank.name; parts = a.blank.parts }
