use Rattle.bn_machine.proofs.tests.memory_unit.a_view_has_the_pages_of_ram.Given as goal

-- the ledger is the blank's
abbrev pub ghosts-try_view : goal.ghosts-try_view
ghosts-try_view g a = record { name = a.blank.name; parts = a.blank.parts }
