use Rattle.bn_machine.proofs.tests.memory_unit.the_unit_ends_where_ram_ends.Given as goal

-- the ledger is the blank's
abbrev pub ghosts-try_ram : goal.ghosts-try_ram
ghosts-try_ram g a = record { name = a.blank.name; parts = a.blank.parts }
