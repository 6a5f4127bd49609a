use Rattle.bn_machine.proofs.tests.memory_unit.devices_leave_owned_pages.Given as goal

-- the ledger is the blank's
abbrev pub ghosts-try_owned_byte : goal.ghosts-try_owned_byte
ghosts-try_owned_byte g a = record { name = a.blank.name; parts = a.blank.parts }
