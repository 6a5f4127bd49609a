use Rattle.bn_machine.proofs.tests.memory_unit.devices_reach_the_bytes_of_ram.Given as goal

-- the ledger is the blank's
abbrev pub ghosts-try_devices : goal.ghosts-try_devices
ghosts-try_devices g a = record { name = a.blank.name; parts = a.blank.parts }
