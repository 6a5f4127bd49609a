use Rattle.bn_machine.proofs.tests.devices.devices_reach_bytes_between_events.Given as goal

-- the ledger is the blank's
abbrev pub ghosts-reach_bytes : goal.ghosts-reach_bytes
ghosts-reach_bytes g a = record { name = a.blank.name; parts = a.blank.parts }
