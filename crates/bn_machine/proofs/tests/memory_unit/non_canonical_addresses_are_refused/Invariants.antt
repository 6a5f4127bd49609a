use Rattle.bn_machine.proofs.tests.memory_unit.non_canonical_addresses_are_refused.Given as goal

-- the ledger is the blank's
abbrev pub ghosts-try_non_canonical : goal.ghosts-try_non_canonical
ghosts-try_non_canonical g a = record { name = a.blank.name; parts = a.blank.parts }
