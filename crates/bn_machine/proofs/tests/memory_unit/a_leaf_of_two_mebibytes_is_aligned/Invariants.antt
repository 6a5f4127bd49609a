use Rattle.bn_machine.proofs.tests.memory_unit.a_leaf_of_two_mebibytes_is_aligned.Given as goal

-- the ledger is the blank's
abbrev pub ghosts-try_superpage : goal.ghosts-try_superpage
ghosts-try_superpage g a = record { name = a.blank.name; parts = a.blank.parts }
