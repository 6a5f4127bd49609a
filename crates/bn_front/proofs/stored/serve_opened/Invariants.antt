use Rattle.bn_front.proofs.stored.serve_opened.Given as goal

-- the ledger is the blank's
abbrev pub ghosts-run_stored : goal.ghosts-run_stored
ghosts-run_stored g a = record { name = a.blank.name; parts = a.blank.parts }
