use Rattle.bn_front.proofs.plain.serve_plain.Given as goal

-- the ledger is the blank's
abbrev pub ghosts-run_plainly : goal.ghosts-run_plainly
ghosts-run_plainly g a = record { name = a.blank.name; parts = a.blank.parts }
