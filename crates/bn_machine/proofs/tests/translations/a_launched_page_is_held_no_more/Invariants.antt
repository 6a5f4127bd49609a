use Rattle.bn_machine.proofs.tests.translations.a_launched_page_is_held_no_more.Given as goal

-- the ledger is the blank's
abbrev pub ghosts-try_launch : goal.ghosts-try_launch
ghosts-try_launch g a = record { name = a.blank.name; parts = a.blank.parts }
