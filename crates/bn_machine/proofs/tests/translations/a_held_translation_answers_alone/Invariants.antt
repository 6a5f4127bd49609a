use Rattle.bn_machine.proofs.tests.translations.a_held_translation_answers_alone.Given as goal

-- the ledger is the blank's
abbrev pub ghosts-try_hits : goal.ghosts-try_hits
ghosts-try_hits g a = record { name = a.blank.name; parts = a.blank.parts }
