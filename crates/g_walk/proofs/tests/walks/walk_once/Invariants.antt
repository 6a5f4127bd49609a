use Rattle.g_walk.proofs.tests.walks.walk_once.Given as goal

abbrev pub ghosts-walk_in_s : goal.ghosts-walk_in_s
ghosts-walk_in_s a = record { name = a.blank.name; parts = a.blank.parts }
