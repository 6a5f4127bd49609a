use Rattle.g_walk.proofs.tests.walks.leaf_once.Given as goal

abbrev pub ghosts-leaf_at : goal.ghosts-leaf_at
ghosts-leaf_at a = record { name = a.blank.name; parts = a.blank.parts }
