use Rattle.n_walk.proofs.tests.a_page_keeps_its_bytes_where_it_moves.Given as goal

abbrev pub ghosts-used : goal.ghosts-used
ghosts-used g a = record { name = a.blank.name; parts = a.blank.parts }
