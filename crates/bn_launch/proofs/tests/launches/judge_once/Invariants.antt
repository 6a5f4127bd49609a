use Rattle.bn_launch.proofs.tests.launches.judge_once.Given as goal

abbrev pub ghosts-judge_by : goal.ghosts-judge_by
ghosts-judge_by a = record { name = a.blank.name; parts = a.blank.parts }
