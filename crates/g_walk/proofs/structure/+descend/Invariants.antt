use Rattle.g_walk.proofs.structure.+descend.Given as goal

-- proposed from what the function passes where it calls itself
abbrev pub decreases-descend : goal.decreases-descend
decreases-descend g l = l.level
