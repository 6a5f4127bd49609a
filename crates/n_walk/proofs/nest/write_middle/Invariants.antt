use Rattle.n_walk.specs.Building.{HasMiddle}
use Rattle.n_walk.proofs.nest.write_middle.Given as goal

abbrev pub invariant-loop-index : goal.invariant-loop-index
invariant-loop-index l = HasMiddle l.initial.frames l.frames l.index
