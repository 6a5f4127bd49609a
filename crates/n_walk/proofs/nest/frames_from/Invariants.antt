use Rattle.std.proofs.Common.{◌≡◌, ◌-◌, length}
use Rattle.n_walk.specs.Building.{numbered}
use Rattle.n_walk.proofs.nest.frames_from.Given as goal

abbrev pub invariant-loop-frame : goal.invariant-loop-frame
invariant-loop-frame l = record {
  items : l.frames.items ≡ numbered l.first (l.frame - l.first);
  count : length l.frames.items ≡ l.frame - l.first;
}
