use Rattle.std.proofs.Common.{◌≡◌}
use Rattle.bn_model.specs.Opening.{opening_harts}
use Rattle.bn_machine.proofs.machine.booting.start_harts.Given as goal

-- the harts so far are those of a smaller machine
abbrev pub invariant-loop-hart : goal.invariant-loop-hart
invariant-loop-hart l = l.harts.items ≡ opening_harts l._hart l.entry
