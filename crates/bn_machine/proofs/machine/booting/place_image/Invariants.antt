use Rattle.bn_machine.proofs.Filling.{IsFilled}
use Rattle.bn_machine.proofs.machine.booting.place_image.Given as goal

abbrev pub invariant-loop-number : goal.invariant-loop-number
invariant-loop-number l = IsFilled l.initial.nest l.nest l.number l.bytes
