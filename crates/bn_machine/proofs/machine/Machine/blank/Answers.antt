use Rattle.bn_model.proofs.SoundBlanked.{blank-sound}
use Rattle.bn_machine.proofs.machine.Machine.blank.Goals as goal

pub invariant_of-self : goal.invariant_of-self
invariant_of-self g c = rw c.blank.ensures.blanked (blank-sound _ _ c.self.invariant)
