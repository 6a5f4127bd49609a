use Rattle.bn_machine.proofs.Turns.{sound_write}
use Rattle.bn_machine.proofs.machine.Machine.device_write.Goals as goal

pub invariant_of-self : goal.invariant_of-self
invariant_of-self g c =
    rw c.write_byte-reached.ensures.written
    (sound_write _ _ _ _ c.requires c.self.invariant)
