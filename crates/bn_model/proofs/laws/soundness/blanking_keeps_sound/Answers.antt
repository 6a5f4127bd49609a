use Rattle.bn_model.proofs.SoundBlanked.{blank-sound}
use Rattle.bn_model.proofs.laws.soundness.blanking_keeps_sound.Goals as goal

pub returns : goal.returns
returns c = blank-sound
