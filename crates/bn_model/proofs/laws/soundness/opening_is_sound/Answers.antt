use Rattle.bn_model.proofs.SoundOpening.{opening-sound}
use Rattle.bn_model.proofs.laws.soundness.opening_is_sound.Goals as goal

pub returns : goal.returns
returns c = opening-sound
