use Rattle.bn_model.proofs.SoundKept.{sound-kept}
use Rattle.bn_model.proofs.laws.soundness.events_keep_sound.Goals as goal

pub returns : goal.returns
returns c = sound-kept
