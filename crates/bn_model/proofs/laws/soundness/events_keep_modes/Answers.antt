use Rattle.bn_model.proofs.SoundKept.{modes-kept}
use Rattle.bn_model.proofs.laws.soundness.events_keep_modes.Goals as goal

pub returns : goal.returns
returns c = modes-kept
