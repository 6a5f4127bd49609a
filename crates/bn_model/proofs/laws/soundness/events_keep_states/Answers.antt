use Rattle.bn_model.proofs.SoundKept.{states-kept}
use Rattle.bn_model.proofs.laws.soundness.events_keep_states.Goals as goal

pub returns : goal.returns
returns c = states-kept
