use Rattle.bn_model.proofs.SoundKept.{stored-kept}
use Rattle.bn_model.proofs.laws.soundness.events_keep_stored.Goals as goal

pub returns : goal.returns
returns c = stored-kept
