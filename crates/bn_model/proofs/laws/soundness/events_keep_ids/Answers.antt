use Rattle.bn_model.proofs.SoundKept.{ids-kept}
use Rattle.bn_model.proofs.laws.soundness.events_keep_ids.Goals as goal

pub returns : goal.returns
returns c = ids-kept
