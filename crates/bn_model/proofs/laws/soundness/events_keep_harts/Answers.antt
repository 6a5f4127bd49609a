use Rattle.bn_model.proofs.SoundKept.{harts-kept}
use Rattle.bn_model.proofs.laws.soundness.events_keep_harts.Goals as goal

pub returns : goal.returns
returns c = harts-kept
