use Rattle.bn_model.proofs.SoundKept.{acceptances-kept}
use Rattle.bn_model.proofs.laws.soundness.events_keep_acceptances.Goals as goal

pub returns : goal.returns
returns c = acceptances-kept
