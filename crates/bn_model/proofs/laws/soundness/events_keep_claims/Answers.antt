use Rattle.bn_model.proofs.SoundKept.{claims-kept}
use Rattle.bn_model.proofs.laws.soundness.events_keep_claims.Goals as goal

pub returns : goal.returns
returns c = claims-kept
