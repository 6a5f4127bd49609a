use Rattle.bn_model.proofs.SoundKept.{rows-kept}
use Rattle.bn_model.proofs.laws.soundness.events_keep_rows.Goals as goal

pub returns : goal.returns
returns c = rows-kept
