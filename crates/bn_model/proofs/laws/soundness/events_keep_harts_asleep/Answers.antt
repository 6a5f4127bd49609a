use Rattle.bn_model.proofs.SoundKept.{asleep-kept}
use Rattle.bn_model.proofs.laws.soundness.events_keep_harts_asleep.Goals as goal

pub returns : goal.returns
returns c = asleep-kept
