use Rattle.bn_model.proofs.SoundKept.{sound-kept}
use Rattle.bn_model.proofs.ZeroingLemmas.{zeroing}
use Rattle.bn_model.proofs.laws.blanking.zeroing_changes_nothing.Goals as goal

pub returns : goal.returns
returns c = zeroing sound-kept
