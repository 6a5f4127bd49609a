use Rattle.bn_model.proofs.SoundKept.{sound-kept}
use Rattle.bn_model.proofs.UnseenLemmas.{unseen}
use Rattle.bn_model.proofs.laws.blanking.zeroing_is_unseen.Goals as goal

pub returns : goal.returns
returns c = unseen sound-kept
