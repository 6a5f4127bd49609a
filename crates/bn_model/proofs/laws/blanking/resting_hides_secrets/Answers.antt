use Rattle.bn_model.proofs.SoundKept.{sound-kept}
use Rattle.bn_model.proofs.ZeroingLemmas.{hides-secrets}
use Rattle.bn_model.proofs.laws.blanking.resting_hides_secrets.Goals as goal

pub returns : goal.returns
returns c = hides-secrets sound-kept
