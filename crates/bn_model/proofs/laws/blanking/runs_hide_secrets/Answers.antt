use Rattle.bn_model.proofs.SoundKept.{sound-kept}
use Rattle.bn_model.proofs.ZeroingLemmas.{hides-in-run}
use Rattle.bn_model.proofs.laws.blanking.runs_hide_secrets.Goals as goal

pub returns : goal.returns
returns c = hides-in-run sound-kept
