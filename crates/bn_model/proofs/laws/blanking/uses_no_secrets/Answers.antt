use Rattle.bn_model.proofs.BlankLemmas.{blank-step}
use Rattle.bn_model.proofs.laws.blanking.uses_no_secrets.Goals as goal

pub returns : goal.returns
returns c s event m fits sound resting rest = blank-step m s event fits sound resting rest
