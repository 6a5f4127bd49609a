use Rattle.bn_model.proofs.BlankLemmas.{blank-lines}
use Rattle.bn_model.proofs.laws.blanking.tells_no_secrets.Goals as goal

pub returns : goal.returns
returns c s event m fits sound resting = blank-lines m s event fits sound resting.rest
