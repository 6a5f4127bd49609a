use Rattle.bn_model.proofs.TouchLemmas.{touches-are-admitted}
use Rattle.bn_model.proofs.laws.touching.touches_are_admitted.Goals as goal

pub returns : goal.returns
returns c = touches-are-admitted
