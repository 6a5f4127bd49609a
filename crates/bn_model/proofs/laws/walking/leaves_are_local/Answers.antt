use Rattle.bn_model.proofs.WalkFacts.{leaf-local}
use Rattle.bn_model.proofs.laws.walking.leaves_are_local.Goals as goal

pub returns : goal.returns
returns c = leaf-local
