use Rattle.bn_model.proofs.WalkFacts.{walked-local}
use Rattle.bn_model.proofs.laws.walking.refused_walks_are_local.Goals as goal

pub returns : goal.returns
returns c pages others satp va agree none_freed =
    walked-local pages others satp va agree (λ refused. none_freed)
