use Rattle.bn_model.proofs.WalkFacts.{walked-local}
use Rattle.bn_model.proofs.laws.walking.walks_are_local.Goals as goal

pub returns : goal.returns
returns c pages others satp va agree not_refused =
    walked-local pages others satp va agree (λ refused. absurd (not_refused refused))
