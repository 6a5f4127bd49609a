use Rattle.bn_model.proofs.StartLemmas.{modules-start}
use Rattle.bn_model.proofs.laws.switching.modules_start.Goals as goal

pub returns : goal.returns
returns c = modules-start
