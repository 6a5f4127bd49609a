use Rattle.bn_model.proofs.StopLemmas.{stops-clear}
use Rattle.bn_model.proofs.laws.switching.stops_clear.Goals as goal

pub returns : goal.returns
returns c = stops-clear
