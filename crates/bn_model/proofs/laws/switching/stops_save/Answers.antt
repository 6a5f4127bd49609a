use Rattle.bn_model.proofs.StopLemmas.{stops-save}
use Rattle.bn_model.proofs.laws.switching.stops_save.Goals as goal

pub returns : goal.returns
returns c = stops-save
