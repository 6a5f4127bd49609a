use Rattle.bn_model.proofs.RunningLemmas.{run-append}
use Rattle.bn_model.proofs.laws.running.runs_append.Goals as goal

pub returns : goal.returns
returns c = run-append
