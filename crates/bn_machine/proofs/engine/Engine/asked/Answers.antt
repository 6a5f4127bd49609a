use Rattle.bn_model.proofs.ActingLemmas.{act_in_range}
use Rattle.bn_machine.proofs.engine.Engine.asked.Goals as goal

pub returns-clause-range : goal.returns-clause-range
returns-clause-range c = rw c.act.ensures (act_in_range _ _ _ c.requires.range)
