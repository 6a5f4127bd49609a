use Rattle.std.proofs.Common.{arith, rules}
use Rattle.std.proofs.lemmas.Grind.{common_steps}
use Rattle.bn_model.specs.Generating.{commands_drawn}
use Rattle.bn_gen.specs.Parts.{command_lines, device}
use Rattle.bn_gen.proofs.script.put_round.Goals as goal

pub returns-clause-lines : goal.returns-clause-lines
unfolding commands_drawn device command_lines
returns-clause-lines c = grind (arith, common_steps)

pub returns-clause-state : goal.returns-clause-state
unfolding commands_drawn device
returns-clause-state c = search rules
