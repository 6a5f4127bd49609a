use Rattle.bn_machine.proofs.Switches.{state_stopped}
use Rattle.bn_machine.proofs.engine.Engine.stop.Goals as goal

pub returns-clause-stepped : goal.returns-clause-stepped
returns-clause-stepped c =
    state_stopped c.args.self.now.state _ _ _ c.args.h c.leave-here.result
    c.stop_in_table-outside.result c.requires.hart c.leave-here.ensures.context
    c.stop_in_table-outside.ensures.context c.leave-here.ensures.left
    c.stop_in_table-outside.ensures.stopped c.settle.ensures.stepped
