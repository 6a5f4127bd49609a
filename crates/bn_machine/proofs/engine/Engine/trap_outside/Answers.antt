use Rattle.bn_machine.proofs.Switches.{state_trapped_outside, told_trapped_outside}
use Rattle.bn_machine.proofs.engine.Engine.trap_outside.Goals as goal

pub returns-clause-stepped : goal.returns-clause-stepped
returns-clause-stepped c =
    state_trapped_outside c.args.self.now.state _ c.args.hart c.args.cause c.args.value
    c.requires.outside c.enter_trap.ensures.stepped

pub returns-clause-told : goal.returns-clause-told
returns-clause-told c =
    told_trapped_outside c.args.self.now.state c.args.hart c.args.cause c.args.value
    c.args.lines.now c.enter_trap.new.lines c.requires.outside
    (rw (← c.pc-pc.ensures) c.enter_trap.ensures.told)
