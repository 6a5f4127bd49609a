use Rattle.std.proofs.Common.{◌≡◌, ◌++◌, ap, subst}
use Rattle.bn_types.specs.declared.line.Line.TheVariants as line
use Rattle.bn_model.specs.Spelling.{spelling}
use Rattle.bn_model.specs.State.{State}
use Rattle.bn_machine.specs.Standing.{Standing}
use Rattle.bn_machine.proofs.Switches.{state_trapped_inside, told_trapped_inside}
use Rattle.bn_machine.proofs.engine.Engine.stop_and_trap.Goals as goal

pub returns-clause-stepped : goal.returns-clause-stepped
returns-clause-stepped c =
    state_trapped_inside c.args.self.now.state _ _ c.args.hart c.args.cause c.args.value
    c.requires.hart c.requires.inside c.stop.ensures.stepped c.enter_trap.ensures.stepped

pub returns-clause-told : goal.returns-clause-told
returns-clause-told c =
    told_trapped_inside c.args.self.now.state c.args.hart c.args.cause c.args.value
    c.args.lines.now c.push.new.self c.enter_trap.new.lines c.requires.inside
    (rw (← c.pc-pc.ensures, ← c.current.ensures)
    (subst (λ (m : Standing).
    c.push.new.self ≡ c.args.lines.now
    ++ spelling (line.Stop m.state.clock c.args.hart c.current.result c.pc-pc.result))
    c.self.view_is c.push.ensures.text))
    (rw (← c.pc-pc.ensures, ← ap (λ (x : State). x.clock) c.stop.ensures.stepped)
    c.enter_trap.ensures.told)
