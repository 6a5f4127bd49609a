use Rattle.std.proofs.Common.{None, ap, sym, ◌∙◌}
use Rattle.bn_types.specs.declared.event.Event.{Event}
use Rattle.bn_model.specs.Spelling.{text_of}
use Rattle.bn_model.specs.Stepping.{lines, step}
use Rattle.bn_machine.specs.Passing.{turn_number}
use Rattle.bn_machine.proofs.Passing.{one-stepped, one-told}
use Rattle.bn_machine.proofs.machine.Machine.make_one.Goals as goal

pub returns-in-Turn-clause-stepped : goal.returns-in-Turn-clause-stepped
returns-in-Turn-clause-stepped g c =
    one-stepped None (turn_number c.in-Turn.hart) c.make_turns.result c.args.self.now.state
    c.make_turns.new.self.state c.make_turns.new.lines c.make_turns.ensures.made
    ∙ ap (λ (e : Event). step c.args.self.now.state e) (sym c.in-Turn.is)

pub returns-in-Turn-clause-told : goal.returns-in-Turn-clause-told
returns-in-Turn-clause-told g c =
    one-told None (turn_number c.in-Turn.hart) c.make_turns.result c.args.self.now.state
    c.make_turns.new.self.state c.make_turns.new.lines c.make_turns.ensures.made
    ∙ ap (λ (e : Event). text_of (lines c.args.self.now.state e)) (sym c.in-Turn.is)
