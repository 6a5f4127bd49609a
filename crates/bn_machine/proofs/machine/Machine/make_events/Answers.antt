use Rattle.std.proofs.Common.{None, Option, ap, not, subst, sym, ◌∙◌, ℕ}
use Rattle.bn_types.specs.declared.mod_id.ModId.{ModId}
use Rattle.bn_model.specs.Running.{blind_at}
use Rattle.bn_machine.specs.Passing.{Makes, event_number, turn_number}
use Rattle.bn_machine.proofs.Passing.{first-event, lone-event, lone-left, makes-same, none-blind}
use Rattle.bn_machine.proofs.Passing.{one-drawn, one-event}
use Rattle.bn_machine.proofs.machine.Machine.make_events.Goals as goal

pub returns-then-is_lone-clause-made : goal.returns-then-is_lone-clause-made
returns-then-is_lone-clause-made g c =
    let lone = sym c.is_lone.ensures ∙ c.if-is_lone.true in
    let open_eyed = none-blind c.args.blind (c.is_none.ensures ∙ ap not c.if-is_none.true) in
    subst (λ (blind : Option (ModId × ℕ)).
    Makes (blind_at blind) (event_number c.args.script.now) c.args.most c.make_turns.result
    c.args.self.now.state c.make_turns.new.self.state c.make_turns.new.lines) (sym open_eyed)
    (makes-same None (turn_number 0) (event_number c.args.script.now)
    (λ n. sym (lone-event c.args.script.now c.facts.ensures lone n)) c.args.self.now.state
    c.args.most c.make_turns.result c.make_turns.new.self.state c.make_turns.new.lines
    c.make_turns.ensures.made)

pub returns-then-is_lone-clause-rest : goal.returns-then-is_lone-clause-rest
returns-then-is_lone-clause-rest g c =
    sym (lone-left c.args.script.now c.facts.ensures (sym c.is_lone.ensures ∙ c.if-is_lone.true)
    c.make_turns.result)

pub returns-clause-made : goal.returns-clause-made
returns-clause-made g c =
    one-event (blind_at c.args.blind) (event_number c.args.script.now) c.args.most
    c.args.self.now.state c.make_event.new.self.state c.make_event.new.lines
    c.next_event-event.result c.requires.some
    (c.next_event-event.ensures.event ∙ sym (first-event c.args.script.now))
    c.make_event.ensures.stepped c.make_event.ensures.told

pub returns-clause-rest : goal.returns-clause-rest
returns-clause-rest g c =
    one-drawn c.args.script.now c.next_event-event.new.self c.next_event-event.ensures.rest
