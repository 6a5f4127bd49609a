use Rattle.std.proofs.Common.{◌≡◌, ◌+◌, true, false, ap, arith, refl, subst, sym, ◌∙◌}
use Rattle.bn_gen.specs.Tallies.{tally_of}
use Rattle.bn_machine.proofs.Runs.{drawn_fits, drawn_is, drawn_more}
use Rattle.bn_model.specs.Scripts.{after_events}
use Rattle.bn_model.specs.State.{State}
use Rattle.bn_model.specs.Stepping.{lines, step}
use Rattle.bn_front.proofs.GeneratedRuns.{IsCounted, counted_at_start, counted_more, few_told}
use Rattle.bn_front.proofs.GeneratedRuns.{last_limit, last_off, told_limit, told_off}
use Rattle.bn_front.proofs.generated.make_events.Goals as goal

pub loop-event-init : goal.loop-event-init
unfolding after_events
loop-event-init g c = record {
  counted = counted_at_start c.args.machine.now.state c.args.script.now 1000000 c.args.tally.now
      c.requires.on c.requires.harts c.requires.begins c.requires.none;
  drawn = refl;
}

pub turn-requires-clause-fits : goal.turn-requires-clause-fits
turn-requires-clause-fits g c =
    drawn_fits c.args.script.now c.loop-event.script c.loop-event._event c.loop-event.machine.state
    c.next_event-event.result c.loop-event.invariant.drawn c.facts.ensures
    c.next_event-event.ensures.event c.loop-event.invariant.counted.harts

pub returns-then-is_off-clause-last : goal.returns-then-is_off-clause-last
returns-then-is_off-clause-last g c =
    let counted = c.loop-event.invariant.counted in
    let is = drawn_is _ _ _ _ c.loop-event.invariant.drawn c.next_event-event.ensures.event in
    let off : (step c.loop-event.machine.state c.next_event-event.result).off ≡ true =
    ap (λ (s : State). s.off) (sym c.turn.ensures.stepped) ∙ sym c.is_off.ensures
    ∙ c.if-is_off.true in
    c.turn.ensures.stepped
    ∙ last_off _ _ _ _ _ _ counted c.loop-event-test.true c.next_event-event.result is off

pub returns-then-is_off-clause-told : goal.returns-then-is_off-clause-told
returns-then-is_off-clause-told g c =
    let counted = c.loop-event.invariant.counted in
    let is = drawn_is _ _ _ _ c.loop-event.invariant.drawn c.next_event-event.ensures.event in
    let off : (step c.loop-event.machine.state c.next_event-event.result).off ≡ true =
    ap (λ (s : State). s.off) (sym c.turn.ensures.stepped) ∙ sym c.is_off.ensures
    ∙ c.if-is_off.true in
    c.count.ensures counted.told (lines c.loop-event.machine.state c.next_event-event.result)
    (few_told _ _ _ _ _ _ counted c.loop-event-test.true c.next_event-event.result is (omega arith))
    counted.counted (c.bytes.ensures ∙ c.turn.ensures.told)
    ∙ ap tally_of
    (told_off _ _ _ _ _ _ counted c.loop-event-test.true c.next_event-event.result is off)

pub loop-event-preserved : goal.loop-event-preserved
loop-event-preserved g c =
    let counted = c.loop-event.invariant.counted in
    let is = drawn_is _ _ _ _ c.loop-event.invariant.drawn c.next_event-event.ensures.event in
    let on : (step c.loop-event.machine.state c.next_event-event.result).off ≡ false =
    ap (λ (s : State). s.off) (sym c.turn.ensures.stepped) ∙ sym c.is_off.ensures
    ∙ c.if-is_off.false in
    let told = c.count.ensures counted.told
    (lines c.loop-event.machine.state c.next_event-event.result)
    (few_told _ _ _ _ _ _ counted c.loop-event-test.true c.next_event-event.result is (omega arith))
    counted.counted (c.bytes.ensures ∙ c.turn.ensures.told) in
    record {
      counted = subst (λ (s : State). IsCounted c.args.machine.now.state s c.args.script.now 1000000
          (c.loop-event._event + 1) c.count.new.self)
          (sym c.turn.ensures.stepped)
          (counted_more _ _ _ _ _ _ counted c.loop-event-test.true c.next_event-event.result is _ on
          told);
      drawn = drawn_more _ _ _ _ c.loop-event.invariant.drawn c.next_event-event.ensures.rest;
    }

pub returns-clause-last : goal.returns-clause-last
returns-clause-last g c =
    last_limit _ _ _ _ _ _ c.loop-event.invariant.counted (omega arith)

pub returns-clause-told : goal.returns-clause-told
returns-clause-told g c =
    c.loop-event.invariant.counted.counted
    ∙ ap tally_of (told_limit _ _ _ _ _ _ c.loop-event.invariant.counted (omega arith))
