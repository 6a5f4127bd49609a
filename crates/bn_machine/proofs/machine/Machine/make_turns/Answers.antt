use Rattle.std.proofs.Common.{◌≡◌, ◌==◌, ◌+◌, None, false, List, ℕ, length, arith, refl}
use Rattle.std.proofs.Common.{sym, ap, subst, ◌∙◌}
use Rattle.bn_types.specs.declared.event.Event.TheVariants.{Turn}
use Rattle.bn_model.specs.State.{State}
use Rattle.bn_model.specs.Stepping.{step}
use Rattle.bn_model.proofs.SteppingLemmas.{clock_after, harts_after}
use Rattle.bn_machine.specs.Passing.{IsSilent, turn_number}
use Rattle.bn_machine.proofs.Passing.{empty-is, first-counts, first-keeps, more-silent, none-made}
use Rattle.bn_machine.proofs.Passing.{none-silent, one-more-made}
use Rattle.bn_machine.proofs.machine.Machine.make_turns.Goals as goal

pub turns-init : goal.turns-init
turns-init g c = record {
  below = c.requires.some;
  silent = none-silent None (turn_number c.args.h) c.args.self.now.state;
  reached = none-made None (turn_number c.args.h) c.args.self.now.state;
  harts = refl;
  clock = omega arith;
  empty = c.requires.empty;
  first = λ none. refl;
}

pub returns-then-made-most-clause-few : goal.returns-then-made-most-clause-few
returns-then-made-most-clause-few g c =
    first-counts c.args.h c.args.most c.turns.made c.args.self.now.state c.turns.self.state
    c.args.steps.now c.turns.steps c.take_turn.new.steps c.turns.invariant.below
    c.turns.invariant.reached c.turns.invariant.first c.take_turn.ensures.few

pub returns-then-made-most-clause-keys : goal.returns-then-made-most-clause-keys
returns-then-made-most-clause-keys g c =
    first-keeps c.args.h c.args.most c.turns.made c.args.self.now.state c.turns.self.state
    c.take_turn.new.self.cache c.turns.invariant.below c.turns.invariant.reached
    c.take_turn.ensures.keys

pub turns-preserved : goal.turns-preserved
turns-preserved g c =
    let start = c.args.self.now.state in
    let turn = turn_number c.args.h in
    let below = c.turns.invariant.below in
    let more = c.if-made-most.false in
    let empty = empty-is c.take_turn.new.lines
    (ap (λ (text : List ℕ). length text == 0) (sym c.bytes.ensures)
    ∙ sym c.is_empty.ensures ∙ c.if-not-is_empty.false) in
    let on : c.take_turn.new.self.state.off ≡ false = sym c.is_off.ensures ∙ c.if-is_off.false in
    let silent : IsSilent None c.turns.self.state (Turn c.args.h) = record {
      told = sym c.take_turn.ensures.told ∙ empty;
      on = ap (λ (s : State). s.off) (sym c.take_turn.ensures.stepped) ∙ on;
    } in
    record {
      below = omega (arith, below, more);
      silent = more-silent None turn c.turns.made start c.turns.invariant.silent
          (subst (λ (s : State). IsSilent None s (Turn c.args.h)) c.turns.invariant.reached silent);
      reached = c.take_turn.ensures.stepped
          ∙ ap (λ (s : State). step s (Turn c.args.h)) c.turns.invariant.reached
          ∙ one-more-made None turn c.turns.made start;
      harts = ap (λ (s : State). length s.harts) c.take_turn.ensures.stepped
          ∙ harts_after c.turns.self.state (Turn c.args.h) ∙ c.turns.invariant.harts;
      clock = ap (λ (s : State). s.clock) c.take_turn.ensures.stepped
          ∙ clock_after c.turns.self.state (Turn c.args.h)
          ∙ ap (λ (n : ℕ). n + 1) c.turns.invariant.clock ∙ omega arith;
      empty = empty;
      first = λ none. omega (arith, none);
    }
