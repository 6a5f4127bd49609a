use Rattle.std.proofs.Common.{◌∙◌, ap, sym, refl, arith}
use Rattle.bn_model.specs.Running.{blind_at}
use Rattle.bn_model.specs.Scripts.{Script, after_events}
use Rattle.bn_model.proofs.ScriptLemmas.{events-harts}
use Rattle.bn_machine.proofs.Passing.{drawn-made, last-finished, last-front, last-made}
use Rattle.bn_machine.proofs.Passing.{last-stopped, last-underway, left-made, left-within}
use Rattle.bn_machine.proofs.Runs.{finished_limit, on_err, underway_at_start}
use Rattle.bn_edge.proofs.Wrote.{stays_on}
use Rattle.bn_machine.proofs.machine.Machine.run.Goals as goal

pub loop-made-init : goal.loop-made-init
unfolding after_events
loop-made-init g c = record {
  underway = underway_at_start (blind_at c.args.blind) c.args.self.now.state c.args.script.now
      c.args.limit (g.O.Sink.account c.args.out.now) c.requires.on c.requires.harts;
  drawn = refl;
  most = omega arith;
  empty = c.new-lines.ensures;
  quiet = λ can. refl;
}

pub make_events-made-requires-clause-harts : goal.make_events-made-requires-clause-harts
make_events-made-requires-clause-harts g c =
    ap (λ (script : Script). script.harts) c.loop-made.invariant.drawn
    ∙ events-harts c.loop-made.made c.args.script.now ∙ c.loop-made.invariant.underway.harts

pub returns-in_err-write_lines-clause-stopped : goal.returns-in_err-write_lines-clause-stopped
returns-in_err-write_lines-clause-stopped g c =
    let last = last-made (blind_at c.args.blind) c.args.self.now.state c.loop-made.self.state
    c.make_events-made.new.self.state c.args.script.now c.loop-made.script c.args.limit
    c.loop-made.made c.make_events-made.result (g.O.Sink.account c.args.out.now)
    (g.O.Sink.account c.loop-made.out) c.make_events-made.new.lines
    c.loop-made.invariant.underway c.loop-made.invariant.drawn c.loop-made-test.true
    c.make_events-made.ensures.made in
    on_err c.from_residual.result (last-stopped last (g.O.Sink.account c.write_lines.new.out)
    c.in_err-write_lines.ensures.err)

pub returns-in_err-write_lines-clause-front : goal.returns-in_err-write_lines-clause-front
returns-in_err-write_lines-clause-front g c =
    let last = last-made (blind_at c.args.blind) c.args.self.now.state c.loop-made.self.state
    c.make_events-made.new.self.state c.args.script.now c.loop-made.script c.args.limit
    c.loop-made.made c.make_events-made.result (g.O.Sink.account c.args.out.now)
    (g.O.Sink.account c.loop-made.out) c.make_events-made.new.lines
    c.loop-made.invariant.underway c.loop-made.invariant.drawn c.loop-made-test.true
    c.make_events-made.ensures.made in
    on_err c.from_residual.result (last-front last (g.O.Sink.account c.write_lines.new.out)
    c.in_err-write_lines.ensures.err)

pub returns-in_err-write_lines-clause-drawn : goal.returns-in_err-write_lines-clause-drawn
returns-in_err-write_lines-clause-drawn g c =
    left-made c.args.script.now c.loop-made.script c.make_events-made.new.script c.loop-made.made
    c.make_events-made.result c.args.limit c.loop-made.invariant.drawn
    c.make_events-made.ensures.rest
    (left-within c.loop-made.made c.args.limit c.make_events-made.result c.loop-made-test.true
    c.make_events-made.ensures.made.few)

pub returns-then-is_off-clause-finished : goal.returns-then-is_off-clause-finished
returns-then-is_off-clause-finished g c =
    let last = last-made (blind_at c.args.blind) c.args.self.now.state c.loop-made.self.state
    c.make_events-made.new.self.state c.args.script.now c.loop-made.script c.args.limit
    c.loop-made.made c.make_events-made.result (g.O.Sink.account c.args.out.now)
    (g.O.Sink.account c.loop-made.out) c.make_events-made.new.lines
    c.loop-made.invariant.underway c.loop-made.invariant.drawn c.loop-made-test.true
    c.make_events-made.ensures.made in
    last-finished last (g.O.Sink.account c.write_lines.new.out)
    (sym c.is_off.ensures ∙ c.if-is_off.true) c.in_ok-write_lines.ensures.ok

pub returns-then-is_off-clause-drawn : goal.returns-then-is_off-clause-drawn
returns-then-is_off-clause-drawn g c =
    left-made c.args.script.now c.loop-made.script c.make_events-made.new.script c.loop-made.made
    c.make_events-made.result c.args.limit c.loop-made.invariant.drawn
    c.make_events-made.ensures.rest
    (left-within c.loop-made.made c.args.limit c.make_events-made.result c.loop-made-test.true
    c.make_events-made.ensures.made.few)

pub loop-made-preserved : goal.loop-made-preserved
loop-made-preserved g c =
    let last = last-made (blind_at c.args.blind) c.args.self.now.state c.loop-made.self.state
    c.make_events-made.new.self.state c.args.script.now c.loop-made.script c.args.limit
    c.loop-made.made c.make_events-made.result (g.O.Sink.account c.args.out.now)
    (g.O.Sink.account c.loop-made.out) c.make_events-made.new.lines
    c.loop-made.invariant.underway c.loop-made.invariant.drawn c.loop-made-test.true
    c.make_events-made.ensures.made in
    record {
      underway = last-underway last (g.O.Sink.account c.write_lines.new.out)
          (sym c.is_off.ensures ∙ c.if-is_off.false) c.in_ok-write_lines.ensures.ok;
      drawn = drawn-made c.args.script.now c.loop-made.script c.make_events-made.new.script
          c.loop-made.made c.make_events-made.result c.loop-made.invariant.drawn
          c.make_events-made.ensures.rest;
      most = left-within c.loop-made.made c.args.limit c.make_events-made.result
          c.loop-made-test.true c.make_events-made.ensures.made.few;
      empty = c.in_ok-write_lines.ensures.empty;
      quiet = stays_on _ _ _ c.loop-made.invariant.quiet c.in_ok-write_lines.ensures.failed;
    }

pub returns-clause-finished : goal.returns-clause-finished
returns-clause-finished g c =
    let most = c.loop-made.invariant.most in
    let over = c.loop-made-test.false in
    finished_limit _ _ _ _ _ c.loop-made.made _ _ c.loop-made.invariant.underway
    (omega (arith, most, over))
