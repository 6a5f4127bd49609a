use Rattle.std.proofs.Common.{◌∙◌, sym}
use Rattle.bn_gen.proofs.PartLemmas.{all_made, no_rounds, no_rounds-state, none_left}
use Rattle.bn_gen.proofs.PartLemmas.{one_less, one_piece, rounds-state, rounds-value}
use Rattle.bn_gen.proofs.script.put_rounds.Goals as goal

pub loop-round-preserved : goal.loop-round-preserved
loop-round-preserved c =
    let i = c.loop-round._round in
    let state = c.loop-round.stream in
    let after = c.put_round.new.stream in
    let less = one_less 64 i c.loop-round-test.true in
    let done = c.in_ok-put_round.ensures in
    record {
      bytes = one_piece _ _ _ _ _ _ c.loop-round.invariant.bytes
          (rounds-value _ _ state after less done.state) done.lines;
      state = c.loop-round.invariant.state ∙ rounds-state _ _ state after less done.state;
    }

pub returns-clause-lines : goal.returns-clause-lines
returns-clause-lines c =
    all_made _ _ _ c.loop-round.invariant.bytes
    (no_rounds _ c.loop-round.stream (none_left 64 _ c.loop-round-test.false))

pub returns-clause-state : goal.returns-clause-state
returns-clause-state c =
    sym (c.loop-round.invariant.state
    ∙ no_rounds-state _ c.loop-round.stream (none_left 64 _ c.loop-round-test.false))
