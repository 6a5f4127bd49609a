use Rattle.std.proofs.Common.{◌∙◌, sym}
use Rattle.bn_gen.proofs.PartLemmas.{all_made, no_calls, no_calls-state, none_left}
use Rattle.bn_gen.proofs.PartLemmas.{one_less, one_piece, calls-state, calls-value}
use Rattle.bn_gen.proofs.kernel.put_calls.Goals as goal

pub loop-j-preserved : goal.loop-j-preserved
loop-j-preserved c =
    let i = c.loop-j.j in
    let state = c.loop-j.stream in
    let after = c.put_drawn_call.new.stream in
    let less = one_less 64 i c.loop-j-test.true in
    let done = c.in_ok-put_drawn_call.ensures in
    record {
      bytes = one_piece _ _ _ _ _ _ c.loop-j.invariant.bytes
          (calls-value i _ _ state after less done.state) done.bytes;
      state = c.loop-j.invariant.state ∙ calls-state i _ _ state after less done.state;
    }

pub returns-clause-bytes : goal.returns-clause-bytes
returns-clause-bytes c =
    all_made _ _ _ c.loop-j.invariant.bytes
    (no_calls _ _ c.loop-j.stream (none_left 64 _ c.loop-j-test.false))

pub returns-clause-state : goal.returns-clause-state
returns-clause-state c =
    sym (c.loop-j.invariant.state
    ∙ no_calls-state _ _ c.loop-j.stream (none_left 64 _ c.loop-j-test.false))
