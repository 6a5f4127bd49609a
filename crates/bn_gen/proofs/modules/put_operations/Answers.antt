use Rattle.std.proofs.Common.{◌∙◌, sym}
use Rattle.bn_gen.proofs.PartLemmas.{all_made, no_operations, no_operations-state, none_left}
use Rattle.bn_gen.proofs.PartLemmas.{one_less, one_piece, operations-state, operations-value}
use Rattle.bn_gen.proofs.modules.put_operations.Goals as goal

pub loop-operation-preserved : goal.loop-operation-preserved
loop-operation-preserved c =
    let i = c.loop-operation._operation in
    let state = c.loop-operation.stream in
    let after = c.draw_operation-operation.new.stream in
    let insn = c.draw_operation-operation.result in
    let less = one_less 16 i c.loop-operation-test.true in
    let drawn = c.draw_operation-operation.ensures in
    record {
      bytes = one_piece _ _ _ _ _ _ c.loop-operation.invariant.bytes
          (operations-value _ _ state insn after less drawn.value drawn.state) c.in_ok-put.ensures;
      state = c.loop-operation.invariant.state
          ∙ operations-state _ _ state after less drawn.state;
    }

pub returns-clause-bytes : goal.returns-clause-bytes
returns-clause-bytes c =
    all_made _ _ _ c.loop-operation.invariant.bytes
    (no_operations _ c.loop-operation.stream (none_left 16 _ c.loop-operation-test.false))

pub returns-clause-state : goal.returns-clause-state
returns-clause-state c =
    sym (c.loop-operation.invariant.state
    ∙ no_operations-state _ c.loop-operation.stream (none_left 16 _ c.loop-operation-test.false))
