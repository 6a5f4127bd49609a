use Rattle.std.proofs.Common.{◌∙◌, sym}
use Rattle.bn_gen.proofs.PartLemmas.{all_made, no_modules, no_modules-state, none_left}
use Rattle.bn_gen.proofs.PartLemmas.{one_less, one_piece, modules-state, pages-value}
use Rattle.bn_gen.proofs.modules.put_modules.Goals as goal

pub loop-module-preserved : goal.loop-module-preserved
loop-module-preserved c =
    let i = c.loop-module._module in
    let state = c.loop-module.stream in
    let after = c.put_module.new.stream in
    let less = one_less 8 i c.loop-module-test.true in
    let done = c.in_ok-put_module.ensures in
    record {
      bytes = one_piece _ _ _ _ _ _ c.loop-module.invariant.bytes
          (pages-value _ _ state after less done.state) done.bytes;
      state = c.loop-module.invariant.state ∙ modules-state _ _ state after less done.state;
    }

pub returns-clause-bytes : goal.returns-clause-bytes
returns-clause-bytes c =
    all_made _ _ _ c.loop-module.invariant.bytes
    (no_modules _ c.loop-module.stream (none_left 8 _ c.loop-module-test.false))

pub returns-clause-state : goal.returns-clause-state
returns-clause-state c =
    sym (c.loop-module.invariant.state
    ∙ no_modules-state _ c.loop-module.stream (none_left 8 _ c.loop-module-test.false))
