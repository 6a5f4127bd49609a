use Rattle.std.proofs.Common.{◌≡◌, ◌==◌, true, false, sym, ◌∙◌, ap, arith, get_or, take, drop}
use Rattle.std.proofs.Common.{length}
use Rattle.std.proofs.lemmas.Bool.Decides.{nat_tests}
use Rattle.std.proofs.lemmas.Grind.{common_steps}
use Rattle.bn_types.proofs.SplittingLemmas.{split_end, split_here, split_on}
use Rattle.bn_types.proofs.splitting.split_first.Goals as goal

pub returns-then-byte-mark-clause-pieces : goal.returns-then-byte-mark-clause-pieces
returns-then-byte-mark-clause-pieces c =
    let here : (get_or c.args.text.now c.loop-i.i 0 == c.args.mark) ≡ true =
    grind (arith, nat_tests) in
    let split = c.loop-i.invariant
    ∙ split_here c.args.mark c.loop-i.i c.args.text.now c.loop-i-test.true here in
    grind (arith, common_steps, split)

pub loop-i-preserved : goal.loop-i-preserved
loop-i-preserved c =
    let other : (get_or c.args.text.now c.loop-i.i 0 == c.args.mark) ≡ false =
    grind (arith, nat_tests) in
    c.loop-i.invariant ∙ split_on c.args.mark c.loop-i.i c.args.text.now c.loop-i-test.true other

pub returns-clause-pieces : goal.returns-clause-pieces
returns-clause-pieces c =
    let whole = c.loop-i.invariant in
    grind (arith, common_steps, whole, split_end c.args.mark c.args.text.now)
