use Rattle.bn_gen.proofs.PartLemmas.{all_made, none_left, one_less, one_piece}
use Rattle.bn_gen.proofs.TallyLemmas.{kind_lines-value, no_kind_lines}
use Rattle.bn_gen.proofs.summary.put_counts.Goals as goal

pub loop-i-preserved : goal.loop-i-preserved
loop-i-preserved c =
    one_piece _ _ _ _ _ _ c.loop-i.invariant
    (kind_lines-value c.args.counts.now c.loop-i.i _ _
    (one_less 18 c.loop-i.i c.loop-i-test.true))
    c.in_ok-put_count.ensures

pub returns : goal.returns
returns c =
    all_made _ _ _ c.loop-i.invariant
    (no_kind_lines c.args.counts.now _ _ (none_left 18 _ c.loop-i-test.false))
