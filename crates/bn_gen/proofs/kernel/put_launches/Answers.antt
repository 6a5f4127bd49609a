use Rattle.bn_gen.proofs.PartLemmas.{all_made, launches-value, no_launches, none_left}
use Rattle.bn_gen.proofs.PartLemmas.{one_less, one_piece}
use Rattle.bn_gen.proofs.kernel.put_launches.Goals as goal

pub loop-i-preserved : goal.loop-i-preserved
loop-i-preserved c =
    one_piece _ _ _ _ _ _ c.loop-i.invariant
    (launches-value c.loop-i.i _ _ (one_less 8 c.loop-i.i c.loop-i-test.true))
    c.in_ok-put_launch.ensures

pub returns : goal.returns
returns c =
    all_made _ _ _ c.loop-i.invariant (no_launches _ _ (none_left 8 _ c.loop-i-test.false))
