use Rattle.bn_gen.proofs.PartLemmas.{all_made, no_segment_pages, none_left, one_less}
use Rattle.bn_gen.proofs.PartLemmas.{one_piece, segment_pages-value}
use Rattle.bn_gen.proofs.modules.put_segments.Goals as goal

pub loop-i-preserved : goal.loop-i-preserved
loop-i-preserved c =
    one_piece _ _ _ _ _ _ c.loop-i.invariant
    (segment_pages-value c.loop-i.i _ _ (one_less 8 c.loop-i.i c.loop-i-test.true))
    c.in_ok-put_segment.ensures

pub returns : goal.returns
returns c =
    all_made _ _ _ c.loop-i.invariant (no_segment_pages _ _ (none_left 8 _ c.loop-i-test.false))
