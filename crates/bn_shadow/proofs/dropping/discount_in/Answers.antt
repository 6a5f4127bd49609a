use Rattle.bn_shadow.proofs.DropLemmas.{between-fits, between-more}
use Rattle.bn_shadow.proofs.dropping.discount_in.Goals as goal

pub discount_if-requires : goal.discount_if-requires
discount_if-requires c page =
    between-fits c.args.id.0 c.loop-owner.owner-index page c.args.live.now c.owner-item.result _
    c.loop-owner-test.true c.owner-item.is (c.loop-owner.invariant page)

pub loop-owner-preserved : goal.loop-owner-preserved
loop-owner-preserved c page =
    between-more c.args.id.0 c.loop-owner.owner-index page c.args.live.now c.owner-item.result _ _
    c.loop-owner-test.true c.owner-item.is (c.loop-owner.invariant page)
    (c.discount_if.ensures page)
