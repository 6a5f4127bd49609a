use Rattle.std.proofs.Common.{arith}
use Rattle.bn_tlb.proofs.MarkLemmas.{marks-all, marks-more}
use Rattle.bn_tlb.proofs.marks.mark_all.Goals as goal

pub loop-page-preserved : goal.loop-page-preserved
loop-page-preserved c =
    marks-more c.args.pages.now c.loop-page.page-index _ c.args.marks.now.items
    c.loop-page.marks.items c.set_mark.new.marks.items c.loop-page-test.true c.set_mark.ensures
    c.loop-page.invariant

pub returns-clause-marked : goal.returns-clause-marked
returns-clause-marked c =
    marks-all c.args.pages.now c.loop-page.page-index c.loop-page.marks.items (omega arith)
    c.loop-page.invariant.0
