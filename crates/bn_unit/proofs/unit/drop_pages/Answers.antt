use Rattle.std.proofs.Common.{arith}
use Rattle.bn_unit.proofs.Leaving.{without-all, without-more}
use Rattle.bn_unit.proofs.unit.drop_pages.Goals as goal

pub loop-decl-preserved : goal.loop-decl-preserved
loop-decl-preserved c =
    without-more c.args.decls.now c.loop-decl.decl-index _ c.loop-decl.tlb _ _
    c.loop-decl-test.true c.drop_page.ensures c.loop-decl.invariant

pub returns : goal.returns
returns c =
    without-all c.args.decls.now c.loop-decl.decl-index c.loop-decl.tlb _ (omega arith)
    c.loop-decl.invariant
