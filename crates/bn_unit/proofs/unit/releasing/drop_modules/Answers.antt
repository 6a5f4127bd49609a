use Rattle.std.proofs.Common.{arith}
use Rattle.bn_unit.proofs.Leaving.{others-all, others-more}
use Rattle.bn_unit.proofs.unit.releasing.drop_modules.Goals as goal

pub loop-row-preserved : goal.loop-row-preserved
loop-row-preserved c =
    others-more c.args.gone.now c.loop-row.row-index c.row-item.result c.loop-row.tlb _ _
    c.loop-row-test.true c.row-item.is c.drop_module.ensures c.loop-row.invariant

pub returns : goal.returns
returns c =
    others-all c.args.gone.now c.loop-row.row-index c.loop-row.tlb _ (omega arith)
    c.loop-row.invariant
