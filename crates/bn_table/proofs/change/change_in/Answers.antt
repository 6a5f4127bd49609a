use Rattle.std.proofs.Common.{arith}
use Rattle.bn_model.specs.Rows.{change_at}
use Rattle.bn_table.specs.Tables.{changed}
use Rattle.bn_table.proofs.MapSteps.{map-step}
use Rattle.bn_table.proofs.change.change_in.Goals as goal

pub loop-row-preserved : goal.loop-row-preserved
loop-row-preserved c =
    map-step (change_at c.args.id.0 (changed c.args.change.now)) c.args.rows.now c.loop-row.rows
    c.loop-row.row-index c.row-item.result c.change_if.new.row c.loop-row.invariant (omega arith)
    c.change_if.ensures
