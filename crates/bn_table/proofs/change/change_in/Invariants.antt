use Rattle.std.proofs.Common.{◌≡◌, map}
use Rattle.bn_model.specs.Rows.{change_at}
use Rattle.bn_model.proofs.MixedLists.{mixed}
use Rattle.bn_table.specs.Tables.{changed}
use Rattle.bn_table.proofs.change.change_in.Given as goal

abbrev pub invariant-loop-row : goal.invariant-loop-row
invariant-loop-row l =
    l.rows ≡ mixed l.row-index (map (change_at l.id.0 (changed l.change)) l.initial.rows)
    l.initial.rows
