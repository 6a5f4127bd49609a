use Rattle.std.proofs.Common.{◌≡◌, take}
use Rattle.bn_shadow.specs.Counting.{owners_left}
use Rattle.bn_unit.proofs.unit.releasing.drop_rows.Given as goal

-- the rows so far are taken out
abbrev pub invariant-loop-row : goal.invariant-loop-row
invariant-loop-row l =
    (l.shadow.live ≡ owners_left (take l.row-index l.gone) l.initial.shadow.live)
    × (l.shadow.ram ≡ l.initial.shadow.ram)
