use Rattle.std.proofs.Common.{◌≡◌, ◌+◌, ◌≤◌, length}
use Rattle.bn_types.specs.Splitting.{split_by}
use Rattle.bn_model.specs.Scripts.{commands_from, joined}
use Rattle.bn_script.specs.Drawing.{OrdersEvents}
use Rattle.bn_script.proofs.reading.read_lines.Given as goal

-- the commands so far and those of the rest are all commands
abbrev pub invariant-lines : goal.invariant-lines
invariant-lines l = record {
  whole : commands_from l.harts 1 (split_by 10 l.text) ≡
      joined l.commands.items (commands_from l.harts l.number (split_by 10 l.rest));
  few : l.number + length l.rest ≤ 1048577;
  orders : OrdersEvents l.harts l.commands.items;
}

abbrev pub decreases-lines : goal.decreases-lines
decreases-lines l = length l.rest
