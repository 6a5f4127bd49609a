use Rattle.std.proofs.Common.{◌≡◌, ◌+◌, ◌-◌, ◌*◌, length, Ok}
use Rattle.bn_model.specs.Images.{all_checked, places_from, with_segments}
use Rattle.bn_loader.proofs.placing.place_segments.Given as goal

abbrev pub invariant-loop-i : goal.invariant-loop-i
invariant-loop-i l = record {
  placed : with_segments l.file (places_from l.first l.count) l.fn.ram
      ≡ with_segments l.file (places_from (l.first + 56 * l.i) (l.count - l.i)) l.ram;
  checked : all_checked (length l.ram) l.file (places_from (l.first + 56 * l.i) (l.count - l.i)) ≡
      Ok tt;
  same : length l.ram ≡ length l.fn.ram;
}
