use Rattle.std.proofs.Common.{◌≡◌, ◌*◌, drop, length, take}
use Rattle.bn_model.specs.Launching.{bytes_on}
use Rattle.bn_launch.proofs.reading.read_words.Given as goal

abbrev pub invariant-loop-i : goal.invariant-loop-i
invariant-loop-i g l = record {
  read : take (8 * l.i) l.bytes ≡
      take (8 * l.i) (drop l.from (bytes_on (g.P.Pages.visible l.pages) l.page.0));
  size : length l.bytes ≡ length l.initial.bytes;
}
