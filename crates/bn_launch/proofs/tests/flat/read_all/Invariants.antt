use Rattle.std.proofs.Common.{take}
use Rattle.std.specs.List.{All}
use Rattle.bn_launch.specs.Readable.{IsWholePage}
use Rattle.bn_launch.proofs.tests.flat.read_all.Given as goal

abbrev pub invariant-loop-page : goal.invariant-loop-page
invariant-loop-page l = All IsWholePage (take l.page-index l.pages)
