use Rattle.std.proofs.Common.{◌≡◌, replicate}
use Rattle.bn_types.specs.Numbers.{zero_page}
use Rattle.bn_frames.proofs.frames.Frames.zeroed.Given as goal

abbrev pub invariant-loop-frame : goal.invariant-loop-frame
invariant-loop-frame l = l.pages.items ≡ replicate l._frame zero_page
