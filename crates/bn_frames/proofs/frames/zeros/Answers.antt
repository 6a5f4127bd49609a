use Rattle.std.proofs.Common.{refl}
use Rattle.bn_types.specs.Numbers.{zero_page}
use Rattle.bn_frames.proofs.frames.zeros.Goals as goal

pub returns : goal.returns
unfolding zero_page
returns c = refl
