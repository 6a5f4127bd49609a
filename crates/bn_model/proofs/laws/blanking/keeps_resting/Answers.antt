use Rattle.std.proofs.Common.{ap}
use Rattle.bn_model.specs.Rows.{saved_of}
use Rattle.bn_model.proofs.RestingLemmas.{resting-page, resting-row}
use Rattle.bn_model.proofs.laws.blanking.keeps_resting.Goals as goal

pub returns : goal.returns
returns c s event m fits sound resting live = (
  resting-page m s event fits sound resting live,
  (λ rest. ap saved_of (resting-row m s event fits sound resting live rest)),
)
