use Rattle.bn_model.proofs.BlankPages.{digest-blank}
use Rattle.bn_model.proofs.laws.blanking.digests_no_secrets.Goals as goal

pub returns : goal.returns
returns c s m = digest-blank m s
