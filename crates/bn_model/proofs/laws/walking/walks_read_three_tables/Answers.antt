use Rattle.bn_model.proofs.WalkFacts.{walked-few}
use Rattle.bn_model.proofs.laws.walking.walks_read_three_tables.Goals as goal

pub returns : goal.returns
returns c = walked-few
