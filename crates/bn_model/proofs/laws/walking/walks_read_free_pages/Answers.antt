use Rattle.bn_model.proofs.WalkFacts.{walked-free}
use Rattle.bn_model.proofs.laws.walking.walks_read_free_pages.Goals as goal

pub returns : goal.returns
returns c = walked-free
