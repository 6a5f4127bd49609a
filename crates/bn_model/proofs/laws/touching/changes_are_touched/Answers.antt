use Rattle.bn_model.proofs.ChangeLemmas.{changes-are-touched}
use Rattle.bn_model.proofs.laws.touching.changes_are_touched.Goals as goal

pub returns : goal.returns
returns c = changes-are-touched
