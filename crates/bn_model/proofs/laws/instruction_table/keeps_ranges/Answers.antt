use Rattle.bn_model.proofs.WordLemmas.{IsInRange-Encodes}
use Rattle.bn_model.proofs.laws.instruction_table.keeps_ranges.Goals as goal

pub returns : goal.returns
returns c = IsInRange-Encodes
