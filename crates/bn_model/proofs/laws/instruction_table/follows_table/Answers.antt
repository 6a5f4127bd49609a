use Rattle.bn_model.proofs.EncodingLemmas.{insn_of-Encodes}
use Rattle.bn_model.proofs.WordLemmas.{Encodes-found}
use Rattle.bn_model.proofs.laws.instruction_table.follows_table.Goals as goal

pub returns : goal.returns
returns c = λ word insn. (Encodes-found word insn, insn_of-Encodes word insn)
