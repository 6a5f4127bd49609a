use Rattle.bn_model.proofs.WordLemmas as words
use Rattle.bn_model.proofs.laws.instruction_table.one_word.Goals as goal

pub returns : goal.returns
returns c = words.one_word
