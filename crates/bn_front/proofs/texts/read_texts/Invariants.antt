use Rattle.std.proofs.Common.{◌≡◌, ◌++◌, drop}
use Rattle.std.specs.List.{list_all}
use Rattle.bn_model.specs.CommandLines.{is_some_text}
use Rattle.bn_front.specs.Meant.{bytes_of_texts, bytes_of_words}
use Rattle.bn_front.proofs.texts.read_texts.Given as goal

-- the texts so far are the words so far, and all words are texts where the rest are
abbrev pub invariant-loop-word : goal.invariant-loop-word
invariant-loop-word l = record {
  same : bytes_of_words l.words ≡
      bytes_of_texts l.texts.items ++ bytes_of_words (drop l.word-index l.words);
  good : list_all is_some_text (bytes_of_words l.words) ≡
      list_all is_some_text (bytes_of_words (drop l.word-index l.words));
}
