use Rattle.std.proofs.Common.{◌≡◌, ◌+◌, ◌*◌, ◌++◌, length, take, drop}
use Rattle.bn_model.specs.StoredImages.{words_text}
use Rattle.bn_store.proofs.writing.write_words.Given as goal

-- what is written and what is left are all words
abbrev pub invariant-loop-word : goal.invariant-loop-word
invariant-loop-word l = (l.end ≡ l.at + 8 * l.word-index) × (length l.text ≡ length l.fn.text)
    × (take l.end l.text ++ words_text (drop l.word-index l.words) ≡
    take l.at l.fn.text ++ words_text l.words)
