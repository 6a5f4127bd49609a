use Rattle.std.proofs.Common.{◌≡◌, length, take, drop}
use Rattle.bn_model.specs.StoredImages.{words_in}
use Rattle.bn_store.proofs.reading.read_words.Given as goal

-- so many words are read
abbrev pub invariant-loop-number : goal.invariant-loop-number
invariant-loop-number l =
    (take l.number l.words ≡ words_in l.number (drop l.at l.text)) ×
    (length l.words ≡ length l.fn.words)
