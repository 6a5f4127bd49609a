use Rattle.std.proofs.Common.{◌∙◌, arith, length-set}
use Rattle.bn_store.proofs.ReadingLemmas.{word_read}
use Rattle.bn_store.proofs.reading.read_words.Goals as goal

pub loop-number-preserved : goal.loop-number-preserved
loop-number-preserved c = (
  word_read c.loop-number.words c.args.text.now c.args.at c.loop-number.number c.word_at.result
      (omega (arith, c.loop-number-test.true, c.loop-number.invariant.1)) c.loop-number.invariant.0
      c.word_at.ensures.word,
  length-set c.loop-number.words c.loop-number.number c.word_at.result ∙ c.loop-number.invariant.1,
)
