use Rattle.std.proofs.Common.{◌∙◌}
use Rattle.bn_model.specs.Launching.{bytes_on}
use Rattle.bn_launch.proofs.WordTexts.{word_step}
use Rattle.bn_launch.proofs.reading.read_words.Goals as goal

pub loop-i-preserved : goal.loop-i-preserved
loop-i-preserved g c = record {
  read = word_step (bytes_on (g.P.Pages.visible c.args.pages.now) c.args.page.0) c.loop-i.bytes _ _
      c.args.from c.loop-i.i c.loop-i.invariant.read c.put_word.ensures.bytes
      c.word_on-word.ensures;
  size = c.put_word.ensures.size ∙ c.loop-i.invariant.size;
}
