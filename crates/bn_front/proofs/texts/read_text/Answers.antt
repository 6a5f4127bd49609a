use Rattle.std.proofs.Common.{◌∙◌, sym}
use Rattle.bn_front.proofs.TextLemmas.{some_text, no_text}
use Rattle.bn_front.proofs.texts.read_text.Goals as goal

pub returns-in-Ok : goal.returns-in-Ok
returns-in-Ok c = (
  some_text c.args.word.now (sym c.is_empty.ensures ∙ c.if-is_empty.false) c.in-Ok.ensures.cases.1,
  c.in-Ok.ensures.cases.0,
)

pub returns-in-Err : goal.returns-in-Err
returns-in-Err c = no_text c.args.word.now c.in-Err.ensures.cases.0
