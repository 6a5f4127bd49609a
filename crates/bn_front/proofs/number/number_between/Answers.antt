use Rattle.std.proofs.Common.{◌∙◌, Bool, sym, ap, arith}
use Rattle.bn_model.specs.CommandLines.{number_if}
use Rattle.bn_front.proofs.NumberLemmas.{no_numeral, numeral_between}
use Rattle.bn_front.proofs.number.number_between.Goals as goal

pub returns-in_err-number-clause-exact : goal.returns-in_err-number-clause-exact
returns-in_err-number-clause-exact c =
    c.from_residual.ensures ∙
    sym (no_numeral c.args.least c.args.most c.args.word.now (omega arith)
    (sym c.read_numeral.ensures ∙ c.in_err-number.was))

pub returns-then-is_between-clause-exact : goal.returns-then-is_between-clause-exact
returns-then-is_between-clause-exact c =
    sym (numeral_between c.args.least c.args.most c.in_ok-number.number c.args.word.now
    (sym c.read_numeral.ensures ∙ c.in_ok-number.was)
    ∙ ap (λ (b : Bool). number_if b c.in_ok-number.number)
    (sym c.is_between.ensures ∙ c.if-is_between.true))

pub returns-else-is_between-clause-exact : goal.returns-else-is_between-clause-exact
returns-else-is_between-clause-exact c =
    sym (numeral_between c.args.least c.args.most c.in_ok-number.number c.args.word.now
    (sym c.read_numeral.ensures ∙ c.in_ok-number.was)
    ∙ ap (λ (b : Bool). number_if b c.in_ok-number.number)
    (sym c.is_between.ensures ∙ c.if-is_between.false))
