use Rattle.std.proofs.Common.{sym, ◌∙◌, arith, ◌^◌, ◌<◌, get_or}
use Rattle.std.proofs.lemmas.Grind.{common_steps}
use Rattle.bn_types.proofs.NumeralLemmas.{digits_from, no_digits_left, none_from, with_digit_below}
use Rattle.bn_types.proofs.numeral.read_digits.Goals as goal

pub returns-in_err-number : goal.returns-in_err-number
returns-in_err-number c =
    c.from_residual.ensures
    ∙ sym (c.loop-digit.invariant.whole
    ∙ none_from (2 ^ 64) c.loop-digit.number c.loop-digit.digit-index c.args.digits.now
    c.loop-digit-test.true (sym c.with_digit.ensures ∙ c.in_err-number.was))

pub loop-digit-preserved : goal.loop-digit-preserved
loop-digit-preserved c =
    let good = sym c.with_digit.ensures ∙ c.in_ok-number.was in
    record {
      whole = c.loop-digit.invariant.whole
          ∙ digits_from (2 ^ 64) c.loop-digit.number c.in_ok-number.number c.loop-digit.digit-index
          c.args.digits.now c.loop-digit-test.true good;
      fits = with_digit_below (2 ^ 64) c.loop-digit.number
          (get_or c.args.digits.now c.loop-digit.digit-index 0) c.in_ok-number.number good;
    }

pub returns : goal.returns
returns c =
    let fits : c.loop-digit.number < 2 ^ 64 = c.loop-digit.invariant.fits in
    grind (arith, common_steps, no_digits_left)
