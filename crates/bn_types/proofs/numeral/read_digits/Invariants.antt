use Rattle.std.proofs.Common.{◌≡◌, ◌^◌, ◌<◌, drop}
use Rattle.bn_types.specs.Numerals.{digits_below}
use Rattle.bn_types.proofs.numeral.read_digits.Given as goal

abbrev pub invariant-loop-digit : goal.invariant-loop-digit
invariant-loop-digit l = record {
  whole : digits_below (2 ^ 64) 0 l.digits ≡
      digits_below (2 ^ 64) l.number (drop l.digit-index l.digits);
  fits : l.number < 2 ^ 64;
}
