-- Numbers from least to most are numerals in that range.
use Rattle.std.proofs.Common.{◌≡◌, ℕ, ◌<◌, ◌^◌, Bool, true, false, ◌&&◌, nat_le, List, decimal}
use Rattle.std.proofs.Common.{Option, Some, None, refl, sym, ap, ◌∙◌, arith}
use Rattle.std.specs.Str.{bytes_eq}
use Rattle.std.specs.Str.Parse.{digits_value}
use Rattle.std.proofs.lemmas.Bool.{leb-true}
use Rattle.std.proofs.lemmas.Fmt.{decimal_is_IsNumeral}
use Rattle.std.proofs.lemmas.Slice.Eq.{bytes_eq-Decides}
use Rattle.bn_types.specs.Numerals.{numeral_below}
use Rattle.bn_types.proofs.NumeralLemmas.{numeral_again, numeral_parts, numeral_spelled}
use Rattle.bn_model.specs.CommandLines.{is_between, is_number, number_between, number_if}

-- a numeral is a number where it is in the range
pub numeral_between : (least most n : ℕ) (word : List ℕ)
    → numeral_below (2 ^ 64) word ≡ Some n
    → number_between least most word ≡ number_if (is_between least most n) n
unfolding number_between
numeral_between least most n word numeral =
    let text : decimal n ≡ word = numeral_spelled (2 ^ 64) n word (omega arith) numeral in
    let parts = numeral_parts (2 ^ 64) n word numeral in
    let few : n < 2 ^ 64 = parts.below in
    let value : digits_value 10 word ≡ n = ap (digits_value 10) (sym text)
    ∙ (decimal_is_IsNumeral n few).1 in
    let spelled : bytes_eq (decimal n) word ≡ true =
    (bytes_eq-Decides (decimal n) word).1 text in
    rw (value, spelled) refl

-- and what is none is no number
pub no_numeral : (least most : ℕ) (word : List ℕ) → most < 2 ^ 64
    → numeral_below (2 ^ 64) word ≡ None
    → number_between least most word ≡ None
unfolding number_between
no_numeral least most word few numeral = by_spelling (is_number word) refl where
  by_range : (b c : Bool) → nat_le least (digits_value 10 word) ≡ b
      → nat_le (digits_value 10 word) most ≡ c → is_number word ≡ true
      → number_if (is_number word && is_between least most (digits_value 10 word))
      (digits_value 10 word) ≡ None
  by_range true true e f t =
      let high = leb-true (digits_value 10 word) most f in
      let text : decimal (digits_value 10 word) ≡ word =
      (bytes_eq-Decides (decimal (digits_value 10 word)) word).0 t in
      let again : numeral_below (2 ^ 64) word ≡ Some (digits_value 10 word) =
      ap (numeral_below (2 ^ 64)) (sym text)
      ∙ numeral_again (2 ^ 64) (digits_value 10 word) (omega arith) (omega arith) in
      let clash : ◌≡◌ {A = Option ℕ} None (Some (digits_value 10 word)) = sym numeral ∙ again in
      cc
  by_range false c e f t = rw (t, e) refl
  by_range true false e f t = rw (t, e, f) refl

  by_spelling : (b : Bool) → is_number word ≡ b
      → number_if (is_number word && is_between least most (digits_value 10 word))
      (digits_value 10 word) ≡ None
  by_spelling true t = by_range _ _ refl refl t
  by_spelling false t = rw t refl
