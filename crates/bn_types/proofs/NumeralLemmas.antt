-- Digits read one by one.
use Rattle.std.proofs.Common.{◌≡◌, ℕ, zero, suc, rules, ◌+◌, ◌-◌, ◌*◌, ◌≤◌, ◌<◌, ◌&&◌, Bool, true}
use Rattle.std.proofs.Common.{false, not, ◌==◌, ◌^◌, List, [], ◌∷◌, length, drop, drop-cons, get_or}
use Rattle.std.proofs.Common.{add-one, Option, Some, None, nat_le, nat_lt, refl, sym, ◌∙◌, ap}
use Rattle.std.proofs.Common.{arith}
use Rattle.std.proofs.lemmas.Bool.{false≢true}
use Rattle.std.proofs.lemmas.Bool.Decides.{nat_tests}
use Rattle.std.proofs.lemmas.Option.{none-some}
use Rattle.std.proofs.lemmas.Fmt.{decimal-digits_value, digits_decimal, digits_value-decimal}
use Rattle.std.proofs.lemmas.Fmt.{decimal_nonempty, first_decimal, decimal_digit}
use Rattle.std.proofs.lemmas.Str.Parse.{IsNumeralModel, numerals_by_fold}
use Rattle.std.specs.Fmt.{decimal}
use Rattle.std.specs.List.{list_all}
use Rattle.bn_types.specs.Numerals.{digits_below, has_no_leading_zero, is_digit, number_if}
use Rattle.bn_types.specs.Numerals.{numeral_below, numeral_if, value_after, with_digit}

value_grows : (digits : List ℕ) (before : ℕ) → before ≤ value_after before digits
value_grows [] before = omega arith
value_grows (digit ∷ digits) before =
    let rest : before * 10 + (digit - 48) ≤ value_after (before * 10 + (digit - 48)) digits =
    value_grows digits _ in
    omega (arith, rest)

-- a value that has reached the limit stays there
none_past_limit : (limit before : ℕ) (digits : List ℕ) → limit ≤ before
    → digits_below limit before digits ≡ None
unfolding digits_below
none_past_limit limit before digits reached =
    go (list_all is_digit digits) (value_after before digits) (value_grows digits before)
  where
    go : (all : Bool) (value : ℕ) → before ≤ value
        → number_if (all && nat_lt value limit) value ≡ None
    go false value grown = refl
    go true value grown =
        let past : nat_lt value limit ≡ false = grind (arith, nat_tests) in rw past refl

-- the digits after one that isn't good spell nothing
pub none_after : (limit before digit : ℕ) (digits : List ℕ) → with_digit limit before digit ≡ None →
    digits_below limit before (digit ∷ digits) ≡ None
unfolding digits_below
none_after limit before digit digits = go (is_digit digit) refl
  where
    past : (after : ℕ) → (below : Bool) → nat_lt after limit ≡ below
        → number_if below after ≡ None →
        digits_below limit after digits ≡ None
    past after true e h = grind arith
    past after false e h = none_past_limit limit after digits (grind (arith, nat_tests))

    go : (good : Bool) → is_digit digit ≡ good →
        number_if (good && nat_lt (before * 10 + (digit - 48)) limit) (before * 10 + (digit - 48)) ≡
        None →
        digits_below limit before (digit ∷ digits) ≡ None
    go false e h = rw e refl
    go true e h = rw e (past (before * 10 + (digit - 48)) _ refl h)

pub digits_after : (limit before digit after : ℕ) (digits : List ℕ)
    → with_digit limit before digit ≡ Some after →
    digits_below limit before (digit ∷ digits) ≡ digits_below limit after digits
unfolding digits_below
digits_after limit before digit after digits = go (is_digit digit) refl
  where
    past : (value : ℕ) → (below : Bool) → number_if below value ≡ Some after →
        digits_below limit value digits ≡ digits_below limit after digits
    past value true h = grind arith
    past value false h = grind arith

    go : (good : Bool) → is_digit digit ≡ good →
        number_if (good && nat_lt (before * 10 + (digit - 48)) limit) (before * 10 + (digit - 48)) ≡
        Some after →
        digits_below limit before (digit ∷ digits) ≡ digits_below limit after digits
    go false e h = grind arith
    go true e h = rw e (past (before * 10 + (digit - 48)) _ h)

pub no_digits_left : (limit before : ℕ) → before < limit
    → digits_below limit before [] ≡ Some before
unfolding digits_below
no_digits_left limit before below =
    let test : nat_lt before limit ≡ true = grind (arith, nat_tests) in rw test refl

-- the same of the digits from an index on
pub none_from : (limit before i : ℕ) (digits : List ℕ) → i < length digits
    → with_digit limit before (get_or digits i 0) ≡ None →
    digits_below limit before (drop i digits) ≡ None
none_from limit before i digits within bad =
    rw (drop-cons digits i 0 within) (none_after limit before _ _ bad)

pub digits_from : (limit before after i : ℕ) (digits : List ℕ) → i < length digits
    → with_digit limit before (get_or digits i 0) ≡ Some after →
    digits_below limit before (drop i digits) ≡ digits_below limit after (drop (i + 1) digits)
digits_from limit before after i digits within good =
    rw (add-one, drop-cons digits i 0 within) (digits_after limit before _ after _ good)

pub with_digit_below : (limit before digit after : ℕ) → with_digit limit before digit ≡ Some after
    → after < limit
with_digit_below limit before digit after h =
    go (is_digit digit && nat_lt (before * 10 + (digit - 48)) limit) refl h
  where
    go : (good : Bool) → (is_digit digit && nat_lt (before * 10 + (digit - 48)) limit) ≡ good
        → number_if good (before * 10 + (digit - 48)) ≡ Some after → after < limit
    go false e h = grind arith
    go true e h = grind (arith, nat_tests)

-- ---- what std knows of digits holds of these

own : IsNumeralModel (λ digits. list_all is_digit digits ≡ true) (value_after 0)
own = numerals_by_fold _ (search rules) value_after (search rules)

below_if : (all : Bool) (limit value number : ℕ)
    → number_if (all && nat_lt value limit) value ≡ Some number
    → (all ≡ true) × (value ≡ number) × (number < limit)
below_if false limit value number h = absurd (none-some number h)
below_if true limit value number h = go (nat_lt value limit) refl h
  where
    go : (below : Bool) → nat_lt value limit ≡ below → number_if below value ≡ Some number
        → (true ≡ true) × (value ≡ number) × (number < limit)
    go false e h = absurd (none-some number h)
    go true e h = let same : value ≡ number = grind arith in (refl, same, grind (arith, nat_tests))

-- what a numeral is, told apart
pub record IsNumeralOf (limit number : ℕ) (word : List ℕ) : Type 0 where
  pub starts : has_no_leading_zero word ≡ true
  pub digits : list_all is_digit word ≡ true
  pub value : value_after 0 word ≡ number
  pub below : number < limit

pub numeral_parts : (limit number : ℕ) (word : List ℕ) → numeral_below limit word ≡ Some number
    → IsNumeralOf limit number word
unfolding numeral_below digits_below
numeral_parts limit number word h = go (has_no_leading_zero word) refl h
  where
    go : (starts : Bool) → has_no_leading_zero word ≡ starts
        → numeral_if starts limit word ≡ Some number → IsNumeralOf limit number word
    go false e h = absurd (none-some number h)
    go true e h =
        let parts = below_if (list_all is_digit word) limit (value_after 0 word) number h in
        record { starts = e; digits = parts.0; value = parts.1; below = parts.2 }

pub numeral_whole : (limit number : ℕ) (word : List ℕ) → IsNumeralOf limit number word
    → numeral_below limit word ≡ Some number
unfolding numeral_below digits_below
numeral_whole limit number word h =
    let below : nat_lt number limit ≡ true = let small = h.below in grind (arith, nat_tests) in
    rw (h.starts, h.digits, h.value, below) refl

-- a numeral below a smaller limit
pub numeral_narrow : (wide limit number : ℕ) (word : List ℕ)
    → numeral_below wide word ≡ Some number →
    numeral_below limit word ≡ number_if (nat_lt number limit) number
unfolding numeral_below digits_below
numeral_narrow wide limit number word h =
    let parts = numeral_parts wide number word h in
    rw (parts.starts, parts.digits, parts.value) refl

pub numeral_none : (wide limit : ℕ) (word : List ℕ) → limit ≤ wide → numeral_below wide word ≡ None
    → numeral_below limit word ≡ None
numeral_none wide limit word less h = go (numeral_below limit word) refl
  where
    go : (found : Option ℕ) → numeral_below limit word ≡ found → numeral_below limit word ≡ None
    go None e = e
    go (Some number) e =
        let parts = numeral_parts limit number word e in
        let below : number < wide = let small = parts.below in omega (arith, small) in
        absurd (none-some number
        (sym h ∙ numeral_whole wide number word
        (record {
          starts = parts.starts;
          digits = parts.digits;
          value = parts.value;
          below = below;
        })))

starts_well : (word : List ℕ) → has_no_leading_zero word ≡ true
    → (0 < length word) × (get_or word 0 0 ≡ 48 → length word ≡ 1)
starts_well [] h = absurd (false≢true h)
starts_well (digit ∷ []) h = (grind arith, λ e. grind arith)
starts_well (digit ∷ more ∷ digits) h = (grind arith, λ e. grind (arith, nat_tests))

-- a numeral is how its number is written
pub numeral_spelled : (limit number : ℕ) (word : List ℕ) → limit ≤ 2 ^ 64
    → numeral_below limit word ≡ Some number → decimal number ≡ word
numeral_spelled limit number word small h =
    let parts = numeral_parts limit number word h in
    let starts = starts_well word parts.starts in
    let below : number < limit = parts.below in
    let fits : value_after 0 word < 2 ^ 64 = rw parts.value (omega (arith, below)) in
    ap decimal (sym parts.value) ∙ decimal-digits_value own word parts.digits starts.0 starts.1 fits

first_if : (word : List ℕ) → 0 < length word → (get_or word 0 0 ≡ 48 → length word ≡ 1)
    → has_no_leading_zero word ≡ true
first_if [] some h = grind arith
first_if (digit ∷ []) some h = refl
first_if (digit ∷ more ∷ digits) some h = go (digit == 48) refl
  where
    go : (zero_first : Bool) → (digit == 48) ≡ zero_first → not (digit == 48) ≡ true
    go false e = rw e refl
    go true e =
        let one : length (digit ∷ more ∷ digits) ≡ 1 = h (grind (arith, nat_tests)) in grind arith

-- and how a number is written is its numeral
pub numeral_again : (limit number : ℕ) → limit ≤ 2 ^ 64 → number < limit
    → numeral_below limit (decimal number) ≡ Some number
numeral_again limit number small below =
    let fits : number < 2 ^ 64 = omega arith in
    numeral_whole limit number (decimal number) (record {
      starts = first_if (decimal number) (decimal_nonempty number fits)
          (λ zero_first. one number fits zero_first);
      digits = digits_decimal own number fits;
      value = digits_value-decimal own number fits;
      below = below;
    })
  where
    one : (number : ℕ) → number < 2 ^ 64 → get_or (decimal number) 0 0 ≡ 48
        → length (decimal number) ≡ 1
    one zero fits e = ap length (decimal_digit 0 (omega arith))
    one (suc n) fits e =
        let above = first_decimal (suc n) (omega arith) fits in
        absurd (let no_zero : 48 < 48 = rw e at above in omega (arith, no_zero))
