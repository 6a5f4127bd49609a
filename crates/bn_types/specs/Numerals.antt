-- Decimal numbers without leading zeros.
use Rattle.std.specs.Prelude.{ℕ, ◌+◌, ◌-◌, ◌*◌, ◌==◌, Bool, true, false, ◌&&◌, not, nat_le, nat_lt}
use Rattle.std.specs.Prelude.{List, [], ◌∷◌, Option, Some, None}
use Rattle.std.specs.List.{list_all}

abbrev pub is_digit : ℕ → Bool
is_digit byte = nat_le 48 byte && nat_le byte 57

-- the number that digits spell after those of another number
abbrev pub value_after : ℕ → List ℕ → ℕ
value_after before [] = before
value_after before (digit ∷ digits) = value_after (before * 10 + (digit - 48)) digits

abbrev pub number_if : Bool → ℕ → Option ℕ
number_if true number = Some number
number_if false number = None

-- a number with one more digit, where it is one and the number stays below a limit
abbrev pub with_digit : (limit before digit : ℕ) → Option ℕ
with_digit limit before digit =
    number_if (is_digit digit && nat_lt (before * 10 + (digit - 48)) limit)
    (before * 10 + (digit - 48))

-- the number that digits spell after those of another, where all are digits and the number is below
-- a limit
unfoldable pub digits_below : (limit before : ℕ) → List ℕ → Option ℕ
digits_below limit before digits =
    number_if (list_all is_digit digits && nat_lt (value_after before digits) limit)
    (value_after before digits)

-- a lone digit, or digits of which the first isn't 0
abbrev pub has_no_leading_zero : List ℕ → Bool
has_no_leading_zero [] = false
has_no_leading_zero (digit ∷ []) = true
has_no_leading_zero (digit ∷ more ∷ digits) = not (digit == 48)

abbrev pub numeral_if : Bool → ℕ → List ℕ → Option ℕ
numeral_if true limit word = digits_below limit 0 word
numeral_if false limit word = None

-- the number below a limit that a word spells; None where it spells none
unfoldable pub numeral_below : ℕ → List ℕ → Option ℕ
numeral_below limit word = numeral_if (has_no_leading_zero word) limit word
