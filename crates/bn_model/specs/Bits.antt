-- Single bits of a number.
use Rattle.std.specs.Prelude.{ℕ, ◌*◌, ◌^◌, ◌==◌, Bool}
use Rattle.std.specs.Int.{bit_at, from_bool}

-- whether the bit at a place is 1
abbrev pub is_set : ℕ → ℕ → Bool
is_set number place = bit_at number place == 1

-- a bit in its place
abbrev pub flag : ℕ → Bool → ℕ
flag place set = from_bool set * 2 ^ place
