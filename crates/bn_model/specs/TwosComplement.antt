-- Numbers read as signed ones, in two's complement (Unprivileged ISA, "Integer Computational
-- Instructions" and "Immediate Encoding Variants").
use Rattle.std.specs.Prelude.{ℕ, ◌-◌, ◌%◌, ◌^◌, ℤ, pos, ◌-ℤ◌, nat_lt, if◌then◌else◌}
use Rattle.std.specs.Int.{cast_unsigned, w64}

-- a number of that many bits, as a signed one
abbrev pub signed_of : (count n : ℕ) → ℤ
signed_of count n = if nat_lt n (2 ^ (count - 1)) then pos n else pos n -ℤ pos (2 ^ count)

-- a signed number in 64 bits, which is z modulo 2^64
abbrev pub in_64_bits : ℤ → ℕ
in_64_bits z = cast_unsigned w64 z

-- the low bits of n, so many, extended by their sign to 64 bits
abbrev pub sign_extension : (count n : ℕ) → ℕ
sign_extension count n = in_64_bits (signed_of count (n % 2 ^ count))
