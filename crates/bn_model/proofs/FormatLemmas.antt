-- Each format has a word for all fields in their ranges.
use Rattle.std.proofs.Common.{◌≡◌, ℕ, ◌+◌, ◌-◌, ◌*◌, ◌/◌, ◌%◌, ◌<◌, ◌^◌, suc, refl, arith}
use Rattle.std.specs.Prelude.{ℤ, pos, negsuc, neg_ℤ, ◌≤ℤ◌, ◌<ℤ◌}
use Rattle.std.proofs.lemmas.Int.{ints}
use Rattle.std.proofs.lemmas.Bool.Decides.{nat_tests}
use Rattle.bn_types.specs.declared.reg.Reg.{Reg}
use Rattle.bn_model.specs.InsnRanges.{FitsBits, IsMultipleOf, IsRegister}
use Rattle.bn_model.specs.Encoding.{FormatR, FormatI, FormatS, FormatB, FormatU, FormatJ}
use Rattle.bn_model.specs.Encoding.{FormatShift, FormatShiftW, FormatNumber}
use Rattle.bn_model.proofs.FieldLemmas.{two, FormatR-sum, FormatI-sum, FormatS-sum, FormatB-sum}
use Rattle.bn_model.proofs.FieldLemmas.{FormatU-sum, FormatJ-sum, FormatShift-sum, FormatShiftW-sum}
use Rattle.bn_model.proofs.FieldLemmas.{FormatNumber-sum}

-- the two's complement of z, as a number below 2 * half
abbrev complement : ℕ → ℤ → ℕ
complement half (pos n) = n
complement half (negsuc n) = 2 * half - suc n

complement-range : (half : ℕ) (z : ℤ) → neg_ℤ (pos half) ≤ℤ z → z <ℤ pos half
    → complement half z < 2 * half
complement-range half (pos n) l h = grind (arith, ints)
complement-range half (negsuc n) l h = grind (arith, ints)

two-complement : (half : ℕ) (z : ℤ) → neg_ℤ (pos half) ≤ℤ z → z <ℤ pos half
    → two half (complement half z) ≡ z
two-complement half (pos n) l h = grind (arith, ints, nat_tests)
two-complement half (negsuc n) l h = grind (arith, ints, nat_tests)

complement-even : (half : ℕ) (z : ℤ) → half % 2 ≡ 0 → neg_ℤ (pos half) ≤ℤ z → IsMultipleOf 2 z
    → complement half z % 2 ≡ 0
complement-even half (pos n) e l h = h
complement-even half (negsuc n) e l h = grind (arith, ints)

complement-upper : (z : ℤ) → neg_ℤ (pos (2 ^ 31)) ≤ℤ z → IsMultipleOf 4096 z
    → complement (2 ^ 31) z % 4096 ≡ 0
complement-upper (pos n) l h = h
complement-upper (negsuc n) l h = grind (arith, ints)

pub FormatR-some : (o f g : ℕ) (d a b : Reg) → o < 128 → f < 8 → g < 128 → IsRegister d
    → IsRegister a → IsRegister b → (w : ℕ) × (w < 2 ^ 32) × FormatR w o f g d a b
FormatR-some o f g d a b ho hf hg hd ha hb =
    let w : ℕ = o + f * 2 ^ 12 + g * 2 ^ 25 + d.0 * 2 ^ 7 + a.0 * 2 ^ 15 + b.0 * 2 ^ 20 in
    (w, omega arith, FormatR-sum w o f g d a b ho hf hg hd ha hb refl)

pub FormatI-some : (o f : ℕ) (d a : Reg) (n : ℤ) → o < 128 → f < 8 → IsRegister d → IsRegister a
    → FitsBits 12 n → (w : ℕ) × (w < 2 ^ 32) × FormatI w o f d a n
FormatI-some o f d a n ho hf hd ha hn =
    let x : ℕ = complement 2048 n in
    let hx : x < 2 * 2048 = complement-range 2048 n hn.0 hn.1 in
    let w : ℕ = o + f * 2 ^ 12 + d.0 * 2 ^ 7 + a.0 * 2 ^ 15 + x * 2 ^ 20 in (
      w,
      omega arith,
      FormatI-sum w o f d a n x ho hf hd ha hx (two-complement 2048 n hn.0 hn.1)
          refl,
    )

pub FormatS-some : (o f : ℕ) (a b : Reg) (n : ℤ) → o < 128 → f < 8 → IsRegister a → IsRegister b
    → FitsBits 12 n → (w : ℕ) × (w < 2 ^ 32) × FormatS w o f a b n
FormatS-some o f a b n ho hf ha hb hn =
    let x : ℕ = complement 2048 n in
    let hx : x < 2 * 2048 = complement-range 2048 n hn.0 hn.1 in
    let w : ℕ = o + f * 2 ^ 12 + a.0 * 2 ^ 15 + b.0 * 2 ^ 20 + x % 32 * 2 ^ 7 + x / 32 * 2 ^ 25 in (
      w,
      omega arith,
      FormatS-sum w o f a b n x ho hf ha hb hx (two-complement 2048 n hn.0 hn.1)
          refl,
    )

pub FormatB-some : (o f : ℕ) (a b : Reg) (n : ℤ) → o < 128 → f < 8 → IsRegister a → IsRegister b
    → FitsBits 13 n → IsMultipleOf 2 n → (w : ℕ) × (w < 2 ^ 32) × FormatB w o f a b n
FormatB-some o f a b n ho hf ha hb hn hm =
    let x : ℕ = complement 4096 n in
    let hx : x < 2 * 4096 = complement-range 4096 n hn.0 hn.1 in
    let hy : x % 2 ≡ 0 = complement-even 4096 n refl hn.0 hm in
    let w : ℕ = o + f * 2 ^ 12 + a.0 * 2 ^ 15 + b.0 * 2 ^ 20 + x / 2048 % 2 * 2 ^ 7 +
    x / 2 % 16 * 2 ^ 8 + x / 32 % 64 * 2 ^ 25 + x / 4096 * 2 ^ 31 in (
      w,
      omega arith,
      FormatB-sum w o f a b n x ho hf ha hb hx hy (two-complement 4096 n hn.0 hn.1)
          refl,
    )

pub FormatU-some : (o : ℕ) (d : Reg) (n : ℤ) → o < 128 → IsRegister d → FitsBits 32 n
    → IsMultipleOf 4096 n → (w : ℕ) × (w < 2 ^ 32) × FormatU w o d n
FormatU-some o d n ho hd hn hm =
    let x : ℕ = complement (2 ^ 31) n in
    let hx : x < 2 * (2 ^ 31) = complement-range (2 ^ 31) n hn.0 hn.1 in
    let hy : x % 4096 ≡ 0 = complement-upper n hn.0 hm in
    let w : ℕ = o + d.0 * 2 ^ 7 + x in
    (w, omega arith, FormatU-sum w o d n x ho hd hx hy (two-complement (2 ^ 31) n hn.0 hn.1) refl)

pub FormatJ-some : (o : ℕ) (d : Reg) (n : ℤ) → o < 128 → IsRegister d → FitsBits 21 n
    → IsMultipleOf 2 n → (w : ℕ) × (w < 2 ^ 32) × FormatJ w o d n
FormatJ-some o d n ho hd hn hm =
    let x : ℕ = complement (2 ^ 20) n in
    let hx : x < 2 * (2 ^ 20) = complement-range (2 ^ 20) n hn.0 hn.1 in
    let hy : x % 2 ≡ 0 = complement-even (2 ^ 20) n refl hn.0 hm in
    let w : ℕ = o + d.0 * 2 ^ 7 + x / 4096 % 256 * 2 ^ 12 + x / 2048 % 2 * 2 ^ 20 +
    x / 2 % 1024 * 2 ^ 21 + x / 2 ^ 20 * 2 ^ 31 in
    (w, omega arith, FormatJ-sum w o d n x ho hd hx hy (two-complement (2 ^ 20) n hn.0 hn.1) refl)

pub FormatShift-some : (o f g : ℕ) (d a : Reg) (n : ℕ) → o < 128 → f < 8 → g < 64 → IsRegister d
    → IsRegister a → n < 64 → (w : ℕ) × (w < 2 ^ 32) × FormatShift w o f g d a n
FormatShift-some o f g d a n ho hf hg hd ha hn =
    let w : ℕ = o + f * 2 ^ 12 + g * 2 ^ 26 + d.0 * 2 ^ 7 + a.0 * 2 ^ 15 + n * 2 ^ 20 in
    (w, omega arith, FormatShift-sum w o f g d a n ho hf hg hd ha hn refl)

pub FormatShiftW-some : (o f g : ℕ) (d a : Reg) (n : ℕ) → o < 128 → f < 8 → g < 128 → IsRegister d
    → IsRegister a → n < 32 → (w : ℕ) × (w < 2 ^ 32) × FormatShiftW w o f g d a n
FormatShiftW-some o f g d a n ho hf hg hd ha hn =
    let w : ℕ = o + f * 2 ^ 12 + g * 2 ^ 25 + d.0 * 2 ^ 7 + a.0 * 2 ^ 15 + n * 2 ^ 20 in
    (w, omega arith, FormatShiftW-sum w o f g d a n ho hf hg hd ha hn refl)

pub FormatNumber-some : (o f : ℕ) (d a : Reg) (n : ℕ) → o < 128 → f < 8 → IsRegister d
    → IsRegister a → n < 4096 → (w : ℕ) × (w < 2 ^ 32) × FormatNumber w o f d a n
FormatNumber-some o f d a n ho hf hd ha hn =
    let w : ℕ = o + f * 2 ^ 12 + d.0 * 2 ^ 7 + a.0 * 2 ^ 15 + n * 2 ^ 20 in
    (w, omega arith, FormatNumber-sum w o f d a n ho hf hd ha hn refl)
