-- What a field's text spells.
use Rattle.std.proofs.Common.{◌≡◌, ℕ, zero, suc, ℤ, pos, negsuc, ◌-ℤ◌, to_z, of_z, zero-add, ◌+◌}
use Rattle.std.proofs.Common.{◌-◌, ◌^◌, ◌≤◌, ◌<◌, ◌==◌, ◌&&◌, Bool, true, false, List, [], ◌∷◌}
use Rattle.std.proofs.Common.{length, get_or, drop, Option, Some, None, nat_lt, refl, sym, ◌∙◌, ap}
use Rattle.std.proofs.Common.{arith}
use Rattle.std.proofs.lemmas.Bool.Decides.{nat_tests}
use Rattle.std.proofs.lemmas.Int.{to_z-of_z, to_z_pos}
use Rattle.std.proofs.lemmas.Slice.Eq.{bytes_eq-Decides}
use Rattle.std.specs.Fmt.{decimal}
use Rattle.std.specs.Int.{w64}
use Rattle.std.specs.List.{list_all}
use Rattle.std.specs.Str.{bytes_eq}
use Rattle.bn_types.specs.Numerals.{number_if, numeral_below}
use Rattle.bn_types.proofs.NumeralLemmas.{numeral_narrow, numeral_parts, numeral_spelled}
use Rattle.bn_model.specs.LineReading.{guess, is_byte, is_in, spelled_value, value_if, value_of}
use Rattle.bn_model.specs.LineShapes.{Code, Decimal, Sha}

pub same_bytes : (a b : List ℕ) → a ≡ b → bytes_eq a b ≡ true
same_bytes a b e = grind (arith, bytes_eq-Decides a b)

-- ---- numbers

pub number_found : (limit number : ℕ) (piece : List ℕ) → limit ≤ 2 ^ 64
    → numeral_below limit piece ≡ Some number →
    value_of (Decimal limit) piece ≡ Some number
unfolding value_of
number_found limit number piece small h =
    let below : nat_lt number limit ≡ true =
    (let l : number < limit = (numeral_parts limit number piece h).below in
    grind (arith, nat_tests)) in
    rw (h, below, same_bytes (decimal number) piece (numeral_spelled limit number piece small h))
    refl

pub number_missing : (limit : ℕ) (piece : List ℕ) → numeral_below limit piece ≡ None
    → value_of (Decimal limit) piece ≡ None
unfolding value_of
number_missing limit piece h = rw h refl

narrowed : (wide limit number : ℕ) (piece : List ℕ) → numeral_below wide piece ≡ Some number
    → (below : Bool) → nat_lt number limit ≡ below →
    numeral_below limit piece ≡ number_if below number
narrowed wide limit number piece h below e = numeral_narrow wide limit number piece h ∙ rw e refl

pub number_within : (wide limit number : ℕ) (piece : List ℕ)
    → numeral_below wide piece ≡ Some number → number < limit →
    numeral_below limit piece ≡ Some number
number_within wide limit number piece h below =
    narrowed wide limit number piece h true (grind (arith, nat_tests))

pub number_beyond : (wide limit number : ℕ) (piece : List ℕ)
    → numeral_below wide piece ≡ Some number → limit ≤ number →
    numeral_below limit piece ≡ None
number_beyond wide limit number piece h above =
    narrowed wide limit number piece h false (grind (arith, nat_tests))

-- ---- codes

pub code_missing : (digits : List ℕ) → numeral_below (2 ^ 63 + 1) digits ≡ None
    → value_of Code (45 ∷ digits) ≡ None
unfolding value_of
code_missing digits h = rw h refl

pub code_zero : (digits : List ℕ) → numeral_below (2 ^ 63 + 1) digits ≡ Some 0
    → value_of Code (45 ∷ digits) ≡ None
unfolding value_of
code_zero digits h = rw h refl

pub code_found : (code : ℕ) (digits : List ℕ) → numeral_below (2 ^ 63 + 1) digits ≡ Some (suc code)
    → value_of Code (45 ∷ digits) ≡ Some (negsuc code)
unfolding value_of
code_found code digits h =
    let below : nat_lt code (2 ^ 63) ≡ true =
    (let l : suc code < 2 ^ 63 + 1 = (numeral_parts (2 ^ 63 + 1) (suc code) digits h).below in
    grind (arith, nat_tests)) in
    rw (
      h,
      below,
      same_bytes (decimal (suc code)) digits
          (numeral_spelled (2 ^ 63 + 1) (suc code) digits (omega arith) h),
    ) refl

-- ---- digests

pub all_bytes : (bytes : List ℕ) → ((i : ℕ) → get_or bytes i 0 < 256)
    → list_all is_byte bytes ≡ true
all_bytes [] h = refl
all_bytes (byte ∷ bytes) h =
    let first : nat_lt byte 256 ≡ true = (let l : byte < 256 = h 0 in grind (arith, nat_tests)) in
    rw first (all_bytes bytes (λ i. h (suc i)))

pub digest_in : (bytes : List ℕ) → length bytes ≡ 32 → ((i : ℕ) → get_or bytes i 0 < 256)
    → is_in Sha bytes ≡ true
digest_in bytes long h =
    let same : (length bytes == 32) ≡ true = grind (arith, nat_tests) in
    rw (same, all_bytes bytes h) refl

-- ---- signs

sub_pos : (m : ℕ) → negsuc 0 -ℤ pos m ≡ negsuc m
sub_pos zero = refl
sub_pos (suc n) = ap (λ (k : ℕ). negsuc (suc k)) (zero-add n)

pub code_value : (n : ℕ) → 0 < n → n ≤ 2 ^ 63
    → to_z w64 (of_z w64 (negsuc 0 -ℤ to_z w64 (n - 1))) ≡ negsuc (n - 1)
code_value n some most =
    let small : n - 1 < 2 ^ 63 = omega arith in
    rw (to_z_pos w64 (n - 1) small, sub_pos (n - 1))
    (to_z-of_z w64 (negsuc (n - 1)) (record { sfits = small }))

pub code_spelled : (n : ℕ) (digits : List ℕ) → 0 < n → n ≤ 2 ^ 63
    → numeral_below (2 ^ 63 + 1) digits ≡ Some n →
    value_of Code (45 ∷ digits) ≡ Some (to_z w64 (of_z w64 (negsuc 0 -ℤ to_z w64 (n - 1))))
code_spelled n digits some most h =
    let whole : n ≡ suc (n - 1) = omega arith in
    code_found (n - 1) digits (h ∙ ap Some whole) ∙ ap Some (sym (code_value n some most))

-- a piece with no minus sign in front
pub no_minus : (piece : List ℕ) → (get_or piece 0 0 == 45) ≡ false → value_of Code piece ≡ None
unfolding value_of
no_minus piece other = go (guess Code piece)
  where
    unlike : (piece digits : List ℕ) → (get_or piece 0 0 == 45) ≡ false
        → bytes_eq (45 ∷ digits) piece ≡ false
    unlike [] digits e = refl
    unlike (byte ∷ rest) digits e = grind (arith, nat_tests)

    none_and : (below : Bool) (code : ℕ) → value_if (below && false) (negsuc code) ≡ None
    none_and true code = refl
    none_and false code = refl

    go : (found : Option ℤ) → spelled_value Code piece found ≡ None
    go None = refl
    go (Some (pos code)) = refl
    go (Some (negsuc code)) =
        rw (unlike piece (decimal (suc code)) other) (none_and (nat_lt code (2 ^ 63)) code)

pub with_minus : (piece : List ℕ) → 0 < length piece → get_or piece 0 0 ≡ 45
    → (45 ∷ drop 1 piece) ≡ piece
with_minus [] some e = grind arith
with_minus (byte ∷ rest) some e = ap (λ (x : ℕ). x ∷ rest) (sym e)

pub code_refused : (n : ℕ) (digits : List ℕ) → numeral_below (2 ^ 64) digits ≡ Some n
    → (0 < n → 2 ^ 63 < n) → value_of Code (45 ∷ digits) ≡ None
code_refused zero digits h past =
    code_zero digits (number_within (2 ^ 64) (2 ^ 63 + 1) 0 digits h (omega arith))
code_refused (suc m) digits h past =
    let beyond : 2 ^ 63 < suc m = past (omega arith) in
    code_missing digits (number_beyond (2 ^ 64) (2 ^ 63 + 1) (suc m) digits h
    (omega (arith, beyond)))
