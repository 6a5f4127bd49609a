-- What a field's text spells, and what is spelled: each is the other.
use Rattle.std.proofs.Common.{◌≡◌, ℕ, zero, suc, ℤ, pos, negsuc, ◌+◌, ◌/◌, ◌%◌, ◌^◌, ◌≤◌, ◌<◌, ◌==◌}
use Rattle.std.proofs.Common.{◌&&◌, Bool, true, false, List, [], ◌∷◌, ◌++◌, length, get_or, drop}
use Rattle.std.proofs.Common.{Option, Some, None, nat_lt, nat_le, refl, ap, arith, subst}
use Rattle.std.proofs.lemmas.Bool.{false≢true}
use Rattle.std.proofs.lemmas.Bool.Decides.{nat_tests}
use Rattle.std.proofs.lemmas.Nat.{from_be_bytes-to_be_bytes_8}
use Rattle.std.proofs.lemmas.Option.{none-some}
use Rattle.std.proofs.lemmas.Slice.Eq.{bytes_eq-Decides}
use Rattle.std.specs.Fmt.{decimal}
use Rattle.std.specs.Int.{byte_at, bytes_high_first, to_be_bytes, w64}
use Rattle.std.specs.List.{list_all}
use Rattle.std.specs.Prelude.{codes}
use Rattle.std.specs.Str.{bytes_eq}
use Rattle.hex.proofs.HexLemmas.{decode_sized-encode_lower}
use Rattle.hex.specs.Hex.{encode_lower, encode_with, IsBytes, lower_digits}
use Rattle.bn_types.proofs.NumeralLemmas.{numeral_again, numeral_parts}
use Rattle.bn_types.specs.Numerals.{is_digit}
use Rattle.bn_types.specs.declared.finish.Finish.TheVariants as finish
use Rattle.bn_types.specs.declared.kind.Kind.TheVariants as kind
use Rattle.bn_types.specs.declared.request.Request.TheVariants as request
use Rattle.bn_model.specs.LineReading.{guess, is_byte, is_in, spelled_value, value_if, value_of}
use Rattle.bn_model.specs.LineShapes.{Field, Decimal, Byte, Page, Word, Sha, Code, Access, Asked}
use Rattle.bn_model.specs.LineShapes.{Ended, ValueOf}
use Rattle.bn_model.specs.Spelling.{field_text, page_digits, word_digits}
use Rattle.bn_trace.proofs.ValueLemmas.{same_bytes}

-- numbers of at most 64 bits
abbrev pub is_narrow : Field → Bool
is_narrow (Decimal limit) = nat_le limit (2 ^ 64)
is_narrow Byte = true
is_narrow Page = true
is_narrow Word = true
is_narrow Sha = true
is_narrow Code = true
is_narrow Access = true
is_narrow Asked = true
is_narrow Ended = true

pub both : (a b : Bool) → (a && b) ≡ true → (a ≡ true) × (b ≡ true)
both true b h = (refl, h)
both false b h = absurd (false≢true h)

below_from : (m n : ℕ) → nat_lt m n ≡ true → m < n
below_from m n h = grind (arith, nat_tests)

-- ---- the guess is right

byte_below : (k n : ℕ) → byte_at k n < 256
byte_below zero n = omega arith
byte_below (suc k) n = omega arith

high_bytes : (k n : ℕ) → IsBytes (bytes_high_first k n)
high_bytes zero n i = grind arith
high_bytes (suc k) n zero = byte_below k n
high_bytes (suc k) n (suc i) = high_bytes k n i

word_bytes : (word : ℕ) → IsBytes (to_be_bytes w64 word)
word_bytes word = high_bytes 8 word

bytes_from : (bytes : List ℕ) → list_all is_byte bytes ≡ true → IsBytes bytes
bytes_from [] h i = grind arith
bytes_from (byte ∷ bytes) h zero =
    below_from byte 256 (both (nat_lt byte 256) (list_all is_byte bytes) h).0
bytes_from (byte ∷ bytes) h (suc i) =
    bytes_from bytes (both (nat_lt byte 256) (list_all is_byte bytes) h).1 i

word_again : (word : ℕ) → word < 2 ^ 64 → guess Word (word_digits word) ≡ Some word
word_again word fits =
    rw (decode_sized-encode_lower (to_be_bytes w64 word) 8 refl (word_bytes word))
    (ap Some (from_be_bytes-to_be_bytes_8 word fits))

-- a word whose first three digits are 0
padded : (first second : ℕ) (bytes : List ℕ) → first ≡ 0 → second / 16 ≡ 0 →
    codes "000" ++ drop 3 (encode_lower (first ∷ second ∷ bytes)) ≡
    encode_lower (first ∷ second ∷ bytes)
unfolding encode_with
padded first second bytes e f = rw (e, f) refl

page_padded : (page : ℕ) → page < 2 ^ 52 → codes "000" ++ page_digits page ≡ word_digits page
page_padded page fits =
    padded (byte_at 7 page) (byte_at 6 page) (bytes_high_first 6 page) (omega arith) (omega arith)

code_again : (code : ℤ) → is_in Code code ≡ true → guess Code (field_text Code code) ≡ Some code
code_again (pos code) h = absurd (false≢true h)
code_again (negsuc code) h =
    let below : code < 2 ^ 63 = below_from code (2 ^ 63) h in
    rw (numeral_again (2 ^ 63 + 1) (suc code) (omega arith) (omega (arith, below))) refl

guess_again : (field : Field) (value : ValueOf field) → is_narrow field ≡ true
    → is_in field value ≡ true →
    guess field (field_text field value) ≡ Some value
unfolding encode_with
guess_again (Decimal limit) number small within =
    let narrow : limit ≤ 2 ^ 64 = grind (arith, nat_tests) in
    numeral_again limit number narrow (below_from number limit within)
guess_again Byte byte small within =
    let below : byte < 256 = below_from byte 256 within in
    rw (decode_sized-encode_lower (byte ∷ []) 1 refl (one below)) refl
  where
    one : byte < 256 → IsBytes (byte ∷ [])
    one below zero = below
    one below (suc i) = grind arith
guess_again Page page small within =
    let below : page < 2 ^ 52 = below_from page (2 ^ 52) within in
    rw (page_padded page below) (word_again page (omega (arith, below)))
guess_again Word word small within = word_again word (below_from word (2 ^ 64) within)
guess_again Sha digest small within =
    let parts = both (length digest == 32) (list_all is_byte digest) within in
    let long : length digest ≡ 32 = (let t = parts.0 in grind (arith, nat_tests)) in
    rw (decode_sized-encode_lower digest 32 long (bytes_from digest parts.1)) refl
guess_again Code code small within = code_again code within
guess_again Access kind.Fetch small within = refl
guess_again Access kind.Load small within = refl
guess_again Access kind.Store small within = refl
guess_again Asked request.Launch small within = refl
guess_again Asked request.Call small within = refl
guess_again Asked request.Evict small within = refl
guess_again Asked request.Sset small within = refl
guess_again Ended finish.Shutdown small within = refl
guess_again Ended finish.Limit small within = refl

-- what is spelled is read
pub value_again : (field : Field) (value : ValueOf field) → is_narrow field ≡ true
    → is_in field value ≡ true →
    value_of field (field_text field value) ≡ Some value
unfolding value_of
value_again field value small within =
    rw (
      guess_again field value small within,
      within,
      same_bytes (field_text field value) (field_text field value) refl,
    ) refl

-- what is read is spelled
pub value_found : (field : Field) (value : ValueOf field) (piece : List ℕ)
    → value_of field piece ≡ Some value →
    (is_in field value ≡ true) × (field_text field value ≡ piece)
unfolding value_of
value_found field value piece h = go (guess field piece) h
  where
    tested : (found : ValueOf field) → (test : Bool)
        → (is_in field found && bytes_eq (field_text field found) piece) ≡ test →
        value_if test found ≡ Some value
        → (is_in field value ≡ true) × (field_text field value ≡ piece)
    tested found true e same =
        let parts = both (is_in field found) (bytes_eq (field_text field found) piece) e in
        let text : field_text field found ≡ piece =
        (let t = parts.1 in grind (arith, bytes_eq-Decides (field_text field found) piece)) in
        let is : found ≡ value = grind arith in (
          subst (λ (v : ValueOf field). is_in field v ≡ true) is parts.0,
          subst (λ (v : ValueOf field). field_text field v ≡ piece) is text,
        )
    tested found false e same = absurd (none-some value same)

    go : (found : Option (ValueOf field)) → spelled_value field piece found ≡ Some value →
        (is_in field value ≡ true) × (field_text field value ≡ piece)
    go None same = absurd (none-some value same)
    go (Some found) same = tested found _ refl same

-- ---- no field has a space or a line feed in it

abbrev pub is_plain_byte : ℕ → Bool
is_plain_byte byte = nat_lt 32 byte

abbrev pub is_plain : List ℕ → Bool
is_plain text = list_all is_plain_byte text

digits_plain : (digits : List ℕ) → list_all is_digit digits ≡ true → is_plain digits ≡ true
digits_plain [] h = refl
digits_plain (digit ∷ digits) h =
    let parts = both (is_digit digit) (list_all is_digit digits) h in
    let first : nat_lt 32 digit ≡ true = (let t = parts.0 in grind (arith, nat_tests)) in
    rw first (digits_plain digits parts.1)

decimal_plain : (number : ℕ) → number < 2 ^ 64 → is_plain (decimal number) ≡ true
decimal_plain number fits =
    digits_plain (decimal number)
    (numeral_parts (2 ^ 64) number (decimal number)
    (numeral_again (2 ^ 64) number (omega arith) fits)).digits

all_at : (text : List ℕ) (i : ℕ) → is_plain text ≡ true → i < length text
    → nat_lt 32 (get_or text i 0) ≡ true
all_at [] i h within = grind arith
all_at (byte ∷ text) zero h within = (both (nat_lt 32 byte) (is_plain text) h).0
all_at (byte ∷ text) (suc i) h within =
    all_at text i (both (nat_lt 32 byte) (is_plain text) h).1 (omega arith)

digit_plain : (d : ℕ) → d < 16 → nat_lt 32 (get_or lower_digits d 0) ≡ true
digit_plain d small = all_at lower_digits d refl small

hex_plain : (bytes : List ℕ) → IsBytes bytes → is_plain (encode_lower bytes) ≡ true
unfolding encode_with
hex_plain [] h = refl
hex_plain (byte ∷ bytes) h =
    let below : byte < 256 = h 0 in
    rw (digit_plain (byte / 16) (omega (arith, below)), digit_plain (byte % 16) (omega arith))
    (hex_plain bytes (λ i. h (suc i)))

drop_plain : (n : ℕ) (text : List ℕ) → is_plain text ≡ true → is_plain (drop n text) ≡ true
drop_plain zero text h = h
drop_plain (suc n) [] h = refl
drop_plain (suc n) (byte ∷ text) h = drop_plain n text (both (nat_lt 32 byte) (is_plain text) h).1

code_plain : (code : ℤ) → is_in Code code ≡ true → is_plain (field_text Code code) ≡ true
code_plain (pos code) h = absurd (false≢true h)
code_plain (negsuc code) h =
    let below : code < 2 ^ 63 = below_from code (2 ^ 63) h in
    decimal_plain (suc code) (omega (arith, below))

pub field_plain : (field : Field) (value : ValueOf field) → is_narrow field ≡ true
    → is_in field value ≡ true →
    is_plain (field_text field value) ≡ true
field_plain (Decimal limit) number small within =
    let narrow : limit ≤ 2 ^ 64 = grind (arith, nat_tests) in
    let below = below_from number limit within in
    decimal_plain number (omega (arith, below))
field_plain Byte byte small within = hex_plain (byte ∷ []) one
  where
    one : IsBytes (byte ∷ [])
    one zero = below_from byte 256 within
    one (suc i) = grind arith
field_plain Page page small within =
    drop_plain 3 (word_digits page) (hex_plain (to_be_bytes w64 page) (word_bytes page))
field_plain Word word small within = hex_plain (to_be_bytes w64 word) (word_bytes word)
field_plain Sha digest small within =
    hex_plain digest (bytes_from digest
    (both (length digest == 32) (list_all is_byte digest) within).1)
field_plain Code code small within = code_plain code within
field_plain Access kind.Fetch small within = refl
field_plain Access kind.Load small within = refl
field_plain Access kind.Store small within = refl
field_plain Asked request.Launch small within = refl
field_plain Asked request.Call small within = refl
field_plain Asked request.Evict small within = refl
field_plain Asked request.Sset small within = refl
field_plain Ended finish.Shutdown small within = refl
field_plain Ended finish.Limit small within = refl
