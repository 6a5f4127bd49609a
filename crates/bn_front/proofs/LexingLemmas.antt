-- How a word begins, as clap tells it.
use Rattle.std.proofs.Common.{◌≡◌, ◌∙◌, ℕ, suc, ◌+◌, ◌==◌, Bool, true, false, List, [], ◌∷◌}
use Rattle.std.proofs.Common.{Option, Some}
use Rattle.std.proofs.Common.{None, refl, sym, ap, arith, cond, length}
use Rattle.std.specs.Prelude.{drop, slice_get, take}
use Rattle.std.specs.List.{position_or_len}
use Rattle.std.specs.Str.{bytes_eq, chars, encode_utf8_all, is_utf8}
use Rattle.std.proofs.lemmas.Bool.Decides.{nat_tests}
use Rattle.std.proofs.lemmas.Str.{IsUtf8-from_is_utf8, encodes-chars}
use Rattle.clap.specs.Lexer.{has_byte, long_of, name_and_value, short_of}
use Rattle.bn_model.specs.CommandLines as flat

-- ---- cuts

abbrev is_mark : ℕ → Bool
is_mark byte = byte == 61

abbrev cut_as : List ℕ × Option (List ℕ) → flat.Cut
cut_as parts = record { name = parts.0; value = parts.1 }

-- the code's cut past a byte that is no `=`
past : (byte : ℕ) (text : List ℕ)
    → (byte == 61) ≡ false
    → name_and_value (byte ∷ text) ≡ (byte ∷ (name_and_value text).0, (name_and_value text).1)
past byte text no_mark = rw no_mark (by_len (position_or_len is_mark text) (has_byte 61 text))
  where
    by_len : (n : ℕ) (has : Bool) → ◌≡◌ {A = List ℕ × Option (List ℕ)}
        (take (1 + n) (byte ∷ text), cond has (Some (drop (1 + n + 1) (byte ∷ text))) None)
        (byte ∷ take n text, cond has (Some (drop (n + 1) text)) None)
    by_len n has =
        let first : 1 + n ≡ suc n = omega arith in
        let second : suc n + 1 ≡ suc (n + 1) = omega arith in
        rw (first, second) refl

pub cut_is : (text : List ℕ) → flat.cut text ≡ cut_as (name_and_value text)
unfolding flat.cut
cut_is [] = refl
cut_is (byte ∷ text) = by_test (byte == 61) refl (cut_is text) where
  by_test : (t : Bool) → (byte == 61) ≡ t → flat.cut text ≡ cut_as (name_and_value text)
      → flat.cut_if (byte == 61) byte text (flat.cut text)
      ≡ cut_as (name_and_value (byte ∷ text))
  by_test true e again = rw e refl
  by_test false e again = ap (λ (t : Bool). flat.cut_if t byte text (flat.cut text)) e
      ∙ ap (flat.cut_if false byte text) again ∙ sym (ap cut_as (past byte text e))

-- ---- forms

abbrev pub dashes : List ℕ
dashes = 45 ∷ 45 ∷ []

-- what clap's lexer makes of a word of this form
abbrev pub Lexes : flat.Form → List ℕ → Type 0
Lexes flat.Ordinary word = (bytes_eq word dashes ≡ false) × (long_of word ≡ None)
    × (short_of word ≡ None)
Lexes flat.Mark word = bytes_eq word dashes ≡ true
Lexes flat.Short word = (bytes_eq word dashes ≡ false) × (long_of word ≡ None)
    × ((letter : ℕ) × (letters : List ℕ) × (short_of word ≡ Some (letter ∷ letters))
    × (word ≡ 45 ∷ letter ∷ letters))
Lexes (flat.Long parts) word = (bytes_eq word dashes ≡ false)
    × (long_of word ≡ Some (parts.name, parts.value))

pub lexed : (word : List ℕ) → Lexes (flat.form_of word) word
unfolding flat.form_of
lexed [] = (refl, refl, refl)
lexed (first ∷ []) = one (first == 45) refl where
  one : (t : Bool) → (first == 45) ≡ t → Lexes flat.Ordinary (first ∷ [])
  one true e = (rw e refl, rw e refl, rw e refl)
  one false e = (rw e refl, rw e refl, rw e refl)
lexed (first ∷ second ∷ text) = by_tests (first == 45) (second == 45) refl refl text where
  by_tests : (t u : Bool) → (first == 45) ≡ t → (second == 45) ≡ u → (text : List ℕ)
      → Lexes (flat.form_if (first == 45) (second == 45) text) (first ∷ second ∷ text)
  by_tests false u e f text = rw e (rw e refl, rw e refl, rw e refl)
  by_tests true false e f text = rw (e, f) (
    rw (e, f) refl,
    rw (e, f) refl,
    (second, text, rw (e, f) refl, ap (λ (n : ℕ). n ∷ second ∷ text) (grind (arith, nat_tests))),
  )
  by_tests true true e f [] = rw (e, f) (rw (e, f) refl)
  by_tests true true e f (third ∷ text) = rw (e, f) (
    rw (e, f) refl,
    rw (e, f) (ap (λ (c : flat.Cut). Some (c.name, c.value)) (sym (cut_is (third ∷ text)))),
  )

-- ---- a word with one dash has a letter

pub some_chars : (letter : ℕ) (letters : List ℕ) → is_utf8 (45 ∷ letter ∷ letters) ≡ true
    → (x : ℕ) × (slice_get (chars (letter ∷ letters)) 0 ≡ Some x)
unfolding chars lib.Utf8.encode
some_chars letter letters text =
    go (chars (letter ∷ letters)) refl
    (encodes-chars (45 ∷ letter ∷ letters) (IsUtf8-from_is_utf8 (45 ∷ letter ∷ letters) text))
  where
    go : (cs : List ℕ) → chars (letter ∷ letters) ≡ cs
        → encode_utf8_all (45 ∷ chars (letter ∷ letters)) ≡ 45 ∷ letter ∷ letters
        → (x : ℕ) × (slice_get (chars (letter ∷ letters)) 0 ≡ Some x)
    go [] e same =
        let short : length (encode_utf8_all (45 ∷ [])) ≡ length (45 ∷ letter ∷ letters) =
        ap (λ (cs : List ℕ). length (encode_utf8_all (45 ∷ cs))) (sym e) ∙ ap length same in
        let one : 1 ≡ suc (suc (length letters)) = short in
        absurd (omega (arith, one))
    go (x ∷ cs) e same = (x, ap (λ (all : List ℕ). slice_get all 0) e)
