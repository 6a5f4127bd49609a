-- Laws of numbers that stand in pages.
use Rattle.std.proofs.Common.{◌≡◌, ℕ, ◌+◌, ◌-◌, ◌*◌, ◌%◌, ◌^◌, ◌<◌, ◌≤◌, ◌⊎◌, List, [], length}
use Rattle.std.proofs.Common.{take, drop, get_or, ◌++◌, inl, inr, refl, sym, ap, ◌∙◌, arith}
use Rattle.std.proofs.Common.{zero-add}
use Rattle.std.proofs.lemmas.List.{get_or-drop, get_or-take, get_or_append_left}
use Rattle.std.proofs.lemmas.List.{get_or-append_right, length-take-le, length-append, length-drop}
use Rattle.std.proofs.lemmas.List.{get_or-replicate, length-replicate}
use Rattle.std.proofs.lemmas.Nat.{from_le_bytes-to_le_bytes_2, from_le_bytes-to_le_bytes_4}
use Rattle.std.proofs.lemmas.Nat.{from_le_bytes-to_le_bytes_8}
use Rattle.bn_types.specs.Numbers.{bytes_of, number_at, with_number, zero_page, low_bytes}
use Rattle.bn_types.specs.declared.width.Width.{Width}
use Rattle.bn_types.specs.declared.width.Width.TheVariants.{B1, B2, B4, B8}

-- a number is a matter of its own bytes
pub number_at-same : (width : Width) (p q : List ℕ) (o r : ℕ)
    → ((k : ℕ) → k < bytes_of width → get_or p (o + k) 0 ≡ get_or q (r + k) 0)
    → number_at width p o ≡ number_at width q r
unfolding number_at
number_at-same width p q o r e = at width slot where
  slot : (k : ℕ) → k < bytes_of width → get_or (drop o p) k 0 ≡ get_or (drop r q) k 0
  slot k h = get_or-drop o p k 0 ∙ e k h ∙ sym (get_or-drop r q k 0)

  at : (w : Width) → ((k : ℕ) → k < bytes_of w → get_or (drop o p) k 0 ≡ get_or (drop r q) k 0)
      → number_at w p o ≡ number_at w q r
  at B1 s = s 0 (omega arith)
  at B2 s = rw (s 0 (omega arith), s 1 (omega arith)) refl
  at B4 s = rw (s 0 (omega arith), s 1 (omega arith), s 2 (omega arith), s 3 (omega arith)) refl
  at B8 s =
      rw (
        s 0 (omega arith),
        s 1 (omega arith),
        s 2 (omega arith),
        s 3 (omega arith),
        s 4 (omega arith),
        s 5 (omega arith),
        s 6 (omega arith),
        s 7 (omega arith),
      ) refl

length-low_bytes : (width : Width) (v : ℕ) → length (low_bytes width v) ≡ bytes_of width
length-low_bytes B1 v = refl
length-low_bytes B2 v = refl
length-low_bytes B4 v = refl
length-low_bytes B8 v = refl

-- a page keeps its size
pub length-with_number : (width : Width) (page : List ℕ) (o v : ℕ)
    → o + bytes_of width ≤ length page
    → length (with_number width page o v) ≡ length page
unfolding with_number
length-with_number width page o v h =
    let front : length (take o page) ≡ o = length-take-le o page (omega arith) in
    let bytes = length-low_bytes width v in
    simp (length-append, length-drop) (omega arith)

-- the bytes that were written
byte-written : (width : Width) (page : List ℕ) (o v k : ℕ) → o + bytes_of width ≤ length page
    → k < bytes_of width
    → get_or (with_number width page o v) (o + k) 0 ≡ get_or (low_bytes width v) k 0
unfolding with_number
byte-written width page o v k h lt =
    let front : length (take o page) ≡ o = length-take-le o page (omega arith) in
    let bytes = length-low_bytes width v in
    let both = length-append (take o page) (low_bytes width v) in
    let first : get_or (take o page ++ low_bytes width v ++ drop (o + bytes_of width) page) (o + k)
    0 ≡ get_or (take o page ++ low_bytes width v) (o + k) 0 =
    get_or_append_left (take o page ++ low_bytes width v) (drop (o + bytes_of width) page) 0 (o + k)
    (omega arith) in
    let second : get_or (take o page ++ low_bytes width v) (o + k) 0 ≡
    get_or (low_bytes width v) (o + k - o) 0 =
    get_or-append_right (take o page) (low_bytes width v) o (o + k) 0 front (omega arith) in
    let place : o + k - o ≡ k = omega arith in
    first ∙ second ∙ ap (λ n. get_or (low_bytes width v) n 0) place

-- the bytes before and after
pub byte-kept : (width : Width) (page : List ℕ) (o v k : ℕ) → o + bytes_of width ≤ length page
    → (k < o) ⊎ (o + bytes_of width ≤ k) → get_or (with_number width page o v) k 0 ≡ get_or page k 0
unfolding with_number
byte-kept width page o v k h (inl before) =
    let front : length (take o page) ≡ o = length-take-le o page (omega arith) in
    let both = length-append (take o page) (low_bytes width v) in
    get_or_append_left (take o page ++ low_bytes width v) (drop (o + bytes_of width) page) 0 k
    (omega arith)
    ∙ get_or_append_left (take o page) (low_bytes width v) 0 k (omega arith)
    ∙ get_or-take o page k 0 before
byte-kept width page o v k h (inr after) =
    let front : length (take o page) ≡ o = length-take-le o page (omega arith) in
    let bytes = length-low_bytes width v in
    let both = length-append (take o page) (low_bytes width v) in
    let n = o + bytes_of width in
    let place : n + (k - n) ≡ k = omega arith in
    get_or-append_right (take o page ++ low_bytes width v) (drop n page) n k 0 (omega arith) after
    ∙ get_or-drop n page (k - n) 0
    ∙ ap (λ i. get_or page i 0) place

-- what was written is read
pub number_at-with_number : (width : Width) (page : List ℕ) (o v : ℕ)
    → o + bytes_of width ≤ length page
    → number_at width (with_number width page o v) o ≡ v % 2 ^ (8 * bytes_of width)
unfolding number_at
number_at-with_number width page o v h =
    number_at-same width (with_number width page o v) (low_bytes width v) o 0
    (λ k lt. byte-written width page o v k h lt
    ∙ ap (λ i. get_or (low_bytes width v) i 0) (sym (zero-add k)))
    ∙ back width
  where
    back : (w : Width) → number_at w (low_bytes w v) 0 ≡ v % 2 ^ (8 * bytes_of w)
    back B1 = omega arith
    back B2 = from_le_bytes-to_le_bytes_2 (v % 2 ^ 16) (omega arith)
    back B4 = from_le_bytes-to_le_bytes_4 (v % 2 ^ 32) (omega arith)
    back B8 = from_le_bytes-to_le_bytes_8 (v % 2 ^ 64) (omega arith)

-- a number elsewhere in the page stays
pub number_at-elsewhere : (width wide : Width) (page : List ℕ) (o r v : ℕ)
    → o + bytes_of width ≤ length page
    → (r + bytes_of wide ≤ o) ⊎ (o + bytes_of width ≤ r)
    → number_at wide (with_number width page o v) r ≡ number_at wide page r
number_at-elsewhere width wide page o r v h (inl before) =
    number_at-same wide (with_number width page o v) page r r
    (λ k lt. byte-kept width page o v (r + k) h (inl (omega arith)))
number_at-elsewhere width wide page o r v h (inr after) =
    number_at-same wide (with_number width page o v) page r r
    (λ k lt. byte-kept width page o v (r + k) h (inr (omega arith)))

pub length-zero_page : length zero_page ≡ 4096
unfolding zero_page
length-zero_page = length-replicate {A = ℕ} 4096 0

byte-zero_page : (k : ℕ) → k < 4096 → get_or zero_page k 0 ≡ 0
unfolding zero_page
byte-zero_page k h = get_or-replicate 4096 k 0 0 h

-- a page of zeros holds zeros
pub number_at-zero_page : (width : Width) (o : ℕ) → o + bytes_of width ≤ 4096
    → number_at width zero_page o ≡ 0
unfolding number_at
number_at-zero_page width o h =
    number_at-same width zero_page [] o 0 (λ k lt. byte-zero_page (o + k) (omega arith))
    ∙ none width
  where
    none : (w : Width) → number_at w [] 0 ≡ 0
    none B1 = refl
    none B2 = refl
    none B4 = refl
    none B8 = refl

-- a number of one byte
pub number_at-byte : (page : List ℕ) (offset : ℕ) → number_at B1 page offset ≡ get_or page offset 0
unfolding number_at
number_at-byte page offset =
    let first : get_or (drop offset page) 0 0 ≡ get_or page offset 0 = get_or-drop offset page 0 0
    ∙ ap (λ n. get_or page n 0) (omega arith) in
    omega arith
