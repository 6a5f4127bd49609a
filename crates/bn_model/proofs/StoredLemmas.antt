-- The stored image of records is read as these records, and no other text is.
use Rattle.std.proofs.Common.{◌≡◌, ℕ, zero, suc, ◌+◌, ◌*◌, ◌<◌, ◌≤◌, ◌^◌, ◌==◌, Bool, true, false}
use Rattle.std.proofs.Common.{List, [], ◌∷◌, ◌++◌, Option, Some, None, All, length, take, drop}
use Rattle.std.proofs.Common.{get_or, nat_lt, refl, sym, ◌∙◌, ap, subst, append_assoc, arith}
use Rattle.std.proofs.Common.{length-append, length-drop, take-append-drop, get_or-drop, take-add}
use Rattle.std.proofs.lemmas.Bool.Decides.{nat_tests}
use Rattle.std.proofs.lemmas.List.{take-append-le, length-take-le, take_all, drop-drop}
use Rattle.std.proofs.lemmas.List.Elements.{All-nil, All-cons, All-head, All-tail}
use Rattle.std.proofs.lemmas.Nat.{le_bytes_8, from_le_bytes-to_le_bytes_8}
use Rattle.std.proofs.lemmas.Option.{none-some}
use Rattle.std.specs.Int.{from_le_bytes, to_le_bytes, w64}
use Rattle.std.specs.declared.cmp.Ordering.{Ordering}
use Rattle.std.specs.declared.cmp.Ordering.TheVariants.{Less, Equal, Greater}
use Rattle.bn_types.specs.declared.digest.Digest.{Digest}
use Rattle.bn_types.specs.declared.record.Record.{Record}
use Rattle.bn_model.specs.Records.{identity_order, IsWhole, AreAbove, Ascend, AreRecords}
use Rattle.bn_model.specs.StoredImages.{store_magic, words_text, record_text, records_text}
use Rattle.bn_model.specs.StoredImages.{image_of, Malformed, Stored, words_in, record_of}
use Rattle.bn_model.specs.StoredImages.{records_in, count_in, image_size, magic_fault, length_fault}
use Rattle.bn_model.specs.StoredImages.{count_fault, after_magic, head_fault_by, head_fault}
use Rattle.bn_model.specs.StoredImages.{unless_equal, unless_above, order_fault_after, order_fault}
use Rattle.bn_model.specs.StoredImages.{read_by, unless_fault, stored}

-- ---- from records to a text and back

front_of : {A : Type 0} (xs ys : List A) (n : ℕ) → length xs ≡ n → take n (xs ++ ys) ≡ xs
front_of xs ys n e = take-append-le n xs ys (omega arith) ∙ take_all n xs (omega arith)

back_of : {A : Type 0} (xs ys : List A) (n : ℕ) → length xs ≡ n → drop n (xs ++ ys) ≡ ys
back_of [] ys zero e = refl
back_of [] ys (suc n) e = absurd (omega (arith, e))
back_of (x ∷ xs) ys zero e = absurd (omega (arith, e))
back_of (x ∷ xs) ys (suc n) e = back_of xs ys n (omega (arith, e))

words_in-text : (words rest : List ℕ) (n : ℕ) → length words ≡ n → All (λ word. word < 2 ^ 64) words
    → words_in n (words_text words ++ rest) ≡ words
words_in-text [] rest zero e small = refl
words_in-text [] rest (suc n) e small = absurd (omega (arith, e))
words_in-text (w ∷ words) rest zero e small = absurd (omega (arith, e))
words_in-text (w ∷ words) rest (suc n) e small = cons_is
    (from_le_bytes-to_le_bytes_8 w (All-head (λ word. word < 2 ^ 64) w words small))
    (words_in-text words rest n (omega (arith, e)) (All-tail (λ word. word < 2 ^ 64) w words small))
  where
    cons_is : {a : ℕ} {bs : List ℕ} → a ≡ w → bs ≡ words → a ∷ bs ≡ w ∷ words
    cons_is p q = cc

length-words_text : (words : List ℕ) → length (words_text words) ≡ 8 * length words
length-words_text [] = refl
length-words_text (w ∷ words) = omega (arith, length-words_text words)

length-record_text : (r : Record) → IsWhole r → length (record_text r) ≡ 288
length-record_text r whole =
    omega (
      arith,
      length-append r.who.0 (words_text r.words),
      length-words_text r.words,
      whole.identity,
      whole.count,
    )

record_is : (r : Record) (who words : List ℕ) → who ≡ r.who.0 → words ≡ r.words
    → record { who = record { 0 = who }; words = words } ≡ r
record_is r who words p q = ap (λ l. record { who = record { 0 = l }; words = words }) p
    ∙ ap (λ l. record { who = r.who; words = l }) q

record_of-text : (r : Record) (rest : List ℕ) (bytes words : ℕ) → length r.who.0 ≡ bytes
    → length r.words ≡ words → All (λ word. word < 2 ^ 64) r.words
    → record_of bytes words (record_text r ++ rest) ≡ r
unfolding record_of
record_of-text r rest bytes words e f small =
    record_is r (take bytes (record_text r ++ rest))
    (words_in words (drop bytes (record_text r ++ rest)))
    (ap (take bytes) (append_assoc r.who.0 (words_text r.words) rest)
    ∙ front_of r.who.0 (words_text r.words ++ rest) bytes e)
    (ap (λ l. words_in words (drop bytes l)) (append_assoc r.who.0 (words_text r.words) rest)
    ∙ ap (words_in words) (back_of r.who.0 (words_text r.words ++ rest) bytes e)
    ∙ words_in-text r.words rest words f small)

record_whole : (r : Record) (rest : List ℕ) → IsWhole r
    → record_of 32 32 (record_text r ++ rest) ≡ r
record_whole r rest whole = record_of-text r rest 32 32 whole.identity whole.count whole.small

two : {a : Record} {b : List Record} (r : Record) (rest : List Record) → a ≡ r → b ≡ rest
    → a ∷ b ≡ r ∷ rest
two r rest p q = cc

records_in-text : (records : List Record) → All IsWhole records
    → records_in (length records) (records_text records) ≡ records
records_in-text [] whole = refl
records_in-text (r ∷ rest) whole = two r rest
    (record_whole r (records_text rest) (All-head IsWhole r rest whole))
    (ap (records_in (length rest))
    (back_of (record_text r) (records_text rest) 288
    (length-record_text r (All-head IsWhole r rest whole)))
    ∙ records_in-text rest (All-tail IsWhole r rest whole))

length-records_text : (records : List Record) → All IsWhole records
    → length (records_text records) ≡ 288 * length records
length-records_text [] whole = refl
length-records_text (r ∷ rest) whole =
    omega (
      arith,
      length-append (record_text r) (records_text rest),
      length-record_text r (All-head IsWhole r rest whole),
      length-records_text rest (All-tail IsWhole r rest whole),
    )

order_fault_after-none : (at : ℕ) (low : Digest) (records : List Record) → AreAbove low records
    → order_fault_after at low records ≡ None
order_fault_after-none at low [] above = refl
order_fault_after-none at low (r ∷ rest) above =
    ap (λ o. unless_above o at (order_fault_after (at + 288) r.who rest)) above.0
    ∙ order_fault_after-none (at + 288) r.who rest above.1

order_fault-none : (records : List Record) → Ascend records → order_fault records ≡ None
order_fault-none [] up = refl
order_fault-none (r ∷ rest) up = order_fault_after-none 304 r.who rest up

-- the length of an image
pub length-image_of : (records : List Record) → All IsWhole records
    → length (image_of records) ≡ 16 + 288 * length records
unfolding image_of
length-image_of records whole = omega (arith, length-records_text records whole)

not_short : (size n : ℕ) → size ≡ 16 + 288 * n → nat_lt size 16 ≡ false
not_short size n e = grind (arith, nat_tests)

not_many : (count n : ℕ) → count ≡ n → n ≤ 64 → nat_lt 64 count ≡ false
not_many count n e few = grind (arith, nat_tests)

of_its_size : (size count n : ℕ) → size ≡ 16 + 288 * n → count ≡ n
    → (size == image_size count) ≡ true
of_its_size size count n e f = grind (arith, nat_tests)

head_fault_parts : (text : List ℕ) (n : ℕ) → length text ≡ 16 + 288 * n
    → magic_fault 0 store_magic text ≡ None → count_in text ≡ n → n ≤ 64 → head_fault text ≡ None
head_fault_parts text n size magic count few =
    ap (λ b. head_fault_by b text) (not_short (length text) n size)
    ∙ ap (λ o. after_magic o text) magic
    ∙ ap (λ b. count_fault b text) (not_many (count_in text) n count few)
    ∙ ap (λ b. length_fault b (length text) (image_size (count_in text)))
    (of_its_size (length text) (count_in text) n size count)

-- an image is read as its records
pub stored-image_of : (records : List Record) → AreRecords records
    → stored (image_of records) ≡ Stored records
unfolding stored image_of
stored-image_of records good = read_as (image_of records) (length records)
    (head_fault_parts (image_of records) (length records) (length-image_of records good.whole) refl
    (from_le_bytes-to_le_bytes_8 (length records) (omega (arith, good.few))) good.few)
    (from_le_bytes-to_le_bytes_8 (length records) (omega (arith, good.few)))
    (records_in-text records good.whole)
  where
    read_as : (text : List ℕ) (n : ℕ) → head_fault text ≡ None → count_in text ≡ n
        → records_in n (drop 16 text) ≡ records
        → unless_fault (head_fault text) (records_in (count_in text) (drop 16 text)) ≡
        Stored records
    read_as text n head count body =
        ap (λ o. unless_fault o (records_in (count_in text) (drop 16 text))) head
        ∙ ap (λ k. read_by (order_fault (records_in k (drop 16 text)))
        (records_in k (drop 16 text))) count
        ∙ ap (λ l. read_by (order_fault l) l) body
        ∙ ap (λ o. read_by o records) (order_fault-none records good.ascending)

-- ---- from a text to records and back

-- each byte of a text is one
abbrev pub AreBytes : List ℕ → Type 0
AreBytes text = (i : ℕ) → get_or text i 0 < 256

AreBytes-drop : (k : ℕ) (text : List ℕ) → AreBytes text → AreBytes (drop k text)
AreBytes-drop k text small i = subst (λ b. b < 256) (sym (get_or-drop k text i 0)) (small (k + i))

AreBytes-front : (k : ℕ) (text : List ℕ) → AreBytes text → AreBytes (take k text)
AreBytes-front zero text small i = omega arith
AreBytes-front (suc k) [] small i = small i
AreBytes-front (suc k) (byte ∷ text) small zero = small 0
AreBytes-front (suc k) (byte ∷ text) small (suc i) = AreBytes-front k text (λ j. small (suc j)) i

word_back : (text : List ℕ) → 8 ≤ length text → AreBytes text
    → to_le_bytes w64 (from_le_bytes w64 text) ≡ take 8 text
word_back [] le small = absurd (omega (arith, le))
word_back (a ∷ []) le small = absurd (omega (arith, le))
word_back (a ∷ b ∷ []) le small = absurd (omega (arith, le))
word_back (a ∷ b ∷ c ∷ []) le small = absurd (omega (arith, le))
word_back (a ∷ b ∷ c ∷ d ∷ []) le small = absurd (omega (arith, le))
word_back (a ∷ b ∷ c ∷ d ∷ e ∷ []) le small = absurd (omega (arith, le))
word_back (a ∷ b ∷ c ∷ d ∷ e ∷ f ∷ []) le small = absurd (omega (arith, le))
word_back (a ∷ b ∷ c ∷ d ∷ e ∷ f ∷ g ∷ []) le small = absurd (omega (arith, le))
word_back (a ∷ b ∷ c ∷ d ∷ e ∷ f ∷ g ∷ h ∷ rest) le small =
    le_bytes_8 (a ∷ b ∷ c ∷ d ∷ e ∷ f ∷ g ∷ h ∷ [])
    (from_le_bytes w64 (a ∷ b ∷ c ∷ d ∷ e ∷ f ∷ g ∷ h ∷ rest)) refl
    (AreBytes-front 8 (a ∷ b ∷ c ∷ d ∷ e ∷ f ∷ g ∷ h ∷ rest) small) refl

word_small : (text : List ℕ) → AreBytes text → from_le_bytes w64 text < 2 ^ 64
word_small text small = omega
    (arith, small 0, small 1, small 2, small 3, small 4, small 5, small 6, small 7)

next_words : (n : ℕ) → 8 * suc n ≡ 8 + 8 * n
next_words n = omega arith

words_back : (n : ℕ) (text : List ℕ) → 8 * n ≤ length text → AreBytes text
    → words_text (words_in n text) ≡ take (8 * n) text
words_back zero text le small = refl
words_back (suc n) text le small =
    ap (λ l. l ++ words_text (words_in n (drop 8 text))) (word_back text (omega (arith, le)) small)
    ∙ ap (λ l. take 8 text ++ l)
    (words_back n (drop 8 text) (omega (arith, le, length-drop 8 text))
    (AreBytes-drop 8 text small))
    ∙ sym (take-add 8 (8 * n) text)
    ∙ ap (λ k. take k text) (sym (next_words n))

record_back : (bytes words : ℕ) (text : List ℕ) → bytes + 8 * words ≤ length text → AreBytes text
    → record_text (record_of bytes words text) ≡ take (bytes + 8 * words) text
unfolding record_of
record_back bytes words text le small =
    ap (λ l. take bytes text ++ l)
    (words_back words (drop bytes text) (omega (arith, le, length-drop bytes text))
    (AreBytes-drop bytes text small))
    ∙ sym (take-add bytes (8 * words) text)

next_records : (n : ℕ) → 288 * suc n ≡ 288 + 288 * n
next_records n = omega arith

records_back : (n : ℕ) (text : List ℕ) → 288 * n ≤ length text → AreBytes text
    → records_text (records_in n text) ≡ take (288 * n) text
records_back zero text le small = refl
records_back (suc n) text le small =
    ap (λ l. l ++ records_text (records_in n (drop 288 text)))
    (record_back 32 32 text (omega (arith, le)) small)
    ∙ ap (λ l. take 288 text ++ l)
    (records_back n (drop 288 text) (omega (arith, le, length-drop 288 text))
    (AreBytes-drop 288 text small))
    ∙ sym (take-add 288 (288 * n) text)
    ∙ ap (λ k. take k text) (sym (next_records n))

-- ---- what is read is in good order

length-words_in : (n : ℕ) (text : List ℕ) → length (words_in n text) ≡ n
length-words_in zero text = refl
length-words_in (suc n) text = omega (arith, length-words_in n (drop 8 text))

words_small : (n : ℕ) (text : List ℕ) → AreBytes text
    → All (λ word. word < 2 ^ 64) (words_in n text)
words_small zero text small = All-nil (λ word. word < 2 ^ 64)
words_small (suc n) text small =
    All-cons (λ word. word < 2 ^ 64) (from_le_bytes w64 text) (words_in n (drop 8 text))
    (word_small text small) (words_small n (drop 8 text) (AreBytes-drop 8 text small))

record_good : (bytes words : ℕ) (text : List ℕ) → bytes ≤ length text → AreBytes text
    → (length (record_of bytes words text).who.0 ≡ bytes) ×
    (length (record_of bytes words text).words ≡ words) ×
    All (λ word. word < 2 ^ 64) (record_of bytes words text).words
unfolding record_of
record_good bytes words text le small = (
  length-take-le bytes text le,
  length-words_in words (drop bytes text),
  words_small words (drop bytes text) (AreBytes-drop bytes text small),
)

IsWhole-record_of : (text : List ℕ) → 32 ≤ length text → AreBytes text
    → IsWhole (record_of 32 32 text)
IsWhole-record_of text le small = let good = record_good 32 32 text le small in
    record { identity = good.0; count = good.1; small = good.2 }

pub length-records_in : (n : ℕ) (text : List ℕ) → length (records_in n text) ≡ n
length-records_in zero text = refl
length-records_in (suc n) text = omega (arith, length-records_in n (drop 288 text))

AreWhole-records_in : (n : ℕ) (text : List ℕ) → 288 * n ≤ length text → AreBytes text
    → All IsWhole (records_in n text)
AreWhole-records_in zero text le small = All-nil IsWhole
AreWhole-records_in (suc n) text le small =
    All-cons IsWhole (record_of 32 32 text) (records_in n (drop 288 text))
    (IsWhole-record_of text (omega (arith, le)) small)
    (AreWhole-records_in n (drop 288 text) (omega (arith, le, length-drop 288 text))
    (AreBytes-drop 288 text small))

AreAbove-from_order : (at : ℕ) (low : Digest) (records : List Record)
    → order_fault_after at low records ≡ None → AreAbove low records
AreAbove-from_order at low [] e = tt
AreAbove-from_order at low (r ∷ rest) e =
    by_order (identity_order low r.who) refl e (AreAbove-from_order (at + 288) r.who rest)
  where
    by_order : (o : Ordering) → identity_order low r.who ≡ o
        → unless_above o at (order_fault_after (at + 288) r.who rest) ≡ None
        → (order_fault_after (at + 288) r.who rest ≡ None → AreAbove r.who rest)
        → AreAbove low (r ∷ rest)
    by_order Less t e go = (t, go e)
    by_order Equal t e go = absurd (none-some at (sym e))
    by_order Greater t e go = absurd (none-some at (sym e))

Ascend-from_order : (records : List Record) → order_fault records ≡ None → Ascend records
Ascend-from_order [] e = tt
Ascend-from_order (r ∷ rest) e = AreAbove-from_order 304 r.who rest e

-- ---- a text without a fault at its head

length_good : (size wanted : ℕ) → length_fault (size == wanted) size wanted ≡ None → size ≡ wanted
length_good size wanted e = by_test (size == wanted) refl e
  where
    by_test : (b : Bool) → (size == wanted) ≡ b → length_fault b size wanted ≡ None → size ≡ wanted
    by_test true t e = grind (arith, nat_tests)
    by_test false t e = absurd (none-some _ (sym e))

count_good : (size count : ℕ) → nat_lt 64 count ≡ false → count ≤ 64
count_good size count e = grind (arith, nat_tests)

long_good : (size : ℕ) → nat_lt size 16 ≡ false → 16 ≤ size
long_good size e = grind (arith, nat_tests)

-- what no fault at the head says
pub record IsHeaded (text : List ℕ) : Type 0 where
  pub long : 16 ≤ length text
  pub magic : magic_fault 0 store_magic text ≡ None
  pub few : count_in text ≤ 64
  pub size : length text ≡ 16 + 288 * count_in text

headed_count : (text : List ℕ) → nat_lt (length text) 16 ≡ false
    → magic_fault 0 store_magic text ≡ None → after_magic None text ≡ None → IsHeaded text
headed_count text long magic e = by_test (nat_lt 64 (count_in text)) refl e
  where
    by_test : (b : Bool) → nat_lt 64 (count_in text) ≡ b → count_fault b text ≡ None → IsHeaded text
    by_test true t e = absurd (none-some 8 (sym e))
    by_test false t e = record {
      long = long_good (length text) long;
      magic = magic;
      few = count_good (length text) (count_in text) t;
      size = length_good (length text) (image_size (count_in text)) e;
    }

headed_magic : (text : List ℕ) → nat_lt (length text) 16 ≡ false
    → after_magic (magic_fault 0 store_magic text) text ≡ None → IsHeaded text
headed_magic text long e = by_fault (magic_fault 0 store_magic text) refl e
  where
    by_fault : (o : Option ℕ) → magic_fault 0 store_magic text ≡ o → after_magic o text ≡ None
        → IsHeaded text
    by_fault (Some at) t e = absurd (none-some at (sym e))
    by_fault None t e = headed_count text long t e

pub IsHeaded-from : (text : List ℕ) → head_fault text ≡ None → IsHeaded text
IsHeaded-from text e = by_test (nat_lt (length text) 16) refl e
  where
    by_test : (b : Bool) → nat_lt (length text) 16 ≡ b → head_fault_by b text ≡ None → IsHeaded text
    by_test true t e = absurd (none-some (length text) (sym e))
    by_test false t e = headed_magic text t e

same_byte : (byte m : ℕ) → (byte == m) ≡ true → byte ≡ m
same_byte byte m e = grind (arith, nat_tests)

cons_same : (a b : ℕ) (xs ys : List ℕ) → a ≡ b → xs ≡ ys → a ∷ xs ≡ b ∷ ys
cons_same a b xs ys p q = cc

magic_stands : (at : ℕ) (magic text : List ℕ) → magic_fault at magic text ≡ None
    → take (length magic) text ≡ magic
magic_stands at [] text e = refl
magic_stands at (m ∷ magic) [] e = absurd (none-some at (sym e))
magic_stands at (m ∷ magic) (byte ∷ text) e =
    by_test (byte == m) refl e (magic_stands (at + 1) magic text)
  where
    by_test : (b : Bool) → (byte == m) ≡ b
        → unless_equal b at (magic_fault (at + 1) magic text) ≡ None
        → (magic_fault (at + 1) magic text ≡ None → take (length magic) text ≡ magic)
        → take (suc (length magic)) (byte ∷ text) ≡ m ∷ magic
    by_test true t e go =
        cons_same byte m (take (length magic) text) magic (same_byte byte m t) (go e)
    by_test false t e go = absurd (none-some at (sym e))

three_parts : (text : List ℕ) → text ≡ take 8 text ++ (take 8 (drop 8 text) ++ drop 8 (drop 8 text))
three_parts text = sym (ap (λ l. take 8 text ++ l) (take-append-drop 8 (drop 8 text))
    ∙ take-append-drop 8 text)

parts_are : (text magic count body a b c : List ℕ) → text ≡ a ++ (b ++ c) → magic ≡ a → count ≡ b
    → body ≡ c → magic ++ count ++ body ≡ text
parts_are text magic count body a b c e p q r = append_assoc magic count body
    ∙ ap (λ l. l ++ (count ++ body)) p ∙ ap (λ l. a ++ (l ++ body)) q ∙ ap (λ l. a ++ (b ++ l)) r
    ∙ sym e

-- what the records of a text are, where it has no fault
pub record IsRead (text : List ℕ) (records : List Record) : Type 0 where
  pub stored_is : stored text ≡ Stored records
  pub image_is : image_of records ≡ text
  pub good : AreRecords records

image_back : (text : List ℕ) → IsHeaded text → AreBytes text
    → image_of (records_in (count_in text) (drop 16 text)) ≡ text
unfolding image_of
image_back text head small = parts_are text store_magic
    (to_le_bytes w64 (length (records_in (count_in text) (drop 16 text))))
    (records_text (records_in (count_in text) (drop 16 text)))
    (take 8 text) (take 8 (drop 8 text)) (drop 8 (drop 8 text))
    (three_parts text)
    (sym (magic_stands 0 store_magic text head.magic))
    (ap (to_le_bytes w64) (length-records_in (count_in text) (drop 16 text))
    ∙ word_back (drop 8 text) (omega (arith, head.long, length-drop 8 text))
    (AreBytes-drop 8 text small))
    (records_back (count_in text) (drop 16 text) (omega (arith, head.size, length-drop 16 text))
    (AreBytes-drop 16 text small)
    ∙ take_all (288 * count_in text) (drop 16 text) (omega (arith, head.size, length-drop 16 text))
    ∙ sym (drop-drop 8 8 text))

stored_back : (text : List ℕ) → head_fault text ≡ None
    → order_fault (records_in (count_in text) (drop 16 text)) ≡ None
    → stored text ≡ Stored (records_in (count_in text) (drop 16 text))
unfolding stored
stored_back text head order =
    ap (λ o. unless_fault o (records_in (count_in text) (drop 16 text))) head
    ∙ ap (λ o. read_by o (records_in (count_in text) (drop 16 text))) order

-- a text without a fault is read as its records and is their image
pub IsRead-from : (text : List ℕ) (records : List Record) → AreBytes text → head_fault text ≡ None
    → records ≡ records_in (count_in text) (drop 16 text) → order_fault records ≡ None
    → IsRead text records
IsRead-from text records small head are order = subst (IsRead text) (sym are) (record {
  stored_is = stored_back text head order';
  image_is = image_back text (IsHeaded-from text head) small;
  good = record {
    few = omega (
      arith,
      (IsHeaded-from text head).few,
      length-records_in (count_in text) (drop 16 text),
    );
    ascending = Ascend-from_order (records_in (count_in text) (drop 16 text)) order';
    whole = AreWhole-records_in (count_in text) (drop 16 text)
        (omega (arith, (IsHeaded-from text head).size, length-drop 16 text))
        (AreBytes-drop 16 text small);
  };
})
  where
    order' : order_fault (records_in (count_in text) (drop 16 text)) ≡ None
    order' = ap order_fault (sym are) ∙ order

-- ---- the faults

pub stored-head_fault : (text : List ℕ) (at : ℕ) → head_fault text ≡ Some at
    → stored text ≡ Malformed at
unfolding stored
stored-head_fault text at e = ap (λ o. unless_fault o (records_in (count_in text) (drop 16 text))) e

pub stored-order_fault : (text : List ℕ) (records : List Record) (at : ℕ) → head_fault text ≡ None
    → records ≡ records_in (count_in text) (drop 16 text) → order_fault records ≡ Some at
    → stored text ≡ Malformed at
unfolding stored
stored-order_fault text records at head are e =
    ap (λ o. unless_fault o (records_in (count_in text) (drop 16 text))) head
    ∙ ap (λ l. read_by (order_fault l) l) (sym are)
    ∙ ap (λ o. read_by o records) e
