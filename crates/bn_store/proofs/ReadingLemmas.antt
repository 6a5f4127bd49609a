-- Reading one more of what stands in a row.
use Rattle.std.proofs.Common.{◌≡◌, ℕ, zero, suc, ◌+◌, ◌*◌, ◌-◌, ◌<◌, ◌≤◌, true, false, List, []}
use Rattle.std.proofs.Common.{◌∷◌, ◌++◌, None, length, take, drop, get_or, set, refl, sym, ◌∙◌, ap}
use Rattle.std.proofs.Common.{arith, drop-drop, length-drop}
use Rattle.std.specs.Int.{from_le_bytes, w64}
use Rattle.std.specs.Ordering.{is_lt}
use Rattle.std.specs.declared.cmp.Ordering.{Ordering}
use Rattle.std.specs.declared.cmp.Ordering.TheVariants.{Less, Equal, Greater}
use Rattle.bn_types.specs.declared.record.Record.{Record}
use Rattle.bn_model.specs.StoredImages.{unless_above, order_fault_after, words_in, record_of}
use Rattle.bn_model.specs.StoredImages.{records_in}
use Rattle.bn_model.specs.Records.{identity_order}
use Rattle.bn_store.specs.Answers.{order_fault_at, order_fault_from}

false_is_true : false ≡ true → ⊥
false_is_true e = grind arith

-- ---- one word more, one record more

one_more : (n : ℕ) → suc n ≡ n + 1
one_more n = omega arith

cons_ap : {A : Type 0} (a : A) (xs ys : List A) → xs ≡ ys → a ∷ xs ≡ a ∷ ys
cons_ap a xs ys e = ap (λ l. a ∷ l) e

next_word : (n : ℕ) → 8 * suc n ≡ 8 + 8 * n
next_word n = omega arith

words_in_suc : (n : ℕ) (text : List ℕ)
    → words_in (suc n) text ≡ words_in n text ++ from_le_bytes w64 (drop (8 * n) text) ∷ []
words_in_suc zero text = refl
words_in_suc (suc n) text =
    cons_ap (from_le_bytes w64 text) (words_in (suc n) (drop 8 text))
    (words_in n (drop 8 text) ++ from_le_bytes w64 (drop (8 * suc n) text) ∷ [])
    (words_in_suc n (drop 8 text)
    ∙ ap (λ l. words_in n (drop 8 text) ++ from_le_bytes w64 l ∷ [])
    (drop-drop (8 * n) 8 text ∙ ap (λ k. drop k text) (sym (next_word n))))

pub words_in_more : (n : ℕ) (text : List ℕ)
    → words_in (n + 1) text ≡ words_in n text ++ from_le_bytes w64 (drop (8 * n) text) ∷ []
words_in_more n text = ap (λ k. words_in k text) (sym (one_more n)) ∙ words_in_suc n text

next_record : (n : ℕ) → 288 * suc n ≡ 288 + 288 * n
next_record n = omega arith

records_in_suc : (n : ℕ) (text : List ℕ)
    → records_in (suc n) text ≡ records_in n text ++ record_of 32 32 (drop (288 * n) text) ∷ []
records_in_suc zero text = refl
records_in_suc (suc n) text =
    cons_ap (record_of 32 32 text) (records_in (suc n) (drop 288 text))
    (records_in n (drop 288 text) ++ record_of 32 32 (drop (288 * suc n) text) ∷ [])
    (records_in_suc n (drop 288 text)
    ∙ ap (λ l. records_in n (drop 288 text) ++ record_of 32 32 l ∷ [])
    (drop-drop (288 * n) 288 text ∙ ap (λ k. drop k text) (sym (next_record n))))

pub records_in_more : (n : ℕ) (text : List ℕ)
    → records_in (n + 1) text ≡ records_in n text ++ record_of 32 32 (drop (288 * n) text) ∷ []
records_in_more n text = ap (λ k. records_in k text) (sym (one_more n)) ∙ records_in_suc n text

take_set_suc : (words : List ℕ) (n value : ℕ) → n < length words
    → take (suc n) (set words n value) ≡ take n words ++ value ∷ []
take_set_suc [] n value h = absurd (omega (arith, h))
take_set_suc (w ∷ words) zero value h = refl
take_set_suc (w ∷ words) (suc n) value h =
    cons_ap w (take (suc n) (set words n value)) (take n words ++ value ∷ [])
    (take_set_suc words n value (omega (arith, h)))

pub word_read : (words text : List ℕ) (at n value : ℕ) → n < length words
    → take n words ≡ words_in n (drop at text)
    → value ≡ from_le_bytes w64 (drop (at + 8 * n) text)
    → take (n + 1) (set words n value) ≡ words_in (n + 1) (drop at text)
word_read words text at n value h so_far e =
    ap (λ k. take k (set words n value)) (sym (one_more n))
    ∙ take_set_suc words n value h
    ∙ ap (λ l. l ++ value ∷ []) so_far
    ∙ ap (λ v. words_in n (drop at text) ++ v ∷ [])
    (e ∙ ap (from_le_bytes w64) (sym (drop-drop (8 * n) at text)))
    ∙ sym (words_in_more n (drop at text))

pub record_read : (records later : List Record) (text : List ℕ) (n : ℕ) (value : Record)
    → records ≡ records_in n (drop 16 text)
    → value ≡ record_of 32 32 (drop (16 + 288 * n) text) → later ≡ records ++ value ∷ []
    → later ≡ records_in (n + 1) (drop 16 text)
record_read records later text n value so_far e more =
    more
    ∙ ap (λ l. l ++ value ∷ []) so_far
    ∙ ap (λ v. records_in n (drop 16 text) ++ v ∷ [])
    (e ∙ ap (record_of 32 32) (sym (drop-drop (288 * n) 16 text)))
    ∙ sym (records_in_more n (drop 16 text))

same_size : (at bytes : ℕ) → at + bytes - at ≡ bytes
same_size at bytes = omega arith

pub record_made : (bytes count : ℕ) (text who words : List ℕ) (at : ℕ)
    → who ≡ take (at + bytes - at) (drop at text) → words ≡ words_in count (drop (at + bytes) text)
    → record { who = record { 0 = who }; words = words } ≡ record_of bytes count (drop at text)
unfolding record_of
record_made bytes count text who words at p q =
    ap (λ l. record { who = record { 0 = l }; words = words })
    (p ∙ ap (λ k. take k (drop at text)) (same_size at bytes))
    ∙ ap (λ l. record { who = record { 0 = take bytes (drop at text) }; words = l })
    (q ∙ ap (words_in count) (sym (drop-drop bytes at text)))

-- ---- one identity more

next_place : (from : ℕ) → 16 + 288 * from + 288 ≡ 16 + 288 * (from + 1)
next_place from = omega arith

order_step : (records : List Record) (k from : ℕ) (d : Record) → suc k < length records
    → order_fault_at from (drop k records)
    ≡ unless_above (identity_order (get_or records k d).who (get_or records (suc k) d).who)
    (16 + 288 * from) (order_fault_at (from + 1) (drop (suc k) records))
order_step [] k from d h = absurd (omega (arith, h))
order_step (r ∷ []) k from d h = absurd (omega (arith, h))
order_step (r ∷ s ∷ rest) zero from d h =
    ap (λ at. unless_above (identity_order r.who s.who) (16 + 288 * from)
    (order_fault_after at s.who rest)) (next_place from)
order_step (r ∷ s ∷ rest) (suc k) from d h = order_step (s ∷ rest) k from d (omega (arith, h))

back_one : (n : ℕ) → n + 1 - 1 ≡ n
back_one n = omega arith

order_place : (records : List Record) (n : ℕ) (d : Record) → 1 ≤ n → n < length records
    → order_fault_from n records
    ≡ unless_above (identity_order (get_or records (n - 1) d).who (get_or records n d).who)
    (16 + 288 * n) (order_fault_from (n + 1) records)
order_place records n d low h =
    order_step records (n - 1) n d (omega (arith, low, h))
    ∙ ap (λ k. unless_above (identity_order (get_or records (n - 1) d).who (get_or records k d).who)
    (16 + 288 * n) (order_fault_at (n + 1) (drop k records))) (up n low)
    ∙ ap (λ k. unless_above (identity_order (get_or records (n - 1) d).who (get_or records n d).who)
    (16 + 288 * n) (order_fault_at (n + 1) (drop k records))) (sym (back_one n))
  where
    up : (n : ℕ) → 1 ≤ n → suc (n - 1) ≡ n
    up n low = omega (arith, low)

is_less : (o : Ordering) → is_lt o ≡ true → o ≡ Less
is_less Less e = refl
is_less Equal e = absurd (false_is_true e)
is_less Greater e = absurd (false_is_true e)

pub order_right : (records : List Record) (n : ℕ) (d : Record) → 1 ≤ n → n < length records
    → is_lt (identity_order (get_or records (n - 1) d).who (get_or records n d).who) ≡ true
    → order_fault_from n records ≡ order_fault_from (n + 1) records
order_right records n d low h above = order_place records n d low h
    ∙ ap (λ o. unless_above o (16 + 288 * n) (order_fault_from (n + 1) records))
    (is_less (identity_order (get_or records (n - 1) d).who (get_or records n d).who) above)

-- past the last identity nothing is wrong
pub order_all : (records : List Record) (n : ℕ) → 1 ≤ n → length records ≤ n
    → order_fault_from n records ≡ None
order_all records n low h =
    by_rest (drop (n - 1) records) (omega (arith, low, h, length-drop (n - 1) records))
  where
    by_rest : (rest : List Record) → length rest ≤ 1 → order_fault_at n rest ≡ None
    by_rest [] few = refl
    by_rest (r ∷ []) few = refl
    by_rest (r ∷ s ∷ rest) few = absurd (omega (arith, few))
