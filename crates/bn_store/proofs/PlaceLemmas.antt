-- The place of an identity's record, as a binary search tells it.
use Rattle.std.proofs.Common.{◌≡◌, ℕ, zero, suc, ◌<◌, ◌≤◌, true, false, List, [], ◌∷◌, Some, None}
use Rattle.std.proofs.Common.{nat_lt, length, get_or, set, refl, sym, ◌∙◌, ap, subst, ◌^◌, arith}
use Rattle.std.proofs.lemmas.Bool.Decides.{nat_tests}
use Rattle.std.proofs.lemmas.Cmp.{nat_list_cmp_total}
use Rattle.bn_types.specs.declared.set_refused.SetRefused.TheVariants.{BadIndex, Full}
use Rattle.std.specs.Cmp.{IsTotalOrder}
use Rattle.std.specs.Ordering.{ordering_index, ordering_reverse}
use Rattle.std.specs.List.{HoldsAt, insert}
use Rattle.std.specs.List.Sorted.{IsNonDecreasingBy, IsPartitionPoint}
use Rattle.std.specs.declared.cmp.Ordering.{Ordering}
use Rattle.std.specs.declared.cmp.Ordering.TheVariants.{Less, Equal, Greater}
use Rattle.bn_types.specs.declared.digest.Digest.{Digest}
use Rattle.bn_types.specs.declared.record.Record.{Record}
use Rattle.bn_model.specs.Records.{identity_order, words_by, words_of, word_in, get_word}
use Rattle.bn_model.specs.Records.{new_record, set_by, set_word, full_when, refused_place}
use Rattle.bn_model.specs.Records.{refused_at, set_refusal, AreAbove, Ascend, AreRecords}
use Rattle.bn_model.proofs.RecordLemmas.{AreRecords-set_word}

-- ---- the order

turned : (a b : Digest) → identity_order a b ≡ ordering_reverse (identity_order b a)
turned a b = IsTotalOrder.antisymm nat_list_cmp_total a.0 b.0

above_all : (low : Digest) (records : List Record) (j : ℕ) (d : Record) → AreAbove low records
    → j < length records → identity_order low (get_or records j d).who ≡ Less
above_all low [] j d above h = absurd (omega (arith, h))
above_all low (r ∷ rest) zero d above h = above.0
above_all low (r ∷ rest) (suc j) d above h =
    IsTotalOrder.trans nat_list_cmp_total low.0 r.who.0 (get_or rest j d).who.0 above.0
    (above_all r.who rest j d above.1 (omega (arith, h)))

tail_ascends : (r : Record) (rest : List Record) → Ascend (r ∷ rest) → Ascend rest
tail_ascends r [] up = tt
tail_ascends r (s ∷ rest) up = up.1

-- how one below another lies to a third is no higher
index_by : (low high who : Digest) → identity_order low high ≡ Less
    → ordering_index (identity_order low who) ≤ ordering_index (identity_order high who)
index_by low high who less = by_order (identity_order low who) refl
  where
    above_equal : identity_order low who ≡ Equal → identity_order high who ≡ Greater
    above_equal e = turned high who
        ∙ ap ordering_reverse
        (sym (IsTotalOrder.congr nat_list_cmp_total low.0 who.0 high.0 e) ∙ less)

    above_greater : identity_order low who ≡ Greater → identity_order high who ≡ Greater
    above_greater e = turned high who
        ∙ ap ordering_reverse
        (IsTotalOrder.trans nat_list_cmp_total who.0 low.0 high.0
        (turned who low ∙ ap ordering_reverse e) less)

    by_order : (o : Ordering) → identity_order low who ≡ o
        → ordering_index o ≤ ordering_index (identity_order high who)
    by_order Less e = omega arith
    by_order Equal e = rw (above_equal e) (omega arith)
    by_order Greater e = rw (above_greater e) (omega arith)

pub searchable : (records : List Record) (who : Digest) → Ascend records
    → IsNonDecreasingBy (λ r. ordering_index (identity_order r.who who)) records
searchable [] who up i j d le h = absurd (omega (arith, h))
searchable (r ∷ rest) who up zero zero d le h = omega arith
searchable (r ∷ rest) who up zero (suc j) d le h =
    index_by r.who (get_or rest j d).who who (above_all r.who rest j d up (omega (arith, h)))
searchable (r ∷ rest) who up (suc i) zero d le h = absurd (omega (arith, le))
searchable (r ∷ rest) who up (suc i) (suc j) d le h =
    searchable rest who (tail_ascends r rest up) i j d (omega (arith, le)) (omega (arith, h))

-- ---- an identity that has words

below_it : (r : Record) (rest : List Record) (who : Digest) (j : ℕ) (d : Record) → Ascend (r ∷ rest)
    → j < length rest
    → identity_order (get_or rest j d).who who ≡ Equal → identity_order who r.who ≡ Greater
below_it r rest who j d up h e = turned who r.who
    ∙ ap ordering_reverse (turned r.who who ∙ ap ordering_reverse
    (sym (IsTotalOrder.congr nat_list_cmp_total (get_or rest j d).who.0 who.0 r.who.0 e)
    ∙ turned (get_or rest j d).who r.who ∙ ap ordering_reverse (above_all r.who rest j d up h)))

pub words_at : (records : List Record) (who : Digest) (at : ℕ) (d : Record) → Ascend records
    → at < length records
    → identity_order (get_or records at d).who who ≡ Equal
    → words_of records who ≡ Some (get_or records at d).words
unfolding words_of
words_at [] who at d up h e = absurd (omega (arith, h))
words_at (r ∷ rest) who zero d up h e =
    ap (λ o. words_by o r (words_of rest who)) (turned who r.who ∙ ap ordering_reverse e)
words_at (r ∷ rest) who (suc at) d up h e =
    ap (λ o. words_by o r (words_of rest who)) (below_it r rest who at d up (omega (arith, h)) e)
    ∙ words_at rest who at d (tail_ascends r rest up) (omega (arith, h)) e

pub set_at : (records : List Record) (who : Digest) (at index value : ℕ) (d : Record)
    → Ascend records → at < length records
    → identity_order (get_or records at d).who who ≡ Equal
    → set_word records who index value ≡
    set records at (record (get_or records at d) {
      words = set (get_or records at d).words index
          value;
    })
unfolding set_word
set_at [] who at index value d up h e = absurd (omega (arith, h))
set_at (r ∷ rest) who zero index value d up h e =
    ap (λ o. set_by o r rest (set_word rest who index value) who index value)
    (turned who r.who ∙ ap ordering_reverse e)
set_at (r ∷ rest) who (suc at) index value d up h e =
    ap (λ o. set_by o r rest (set_word rest who index value) who index value)
    (below_it r rest who at d up (omega (arith, h)) e)
    ∙ ap (λ l. r ∷ l) (set_at rest who at index value d (tail_ascends r rest up)
    (omega (arith, h)) e)

-- ---- an identity that has none

-- all below the place are less, and all from it on greater
abbrev pub IsGap : Digest → List Record → ℕ → Type 0
IsGap who records at = IsPartitionPoint (λ r. identity_order r.who who ≡ Less)
    (λ r. identity_order r.who who ≡ Greater) records at

gap_tail : (r : Record) (rest : List Record) (who : Digest) (at : ℕ) → IsGap who (r ∷ rest) (suc at)
    → IsGap who rest at
gap_tail r rest who at gap = (
  (λ k d low high. gap.0 (suc k) d (omega arith) (omega (arith, high))),
  (λ k d low high. gap.1 (suc k) d (omega (arith, low)) (omega (arith, high))),
)

pub no_words_at : (records : List Record) (who : Digest) (at : ℕ) → at ≤ length records
    → IsGap who records at → words_of records who ≡ None
unfolding words_of
no_words_at [] who at h gap = refl
no_words_at (r ∷ rest) who zero h gap =
    ap (λ o. words_by o r (words_of rest who))
    (turned who r.who ∙ ap ordering_reverse (gap.1 0 r (omega arith) (omega arith)))
no_words_at (r ∷ rest) who (suc at) h gap =
    ap (λ o. words_by o r (words_of rest who))
    (turned who r.who ∙ ap ordering_reverse (gap.0 0 r (omega arith) (omega arith)))
    ∙ no_words_at rest who at (omega (arith, h)) (gap_tail r rest who at gap)

pub set_new_at : (records : List Record) (who : Digest) (at index value : ℕ) → at ≤ length records
    → IsGap who records at
    → set_word records who index value ≡ insert records at (new_record who index value)
unfolding set_word
set_new_at [] who zero index value h gap = refl
set_new_at [] who (suc at) index value h gap = absurd (omega (arith, h))
set_new_at (r ∷ rest) who zero index value h gap =
    ap (λ o. set_by o r rest (set_word rest who index value) who index value)
    (turned who r.who ∙ ap ordering_reverse (gap.1 0 r (omega arith) (omega arith)))
set_new_at (r ∷ rest) who (suc at) index value h gap =
    ap (λ o. set_by o r rest (set_word rest who index value) who index value)
    (turned who r.who ∙ ap ordering_reverse (gap.0 0 r (omega arith) (omega arith)))
    ∙ ap (λ l. r ∷ l) (set_new_at rest who at index value (omega (arith, h))
    (gap_tail r rest who at gap))

-- ---- refusals, and a word that isn't there

pub refused_index : (records : List Record) (who : Digest) (index : ℕ) → 32 ≤ index
    → set_refusal records who index ≡ Some BadIndex
refused_index records who index h = ap (λ b. refused_at b records who) (beyond index h)
  where
    beyond : (index : ℕ) → 32 ≤ index → nat_lt index 32 ≡ false
    beyond index h = grind (arith, nat_tests)

within : (index : ℕ) → index < 32 → nat_lt index 32 ≡ true
within index h = grind (arith, nat_tests)

pub refused_held : (records : List Record) (who : Digest) (index : ℕ) (words : List ℕ) → index < 32
    → words_of records who ≡ Some words → set_refusal records who index ≡ None
refused_held records who index words h e =
    ap (λ b. refused_at b records who) (within index h)
    ∙ ap (λ o. refused_place o (length records)) e

pub refused_new : (records : List Record) (who : Digest) (index : ℕ) → index < 32
    → words_of records who ≡ None → length records < 64 → set_refusal records who index ≡ None
refused_new records who index h e few =
    ap (λ b. refused_at b records who) (within index h)
    ∙ ap (λ o. refused_place o (length records)) e ∙ ap full_when (room (length records) few)
  where
    room : (count : ℕ) → count < 64 → nat_lt count 64 ≡ true
    room count few = grind (arith, nat_tests)

pub refused_full : (records : List Record) (who : Digest) (index : ℕ) → index < 32
    → words_of records who ≡ None → 64 ≤ length records → set_refusal records who index ≡ Some Full
refused_full records who index h e many =
    ap (λ b. refused_at b records who) (within index h)
    ∙ ap (λ o. refused_place o (length records)) e ∙ ap full_when (none (length records) many)
  where
    none : (count : ℕ) → 64 ≤ count → nat_lt count 64 ≡ false
    none count many = grind (arith, nat_tests)

-- ---- what a search in a slice of the records finds

pub get_found : (records slice : List Record) (who : Digest) (at index : ℕ) (one : Record)
    → slice ≡ records → Ascend records → at < length slice
    → HoldsAt (λ r. identity_order r.who who ≡ Equal) slice at → one ≡ get_or records at one
    → get_or one.words index 0 ≡ get_word records who index
get_found records slice who at index one same up h found is =
    ap (λ (r : Record). get_or r.words index 0) is
    ∙ ap (λ o. word_in o index)
    (sym (words_at records who at one up (subst (λ l. at < length l) same h)
    (subst (λ l. HoldsAt (λ r. identity_order r.who who ≡ Equal) l at) same found one)))

pub missing : (records slice : List Record) (who : Digest) (at : ℕ) → slice ≡ records
    → Ascend records → at ≤ length slice
    → (IsNonDecreasingBy (λ r. ordering_index (identity_order r.who who)) slice
    → IsGap who slice at) → words_of records who ≡ None
missing records slice who at same up h gap =
    no_words_at records who at (subst (λ l. at ≤ length l) same h)
    (subst (λ l. IsGap who l at) same
    (gap (subst (λ l. IsNonDecreasingBy (λ r. ordering_index (identity_order r.who who)) l)
    (sym same) (searchable records who up))))

pub get_missing : (records slice : List Record) (who : Digest) (at index : ℕ) → slice ≡ records
    → Ascend records → at ≤ length slice
    → (IsNonDecreasingBy (λ r. ordering_index (identity_order r.who who)) slice
    → IsGap who slice at) → 0 ≡ get_word records who index
get_missing records slice who at index same up h gap =
    ap (λ o. word_in o index) (sym (missing records slice who at same up h gap))

pub set_found : (records slice : List Record) (who : Digest) (at index value : ℕ) (one : Record)
    → slice ≡ records → Ascend records → at < length slice
    → HoldsAt (λ r. identity_order r.who who ≡ Equal) slice at → one ≡ get_or records at one
    → set records at (record one { words = set one.words index value }) ≡
    set_word records who index value
set_found records slice who at index value one same up h found is =
    ap (λ (r : Record). set records at (record r { words = set r.words index value })) is
    ∙ sym (set_at records who at index value one up (subst (λ l. at < length l) same h)
    (subst (λ l. HoldsAt (λ r. identity_order r.who who ≡ Equal) l at) same found one))

pub refused_found : (records slice : List Record) (who : Digest) (at index : ℕ) (one : Record)
    → slice ≡ records → Ascend records → at < length slice
    → HoldsAt (λ r. identity_order r.who who ≡ Equal) slice at → index < 32
    → None ≡ set_refusal records who index
refused_found records slice who at index one same up h found low =
    sym (refused_held records who index (get_or records at one).words low
    (words_at records who at one up (subst (λ l. at < length l) same h)
    (subst (λ l. HoldsAt (λ r. identity_order r.who who ≡ Equal) l at) same found one)))

pub set_missing : (records slice later : List Record) (who : Digest) (at index value : ℕ)
    (one : Record) → slice ≡ records → Ascend records → at ≤ length slice
    → (IsNonDecreasingBy (λ r. ordering_index (identity_order r.who who)) slice
    → IsGap who slice at)
    → one ≡ new_record who index value → later ≡ insert records at one
    → later ≡ set_word records who index value
set_missing records slice later who at index value one same up h gap is made =
    made ∙ ap (λ r. insert records at r) is
    ∙ sym (set_new_at records who at index value (subst (λ l. at ≤ length l) same h)
    (subst (λ l. IsGap who l at) same
    (gap (subst (λ l. IsNonDecreasingBy (λ r. ordering_index (identity_order r.who who)) l)
    (sym same) (searchable records who up)))))

pub kept_by : (records later : List Record) (who : Digest) (index value : ℕ) → length who.0 ≡ 32
    → value < 2 ^ 64
    → None ≡ set_refusal records who index → AreRecords records
    → later ≡ set_word records who index value → AreRecords later
kept_by records later who index value sized small ok good is =
    subst AreRecords (sym is)
    (AreRecords-set_word records who index value sized small (sym ok) good)
