-- A set keeps the records in good order.
use Rattle.std.proofs.Common.{◌≡◌, ℕ, suc, ◌+◌, ◌<◌, ◌≤◌, ◌^◌, Bool, true, false, List, [], ◌∷◌}
use Rattle.std.proofs.Common.{Option, Some, None, length, replicate, set, All, nat_lt, refl, sym}
use Rattle.std.proofs.Common.{◌∙◌, ap, arith, length-set}
use Rattle.std.proofs.lemmas.Option.{none-some}
use Rattle.std.proofs.lemmas.Bool.Decides.{nat_tests}
use Rattle.std.proofs.lemmas.List.Elements.{All-nil, All-cons, All-head, All-tail, All-set}
use Rattle.std.proofs.lemmas.List.Elements.{All-replicate}
use Rattle.std.proofs.lemmas.Cmp.{nat_list_cmp_total}
use Rattle.std.specs.Cmp.{IsTotalOrder}
use Rattle.std.specs.Ordering.{ordering_reverse}
use Rattle.std.specs.declared.cmp.Ordering.{Ordering}
use Rattle.std.specs.declared.cmp.Ordering.TheVariants.{Less, Equal, Greater}
use Rattle.bn_types.specs.declared.digest.Digest.{Digest}
use Rattle.bn_types.specs.declared.record.Record.{Record}
use Rattle.bn_types.specs.declared.set_refused.SetRefused.TheVariants.{BadIndex}
use Rattle.bn_model.specs.Records.{identity_order, words_by, words_of, new_record, set_by, set_word}
use Rattle.bn_model.specs.Records.{refused_place, refused_at, set_refusal, IsWhole, AreAbove}
use Rattle.bn_model.specs.Records.{Ascend, AreRecords}

-- ---- the order

-- below, from above
pub turned : (a b : Digest) → identity_order a b ≡ Greater → identity_order b a ≡ Less
turned a b e = IsTotalOrder.antisymm nat_list_cmp_total b.0 a.0 ∙ ap ordering_reverse e

-- ---- how many records there are

abbrev added : Option (List ℕ) → ℕ
added None = 1
added (Some words) = 0

pub length-set_word : (records : List Record) (who : Digest) (index value : ℕ)
    → length (set_word records who index value) ≡ length records + added (words_of records who)
unfolding set_word words_of
length-set_word [] who index value = refl
length-set_word (first ∷ rest) who index value =
    by_order (identity_order who first.who) (length-set_word rest who index value)
  where
    by_order : (o : Ordering)
        → length (set_word rest who index value) ≡ length rest + added (words_of rest who)
        → length (set_by o first rest (set_word rest who index value) who index value)
        ≡ suc (length rest) + added (words_by o first (words_of rest who))
    by_order Less h = omega arith
    by_order Equal h = omega arith
    by_order Greater h = omega (arith, h)

-- ---- they ascend

pub AreAbove-set_word : (low : Digest) (records : List Record) (who : Digest) (index value : ℕ)
    → identity_order low who ≡ Less → AreAbove low records
    → AreAbove low (set_word records who index value)
unfolding set_word
AreAbove-set_word low [] who index value under above = (under, tt)
AreAbove-set_word low (first ∷ rest) who index value under above =
    by_order (identity_order who first.who) refl
    (λ e. AreAbove-set_word first.who rest who index value e above.1)
  where
    by_order : (o : Ordering) → identity_order who first.who ≡ o
        → (identity_order first.who who ≡ Less → AreAbove first.who (set_word rest who index value))
        → AreAbove low (set_by o first rest (set_word rest who index value) who index value)
    by_order Less e go = (under, (e, above.1))
    by_order Equal e go = above
    by_order Greater e go = (above.0, go (turned who first.who e))

pub Ascend-set_word : (records : List Record) (who : Digest) (index value : ℕ) → Ascend records
    → Ascend (set_word records who index value)
unfolding set_word
Ascend-set_word [] who index value up = tt
Ascend-set_word (first ∷ rest) who index value up = by_order (identity_order who first.who) refl
  where
    by_order : (o : Ordering) → identity_order who first.who ≡ o
        → Ascend (set_by o first rest (set_word rest who index value) who index value)
    by_order Less e = (e, up)
    by_order Equal e = up
    by_order Greater e = AreAbove-set_word first.who rest who index value
        (turned who first.who e) up

-- ---- each is whole

IsWhole-new : (who : Digest) (index value : ℕ) → length who.0 ≡ 32 → value < 2 ^ 64
    → IsWhole (new_record who index value)
IsWhole-new who index value sized small = record {
  identity = sized;
  count = length-set (replicate 32 0) index value;
  small = All-set (λ word. word < 2 ^ 64) (replicate 32 0) index value small
      (All-replicate (λ word. word < 2 ^ 64) 32 0 (omega arith));
}

IsWhole-changed : (r : Record) (index value : ℕ) → IsWhole r → value < 2 ^ 64
    → IsWhole (record r { words = set r.words index value })
IsWhole-changed r index value whole small = record {
  identity = whole.identity;
  count = length-set r.words index value ∙ whole.count;
  small = All-set (λ word. word < 2 ^ 64) r.words index value small whole.small;
}

pub AreWhole-set_word : (records : List Record) (who : Digest) (index value : ℕ) → length who.0 ≡ 32
    → value < 2 ^ 64
    → All IsWhole records → All IsWhole (set_word records who index value)
unfolding set_word
AreWhole-set_word [] who index value sized small whole =
    All-cons IsWhole (new_record who index value) [] (IsWhole-new who index value sized small)
    (All-nil IsWhole)
AreWhole-set_word (first ∷ rest) who index value sized small whole =
    by_order (identity_order who first.who)
    (AreWhole-set_word rest who index value sized small (All-tail IsWhole first rest whole))
  where
    by_order : (o : Ordering) → All IsWhole (set_word rest who index value)
        → All IsWhole (set_by o first rest (set_word rest who index value) who index value)
    by_order Less after =
        All-cons IsWhole (new_record who index value) (first ∷ rest)
        (IsWhole-new who index value sized small) whole
    by_order Equal after =
        All-cons IsWhole (record first { words = set first.words index value }) rest
        (IsWhole-changed first index value (All-head IsWhole first rest whole) small)
        (All-tail IsWhole first rest whole)
    by_order Greater after =
        All-cons IsWhole first (set_word rest who index value) (All-head IsWhole first rest whole)
        after

-- ---- all of it

few_after : (held : Option (List ℕ)) (count : ℕ) → count ≤ 64 → refused_place held count ≡ None
    → count + added held ≤ 64
few_after (Some words) count few ok = omega (arith, few)
few_after None count few ok = grind (arith, nat_tests)

place_of : (b : Bool) (records : List Record) (who : Digest) → refused_at b records who ≡ None
    → refused_place (words_of records who) (length records) ≡ None
place_of true records who ok = ok
place_of false records who ok = absurd (none-some BadIndex (sym ok))

-- a set that isn't refused keeps the records in good order
pub AreRecords-set_word : (records : List Record) (who : Digest) (index value : ℕ)
    → length who.0 ≡ 32 → value < 2 ^ 64
    → set_refusal records who index ≡ None → AreRecords records
    → AreRecords (set_word records who index value)
AreRecords-set_word records who index value sized small ok good = record {
  few = omega (
    arith,
    length-set_word records who index value,
    few_after (words_of records who) (length records) good.few
        (place_of (nat_lt index 32) records who ok),
  );
  ascending = Ascend-set_word records who index value good.ascending;
  whole = AreWhole-set_word records who index value sized small good.whole;
}
