-- What an accepted segment text has: each test passes, and what that says of the segment.
use Rattle.std.proofs.Common.{◌≡◌, ℕ, ◌+◌, ◌-◌, ◌*◌, ◌/◌, ◌%◌, ◌^◌, ◌<◌, ◌≤◌, ◌⊎◌, Bool, true}
use Rattle.std.proofs.Common.{false, List, ◌&&◌, length, map, get_or, drop, refl, sym, ap, subst}
use Rattle.std.proofs.Common.{◌∙◌, inl, inr, arith, zero, suc, zero-add}
use Rattle.std.specs.Prelude.{◌==◌, ◌||◌, nat_lt, nat_le, Option, Some, None, Ok}
use Rattle.std.specs.List.{All, Contains, list_all, list_any, range_with_len}
use Rattle.std.specs.Int.{from_le_bytes, w64}
use Rattle.std.proofs.lemmas.Bool.{cases_lt}
use Rattle.std.proofs.lemmas.Bool.Decides.{nat_tests}
use Rattle.std.proofs.lemmas.List.{get_or-drop, get_or_past, length-drop, length-take-le}
use Rattle.std.proofs.lemmas.List.Elements.{All-drop, All-take}
use Rattle.std.proofs.lemmas.List.FromFn.{get_or-map-range_with_len, length-map-range_with_len}
use Rattle.bn_types.specs.Numbers.{number_at}
use Rattle.bn_types.specs.declared.width.Width.TheVariants.{B8}
use Rattle.bn_types.specs.declared.seg_fault.SegFault.{SegFault}
use Rattle.bn_types.specs.declared.seg_page.SegPage.{SegPage}
use Rattle.bn_types.specs.declared.segment.Segment.{Segment}
use Rattle.bn_model.specs.Bits.{is_set}
use Rattle.bn_model.specs.SegmentLaws.{AreBytes, IsCode, IsDigest, IsEntry, IsPage, IsSegment}
use Rattle.bn_model.specs.SegmentLaws.{VpnsAscend}
use Rattle.bn_model.specs.Segments.{are_placed, ascends, by_fault, entry_count, entry_in}
use Rattle.bn_model.specs.Segments.{first_fault, has_entries, has_magic, has_mask, has_mode}
use Rattle.bn_model.specs.Segments.{has_pages, has_partners, has_rights, has_version, holds_code}
use Rattle.bn_model.specs.Segments.{have_masks, have_rights, have_sorts, in_order, is_executed}
use Rattle.bn_model.specs.Segments.{is_padded, is_placed, on_pages, page_count, page_in}
use Rattle.bn_model.specs.Segments.{partner_count, partner_in, segment_in, segment_of, sort_if}
use Rattle.bn_model.specs.Segments.{sort_in, rights_in, unless, vpn_in}

-- ---- an accepted text passes each test

pub record Passes (text : List ℕ) : Type 0 where
  pub magic : has_magic text ≡ true
  pub version : has_version text ≡ true
  pub mode : has_mode text ≡ true
  pub entries : has_entries text ≡ true
  pub pages : has_pages text ≡ true
  pub order : in_order text ≡ true
  pub sorts : have_sorts text ≡ true
  pub rights : have_rights text ≡ true
  pub placed : are_placed text ≡ true
  pub partners : has_partners text ≡ true
  pub padded : is_padded text ≡ true

-- a test that nothing is told of passed, and nor is anything told of the next ones
unless-none : (test : Bool) (refusal : SegFault) (next : Option SegFault)
    → unless test refusal next ≡ None → (test ≡ true) × (next ≡ None)
unless-none true refusal next e = (refl, e)
unless-none false refusal next e = cc

pub passes : (text : List ℕ) → first_fault text ≡ None → Passes text
unfolding first_fault
passes text e =
    let t0 = unless-none _ _ _ e in
    let t1 = unless-none _ _ _ t0.1 in
    let t2 = unless-none _ _ _ t1.1 in
    let t3 = unless-none _ _ _ t2.1 in
    let t4 = unless-none _ _ _ t3.1 in
    let t5 = unless-none _ _ _ t4.1 in
    let t6 = unless-none _ _ _ t5.1 in
    let t7 = unless-none _ _ _ t6.1 in
    let t8 = unless-none _ _ _ t7.1 in
    let t9 = unless-none _ _ _ t8.1 in
    let t10 = unless-none _ _ _ t9.1 in
    record {
      magic = t0.0;
      version = t1.0;
      mode = t2.0;
      entries = t3.0;
      pages = t4.0;
      order = t5.0;
      sorts = t6.0;
      rights = t7.0;
      placed = t8.0;
      partners = t9.0;
      padded = t10.0;
    }

-- an accepted text has no fault and says its segment
pub accepted : (text : List ℕ) (s : Segment) → segment_of text ≡ Ok s
    → (first_fault text ≡ None) × (segment_in text ≡ s)
unfolding segment_of
accepted text s e = go (first_fault text) refl e where
  go : (f : Option SegFault) → first_fault text ≡ f → by_fault f (segment_in text) ≡ Ok s
      → (first_fault text ≡ None) × (segment_in text ≡ s)
  go None p q = (p, cc)
  go (Some refusal) p q = cc

-- ---- tests of numbers and lists

pub both : (a b : Bool) → (a && b) ≡ true → (a ≡ true) × (b ≡ true)
both true b e = (refl, e)
both false b e = cc

all_of_range : (test : ℕ → Bool) (a n i : ℕ) → list_all test (range_with_len a n) ≡ true → i < n
    → test (a + i) ≡ true
all_of_range test a zero i e lt = absurd (omega arith)
all_of_range test a (suc n) zero e lt =
    let here : a + 0 ≡ a = omega arith in
    ap test here ∙ (both (test a) (list_all test (range_with_len (a + 1) n)) e).0
all_of_range test a (suc n) (suc i) e lt =
    let here : a + 1 + i ≡ a + suc i = omega arith in
    ap test (sym here) ∙ all_of_range test (a + 1) n i
    (both (test a) (list_all test (range_with_len (a + 1) n)) e).1 (omega arith)

pub all_below : (test : ℕ → Bool) (n i : ℕ) → list_all test (range_with_len 0 n) ≡ true → i < n
    → test i ≡ true
all_below test n i e lt = ap test (sym (zero-add i)) ∙ all_of_range test 0 n i e lt

-- ---- numbers of bytes

pub byte-below : (text : List ℕ) → AreBytes text → (k : ℕ) → get_or text k 0 < 256
byte-below text bytes k = go (cases_lt k (length text)) where
  go : (k < length text) ⊎ (length text ≤ k) → get_or text k 0 < 256
  go (inl lt) = bytes k 0 lt
  go (inr past) = rw (get_or_past text k 0 past) (omega arith)

word-fits : (bytes : List ℕ) → ((k : ℕ) → get_or bytes k 0 < 256) → from_le_bytes w64 bytes < 2 ^ 64
word-fits bytes h =
    let b0 = h 0 in
    let b1 = h 1 in
    let b2 = h 2 in
    let b3 = h 3 in
    let b4 = h 4 in
    let b5 = h 5 in
    let b6 = h 6 in
    let b7 = h 7 in
    omega arith

pub number-fits : (text : List ℕ) (o : ℕ) → AreBytes text → number_at B8 text o < 2 ^ 64
unfolding number_at
number-fits text o bytes =
    word-fits (drop o text) (λ k. rw (get_or-drop o text k 0) (byte-below text bytes (o + k)))

-- ---- the parts of the segment

pub few_entries : (text : List ℕ) → has_entries text ≡ true
    → (1 ≤ entry_count text) × (entry_count text ≤ 8)
unfolding has_entries
few_entries text e = grind (arith, nat_tests)

pub few_pages : (text : List ℕ) → has_pages text ≡ true
    → (1 ≤ page_count text) × (page_count text ≤ 64)
unfolding has_pages
few_pages text e = grind (arith, nat_tests)

pub few_partners : (text : List ℕ) → has_partners text ≡ true → partner_count text ≤ 4
unfolding has_partners
few_partners text e =
    let h = (both (nat_le (partner_count text) 4) (have_masks text) e).0 in
    grind (arith, nat_tests)

-- a search of a range that succeeds, at some number
found_in_range : (test : ℕ → Bool) (a n : ℕ) → list_any test (range_with_len a n) ≡ true
    → (i : ℕ) × (i < n) × (test (a + i) ≡ true)
found_in_range test a zero e = cc
found_in_range test a (suc n) e = go (test a) (found_in_range test (a + 1) n) refl e where
  go : (b : Bool) → (list_any test (range_with_len (a + 1) n) ≡ true
      → (i : ℕ) × (i < n) × (test (a + 1 + i) ≡ true))
      → test a ≡ b → (b || list_any test (range_with_len (a + 1) n)) ≡ true
      → (i : ℕ) × (i < suc n) × (test (a + i) ≡ true)
  go true rest p q =
      let here : a + 0 ≡ a = omega arith in
      (0, omega arith, ap test here ∙ p)
  go false rest p q =
      let found = rest q in
      let here : a + suc found.0 ≡ a + 1 + found.0 = omega arith in
      (suc found.0, omega (arith, found.1), ap test here ∙ found.2)

found_below : (test : ℕ → Bool) (n : ℕ) → list_any test (range_with_len 0 n) ≡ true
    → (i : ℕ) × (i < n) × (test i ≡ true)
found_below test n e =
    let found = found_in_range test 0 n e in
    (found.0, found.1, ap test (sym (zero-add found.0)) ∙ found.2)

code-is : (text : List ℕ) (vpn i : ℕ) → holds_code text vpn i ≡ true → IsCode vpn (page_in text i)
unfolding holds_code page_in
code-is text vpn i e =
    let t2 = both (vpn_in text i == vpn && sort_in text i == 1) (is_set (rights_in text i) 2) e in
    let t1 = both (vpn_in text i == vpn) (sort_in text i == 1) t2.0 in
    let same : vpn_in text i ≡ vpn = let h = t1.0 in grind (arith, nat_tests) in
    record {
      vpn = same;
      «private» = ap (λ (b : Bool). sort_if b (sort_in text i == 2)) t1.1;
      fetch = t2.1;
    }

code-among : (text : List ℕ) (vpn : ℕ) → is_executed text vpn ≡ true
    → (page : SegPage) × Contains (map (page_in text) (range_with_len 0 (page_count text))) page ×
    IsCode vpn page
unfolding is_executed
code-among text vpn e =
    let n = page_count text in
    let found = found_below (holds_code text vpn) n e in
    let i = found.0 in
    let within : i < length (map (page_in text) (range_with_len 0 n)) =
    omega (arith, found.1, length-map-range_with_len (page_in text) 0 n) in
    let here : get_or (map (page_in text) (range_with_len 0 n)) i (page_in text i) ≡
    page_in text i =
    get_or-map-range_with_len (page_in text) 0 n i i (page_in text i) found.1 (zero-add i) in
    (page_in text i, (i, within, here), code-is text vpn i found.2)

entry-is : (text : List ℕ) (i : ℕ) → AreBytes text → is_placed text i ≡ true
    → IsEntry (map (page_in text) (range_with_len 0 (page_count text))) (entry_in text i)
unfolding is_placed
entry-is text i bytes e =
    let halves = both (entry_in text i % 4 == 0) (is_executed text (entry_in text i / 4096)) e in
    let even : entry_in text i % 4 ≡ 0 = let h = halves.0 in grind (arith, nat_tests) in
    record {
      aligned = even;
      fits = number-fits text (16 + 8 * i) bytes;
      placed = code-among text (entry_in text i / 4096) halves.1;
    }

pub vpn-fits : (text : List ℕ) (i : ℕ) → ascends text i ≡ true → vpn_in text i < 2 ^ 52
unfolding ascends
vpn-fits text i e = grind (arith, nat_tests)

pub vpn-more : (text : List ℕ) (i : ℕ) → ascends text (i + 1) ≡ true
    → vpn_in text i < vpn_in text (i + 1)
unfolding ascends
vpn-more text i e =
    let back : i + 1 - 1 ≡ i = omega arith in
    go (vpn_in text i) (vpn_in text (i + 1)) (ap (vpn_in text) back) e where
      go : (low high : ℕ) → vpn_in text (i + 1 - 1) ≡ low
          → (nat_lt high (2 ^ 52) && ((i + 1 == 0) || nat_lt (vpn_in text (i + 1 - 1)) high)) ≡ true
          → low < high
      go low high same h = grind (arith, nat_tests)

-- virtual pages ascend over any distance
vpns-ascend : (text : List ℕ) (n i k : ℕ) → ((j : ℕ) → j < n → ascends text j ≡ true)
    → i + suc k < n → vpn_in text i < vpn_in text (i + suc k)
vpns-ascend text n i zero h lt =
    let here : i + 1 ≡ i + suc zero = omega arith in
    rw (← here) (vpn-more text i (h (i + 1) (omega arith)))
vpns-ascend text n i (suc k) h lt =
    let next : i + suc k + 1 ≡ i + suc (suc k) = omega arith in
    let step : vpn_in text (i + suc k) < vpn_in text (i + suc k + 1) =
    vpn-more text (i + suc k) (h (i + suc k + 1) (omega arith)) in
    let so_far = vpns-ascend text n i k h (omega arith) in
    rw (← next) (omega arith)

page-is : (text : List ℕ) (i : ℕ) → AreBytes text → ascends text i ≡ true → has_rights text i ≡ true
    → has_mask text i ≡ true
    → IsPage (partner_count text) (page_in text i)
unfolding page_in has_rights has_mask
page-is text i bytes in_order rights mask = record {
  vpn = vpn-fits text i in_order;
  rights = rights;
  mask = mask;
  fits = byte-below text bytes (80 + 16 * i + 10);
}

page-vpn : (text : List ℕ) (i : ℕ) → (page_in text i).vpn.0 ≡ vpn_in text i
unfolding page_in
page-vpn text i = refl

pub all_of_map : {X : Type 0} (P : X → Type 0) (f : ℕ → X) (n : ℕ) → ((i : ℕ) → i < n → P (f i))
    → All P (map f (range_with_len 0 n))
all_of_map P f n h k d lt =
    let within : k < n = omega (arith, length-map-range_with_len f 0 n) in
    subst P (sym (get_or-map-range_with_len f 0 n k k d within (zero-add k))) (h k within)

entries-are : (text : List ℕ) → AreBytes text → are_placed text ≡ true
    → All (IsEntry (map (page_in text) (range_with_len 0 (page_count text))))
    (map (entry_in text) (range_with_len 0 (entry_count text)))
unfolding are_placed
entries-are text bytes e =
    all_of_map (IsEntry (map (page_in text) (range_with_len 0 (page_count text)))) (entry_in text)
    (entry_count text)
    (λ i lt. entry-is text i bytes (all_below (is_placed text) (entry_count text) i e lt))

partner-is : (text : List ℕ) (i : ℕ) → AreBytes text → 1104 + 32 * i + 32 ≤ length text
    → IsDigest (partner_in text i)
partner-is text i bytes inside =
    let o = 1104 + 32 * i in
    record {
      size = length-take-le (o + 32 - o) (drop o text) (omega (arith, length-drop o text))
          ∙ omega arith;
      bytes = All-take (λ byte. byte < 256) (o + 32 - o) (drop o text)
          (All-drop (λ byte. byte < 256) o text bytes);
    }

masks-are : (text : List ℕ) → has_partners text ≡ true → (i : ℕ) → i < page_count text
    → has_mask text i ≡ true
unfolding has_partners have_masks
masks-are text e i lt =
    all_below (has_mask text) (page_count text) i
    (both (nat_le (partner_count text) 4) (on_pages (has_mask text) text) e).1 lt

pub order-is : (text : List ℕ) → in_order text ≡ true → (i : ℕ) → i < page_count text
    → ascends text i ≡ true
unfolding in_order
order-is text e i lt = all_below (ascends text) (page_count text) i e lt

rights-are : (text : List ℕ) → have_rights text ≡ true → (i : ℕ) → i < page_count text
    → has_rights text i ≡ true
unfolding have_rights
rights-are text e i lt = all_below (has_rights text) (page_count text) i e lt

pages-ascend : (text : List ℕ) → in_order text ≡ true
    → VpnsAscend (map (page_in text) (range_with_len 0 (page_count text)))
pages-ascend text e i j d before within =
    let n = page_count text in
    let below : j < n = omega (arith, length-map-range_with_len (page_in text) 0 n) in
    let at_i : get_or (map (page_in text) (range_with_len 0 n)) i d ≡ page_in text i =
    get_or-map-range_with_len (page_in text) 0 n i i d (omega arith) (zero-add i) in
    let at_j : get_or (map (page_in text) (range_with_len 0 n)) j d ≡ page_in text j =
    get_or-map-range_with_len (page_in text) 0 n j j d below (zero-add j) in
    let far : i + suc (j - i - 1) ≡ j = omega arith in
    let less : vpn_in text i < vpn_in text (i + suc (j - i - 1)) =
    vpns-ascend text n i (j - i - 1) (order-is text e) (omega arith) in
    let low = ap (λ (page : SegPage). page.vpn.0) at_i ∙ page-vpn text i in
    let high = ap (λ (page : SegPage). page.vpn.0) at_j ∙ page-vpn text j
    ∙ ap (vpn_in text) (sym far) in
    omega arith

is_segment : (text : List ℕ) → AreBytes text → length text ≡ 1232 → Passes text
    → IsSegment (segment_in text)
unfolding segment_in
is_segment text bytes long p =
    let entry_length = length-map-range_with_len (entry_in text) 0 (entry_count text) in
    let page_length = length-map-range_with_len (page_in text) 0 (page_count text) in
    let partner_length = length-map-range_with_len (partner_in text) 0 (partner_count text) in
    let entries = few_entries text p.entries in
    let pages = few_pages text p.pages in
    let partners = few_partners text p.partners in
    record {
      some_entries = omega arith;
      few_entries = omega arith;
      entries = entries-are text bytes p.placed;
      some_pages = omega arith;
      few_pages = omega arith;
      pages = rw partner_length
          (all_of_map (IsPage (partner_count text)) (page_in text) (page_count text)
          (λ i lt. page-is text i bytes (order-is text p.order i lt) (rights-are text p.rights i lt)
          (masks-are text p.partners i lt)));
      order = pages-ascend text p.order;
      few_partners = omega arith;
      partners = all_of_map IsDigest (partner_in text) (partner_count text)
          (λ i lt. partner-is text i bytes (omega arith));
    }

pub accepted-is_segment : (text : List ℕ) (s : Segment) → AreBytes text → length text ≡ 1232
    → segment_of text ≡ Ok s → IsSegment s
accepted-is_segment text s bytes long e =
    let h = accepted text s e in
    subst IsSegment h.1 (is_segment text bytes long (passes text h.0))
