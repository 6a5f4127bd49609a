-- The way back: the spelling of a segment is accepted, and says that segment.
use Rattle.std.proofs.Common.{◌≡◌, ℕ, ◌+◌, ◌-◌, ◌*◌, ◌/◌, ◌%◌, ◌^◌, ◌<◌, ◌≤◌, Bool, true, false}
use Rattle.std.proofs.Common.{List, [], ◌∷◌, ◌++◌, ◌&&◌, length, map, get_or, take, drop, replicate}
use Rattle.std.proofs.Common.{refl, sym, ap, subst, ◌∙◌, arith, zero, suc, zero-add}
use Rattle.std.specs.Prelude.{◌==◌, ◌||◌, nat_le, nat_lt, codes, flat_map, Ok, None}
use Rattle.std.specs.Int.{to_le_bytes, w64}
use Rattle.std.specs.List.{All, list_all, list_any, range_with_len}
use Rattle.std.proofs.lemmas.Bool.Decides.{nat_tests}
use Rattle.std.proofs.lemmas.List.{append_assoc, append-nil, get_or_append_left, get_or-append-add}
use Rattle.std.proofs.lemmas.List.{get_or-drop, get_or-replicate, get_or-take, get_or_default}
use Rattle.std.proofs.lemmas.List.{length-take, length-append, length-drop, length-replicate}
use Rattle.std.proofs.lemmas.List.{length-take-le, same_lists}
use Rattle.std.proofs.lemmas.List.Elements.{All-head, All-tail}
use Rattle.std.proofs.lemmas.List.FromFn.{get_or-map-range_with_len, length-map-range_with_len}
use Rattle.std.proofs.lemmas.List.Sums.{list_all-from_AllPass}
use Rattle.std.proofs.lemmas.Nat.{from_le_bytes-to_le_bytes_8}
use Rattle.bn_types.specs.Numbers.{number_at}
use Rattle.bn_types.specs.declared.digest.Digest.{Digest}
use Rattle.bn_types.specs.declared.mode.Mode.{Mode}
use Rattle.bn_types.specs.declared.mode.Mode.TheVariants.{U, S}
use Rattle.bn_types.specs.declared.seg_page.SegPage.{SegPage}
use Rattle.bn_types.specs.declared.segment.Segment.{Segment}
use Rattle.bn_types.specs.declared.sort.Sort.{Sort}
use Rattle.bn_types.specs.declared.sort.Sort.TheVariants.{Private, Offer, Accept}
use Rattle.bn_types.specs.declared.width.Width.TheVariants.{B8}
use Rattle.bn_model.proofs.PageNumbers.{number_at-same}
use Rattle.bn_model.proofs.SegmentFacts.{Passes}
use Rattle.bn_model.specs.Bits.{is_set}
use Rattle.bn_model.specs.SegmentLaws.{IsCode, IsDigest, IsEntry, IsSegment}
use Rattle.bn_model.specs.Segments.{are_pages_padded, are_placed, are_zero, ascends, entry_bytes}
use Rattle.bn_model.specs.Segments.{entry_count, entry_in, first_fault, has_entries, has_magic}
use Rattle.bn_model.specs.Segments.{has_mask, has_mode, has_pages, has_partners, has_rights}
use Rattle.bn_model.specs.Segments.{has_sort, has_version, have_masks, have_rights, have_sorts}
use Rattle.bn_model.specs.Segments.{header_bytes, holds_code, in_order, is_from_to, fits_sort}
use Rattle.bn_model.specs.Segments.{names_partners, on_pages, is_executed, is_padded}
use Rattle.bn_model.specs.Segments.{is_page_padded, is_placed, is_zero, mode_if, mode_number}
use Rattle.bn_model.specs.Segments.{page_bytes, page_count, page_in, partner_bytes, partner_count}
use Rattle.bn_model.specs.Segments.{partner_in, rights_in, segment_in, segment_of, sort_if, sort_in}
use Rattle.bn_model.specs.Segments.{sort_number, sort_of, spelling_of_segment, vpn_in}

-- ---- lists of pieces of one size

piece-at : {X : Type 0} (g : X → List ℕ) (xs : List X) (rest : List ℕ) (k i j : ℕ) (d : X)
    → All (λ x. length (g x) ≡ k) xs → i < length xs → j < k
    → get_or (flat_map g xs ++ rest) (k * i + j) 0 ≡ get_or (g (get_or xs i d)) j 0
piece-at g [] rest k i j d sizes lt inside = absurd (omega arith)
piece-at g (x ∷ xs) rest k zero j d sizes lt inside =
    let size = All-head (λ x. length (g x) ≡ k) x xs sizes in
    let here : k * 0 + j ≡ j = omega arith in
    rw (here, append_assoc (g x) (flat_map g xs) rest)
    (get_or_append_left (g x) (flat_map g xs ++ rest) 0 j (omega arith))
piece-at g (x ∷ xs) rest k (suc i) j d sizes lt inside =
    let size : length (g x) ≡ k = All-head (λ x. length (g x) ≡ k) x xs sizes in
    let there : k * suc i + j ≡ length (g x) + (k * i + j) = omega arith in
    rw (there, append_assoc (g x) (flat_map g xs) rest)
    (get_or-append-add (g x) (flat_map g xs ++ rest) (k * i + j) 0
    ∙ piece-at g xs rest k i j d (All-tail (λ x. length (g x) ≡ k) x xs sizes) (omega arith) inside)

pieces-length : {X : Type 0} (g : X → List ℕ) (xs : List X) (k : ℕ) → All (λ x. length (g x) ≡ k) xs
    → length (flat_map g xs) ≡ k * length xs
pieces-length g [] k sizes = omega arith
pieces-length g (x ∷ xs) k sizes =
    let size = All-head (λ x. length (g x) ≡ k) x xs sizes in
    let rest = pieces-length g xs k (All-tail (λ x. length (g x) ≡ k) x xs sizes) in
    let both = length-append (g x) (flat_map g xs) in
    omega arith

-- a byte of a table of such pieces that stands in a text
in_table : {X : Type 0} (g : X → List ℕ) (xs : List X) (whole before rest : List ℕ) (o k i j : ℕ)
    (d : X)
    → whole ≡ before ++ (flat_map g xs ++ rest) → length before ≡ o → All (λ x. length (g x) ≡ k) xs
    → i < length xs → j < k
    → get_or whole (o + (k * i + j)) 0 ≡ get_or (g (get_or xs i d)) j 0
in_table g xs whole before rest o k i j d e size sizes lt inside =
    rw (e, ← size) (get_or-append-add before (flat_map g xs ++ rest) (k * i + j) 0
    ∙ piece-at g xs rest k i j d sizes lt inside)

-- ---- zeros

zero-test : (n : ℕ) → n ≡ 0 → (n == 0) ≡ true
zero-test n e = rw e refl

zeros-at : (text : List ℕ) (from to : ℕ) → to ≤ length text
    → ((j : ℕ) → from + j < to → get_or text (from + j) 0 ≡ 0) → are_zero text from to ≡ true
unfolding are_zero
zeros-at text from to inside each = list_all-from_AllPass is_zero piece at where
  piece : List ℕ
  piece = take (to - from) (drop from text)

  at : (k : ℕ) (d : ℕ) → k < length piece → (get_or piece k d == 0) ≡ true
  at k d lt =
      let long : length piece ≤ to - from =
      omega (arith, length-take (to - from) (drop from text)) in
      let read : get_or piece k d ≡ get_or text (from + k) d =
      get_or-take (to - from) (drop from text) k d (omega arith) ∙ get_or-drop from text k d in
      let told : get_or text (from + k) d ≡ get_or text (from + k) 0 =
      get_or_default text (from + k) d 0 (omega arith) in
      zero-test (get_or piece k d) (read ∙ told ∙ each k (omega arith))

in_zeros : (whole before rest : List ℕ) (o n j : ℕ) → whole ≡ before ++ (replicate n 0 ++ rest)
    → length before ≡ o → j < n → get_or whole (o + j) 0 ≡ 0
in_zeros whole before rest o n j e size lt =
    let long : length (replicate {A = ℕ} n 0) ≡ n = length-replicate n 0 in
    rw (e, ← size) (get_or-append-add before (replicate n 0 ++ rest) j 0
    ∙ get_or_append_left (replicate n 0) rest 0 j (omega arith) ∙ get_or-replicate n j 0 0 lt)

-- ---- the parts of a spelling

abbrev entries_part : Segment → List ℕ
entries_part s = flat_map entry_bytes s.entries.items

abbrev pages_part : Segment → List ℕ
pages_part s = flat_map page_bytes s.pages.items

abbrev partners_part : Segment → List ℕ
partners_part s = flat_map partner_bytes s.partners.items

abbrev entry_gap : Segment → List ℕ
entry_gap s = replicate (64 - 8 * length s.entries.items) 0

abbrev page_gap : Segment → List ℕ
page_gap s = replicate (1024 - 16 * length s.pages.items) 0

abbrev partner_gap : Segment → List ℕ
partner_gap s = replicate (128 - 32 * length s.partners.items) 0

-- the tables' rows have one size each
entry-size : (x : ℕ) → length (entry_bytes x) ≡ 8
unfolding entry_bytes
entry-size x = refl

page-size : (x : SegPage) → length (page_bytes x) ≡ 16
unfolding page_bytes
page-size x = refl

partner-size : (x : Digest) → IsDigest x → length (partner_bytes x) ≡ 32
unfolding partner_bytes
partner-size x h = h.size

header-size : (s : Segment) → length (header_bytes s) ≡ 16
unfolding header_bytes
header-size s = refl

-- each part between what stands before and behind it
split1 : (a b c d e f g : List ℕ)
    → a ++ b ++ c ++ d ++ e ++ f ++ g ≡ a ++ (b ++ (c ++ (d ++ (e ++ (f ++ g)))))
split1 a b c d e f g = simp append_assoc

split2 : (a b c d e f g : List ℕ)
    → a ++ b ++ c ++ d ++ e ++ f ++ g ≡ (a ++ b) ++ (c ++ (d ++ (e ++ (f ++ g))))
split2 a b c d e f g = simp append_assoc

split3 : (a b c d e f g : List ℕ)
    → a ++ b ++ c ++ d ++ e ++ f ++ g ≡ (a ++ b ++ c) ++ (d ++ (e ++ (f ++ g)))
split3 a b c d e f g = simp append_assoc

split4 : (a b c d e f g : List ℕ)
    → a ++ b ++ c ++ d ++ e ++ f ++ g ≡ (a ++ b ++ c ++ d) ++ (e ++ (f ++ g))
split4 a b c d e f g = simp append_assoc

split5 : (a b c d e f g : List ℕ)
    → a ++ b ++ c ++ d ++ e ++ f ++ g ≡ (a ++ b ++ c ++ d ++ e) ++ (f ++ g)
split5 a b c d e f g = simp append_assoc

split6 : (a b c d e f g : List ℕ)
    → a ++ b ++ c ++ d ++ e ++ f ++ g ≡ (a ++ b ++ c ++ d ++ e ++ f) ++ (g ++ [])
split6 a b c d e f g = simp (append_assoc, append-nil)

spelling-is : (s : Segment)
    → spelling_of_segment s ≡
    header_bytes s ++ entries_part s ++ entry_gap s ++ pages_part s ++ page_gap s ++
    partners_part s ++ partner_gap s
unfolding spelling_of_segment
spelling-is s = refl

-- how long the parts are
pub record Sizes (s : Segment) : Type 0 where
  pub to_head : length (header_bytes s) ≡ 16
  pub to_entries : length (header_bytes s ++ entries_part s) ≡ 16 + 8 * length s.entries.items
  pub to_entry_gap : length (header_bytes s ++ entries_part s ++ entry_gap s) ≡ 80
  pub to_pages : length (header_bytes s ++ entries_part s ++ entry_gap s ++ pages_part s) ≡
      80 + 16 * length s.pages.items
  pub to_page_gap : length
      (header_bytes s ++ entries_part s ++ entry_gap s ++ pages_part s ++ page_gap s) ≡ 1104
  pub to_partners : length
      (header_bytes s ++ entries_part s ++ entry_gap s ++ pages_part s ++ page_gap s ++
      partners_part s) ≡ 1104 + 32 * length s.partners.items
  pub to_whole : length (spelling_of_segment s) ≡ 1232

add-length : (a b : List ℕ) (n m k : ℕ) → length a ≡ n → length b ≡ m → n + m ≡ k
    → length (a ++ b) ≡ k
add-length a b n m k p q e = omega (arith, length-append a b)

sizes : (s : Segment) → IsSegment s → Sizes s
sizes s h =
    let entry_bound = h.few_entries in
    let page_bound = h.few_pages in
    let partner_bound = h.few_partners in
    let s0 = header-size s in
    let s1 = add-length (header_bytes s) (entries_part s) 16 (8 * length s.entries.items)
    (16 + 8 * length s.entries.items) s0
    (pieces-length entry_bytes s.entries.items 8 (λ k d lt. entry-size _)) refl in
    let s2 = add-length _ (entry_gap s) (16 + 8 * length s.entries.items)
    (64 - 8 * length s.entries.items) 80 s1 (length-replicate _ _) (omega arith) in
    let s3 = add-length _ (pages_part s) 80 (16 * length s.pages.items)
    (80 + 16 * length s.pages.items) s2
    (pieces-length page_bytes s.pages.items 16 (λ k d lt. page-size _)) refl in
    let s4 = add-length _ (page_gap s) (80 + 16 * length s.pages.items)
    (1024 - 16 * length s.pages.items) 1104 s3 (length-replicate _ _) (omega arith) in
    let s5 = add-length _ (partners_part s) 1104 (32 * length s.partners.items)
    (1104 + 32 * length s.partners.items) s4
    (pieces-length partner_bytes s.partners.items 32 (λ k d lt. partner-size _ (h.partners k d lt)))
    refl in
    let s6 = add-length _ (partner_gap s) (1104 + 32 * length s.partners.items)
    (128 - 32 * length s.partners.items) 1232 s5 (length-replicate _ _) (omega arith) in
    record {
      to_head = s0;
      to_entries = s1;
      to_entry_gap = s2;
      to_pages = s3;
      to_page_gap = s4;
      to_partners = s5;
      to_whole = ap length (spelling-is s) ∙ s6;
    }

-- ---- the header of a spelling

head-byte : (s : Segment) (k : ℕ) → k < 16
    → get_or (spelling_of_segment s) k 0 ≡ get_or (header_bytes s) k 0
head-byte s k lt =
    let size = header-size s in
    rw (
      spelling-is s,
      split1 (header_bytes s) (entries_part s) (entry_gap s) (pages_part s)
          (page_gap s) (partners_part s) (partner_gap s),
    )
    (get_or_append_left (header_bytes s) _ 0 k (omega arith))

version-at : (s : Segment) → get_or (header_bytes s) 4 0 ≡ 1
unfolding header_bytes
version-at s = refl

mode-at : (s : Segment) → get_or (header_bytes s) 5 0 ≡ mode_number s.mode
unfolding header_bytes
mode-at s = refl

entry_count-at : (s : Segment) → get_or (header_bytes s) 6 0 ≡ length s.entries.items
unfolding header_bytes
entry_count-at s = refl

page_count-at : (s : Segment) → get_or (header_bytes s) 7 0 ≡ length s.pages.items
unfolding header_bytes
page_count-at s = refl

partner_count-at : (s : Segment) → get_or (header_bytes s) 8 0 ≡ length s.partners.items
unfolding header_bytes
partner_count-at s = refl

zero-at : (s : Segment) (j : ℕ) → j < 7 → get_or (header_bytes s) (9 + j) 0 ≡ 0
unfolding header_bytes
zero-at s j lt =
    get_or-append-add (codes "BNSG" ++ 1 ∷ mode_number s.mode ∷ length s.entries.items ∷
    length s.pages.items ∷ length s.partners.items ∷ []) (replicate 7 0) j 0
    ∙ get_or-replicate 7 j 0 0 lt

entry_count-of : (s : Segment) → entry_count (spelling_of_segment s) ≡ length s.entries.items
entry_count-of s = head-byte s 6 (omega arith) ∙ entry_count-at s

page_count-of : (s : Segment) → page_count (spelling_of_segment s) ≡ length s.pages.items
page_count-of s = head-byte s 7 (omega arith) ∙ page_count-at s

partner_count-of : (s : Segment) → partner_count (spelling_of_segment s) ≡ length s.partners.items
partner_count-of s = head-byte s 8 (omega arith) ∙ partner_count-at s

-- ---- the tables of a spelling

entry-byte : (s : Segment) (i j : ℕ) → IsSegment s → i < length s.entries.items → j < 8
    → get_or (spelling_of_segment s) (16 + (8 * i + j)) 0 ≡
    get_or (entry_bytes (get_or s.entries.items i 0)) j 0
entry-byte s i j h lt inside =
    in_table entry_bytes s.entries.items (spelling_of_segment s) (header_bytes s) _ 16 8 i j 0
    (spelling-is s ∙ split1 (header_bytes s) (entries_part s) (entry_gap s) (pages_part s)
    (page_gap s) (partners_part s) (partner_gap s))
    (sizes s h).to_head (λ k d below. entry-size _) lt inside

page-byte : (s : Segment) (i j : ℕ) (d : SegPage) → IsSegment s → i < length s.pages.items → j < 16
    → get_or (spelling_of_segment s) (80 + (16 * i + j)) 0 ≡
    get_or (page_bytes (get_or s.pages.items i d)) j 0
page-byte s i j d h lt inside =
    in_table page_bytes s.pages.items (spelling_of_segment s) _ _ 80 16 i j d
    (spelling-is s ∙ split3 (header_bytes s) (entries_part s) (entry_gap s) (pages_part s)
    (page_gap s) (partners_part s) (partner_gap s))
    (sizes s h).to_entry_gap (λ k e below. page-size _) lt inside

partner-byte : (s : Segment) (i j : ℕ) (d : Digest) → IsSegment s → i < length s.partners.items
    → j < 32
    → get_or (spelling_of_segment s) (1104 + (32 * i + j)) 0 ≡
    get_or (partner_bytes (get_or s.partners.items i d)) j 0
partner-byte s i j d h lt inside =
    in_table partner_bytes s.partners.items (spelling_of_segment s) _ _ 1104 32 i j d
    (spelling-is s ∙ split5 (header_bytes s) (entries_part s) (entry_gap s) (pages_part s)
    (page_gap s) (partners_part s) (partner_gap s))
    (sizes s h).to_page_gap (λ k e below. partner-size _ (h.partners k e below)) lt inside

-- ---- the zeros of a spelling

entry-zeros : (s : Segment) → IsSegment s
    → are_zero (spelling_of_segment s) (16 + 8 * length s.entries.items) 80 ≡ true
entry-zeros s h =
    zeros-at (spelling_of_segment s) (16 + 8 * length s.entries.items) 80
    (let long = (sizes s h).to_whole in omega arith)
    (λ j lt. in_zeros (spelling_of_segment s) _ _ (16 + 8 * length s.entries.items)
    (64 - 8 * length s.entries.items) j
    (spelling-is s ∙ split2 (header_bytes s) (entries_part s) (entry_gap s) (pages_part s)
    (page_gap s) (partners_part s) (partner_gap s))
    (sizes s h).to_entries (omega arith))

page-zeros : (s : Segment) → IsSegment s
    → are_zero (spelling_of_segment s) (80 + 16 * length s.pages.items) 1104 ≡ true
page-zeros s h =
    zeros-at (spelling_of_segment s) (80 + 16 * length s.pages.items) 1104
    (let long = (sizes s h).to_whole in omega arith)
    (λ j lt. in_zeros (spelling_of_segment s) _ _ (80 + 16 * length s.pages.items)
    (1024 - 16 * length s.pages.items) j
    (spelling-is s ∙ split4 (header_bytes s) (entries_part s) (entry_gap s) (pages_part s)
    (page_gap s) (partners_part s) (partner_gap s))
    (sizes s h).to_pages (omega arith))

partner-zeros : (s : Segment) → IsSegment s
    → are_zero (spelling_of_segment s) (1104 + 32 * length s.partners.items) 1232 ≡ true
partner-zeros s h =
    zeros-at (spelling_of_segment s) (1104 + 32 * length s.partners.items) 1232
    (let long = (sizes s h).to_whole in omega arith)
    (λ j lt. in_zeros (spelling_of_segment s) _ _ (1104 + 32 * length s.partners.items)
    (128 - 32 * length s.partners.items) j
    (spelling-is s ∙ split6 (header_bytes s) (entries_part s) (entry_gap s) (pages_part s)
    (page_gap s) (partners_part s) (partner_gap s))
    (sizes s h).to_partners (omega arith))

head-zeros : (s : Segment) → IsSegment s → are_zero (spelling_of_segment s) 9 16 ≡ true
head-zeros s h =
    zeros-at (spelling_of_segment s) 9 16 (let long = (sizes s h).to_whole in omega arith)
    (λ j lt. head-byte s (9 + j) (omega arith) ∙ zero-at s j (omega arith))

-- ---- what a spelling says

number-of_bytes : (n : ℕ) (rest : List ℕ) → n < 2 ^ 64
    → number_at B8 (to_le_bytes w64 n ++ rest) 0 ≡ n
unfolding number_at
number-of_bytes n rest fits = from_le_bytes-to_le_bytes_8 n fits

entry-back : (s : Segment) (i d : ℕ) → IsSegment s → i < length s.entries.items
    → entry_in (spelling_of_segment s) i ≡ get_or s.entries.items i d
unfolding entry_bytes
entry-back s i d h lt =
    let entry = get_or s.entries.items i 0 in
    let fits = (h.entries i 0 lt).fits in
    number_at-same B8 (spelling_of_segment s) (to_le_bytes w64 entry ++ []) (16 + 8 * i) 0 same
    ∙ number-of_bytes entry [] fits
    ∙ get_or_default s.entries.items i 0 d lt where
      same : (k : ℕ) → k < 8
          → get_or (spelling_of_segment s) (16 + 8 * i + k) 0 ≡
          get_or (to_le_bytes w64 (get_or s.entries.items i 0) ++ []) (0 + k) 0
      same k below =
          let place : 16 + 8 * i + k ≡ 16 + (8 * i + k) = omega arith in
          rw (place, zero-add k) (entry-byte s i k h lt below)

page-vpn_bytes : (page : SegPage) (k : ℕ) → page.vpn.0 < 2 ^ 64
    → number_at B8 (page_bytes page) 0 ≡ page.vpn.0
unfolding page_bytes
page-vpn_bytes page k fits =
    number-of_bytes page.vpn.0 (sort_number page.sort ∷ page.rights.0 ∷ page.mask ∷ replicate 5 0)
    fits

sort-back : (sort : Sort) → sort_of (sort_number sort) ≡ sort
sort-back Private = refl
sort-back Offer = refl
sort-back Accept = refl

page-sort_byte : (page : SegPage) → get_or (page_bytes page) 8 0 ≡ sort_number page.sort
unfolding page_bytes
page-sort_byte page = refl

page-rights_byte : (page : SegPage) → get_or (page_bytes page) 9 0 ≡ page.rights.0
unfolding page_bytes
page-rights_byte page = refl

page-mask_byte : (page : SegPage) → get_or (page_bytes page) 10 0 ≡ page.mask
unfolding page_bytes
page-mask_byte page = refl

page-zero_byte : (page : SegPage) (j : ℕ) → j < 5 → get_or (page_bytes page) (11 + j) 0 ≡ 0
unfolding page_bytes
page-zero_byte page j lt =
    get_or-append-add (to_le_bytes w64 page.vpn.0 ++ sort_number page.sort ∷ page.rights.0 ∷
    page.mask ∷ []) (replicate 5 0) j 0
    ∙ get_or-replicate 5 j 0 0 lt

page-byte_at : (s : Segment) (i j place : ℕ) (d : SegPage) → IsSegment s → i < length s.pages.items
    → j < 16 → 80 + (16 * i + j) ≡ place
    → get_or (spelling_of_segment s) place 0 ≡ get_or (page_bytes (get_or s.pages.items i d)) j 0
page-byte_at s i j place d h lt inside e =
    ap (λ (k : ℕ). get_or (spelling_of_segment s) k 0) (sym e) ∙ page-byte s i j d h lt inside

vpn-back : (s : Segment) (i : ℕ) (d : SegPage) → IsSegment s → i < length s.pages.items
    → vpn_in (spelling_of_segment s) i ≡ (get_or s.pages.items i d).vpn.0
vpn-back s i d h lt =
    let page = get_or s.pages.items i d in
    let fits = (h.pages i d lt).vpn in
    number_at-same B8 (spelling_of_segment s) (page_bytes page) (80 + 16 * i) 0 same
    ∙ page-vpn_bytes page 0 (omega arith) where
      same : (k : ℕ) → k < 8
          → get_or (spelling_of_segment s) (80 + 16 * i + k) 0 ≡
          get_or (page_bytes (get_or s.pages.items i d)) (0 + k) 0
      same k below = rw (zero-add k)
          (page-byte_at s i k (80 + 16 * i + k) d h lt (omega arith) (omega arith))

sort_in-back : (s : Segment) (i : ℕ) (d : SegPage) → IsSegment s → i < length s.pages.items
    → sort_in (spelling_of_segment s) i ≡ sort_number (get_or s.pages.items i d).sort
sort_in-back s i d h lt =
    page-byte_at s i 8 (80 + 16 * i + 8) d h lt (omega arith) (omega arith)
    ∙ page-sort_byte (get_or s.pages.items i d)

same_page : (a b : SegPage) → a.vpn.0 ≡ b.vpn.0 → a.sort ≡ b.sort → a.rights.0 ≡ b.rights.0
    → a.mask ≡ b.mask → a ≡ b
same_page a b vpn sort rights mask = λ t. record {
  vpn = record { 0 = vpn t };
  sort = sort t;
  rights = record { 0 = rights t };
  mask = mask t;
}

page-back : (s : Segment) (i : ℕ) (d : SegPage) → IsSegment s → i < length s.pages.items
    → page_in (spelling_of_segment s) i ≡ get_or s.pages.items i d
unfolding page_in
page-back s i d h lt =
    same_page _ (get_or s.pages.items i d) (vpn-back s i d h lt)
    (ap sort_of (sort_in-back s i d h lt) ∙ sort-back (get_or s.pages.items i d).sort)
    (page-byte_at s i 9 (80 + 16 * i + 9) d h lt (omega arith) (omega arith)
    ∙ page-rights_byte (get_or s.pages.items i d))
    (page-byte_at s i 10 (80 + 16 * i + 10) d h lt (omega arith) (omega arith)
    ∙ page-mask_byte (get_or s.pages.items i d))

partner-bytes_at : (digest : Digest) → partner_bytes digest ≡ digest.0
unfolding partner_bytes
partner-bytes_at digest = refl

partner-back : (s : Segment) (i : ℕ) (d : Digest) → IsSegment s → i < length s.partners.items
    → partner_in (spelling_of_segment s) i ≡ get_or s.partners.items i d
partner-back s i d h lt =
    same_digest (partner_in (spelling_of_segment s) i) (get_or s.partners.items i d)
    (same_lists _ _ (long ∙ sym size) each) where
      same_digest : (a b : Digest) → a.0 ≡ b.0 → a ≡ b
      same_digest a b e = λ t. record { 0 = e t }

      o : ℕ
      o = 1104 + 32 * i

      size : length (get_or s.partners.items i d).0 ≡ 32
      size = (h.partners i d lt).size

      long : length (take (o + 32 - o) (drop o (spelling_of_segment s))) ≡ 32
      long =
          let all = (sizes s h).to_whole in
          let few = h.few_partners in
          length-take-le (o + 32 - o) (drop o (spelling_of_segment s))
          (omega (arith, length-drop o (spelling_of_segment s))) ∙ omega arith

      each : (k e : ℕ) → k < length (take (o + 32 - o) (drop o (spelling_of_segment s)))
          → get_or (take (o + 32 - o) (drop o (spelling_of_segment s))) k e ≡
          get_or (get_or s.partners.items i d).0 k e
      each k e below =
          let all = (sizes s h).to_whole in
          let few = h.few_partners in
          let inside : k < 32 = omega (arith, long) in
          let place : o + k ≡ 1104 + (32 * i + k) = omega arith in
          get_or-take (o + 32 - o) (drop o (spelling_of_segment s)) k e (omega arith)
          ∙ get_or-drop o (spelling_of_segment s) k e
          ∙ get_or_default (spelling_of_segment s) (o + k) e 0 (omega arith)
          ∙ ap (λ (n : ℕ). get_or (spelling_of_segment s) n 0) place
          ∙ partner-byte s i k d h lt inside
          ∙ ap (λ (bytes : List ℕ). get_or bytes k 0)
          (partner-bytes_at (get_or s.partners.items i d))
          ∙ get_or_default (get_or s.partners.items i d).0 k 0 e (omega (arith, size))

-- a list that a function of the index makes again
made_again : {X : Type 0} (f : ℕ → X) (xs : List X) (n : ℕ) → n ≡ length xs
    → ((i : ℕ) (d : X) → i < length xs → f i ≡ get_or xs i d) → map f (range_with_len 0 n) ≡ xs
made_again f xs n e each =
    same_lists (map f (range_with_len 0 n)) xs (length-map-range_with_len f 0 n ∙ e)
    (λ k d lt.
    let within : k < n = omega (arith, length-map-range_with_len f 0 n) in
    get_or-map-range_with_len f 0 n k k d within (zero-add k) ∙ each k d (omega arith))

mode-back : (mode : Mode) → mode_if (mode_number mode == 0) ≡ mode
mode-back U = refl
mode-back S = refl

same_segment : (a b : Segment) → a.mode ≡ b.mode → a.entries.items ≡ b.entries.items
    → a.pages.items ≡ b.pages.items → a.partners.items ≡ b.partners.items → a ≡ b
same_segment a b mode entries pages partners = λ t. record {
  mode = mode t;
  entries = record { items = entries t };
  pages = record { items = pages t };
  partners = record { items = partners t };
}

says : (s : Segment) → IsSegment s → segment_in (spelling_of_segment s) ≡ s
unfolding segment_in
says s h =
    let t = spelling_of_segment s in
    same_segment _ s
    (ap (λ (n : ℕ). mode_if (n == 0)) (head-byte s 5 (omega arith) ∙ mode-at s) ∙ mode-back s.mode)
    (made_again (entry_in t) s.entries.items (entry_count t) (entry_count-of s)
    (λ i d lt. entry-back s i d h lt))
    (made_again (page_in t) s.pages.items (page_count t) (page_count-of s)
    (λ i d lt. page-back s i d h lt))
    (made_again (partner_in t) s.partners.items (partner_count t) (partner_count-of s)
    (λ i d lt. partner-back s i d h lt))

-- ---- each test of the spelling passes

both_true : (a b : Bool) → a ≡ true → b ≡ true → (a && b) ≡ true
both_true a b p q = rw (p, q) refl

or_right : (a b : Bool) → b ≡ true → (a || b) ≡ true
or_right true b e = refl
or_right false b e = e

in_range : (test : ℕ → Bool) (a n : ℕ) → ((i : ℕ) → i < n → test (a + i) ≡ true)
    → list_all test (range_with_len a n) ≡ true
in_range test a zero each = refl
in_range test a (suc n) each =
    let here : a + 0 ≡ a = omega arith in
    let first : test a ≡ true = ap test (sym here) ∙ each 0 (omega arith) in
    let rest = in_range test (a + 1) n
    (λ i lt. let there : a + 1 + i ≡ a + suc i = omega arith in ap test there
    ∙ each (suc i) (omega arith)) in
    both_true (test a) (list_all test (range_with_len (a + 1) n)) first rest

below_all : (test : ℕ → Bool) (n : ℕ) → ((i : ℕ) → i < n → test i ≡ true)
    → list_all test (range_with_len 0 n) ≡ true
below_all test n each = in_range test 0 n (λ i lt. ap test (zero-add i) ∙ each i lt)

found_at : (test : ℕ → Bool) (a n i : ℕ) → i < n → test (a + i) ≡ true
    → list_any test (range_with_len a n) ≡ true
found_at test a zero i lt e = absurd (omega arith)
found_at test a (suc n) zero lt e =
    let here : a + 0 ≡ a = omega arith in
    let first : test a ≡ true = ap test (sym here) ∙ e in
    rw first refl
found_at test a (suc n) (suc i) lt e =
    let there : a + suc i ≡ a + 1 + i = omega arith in
    or_right (test a) _ (found_at test (a + 1) n i (omega arith) (ap test (sym there) ∙ e))

found_in : (test : ℕ → Bool) (n i : ℕ) → i < n → test i ≡ true
    → list_any test (range_with_len 0 n) ≡ true
found_in test n i lt e = found_at test 0 n i lt (ap test (zero-add i) ∙ e)

magic-passes : (s : Segment) → has_magic (spelling_of_segment s) ≡ true
unfolding has_magic spelling_of_segment header_bytes
magic-passes s = refl

version-passes : (s : Segment) → has_version (spelling_of_segment s) ≡ true
unfolding has_version
version-passes s = let e = head-byte s 4 (omega arith) ∙ version-at s in rw e refl

mode-passes : (s : Segment) → has_mode (spelling_of_segment s) ≡ true
unfolding has_mode
mode-passes s = let e = head-byte s 5 (omega arith) ∙ mode-at s in rw e (few s.mode) where
  few : (mode : Mode) → nat_le (mode_number mode) 1 ≡ true
  few U = refl
  few S = refl

from_to : (least most n : ℕ) → least ≤ n → n ≤ most → is_from_to least most n ≡ true
from_to least most n low high = grind (arith, nat_tests)

entries-pass : (s : Segment) → IsSegment s → has_entries (spelling_of_segment s) ≡ true
unfolding has_entries
entries-pass s h = rw (entry_count-of s)
    (from_to 1 8 (length s.entries.items) h.some_entries h.few_entries)

pages-pass : (s : Segment) → IsSegment s → has_pages (spelling_of_segment s) ≡ true
unfolding has_pages
pages-pass s h = rw (page_count-of s) (from_to 1 64 (length s.pages.items) h.some_pages h.few_pages)

-- a test of every page
pages-all : (s : Segment) (test : ℕ → Bool) → ((i : ℕ) → i < length s.pages.items → test i ≡ true)
    → on_pages test (spelling_of_segment s) ≡ true
pages-all s test each =
    ap (λ (n : ℕ). list_all test (range_with_len 0 n)) (page_count-of s)
    ∙ below_all test (length s.pages.items) each

after : (low high i : ℕ) → high < 2 ^ 52 → (0 < i → low < high)
    → (nat_lt high (2 ^ 52) && ((i == 0) || nat_lt low high)) ≡ true
after low high zero fits more = grind (arith, nat_tests)
after low high (suc i) fits more = let less = more (omega arith) in grind (arith, nat_tests)

order-passes : (s : Segment) → IsSegment s → in_order (spelling_of_segment s) ≡ true
unfolding in_order ascends
order-passes s h = pages-all s (ascends (spelling_of_segment s)) each where
  t : List ℕ
  t = spelling_of_segment s

  each : (i : ℕ) → i < length s.pages.items
      → (nat_lt (vpn_in t i) (2 ^ 52) && ((i == 0) || nat_lt (vpn_in t (i - 1)) (vpn_in t i))) ≡
      true
  each i lt =
      let d : SegPage = page_in t 0 in
      let here : vpn_in t i ≡ (get_or s.pages.items i d).vpn.0 = vpn-back s i d h lt in
      let before : vpn_in t (i - 1) ≡ (get_or s.pages.items (i - 1) d).vpn.0 =
      vpn-back s (i - 1) d h (omega arith) in
      let fits : (get_or s.pages.items i d).vpn.0 < 2 ^ 52 = (h.pages i d lt).vpn in
      after (vpn_in t (i - 1)) (vpn_in t i) i (omega arith)
      (λ some. let less = h.order (i - 1) i d (omega arith) lt in omega arith)

sorts-pass : (s : Segment) → IsSegment s → have_sorts (spelling_of_segment s) ≡ true
unfolding have_sorts has_sort
sorts-pass s h =
    pages-all s (has_sort (spelling_of_segment s))
    (λ i lt. ap (is_from_to 1 3) (sort_in-back s i (page_in (spelling_of_segment s) 0) h lt)
    ∙ known (get_or s.pages.items i (page_in (spelling_of_segment s) 0)).sort) where
      known : (sort : Sort) → is_from_to 1 3 (sort_number sort) ≡ true
      known Private = refl
      known Offer = refl
      known Accept = refl

page-rights : (text : List ℕ) (i : ℕ)
    → has_rights text i ≡ fits_sort (page_in text i).sort (page_in text i).rights.0
unfolding has_rights page_in
page-rights text i = refl

page-mask : (text : List ℕ) (i : ℕ)
    → has_mask text i ≡ names_partners (page_in text i).sort (partner_count text)
    (page_in text i).mask
unfolding has_mask page_in
page-mask text i = refl

rights-pass : (s : Segment) → IsSegment s → have_rights (spelling_of_segment s) ≡ true
unfolding have_rights
rights-pass s h =
    let t = spelling_of_segment s in
    pages-all s (has_rights t)
    (λ i lt. page-rights t i
    ∙ ap (λ (page : SegPage). fits_sort page.sort page.rights.0) (page-back s i (page_in t 0) h lt)
    ∙ (h.pages i (page_in t 0) lt).rights)

masks-pass : (s : Segment) → IsSegment s → have_masks (spelling_of_segment s) ≡ true
unfolding have_masks
masks-pass s h =
    let t = spelling_of_segment s in
    pages-all s (has_mask t)
    (λ i lt. page-mask t i
    ∙ ap (λ (n : ℕ). names_partners (page_in t i).sort n (page_in t i).mask) (partner_count-of s)
    ∙ ap (λ (page : SegPage). names_partners page.sort (length s.partners.items) page.mask)
    (page-back s i (page_in t 0) h lt)
    ∙ (h.pages i (page_in t 0) lt).mask)

partners-pass : (s : Segment) → IsSegment s → has_partners (spelling_of_segment s) ≡ true
unfolding has_partners
partners-pass s h =
    let few : nat_le (partner_count (spelling_of_segment s)) 4 ≡ true =
    rw (partner_count-of s) (le4 (length s.partners.items) h.few_partners) in
    both_true (nat_le (partner_count (spelling_of_segment s)) 4)
    (have_masks (spelling_of_segment s)) few (masks-pass s h) where
      le4 : (n : ℕ) → n ≤ 4 → nat_le n 4 ≡ true
      le4 n few = grind (arith, nat_tests)

private-sort : (n : ℕ) → sort_of n ≡ Private → (n == 1) ≡ true
private-sort n e = go (n == 1) (n == 2) e where
  go : (a b : Bool) → sort_if a b ≡ Private → a ≡ true
  go true b e = refl
  go false true e = cc
  go false false e = cc

page-code : (text : List ℕ) (vpn i : ℕ) → IsCode vpn (page_in text i) → holds_code text vpn i ≡ true
unfolding holds_code page_in
page-code text vpn i code =
    let here : (vpn_in text i == vpn) ≡ true = same_true (vpn_in text i) vpn code.vpn in
    both_true (vpn_in text i == vpn && sort_in text i == 1) (is_set (rights_in text i) 2)
    (both_true (vpn_in text i == vpn) (sort_in text i == 1) here
    (private-sort (sort_in text i) code.private)) code.fetch where
      same_true : (a b : ℕ) → a ≡ b → (a == b) ≡ true
      same_true a b e = grind (arith, nat_tests)

entry-passes : (s : Segment) (i : ℕ) → IsSegment s → i < length s.entries.items
    → is_placed (spelling_of_segment s) i ≡ true
unfolding is_placed is_executed
entry-passes s i h lt =
    let t = spelling_of_segment s in
    let entry = get_or s.entries.items i 0 in
    let known : IsEntry s.pages.items entry = h.entries i 0 lt in
    let back : entry_in t i ≡ entry = entry-back s i 0 h lt in
    let even : (entry % 4 == 0) ≡ true = zero-test (entry % 4) known.aligned in
    let found = known.placed in
    let k = found.1.0 in
    let within : k < length s.pages.items = found.1.1 in
    let same : page_in t k ≡ found.0 = page-back s k found.0 h within ∙ found.1.2 in
    let code : IsCode (entry / 4096) (page_in t k) =
    subst (IsCode (entry / 4096)) (sym same) found.2 in
    let runs : list_any (holds_code t (entry / 4096)) (range_with_len 0 (page_count t)) ≡ true =
    found_in (holds_code t (entry / 4096)) (page_count t) k
    (let count = page_count-of s in omega arith) (page-code t (entry / 4096) k code) in
    rw back (both_true (entry % 4 == 0)
    (list_any (holds_code t (entry / 4096)) (range_with_len 0 (page_count t))) even runs)

placed-pass : (s : Segment) → IsSegment s → are_placed (spelling_of_segment s) ≡ true
unfolding are_placed
placed-pass s h =
    ap (λ (n : ℕ). list_all (is_placed (spelling_of_segment s)) (range_with_len 0 n))
    (entry_count-of s)
    ∙ below_all (is_placed (spelling_of_segment s)) (length s.entries.items)
    (λ i lt. entry-passes s i h lt)

page-end_passes : (s : Segment) (i : ℕ) → IsSegment s → i < length s.pages.items
    → is_page_padded (spelling_of_segment s) i ≡ true
unfolding is_page_padded
page-end_passes s i h lt =
    let all = (sizes s h).to_whole in
    let few = h.few_pages in
    let d : SegPage = page_in (spelling_of_segment s) 0 in
    zeros-at (spelling_of_segment s) (80 + 16 * i + 11) (80 + 16 * i + 16) (omega arith)
    (λ j below. page-byte_at s i (11 + j) (80 + 16 * i + 11 + j) d h lt (omega arith) (omega arith)
    ∙ page-zero_byte (get_or s.pages.items i d) j (omega arith))

page-ends_pass : (s : Segment) → IsSegment s → are_pages_padded (spelling_of_segment s) ≡ true
unfolding are_pages_padded
page-ends_pass s h = pages-all s (is_page_padded (spelling_of_segment s))
    (λ i lt. page-end_passes s i h lt)

padded-passes : (s : Segment) → IsSegment s → is_padded (spelling_of_segment s) ≡ true
unfolding is_padded
padded-passes s h =
    let t = spelling_of_segment s in
    rw (entry_count-of s, page_count-of s, partner_count-of s)
    (both_true _ _ (both_true _ _
    (both_true _ _ (both_true _ _ (head-zeros s h) (entry-zeros s h)) (page-ends_pass s h))
    (page-zeros s h)) (partner-zeros s h))

spelling-passes : (s : Segment) → IsSegment s → Passes (spelling_of_segment s)
spelling-passes s h = record {
  magic = magic-passes s;
  version = version-passes s;
  mode = mode-passes s;
  entries = entries-pass s h;
  pages = pages-pass s h;
  order = order-passes s h;
  sorts = sorts-pass s h;
  rights = rights-pass s h;
  placed = placed-pass s h;
  partners = partners-pass s h;
  padded = padded-passes s h;
}

faultless : (text : List ℕ) → Passes text → first_fault text ≡ None
unfolding first_fault
faultless text p = rw (
  p.magic,
  p.version,
  p.mode,
  p.entries,
  p.pages,
  p.order,
  p.sorts,
  p.rights,
  p.placed,
  p.partners,
  p.padded,
) refl

pub spelling-accepted : (s : Segment) → IsSegment s → segment_of (spelling_of_segment s) ≡ Ok s
unfolding segment_of
spelling-accepted s h = rw (faultless (spelling_of_segment s) (spelling-passes s h), says s h) refl
