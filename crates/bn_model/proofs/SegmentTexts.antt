-- The text of an accepted segment: spelt again, it is the text that was read.
use Rattle.std.proofs.Common.{◌≡◌, ℕ, ◌+◌, ◌-◌, ◌*◌, ◌<◌, ◌≤◌, Bool, true, false, List, [], ◌∷◌}
use Rattle.std.proofs.Common.{◌++◌, ◌&&◌, length, map, get_or, take, drop, replicate, refl, sym, ap}
use Rattle.std.proofs.Common.{◌∙◌, arith, zero, suc, zero-add, add-one}
use Rattle.std.specs.Prelude.{◌==◌, codes, flat_map, Ok}
use Rattle.std.specs.Cmp.Lexicographic.{same_text}
use Rattle.std.specs.Int.{from_le_bytes, to_le_bytes, w64}
use Rattle.std.specs.List.{list_all, range_with_len}
use Rattle.std.proofs.Math.Seq.{take-add, drop-cons}
use Rattle.std.proofs.lemmas.Bool.Decides.{nat_tests}
use Rattle.std.proofs.lemmas.List.{append_assoc, get_or-drop, get_or-take, length-drop, append-nil}
use Rattle.std.proofs.lemmas.List.{length-take-le, take_all, drop-drop}
use Rattle.std.proofs.lemmas.List.Concat.{flat_map-append}
use Rattle.std.proofs.lemmas.List.FromFn.{length-map-range_with_len, map-range_with_len_more}
use Rattle.std.proofs.lemmas.Grind.{common_steps}
use Rattle.std.proofs.lemmas.List.Elements.{All-drop, All-take}
use Rattle.std.proofs.lemmas.Nat.{le_bytes_8}
use Rattle.bn_types.specs.Numbers.{number_at}
use Rattle.bn_types.specs.declared.segment.Segment.{Segment}
use Rattle.bn_types.specs.declared.width.Width.TheVariants.{B8}
use Rattle.bn_model.specs.SegmentLaws.{AreBytes}
use Rattle.bn_model.specs.Segments.{are_pages_padded, are_zero, entry_bytes, entry_count, entry_in}
use Rattle.bn_model.specs.Segments.{has_magic, has_mode, has_sort, has_version, have_sorts}
use Rattle.bn_model.specs.Segments.{header_bytes, is_padded, is_page_padded, is_zero, mode_if}
use Rattle.bn_model.specs.Segments.{mode_number, page_bytes, page_count, page_in, partner_bytes}
use Rattle.bn_model.specs.Segments.{partner_count, partner_in, segment_in, segment_of, sort_if}
use Rattle.bn_model.specs.Segments.{sort_number, sort_of, spelling_of_segment, sort_in}
use Rattle.bn_model.proofs.PageNumbers.{number_at-same}
use Rattle.bn_model.proofs.SegmentFacts.{Passes, all_below, both, byte-below, few_entries}
use Rattle.bn_model.proofs.SegmentFacts.{few_pages, few_partners, passes, accepted}

-- ---- a text piece by piece

-- one byte more of a stretch
stretch-cons : (text : List ℕ) (o p n : ℕ) → o + 1 ≡ p → o < length text
    → take (suc n) (drop o text) ≡ get_or text o 0 ∷ take n (drop p text)
stretch-cons text o p n e inside = rw (← e, add-one o, drop-cons text o 0 inside) refl

-- a stretch in two parts
stretch-split : (text : List ℕ) (o n m : ℕ)
    → take (n + m) (drop o text) ≡ take n (drop o text) ++ take m (drop (o + n) text)
stretch-split text o n m = take-add n m (drop o text)
    ∙ ap (λ (rest : List ℕ). take n (drop o text) ++ take m rest) (drop-drop n o text)

-- so much of the text and the stretch behind it
longer : (x piece text : List ℕ) (o n : ℕ) → x ≡ take o text → piece ≡ take n (drop o text)
    → x ++ piece ≡ take (o + n) text
longer x piece text o n p q = rw (p, q) (sym (take-add o n text))

-- and many stretches of one size
chunks : {X : Type 0} (g : X → List ℕ) (h : ℕ → X) (text : List ℕ) (o k n : ℕ)
    → ((i : ℕ) → i < n → g (h i) ≡ take k (drop (o + k * i) text))
    → take o text ++ flat_map g (map h (range_with_len 0 n)) ≡ take (o + k * n) text
chunks g h text o k zero each =
    let here : o + k * 0 ≡ o = omega arith in
    rw here (grind (arith, common_steps))
chunks g h text o k (suc n) each =
    let next : n + 1 ≡ suc n = omega arith in
    let far : o + k * n + k ≡ o + k * suc n = omega arith in
    let more : map h (range_with_len 0 (n + 1)) ≡ map h (range_with_len 0 n) ++ h n ∷ [] =
    map-range_with_len_more h 0 n n (zero-add n) in
    let pieces : flat_map g (map h (range_with_len 0 (suc n))) ≡
    flat_map g (map h (range_with_len 0 n)) ++ g (h n) =
    ap (λ (m : ℕ). flat_map g (map h (range_with_len 0 m))) (sym next)
    ∙ ap (flat_map g) more
    ∙ flat_map-append g (map h (range_with_len 0 n)) (h n ∷ [])
    ∙ ap (λ (last : List ℕ). flat_map g (map h (range_with_len 0 n)) ++ last)
    (append-nil (g (h n))) in
    ap (λ (all : List ℕ). take o text ++ all) pieces
    ∙ sym (append_assoc (take o text) (flat_map g (map h (range_with_len 0 n))) (g (h n)))
    ∙ longer _ _ text (o + k * n) k (chunks g h text o k n (λ i lt. each i (omega arith)))
    (each n (omega arith))
    ∙ ap (λ (m : ℕ). take m text) far

-- ---- zeros

zeros-are : (xs : List ℕ) → list_all is_zero xs ≡ true → replicate (length xs) 0 ≡ xs
zeros-are [] e = refl
zeros-are (x ∷ xs) e = go (x == 0) (zeros-are xs) refl e where
  go : (b : Bool) → (list_all is_zero xs ≡ true → replicate (length xs) 0 ≡ xs) → (x == 0) ≡ b
      → (b && list_all is_zero xs) ≡ true
      → replicate (length (x ∷ xs)) 0 ≡ x ∷ xs
  go true rest p q =
      let zero_here : 0 ≡ x = grind (arith, nat_tests) in
      let others = rest q in
      cc
  go false rest p q = cc

zeros-stretch : (text : List ℕ) (from to : ℕ) → from ≤ to → to ≤ length text
    → are_zero text from to ≡ true
    → replicate (to - from) 0 ≡ take (to - from) (drop from text)
unfolding are_zero
zeros-stretch text from to order inside e =
    let long : length (take (to - from) (drop from text)) ≡ to - from =
    length-take-le (to - from) (drop from text) (omega (arith, length-drop from text)) in
    ap (λ (n : ℕ). replicate n 0) (sym long) ∙ zeros-are (take (to - from) (drop from text)) e

-- ---- rows

number-start : (bytes : List ℕ) → number_at B8 bytes 0 ≡ from_le_bytes w64 bytes
unfolding number_at
number-start bytes = refl

pub word-text : (text : List ℕ) (o : ℕ) → AreBytes text → o + 8 ≤ length text
    → to_le_bytes w64 (number_at B8 text o) ≡ take 8 (drop o text)
word-text text o bytes inside =
    le_bytes_8 (take 8 (drop o text)) (number_at B8 text o)
    (length-take-le 8 (drop o text) (omega (arith, length-drop o text)))
    (byte-below (take 8 (drop o text))
    (All-take (λ byte. byte < 256) 8 (drop o text) (All-drop (λ byte. byte < 256) o text bytes)))
    (number_at-same B8 text (take 8 (drop o text)) o 0 same
    ∙ number-start (take 8 (drop o text))) where
      same : (k : ℕ) → k < 8 → get_or text (o + k) 0 ≡ get_or (take 8 (drop o text)) (0 + k) 0
      same k lt = rw (zero-add k)
          (sym (get_or-take 8 (drop o text) k 0 lt ∙ get_or-drop o text k 0))

tail-text : (text : List ℕ) (o : ℕ) → o + 8 ≤ length text → are_zero text (o + 3) (o + 8) ≡ true
    → get_or text o 0 ∷ get_or text (o + 1) 0 ∷ get_or text (o + 2) 0 ∷ replicate 5 0 ≡
    take 8 (drop o text)
tail-text text o inside e =
    let five : o + 8 - (o + 3) ≡ 5 = omega arith in
    let zeros : replicate 5 0 ≡ take 5 (drop (o + 3) text) =
    ap (λ (n : ℕ). replicate n 0) (sym five)
    ∙ zeros-stretch text (o + 3) (o + 8) (omega arith) inside e
    ∙ ap (λ (n : ℕ). take n (drop (o + 3) text)) five in
    let first = stretch-cons text o (o + 1) 7 refl (omega arith) in
    let second = stretch-cons text (o + 1) (o + 2) 6 (omega arith) (omega arith) in
    let third = stretch-cons text (o + 2) (o + 3) 5 (omega arith) (omega arith) in
    cc

row-text : (text : List ℕ) (o sort : ℕ) → AreBytes text → o + 16 ≤ length text
    → sort ≡ get_or text (o + 8) 0 → are_zero text (o + 11) (o + 16) ≡ true
    → to_le_bytes w64 (number_at B8 text o) ++ sort ∷ get_or text (o + 9) 0 ∷
    get_or text (o + 10) 0 ∷ replicate 5 0 ≡ take 16 (drop o text)
row-text text o sort bytes inside same e =
    let e3 : o + 8 + 3 ≡ o + 11 = omega arith in
    let e8 : o + 8 + 8 ≡ o + 16 = omega arith in
    let e1 : o + 8 + 1 ≡ o + 9 = omega arith in
    let e2 : o + 8 + 2 ≡ o + 10 = omega arith in
    let padded : are_zero text (o + 8 + 3) (o + 8 + 8) ≡ true = rw (e3, e8) e in
    let tail = tail-text text (o + 8) (omega arith) padded in
    let word = word-text text o bytes (omega arith) in
    let halves : take 16 (drop o text) ≡ take 8 (drop o text) ++ take 8 (drop (o + 8) text) =
    stretch-split text o 8 8 in
    cc

sort-same : (n : ℕ) → 1 ≤ n → n ≤ 3 → sort_number (sort_of n) ≡ n
sort-same n low high = go (n == 1) (n == 2) refl refl where
  go : (a b : Bool) → (n == 1) ≡ a → (n == 2) ≡ b → sort_number (sort_if a b) ≡ n
  go true b p q = grind (arith, nat_tests)
  go false true p q = grind (arith, nat_tests)
  go false false p q = grind (arith, nat_tests)

page-text : (text : List ℕ) (i : ℕ) → AreBytes text → 80 + 16 * i + 16 ≤ length text
    → has_sort text i ≡ true → is_page_padded text i ≡ true
    → page_bytes (page_in text i) ≡ take 16 (drop (80 + 16 * i) text)
unfolding page_bytes page_in has_sort is_page_padded
page-text text i bytes inside sort padded =
    let low : 1 ≤ sort_in text i = grind (arith, nat_tests) in
    let high : sort_in text i ≤ 3 = grind (arith, nat_tests) in
    row-text text (80 + 16 * i) (sort_number (sort_of (sort_in text i))) bytes inside
    (sort-same (sort_in text i) low high) padded

-- ---- the header

mode-same : (n : ℕ) → n ≤ 1 → mode_number (mode_if (n == 0)) ≡ n
mode-same n few = go (n == 0) refl where
  go : (b : Bool) → (n == 0) ≡ b → mode_number (mode_if b) ≡ n
  go true p = grind (arith, nat_tests)
  go false p = grind (arith, nat_tests)

magic-text : (text : List ℕ) → has_magic text ≡ true → codes "BNSG" ≡ take 4 text
unfolding has_magic
magic-text text e = same_text (codes "BNSG") (take 4 text) (sym e)

twelve-text : (text : List ℕ) → 16 ≤ length text → get_or text 4 0 ≡ 1 → are_zero text 9 16 ≡ true
    → 1 ∷ get_or text 5 0 ∷ get_or text 6 0 ∷ get_or text 7 0 ∷ get_or text 8 0 ∷ replicate 7 0 ≡
    take 12 (drop 4 text)
twelve-text text long version padded =
    let zeros : replicate 7 0 ≡ take 7 (drop 9 text) =
    zeros-stretch text 9 16 (omega arith) long padded in
    let b4 = stretch-cons text 4 5 11 (omega arith) (omega arith) in
    let b5 = stretch-cons text 5 6 10 (omega arith) (omega arith) in
    let b6 = stretch-cons text 6 7 9 (omega arith) (omega arith) in
    let b7 = stretch-cons text 7 8 8 (omega arith) (omega arith) in
    let b8 = stretch-cons text 8 9 7 (omega arith) (omega arith) in
    cc

version-text : (text : List ℕ) → has_version text ≡ true → get_or text 4 0 ≡ 1
unfolding has_version
version-text text e = grind (arith, nat_tests)

mode-text : (text : List ℕ) → has_mode text ≡ true
    → mode_number (mode_if (get_or text 5 0 == 0)) ≡ get_or text 5 0
unfolding has_mode
mode-text text e =
    let few : get_or text 5 0 ≤ 1 = grind (arith, nat_tests) in
    mode-same (get_or text 5 0) few

padded-text : (text : List ℕ) → is_padded text ≡ true
    → (are_zero text 9 16 ≡ true) × (are_zero text (16 + 8 * entry_count text) 80 ≡ true) ×
    (are_pages_padded text ≡ true) × (are_zero text (80 + 16 * page_count text) 1104 ≡ true) ×
    (are_zero text (1104 + 32 * partner_count text) 1232 ≡ true)
unfolding is_padded
padded-text text e =
    let z0 = are_zero text 9 16 in
    let z1 = are_zero text (16 + 8 * entry_count text) 80 in
    let z2 = are_pages_padded text in
    let z3 = are_zero text (80 + 16 * page_count text) 1104 in
    let z4 = are_zero text (1104 + 32 * partner_count text) 1232 in
    let t4 = both (z0 && z1 && z2 && z3) z4 e in
    let t3 = both (z0 && z1 && z2) z3 t4.0 in
    let t2 = both (z0 && z1) z2 t3.0 in
    let t1 = both z0 z1 t2.0 in
    (t1.0, t1.1, t2.1, t3.1, t4.1)

-- the three tables, each with the zeros behind it
table : {X : Type 0} (g : X → List ℕ) (h : ℕ → X) (text x : List ℕ) (o k n end : ℕ)
    → ((i : ℕ) → i < n → g (h i) ≡ take k (drop (o + k * i) text))
    → x ≡ take o text → o + k * n ≤ end → end ≤ length text → are_zero text (o + k * n) end ≡ true
    → x ++ flat_map g (map h (range_with_len 0 n)) ++ replicate (end - (o + k * n)) 0 ≡
    take end text
table g h text x o k n end each so_far order inside zeros =
    let rows : x ++ flat_map g (map h (range_with_len 0 n)) ≡ take (o + k * n) text =
    ap (λ (front : List ℕ). front ++ flat_map g (map h (range_with_len 0 n))) so_far
    ∙ chunks g h text o k n each in
    let whole : o + k * n + (end - (o + k * n)) ≡ end = omega arith in
    longer _ _ text (o + k * n) (end - (o + k * n)) rows
    (zeros-stretch text (o + k * n) end order inside zeros)
    ∙ ap (λ (m : ℕ). take m text) whole

header-text : (text : List ℕ) → 16 ≤ length text → has_magic text ≡ true → has_version text ≡ true
    → has_mode text ≡ true → are_zero text 9 16 ≡ true
    → header_bytes (segment_in text) ≡ take 16 text
unfolding header_bytes segment_in
header-text text long magic version mode padded =
    let halves : take 16 text ≡ take 4 text ++ take 12 (drop 4 text) = stretch-split text 0 4 12 in
    let first = magic-text text magic in
    let rest = twelve-text text long (version-text text version) padded in
    let told = mode-text text mode in
    let entries = length-map-range_with_len (entry_in text) 0 (entry_count text) in
    let pages = length-map-range_with_len (page_in text) 0 (page_count text) in
    let partners = length-map-range_with_len (partner_in text) 0 (partner_count text) in
    rw (told, entries, pages, partners)
    (ap (λ (front : List ℕ).
    front ++ 1 ∷ get_or text 5 0 ∷ get_or text 6 0 ∷ get_or text 7 0 ∷ get_or text 8 0 ∷
    replicate 7 0) first ∙ ap (λ (back : List ℕ). take 4 text ++ back) rest ∙ sym halves)

-- ---- the whole

entries-text : (text : List ℕ) → AreBytes text → length text ≡ 1232 → entry_count text ≤ 8
    → (i : ℕ) → i < entry_count text
    → entry_bytes (entry_in text i) ≡ take 8 (drop (16 + 8 * i) text)
unfolding entry_bytes
entries-text text bytes long few i lt = word-text text (16 + 8 * i) bytes (omega arith)

sorts-text : (text : List ℕ) → have_sorts text ≡ true → (i : ℕ) → i < page_count text
    → has_sort text i ≡ true
unfolding have_sorts
sorts-text text e i lt = all_below (has_sort text) (page_count text) i e lt

padded-pages : (text : List ℕ) → are_pages_padded text ≡ true → (i : ℕ) → i < page_count text
    → is_page_padded text i ≡ true
unfolding are_pages_padded
padded-pages text e i lt = all_below (is_page_padded text) (page_count text) i e lt

pages-text : (text : List ℕ) → AreBytes text → length text ≡ 1232 → page_count text ≤ 64
    → have_sorts text ≡ true → are_pages_padded text ≡ true
    → (i : ℕ) → i < page_count text
    → page_bytes (page_in text i) ≡ take 16 (drop (80 + 16 * i) text)
pages-text text bytes long few sorts padded i lt =
    page-text text i bytes (omega arith) (sorts-text text sorts i lt)
    (padded-pages text padded i lt)

partners-text : (text : List ℕ) (i : ℕ)
    → partner_bytes (partner_in text i) ≡ take 32 (drop (1104 + 32 * i) text)
unfolding partner_bytes
partners-text text i =
    let wide : 1104 + 32 * i + 32 - (1104 + 32 * i) ≡ 32 = omega arith in
    ap (λ (n : ℕ). take n (drop (1104 + 32 * i) text)) wide

-- what the spelling is made of, for counts as the text has them
spelt : (text : List ℕ)
    → spelling_of_segment (segment_in text)
    ≡ header_bytes (segment_in text) ++
    flat_map entry_bytes (map (entry_in text) (range_with_len 0 (entry_count text))) ++
    replicate (64 - 8 * entry_count text) 0 ++
    flat_map page_bytes (map (page_in text) (range_with_len 0 (page_count text))) ++
    replicate (1024 - 16 * page_count text) 0 ++
    flat_map partner_bytes (map (partner_in text) (range_with_len 0 (partner_count text))) ++
    replicate (128 - 32 * partner_count text) 0
unfolding spelling_of_segment segment_in
spelt text =
    let entries = length-map-range_with_len (entry_in text) 0 (entry_count text) in
    let pages = length-map-range_with_len (page_in text) 0 (page_count text) in
    let partners = length-map-range_with_len (partner_in text) 0 (partner_count text) in
    rw (entries, pages, partners) refl

whole : (text : List ℕ) → AreBytes text → length text ≡ 1232 → Passes text
    → spelling_of_segment (segment_in text) ≡ text
whole text bytes long p =
    let entries = (few_entries text p.entries).1 in
    let pages = (few_pages text p.pages).1 in
    let partners = few_partners text p.partners in
    let zeros = padded-text text p.padded in
    let head = header-text text (omega arith) p.magic p.version p.mode zeros.0 in
    let gap1 : 80 - (16 + 8 * entry_count text) ≡ 64 - 8 * entry_count text = omega arith in
    let gap2 : 1104 - (80 + 16 * page_count text) ≡ 1024 - 16 * page_count text = omega arith in
    let gap3 : 1232 - (1104 + 32 * partner_count text) ≡ 128 - 32 * partner_count text =
    omega arith in
    let part1 = table entry_bytes (entry_in text) text (header_bytes (segment_in text)) 16 8
    (entry_count text) 80 (entries-text text bytes long entries) head (omega arith) (omega arith)
    zeros.1 in
    let part2 = table page_bytes (page_in text) text _ 80 16 (page_count text) 1104
    (pages-text text bytes long pages p.sorts zeros.2) part1 (omega arith) (omega arith) zeros.3 in
    let part3 = table partner_bytes (partner_in text) text _ 1104 32 (partner_count text) 1232
    (λ i lt. partners-text text i) part2 (omega arith) (omega arith) zeros.4 in
    rw (spelt text, ← gap1, ← gap2, ← gap3) (part3 ∙ take_all 1232 text (omega arith))

pub accepted-spelling : (text : List ℕ) (s : Segment) → AreBytes text → length text ≡ 1232
    → segment_of text ≡ Ok s → spelling_of_segment s ≡ text
accepted-spelling text s bytes long e =
    let h = accepted text s e in
    ap spelling_of_segment (sym h.1) ∙ whole text bytes long (passes text h.0)
