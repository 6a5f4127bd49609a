-- An entry is written to a table, of any level: what `build`, `map` and `move_page` share.
use Rattle.std.proofs.Common.{◌≡◌, ℕ, ◌+◌, ◌*◌, ◌/◌, ◌%◌, ◌^◌, ◌<◌, ◌≤◌, ◌⊎◌, List, [], Some}
use Rattle.std.proofs.Common.{length, set, inl, inr, refl, sym, ap, subst, ◌∙◌, arith}
use Rattle.std.proofs.Common.{get_or-set_same, get_or-set_other}
use Rattle.std.proofs.lemmas.Bool.{cases_eq, cases_lt}
use Rattle.std.proofs.lemmas.List.{length-set}
use Rattle.bn_types.specs.Numbers.{AreWhole, number_at, page_at, with_number}
use Rattle.bn_types.specs.declared.frame.Frame.{Frame}
use Rattle.bn_types.specs.declared.width.Width.TheVariants.{B8}
use Rattle.bn_model.specs.Nesting.{IsTree, entry_at, leaf_to, low_entry, low_tables}
use Rattle.bn_model.specs.Nesting.{placed_in, pointer_to}
use Rattle.bn_model.proofs.NestingLaws.{entry-other_frame, placed-at, placed-kept}
use Rattle.bn_model.proofs.PageNumbers.{length-with_number, number_at-elsewhere}
use Rattle.bn_model.proofs.PageNumbers.{number_at-with_number}
use Rattle.n_walk.specs.Building.{HasMiddle, IsWritten}

-- frames stay of one size
pub whole-set : (frames : List (List ℕ)) (f : ℕ) (bytes : List ℕ) → length bytes ≡ 4096
    → AreWhole frames → AreWhole (set frames f bytes)
whole-set frames f bytes size whole t lt = go (cases_eq t f) where
  below : t < length frames
  below = subst (λ (n : ℕ). t < n) (length-set frames f bytes) lt

  go : (t ≡ f) ⊎ (t ≡ f → ⊥) → length (page_at (set frames f bytes) t) ≡ 4096
  go (inl e) =
      subst (λ (w : ℕ). length (page_at (set frames f bytes) w) ≡ 4096) (sym e)
      (ap length (get_or-set_same frames f bytes [] (subst (λ (w : ℕ). w < length frames) e below))
      ∙ size)
  go (inr ne) = ap length (get_or-set_other frames f t bytes [] ne) ∙ whole t below

-- the entries of the table that is written to
entry-here : (frames : List (List ℕ)) (t i v : ℕ) → AreWhole frames → t < length frames → i < 512
    → v < 2 ^ 64
    → entry_at (set frames t (with_number B8 (page_at frames t) (8 * i) v)) t i ≡ v
unfolding entry_at
entry-here frames t i v whole lt li lv =
    let size = whole t lt in
    ap (λ bytes. number_at B8 bytes (8 * i))
    (get_or-set_same frames t (with_number B8 (page_at frames t) (8 * i) v) [] lt)
    ∙ number_at-with_number B8 (page_at frames t) (8 * i) v (omega arith)
    ∙ small
  where
    small : v % 2 ^ 64 ≡ v
    small = omega arith

entry-beside : (frames : List (List ℕ)) (t i j v : ℕ) → AreWhole frames → t < length frames
    → i < 512 → j < 512 → (j ≡ i → ⊥)
    → entry_at (set frames t (with_number B8 (page_at frames t) (8 * i) v)) t j ≡
    entry_at frames t j
unfolding entry_at
entry-beside frames t i j v whole lt li lj ne =
    let size = whole t lt in
    ap (λ bytes. number_at B8 bytes (8 * j))
    (get_or-set_same frames t (with_number B8 (page_at frames t) (8 * i) v) [] lt)
    ∙ number_at-elsewhere B8 B8 (page_at frames t) (8 * i) (8 * j) v (omega arith)
    (apart (cases_lt j i))
  where
    apart : (j < i) ⊎ (i ≤ j) → (8 * j + 8 ≤ 8 * i) ⊎ (8 * i + 8 ≤ 8 * j)
    apart (inl h) = inl (omega arith)
    apart (inr h) = inr (omega arith)

-- an entry that is written
pub written : (frames : List (List ℕ)) (t i v : ℕ) → AreWhole frames → t < length frames → i < 512
    → v < 2 ^ 64
    → IsWritten frames (set frames t (with_number B8 (page_at frames t) (8 * i) v)) t i v
written frames t i v whole lt li lv = record {
  long = length-set frames t bytes;
  whole = whole-set frames t bytes
      (length-with_number B8 (page_at frames t) (8 * i) v (rw size (omega arith)) ∙ size) whole;
  here = entry-here frames t i v whole lt li lv;
  others = λ u j lj ne. others u j lj ne (cases_eq u t);
  kept = λ f ne. get_or-set_other frames t f bytes [] ne;
} where
  bytes : List ℕ
  bytes = with_number B8 (page_at frames t) (8 * i) v

  size : length (page_at frames t) ≡ 4096
  size = whole t lt

  others : (u j : ℕ) → j < 512 → (u ≡ t → j ≡ i → ⊥) → (u ≡ t) ⊎ (u ≡ t → ⊥)
      → entry_at (set frames t bytes) u j ≡ entry_at frames u j
  others u j lj ne (inl e) =
      subst (λ (w : ℕ). entry_at (set frames t bytes) w j ≡ entry_at frames w j) (sym e)
      (entry-beside frames t i j v whole lt li lj (ne e))
  others u j lj ne (inr d) = entry-other_frame frames t bytes u j d

-- ---- the middle table

pub middle-none : (frames : List (List ℕ)) → AreWhole frames → HasMiddle frames frames 0
middle-none frames whole = record {
  long = refl;
  whole = whole;
  middle = λ i lt. absurd (omega arith);
  others = λ t i lt ne. refl;
}

pub middle-more : (start old new : List (List ℕ)) (k : ℕ) → k < 512 → HasMiddle start old k
    → IsWritten old new 4 k (pointer_to (5 + k))
    → HasMiddle start new (k + 1)
middle-more start old new k small m w = record {
  long = w.long ∙ m.long;
  whole = w.whole;
  middle = λ i lt. middle i lt (cases_eq i k);
  others = λ t i lt ne. w.others t i lt (λ e d. ne e (omega arith))
      ∙ m.others t i lt (λ e below. ne e (omega arith));
} where
  middle : (i : ℕ) → i < k + 1 → (i ≡ k) ⊎ (i ≡ k → ⊥) → entry_at new 4 i ≡ pointer_to (5 + i)
  middle i lt (inl e) = subst (λ (j : ℕ). entry_at new 4 j ≡ pointer_to (5 + j)) (sym e) w.here
  middle i lt (inr ne) = w.others 4 i (omega arith) (λ _ d. ne d) ∙ m.middle i (omega arith)

-- ---- the leaf of a page

abbrev pub IsLeaf : List (List ℕ) → List (List ℕ) → ℕ → Frame → Type 0
IsLeaf old new page frame = IsWritten old new (5 + page / 512) (page % 512) (leaf_to (Some frame))

-- the page is placed there
pub placed-led : (old new : List (List ℕ)) (ram page : ℕ) (frame : Frame) → page < ram
    → IsLeaf old new page frame
    → placed_in ram new page ≡ Some frame
placed-led old new ram page frame inside w = placed-at ram new page frame inside w.here

-- and the places of the other pages stay
pub placed-other : (old new : List (List ℕ)) (ram page : ℕ) (frame : Frame) (other : ℕ)
    → IsLeaf old new page frame
    → (other ≡ page → ⊥) → placed_in ram new other ≡ placed_in ram old other
placed-other old new ram page frame other w ne =
    placed-kept ram old new other
    (λ lt. w.others (5 + other / 512) (other % 512) (omega arith) (λ e d. ne (omega arith)))

-- the tree is that of the new placement
pub tree-led : (old new : List (List ℕ)) (ram page : ℕ) (frame : Frame) (free free' : List Frame)
    → page < ram
    → IsLeaf old new page frame → IsTree (record { frames = old; free = free; ram = ram })
    → IsTree (record { frames = new; free = free'; ram = ram })
tree-led old new ram page frame free free' inside w t = record {
  root = λ i lt. w.others (i / 512) (i % 512) (omega arith) (λ e d. absurd (omega arith))
      ∙ t.root i lt;
  middle = λ i lt. w.others 4 i lt (λ e d. absurd (omega arith)) ∙ t.middle i lt;
  low = λ other lt. low other lt (cases_eq other page);
} where
  low : (other : ℕ) → other < 512 * low_tables ram → (other ≡ page) ⊎ (other ≡ page → ⊥)
      → low_entry new other ≡ leaf_to (placed_in ram new other)
  low other lt (inl e) =
      subst (λ (p : ℕ). low_entry new p ≡ leaf_to (placed_in ram new p)) (sym e)
      (w.here ∙ ap leaf_to (sym (placed-led old new ram page frame inside w)))
  low other lt (inr ne) =
      w.others (5 + other / 512) (other % 512) (omega arith) (λ e d. ne (omega arith))
      ∙ t.low other lt
      ∙ ap leaf_to (sym (placed-other old new ram page frame other w ne))
