-- What a nest is when it was built.
use Rattle.std.proofs.Common.{◌≡◌, ℕ, ◌+◌, ◌-◌, ◌*◌, ◌/◌, ◌%◌, ◌<◌, ◌≤◌, ◌⊎◌, Bool, true}
use Rattle.std.proofs.Common.{false, nat_lt, nat_eq, List, [], Option, Some, None, length}
use Rattle.std.proofs.Common.{replicate, inl, inr, refl, sym, ap, subst, ◌∙◌, arith, ne_eqb}
use Rattle.std.proofs.lemmas.Bool.{cases_eq, cases_lt, lt-ltb, le-ltb}
use Rattle.std.proofs.lemmas.List.{get_or-replicate, length-replicate, same_lists}
use Rattle.std.proofs.lemmas.List.FromFn.{get_or-map-range_with_len, length-map-range_with_len}
use Rattle.bn_types.specs.Numbers.{AreWhole, zero_page, number_at}
use Rattle.bn_types.specs.declared.frame.Frame.{Frame}
use Rattle.bn_types.specs.declared.width.Width.TheVariants.{B8}
use Rattle.bn_model.specs.Nesting.{entry_at, leaf_to, pointer_to, table_frames, low_tables}
use Rattle.bn_model.specs.Nesting.{low_entry, frame_of, root_entry, root_when, middle_entry}
use Rattle.bn_model.specs.Nesting.{middle_when, placed_in, page_in, contents_in}
use Rattle.bn_model.proofs.PageNumbers.{length-zero_page, number_at-zero_page}
use Rattle.bn_model.proofs.NestingLaws.{length-contents, get_or-contents}
use Rattle.n_walk.specs.Building.{HasMiddle, IsWritten, numbered, frame_numbered}
use Rattle.n_walk.specs.Holding.{Holds, IsPool, listed}
use Rattle.n_walk.proofs.Looking.{placed-outside, placed-here}

-- frames of zeros
whole-zeros : (count : ℕ) → AreWhole (replicate count zero_page)
whole-zeros count t lt =
    ap length (get_or-replicate count t zero_page []
    (subst (λ (n : ℕ). t < n) (length-replicate count zero_page) lt)) ∙ length-zero_page

pub whole-if-zeros : (frames : List (List ℕ)) → frames ≡ replicate (length frames) zero_page
    → AreWhole frames
whole-if-zeros frames e = subst AreWhole (sym e) (whole-zeros (length frames))

zeros-entry : (count t i : ℕ) → t < count → i < 512 → entry_at (replicate count zero_page) t i ≡ 0
unfolding entry_at
zeros-entry count t i lt li =
    ap (λ (bytes : List ℕ). number_at B8 bytes (8 * i)) (get_or-replicate count t zero_page [] lt)
    ∙ number_at-zero_page B8 (8 * i) (omega arith)

-- the frames of a nest that was built over frames of zeros: the root's entry and the middle table's
-- are written
pub record IsBuilt (frames : List (List ℕ)) (ram : ℕ) : Type 0 where
  pub some : 0 < ram
  pub most : ram ≤ 4096
  pub room : table_frames ram ≤ length frames
  pub few : length frames ≤ 4125
  pub whole : AreWhole frames
  pub root : (i : ℕ) → i < 2048 → entry_at frames (i / 512) (i % 512) ≡ root_entry i
  pub middle : (i : ℕ) → i < 512 → entry_at frames 4 i ≡ middle_entry ram i
  pub low : (page : ℕ) → page < 512 * low_tables ram → low_entry frames page ≡ 0

pub built : (zeros one frames : List (List ℕ)) (low ram : ℕ) → 0 < ram → ram ≤ 4096
    → table_frames ram ≤ length zeros
    → length zeros ≤ 4125 → zeros ≡ replicate (length zeros) zero_page → low ≡ low_tables ram
    → IsWritten zeros one 0 2 (pointer_to 4) → HasMiddle one frames low → IsBuilt frames ram
built zeros one frames low ram some most room few blank is_low w m = record {
  some = some;
  most = most;
  room = subst (λ (n : ℕ). table_frames ram ≤ n) (sym long) room;
  few = subst (λ (n : ℕ). n ≤ 4125) (sym long) few;
  whole = m.whole;
  root = λ i lt. root i lt (cases_eq i 2);
  middle = λ i lt. middle i lt (cases_lt i low);
  low = λ page lt. other (5 + page / 512) (page % 512) (omega arith) (omega arith)
      (λ e d. absurd (omega arith)) (λ e d. absurd (omega arith));
} where
  long : length frames ≡ length zeros
  long = m.long ∙ w.long

  other : (t i : ℕ) → t < length zeros → i < 512 → (t ≡ 0 → i ≡ 2 → ⊥) → (t ≡ 4 → i < low → ⊥)
      → entry_at frames t i ≡ 0
  other t i lt li not_root not_middle =
      m.others t i li not_middle ∙ w.others t i li not_root
      ∙ ap (λ (fs : List (List ℕ)). entry_at fs t i) blank ∙ zeros-entry (length zeros) t i lt li

  root : (i : ℕ) → i < 2048 → (i ≡ 2) ⊎ (i ≡ 2 → ⊥)
      → entry_at frames (i / 512) (i % 512) ≡ root_entry i
  root i lt (inl two) =
      subst (λ (k : ℕ). entry_at frames (k / 512) (k % 512) ≡ root_entry k) (sym two)
      (m.others 0 2 (omega arith) (λ e d. absurd (omega arith)) ∙ w.here)
  root i lt (inr ne) =
      let past : nat_eq i 2 ≡ false = ne_eqb i 2 ne in
      other (i / 512) (i % 512) (omega arith) (omega arith) (λ e d. ne (omega arith))
      (λ e d. absurd (omega arith))
      ∙ ap root_when (sym past)

  middle : (i : ℕ) → i < 512 → (i < low) ⊎ (low ≤ i) → entry_at frames 4 i ≡ middle_entry ram i
  middle i lt (inl below) =
      let inside : nat_lt i (low_tables ram) ≡ true = lt-ltb i (low_tables ram) (omega arith) in
      m.middle i below ∙ ap (λ (b : Bool). middle_when b i) (sym inside)
  middle i lt (inr past) =
      let outside : nat_lt i (low_tables ram) ≡ false = le-ltb i (low_tables ram) (omega arith) in
      other 4 i (omega arith) lt (λ e d. absurd (omega arith)) (λ e d. absurd (omega arith))
      ∙ ap (λ (b : Bool). middle_when b i) (sym outside)

-- no page has a frame
pub unplaced-built : (frames : List (List ℕ)) (ram page : ℕ) → IsBuilt frames ram
    → placed_in ram frames page ≡ None
unplaced-built frames ram page b = go (cases_lt page ram) where
  go : (page < ram) ⊎ (ram ≤ page) → placed_in ram frames page ≡ None
  go (inl lt) = placed-here ram frames page lt ∙ ap frame_of (b.low page (omega arith))
  go (inr le) = sym (placed-outside ram frames page le)

nowhere : (frames : List (List ℕ)) (ram page : ℕ) (frame : Frame) → IsBuilt frames ram
    → placed_in ram frames page ≡ Some frame → ⊥
nowhere frames ram page frame b e =
    let z : ◌≡◌ {A = Option Frame} None (Some frame) = sym (unplaced-built frames ram page b)
    ∙ e in cc

-- all pages are zeros
pub contents-built : (frames : List (List ℕ)) (ram : ℕ) → IsBuilt frames ram
    → contents_in ram frames ≡ replicate ram zero_page
contents-built frames ram b =
    same_lists (contents_in ram frames) (replicate ram zero_page)
    (length-contents ram frames ∙ sym (length-replicate ram zero_page))
    (λ k d h. let lt : k < ram = subst (λ (n : ℕ). k < n) (length-contents ram frames) h in
    get_or-contents ram frames k d lt ∙ ap (page_in frames) (unplaced-built frames ram k b)
    ∙ sym (get_or-replicate ram k zero_page d lt))

-- the pool holds all frames past the tables
listed-numbered : (first count i : ℕ) → i < count
    → listed (numbered first count) i ≡ frame_numbered (first + i)
listed-numbered first count i lt =
    get_or-map-range_with_len frame_numbered first count i (first + i) (record { 0 = 0 }) lt refl

pub pool-built : (frames : List (List ℕ)) (ram : ℕ) → IsBuilt frames ram
    → IsPool (record {
      frames = frames;
      free = numbered (table_frames ram) (length frames - table_frames ram);
      ram = ram;
    })
pool-built frames ram b = record {
  only = λ i lt. let li : i < size = below i lt in
      let at = listed-numbered first size i li in
      record {
        apart = subst (λ (f : Frame). first ≤ f.0) (sym at) (omega arith);
        inside = subst (λ (f : Frame). f.0 < length frames) (sym at) (omega arith);
        unplaced = λ page e. nowhere frames ram page (listed (numbered first size) i) b e;
      };
  once = λ i j lt lu e. let li : i < size = below i lt in
      let lj : j < size = below j lu in
      let same : first + i ≡ first + j =
      ap (λ (f : Frame). f.0)
      (sym (listed-numbered first size i li) ∙ e ∙ listed-numbered first size j lj) in
      omega arith;
  all = λ frame free unlisted.
      let low = free.apart in
      let high = free.inside in
      let within : frame.0 - first < size = omega arith in
      let number : first + (frame.0 - first) ≡ frame.0 = omega arith in
      unlisted (frame.0 - first) (rw (length-map-range_with_len frame_numbered first size) within)
      (listed-numbered first size (frame.0 - first) within ∙ ap frame_numbered number);
} where
  first : ℕ
  first = table_frames ram

  size : ℕ
  size = length frames - table_frames ram

  below : (i : ℕ) → i < length (numbered first size) → i < size
  below i lt = subst (λ (n : ℕ). i < n) (length-map-range_with_len frame_numbered first size) lt

-- so a nest that was built holds
pub holds-built : (frames : List (List ℕ)) (ram : ℕ) → IsBuilt frames ram
    → Holds (record {
      frames = frames;
      free = numbered (table_frames ram) (length frames - table_frames ram);
      ram = ram;
    })
holds-built frames ram b = record {
  nested = record {
    tree = record {
      root = b.root;
      middle = b.middle;
      low = λ page lt. b.low page lt ∙ ap leaf_to (sym (unplaced-built frames ram page b));
    };
    apart = λ page frame e. absurd (nowhere frames ram page frame b e);
    inside = λ page frame e. absurd (nowhere frames ram page frame b e);
    alone = λ page other frame e d. absurd (nowhere frames ram page frame b e);
  };
  pool = pool-built frames ram b;
  some = b.some;
  most = b.most;
  room = b.room;
  few = b.few;
  whole = b.whole;
}
