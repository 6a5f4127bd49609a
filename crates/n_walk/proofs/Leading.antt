-- What a nest keeps where a page is led to a free frame: what `map` and `move_page` share.
use Rattle.std.proofs.Common.{◌≡◌, ℕ, ◌<◌, ◌≤◌, ◌⊎◌, List, [], ◌∷◌, ◌++◌}
use Rattle.std.proofs.Common.{Option, Some, None, length, set, inl, inr, refl, sym, ap, subst, ◌∙◌}
use Rattle.std.proofs.Common.{arith, get_or-set_same, get_or-set_other}
use Rattle.std.proofs.lemmas.Bool.{cases_eq, cases_lt}
use Rattle.std.proofs.lemmas.List.{length-set, get_or_append_left, get_or_at, length_push}
use Rattle.bn_types.specs.Numbers.{AreWhole, page_at, zero_page}
use Rattle.bn_types.specs.declared.frame.Frame.{Frame}
use Rattle.bn_model.specs.Nesting.{Nested, IsTree, IsNested, IsFree, table_frames, placed_in}
use Rattle.bn_model.specs.Nesting.{page_in, contents_in}
use Rattle.bn_model.proofs.NestingLaws.{contents-same}
use Rattle.bn_model.proofs.PlacingLaws.{placed-past, tree-past}
use Rattle.n_walk.specs.Holding.{Holds, IsPool, listed}
use Rattle.n_walk.proofs.Writing.{IsLeaf, placed-led, placed-other, tree-led}

-- a pool whose last frame is taken
pub listed-front : (rest : List Frame) (frame : Frame) (i : ℕ) → i < length rest
    → listed (rest ++ frame ∷ []) i ≡ listed rest i
listed-front rest frame i lt = get_or_append_left rest (frame ∷ []) (record { 0 = 0 }) i lt

pub listed-last : (rest : List Frame) (frame : Frame)
    → listed (rest ++ frame ∷ []) (length rest) ≡ frame
listed-last rest frame = get_or_at rest frame [] (record { 0 = 0 }) (length rest) refl

-- the nest before, with a free frame at the end of its pool
abbrev pub before : List (List ℕ) → ℕ → List Frame → Frame → Nested
before frames ram rest frame = record { frames = frames; free = rest ++ frame ∷ []; ram = ram }

abbrev pub after : List (List ℕ) → ℕ → List Frame → Nested
after frames ram rest = record { frames = frames; free = rest; ram = ram }

pub frame-from_number : (f g : Frame) → f.0 ≡ g.0 → f ≡ g
frame-from_number f g e = ap (λ (k : ℕ). let h : Frame = record { 0 = k } in h) e

pub unsome : (f g : Frame) → ◌≡◌ {A = Option Frame} (Some f) (Some g) → f ≡ g
unsome f g e = cc

-- new: the frames after the frame got its bytes and the page was led to it
pub record IsLed (frames new : List (List ℕ)) (ram page : ℕ) (frame : Frame) : Type 0 where
  pub long : length new ≡ length frames
  pub whole : AreWhole new
  pub tree : (free : List Frame) → IsTree (after new ram free)
  pub here : placed_in ram new page ≡ Some frame
  pub others : (other : ℕ) → (other ≡ page → ⊥)
      → placed_in ram new other ≡ placed_in ram frames other
  pub kept : (other : ℕ) (f : Frame) → (other ≡ page → ⊥) → placed_in ram frames other ≡ Some f
      → page_at new f.0 ≡ page_at frames f.0

-- ---- a nest with a free frame at the end of its pool

module _ (frames : List (List ℕ)) (ram : ℕ) (rest : List Frame) (frame : Frame)
    (h : Holds (before frames ram rest frame)) where
  -- the last frame of the pool is free
  pub last-free : IsFree (before frames ram rest frame) frame
  last-free =
      subst (λ (f : Frame). IsFree (before frames ram rest frame) f) (listed-last rest frame)
      (h.pool.only (length rest) (let more = length_push rest frame in omega arith))

  -- a placed frame isn't the free one
  placed-other_frame : (other : ℕ) (f : Frame) → placed_in ram frames other ≡ Some f
      → f.0 ≡ frame.0 → ⊥
  placed-other_frame other f e z =
      last-free.unplaced other (e ∙ ap (λ (g : Frame). Some g) (frame-from_number f frame z))

  pub is-led : (new : List (List ℕ)) (page : ℕ) (bytes : List ℕ) → page < ram
      → IsLeaf (set frames frame.0 bytes) new page frame → IsLed frames new ram page frame
  is-led new page bytes lt w =
      let one : List (List ℕ) = set frames frame.0 bytes in
      record {
        long = w.long ∙ length-set frames frame.0 bytes;
        whole = w.whole;
        tree = λ free.
            tree-led one new ram page frame free free lt w
            (tree-past (before frames ram rest frame) frame.0 bytes free last-free.apart
            h.nested.tree);
        here = placed-led one new ram page frame lt w;
        others = λ other ne. placed-other one new ram page frame other w ne
            ∙ placed-past ram frames frame.0 bytes other last-free.apart;
        kept = λ other f ne e.
            let past = h.nested.apart other f e in
            w.kept f.0 (λ z. absurd (omega arith))
            ∙ get_or-set_other frames frame.0 f.0 bytes [] (placed-other_frame other f e);
      }

  -- the bytes that the frame was given
  pub bytes-led : (new : List (List ℕ)) (page : ℕ) (bytes : List ℕ) → page < ram
      → IsLeaf (set frames frame.0 bytes) new page frame → page_at new frame.0 ≡ bytes
  bytes-led new page bytes lt w =
      let past = last-free.apart in
      w.kept frame.0 (λ e. absurd (omega arith))
      ∙ get_or-set_same frames frame.0 bytes [] last-free.inside

  -- a frame of the rest of the pool is another one than the last
  rest-other : (i : ℕ) → i < length rest → listed rest i ≡ frame → ⊥
  rest-other i lt e =
      let more = length_push rest frame in
      let same : i ≡ length rest =
      h.pool.once i (length rest) (omega arith) (omega arith)
      (listed-front rest frame i lt ∙ e ∙ sym (listed-last rest frame)) in
      absurd (omega arith)

  -- a frame of the rest of the pool was free
  pub rest-free : (i : ℕ) → i < length rest
      → IsFree (before frames ram rest frame) (listed rest i)
  rest-free i lt =
      let more = length_push rest frame in
      subst (λ (f : Frame). IsFree (before frames ram rest frame) f) (listed-front rest frame i lt)
      (h.pool.only i (omega arith))

  -- the frames of the rest of the pool are different ones
  pub rest-once : (i j : ℕ) → i < length rest → j < length rest → listed rest i ≡ listed rest j
      → i ≡ j
  rest-once i j li lj e =
      let more = length_push rest frame in
      h.pool.once i j (omega arith) (omega arith)
      (listed-front rest frame i li ∙ e ∙ sym (listed-front rest frame j lj))

-- ---- and a page that is led to that frame

module _ (frames : List (List ℕ)) (ram : ℕ) (rest : List Frame) (frame : Frame)
    (h : Holds (before frames ram rest frame)) (new : List (List ℕ)) (page : ℕ)
    (l : IsLed frames new ram page frame) where
  is_free : IsFree (before frames ram rest frame) frame
  is_free = last-free frames ram rest frame h

  -- a page placed at the frame is the page that was led there
  led-only : (other : ℕ) → placed_in ram new other ≡ Some frame → other ≡ page
  led-only other e = go (cases_eq other page) where
    go : (other ≡ page) ⊎ (other ≡ page → ⊥) → other ≡ page
    go (inl d) = d
    go (inr ne) = absurd (is_free.unplaced other (sym (l.others other ne) ∙ e))

  -- and that page is placed nowhere else
  led-here : (other : ℕ) (f : Frame) → other ≡ page → placed_in ram new other ≡ Some f
      → frame ≡ f
  led-here other f d e = unsome frame f (sym l.here ∙ ap (placed_in ram new) (sym d) ∙ e)

  -- no two pages share a frame
  nested-led : (free : List Frame) → IsNested (after new ram free)
  nested-led free = record {
    tree = l.tree free;
    apart = λ other f e. at other f e (cases_eq other page);
    inside = λ other f e.
        subst (λ (n : ℕ). f.0 < n) (sym l.long) (within other f e (cases_eq other page));
    alone = λ one two f e d. same one two f e d (cases_eq one page) (cases_eq two page);
  } where
    at : (other : ℕ) (f : Frame) → placed_in ram new other ≡ Some f
        → (other ≡ page) ⊎ (other ≡ page → ⊥) → table_frames ram ≤ f.0
    at other f e (inl d) =
        subst (λ (g : Frame). table_frames ram ≤ g.0) (led-here other f d e) is_free.apart
    at other f e (inr ne) = h.nested.apart other f (sym (l.others other ne) ∙ e)

    within : (other : ℕ) (f : Frame) → placed_in ram new other ≡ Some f
        → (other ≡ page) ⊎ (other ≡ page → ⊥) → f.0 < length frames
    within other f e (inl d) =
        subst (λ (g : Frame). g.0 < length frames) (led-here other f d e) is_free.inside
    within other f e (inr ne) = h.nested.inside other f (sym (l.others other ne) ∙ e)

    same : (one two : ℕ) (f : Frame) → placed_in ram new one ≡ Some f
        → placed_in ram new two ≡ Some f → (one ≡ page) ⊎ (one ≡ page → ⊥)
        → (two ≡ page) ⊎ (two ≡ page → ⊥) → one ≡ two
    same one two f e d (inl a) (inl b) = a ∙ sym b
    same one two f e d (inl a) (inr b) =
        absurd (b (led-only two (d ∙ ap (λ (g : Frame). Some g) (sym (led-here one f a e)))))
    same one two f e d (inr a) (inl b) =
        absurd (a (led-only one (e ∙ ap (λ (g : Frame). Some g) (sym (led-here two f b d)))))
    same one two f e d (inr a) (inr b) =
        h.nested.alone one two f (sym (l.others one a) ∙ e) (sym (l.others two b) ∙ d)

  -- no page lies on a frame of the rest of the pool
  pub rest-unplaced : (i other : ℕ) → i < length rest
      → placed_in ram new other ≡ Some (listed rest i) → ⊥
  rest-unplaced i other lt e = go (cases_eq other page) where
    go : (other ≡ page) ⊎ (other ≡ page → ⊥) → ⊥
    go (inl d) =
        rest-other frames ram rest frame h i lt (sym (led-here other (listed rest i) d e))
    go (inr ne) =
        (rest-free frames ram rest frame h i lt).unplaced other (sym (l.others other ne) ∙ e)

  -- what a nest keeps of its numbers
  pub numbers-led : (free : List Frame) → IsPool (after new ram free) → Holds (after new ram free)
  numbers-led free pool = record {
    nested = nested-led free;
    pool = pool;
    some = h.some;
    most = h.most;
    room = subst (λ (n : ℕ). table_frames ram ≤ n) (sym l.long) h.room;
    few = subst (λ (n : ℕ). n ≤ 4125) (sym l.long) h.few;
    whole = l.whole;
  }

  -- an unplaced page is led to the last frame of the pool
  pub holds-mapped : placed_in ram frames page ≡ None → Holds (after new ram rest)
  holds-mapped none = numbers-led rest (record {
    only = λ i lt. let free = rest-free frames ram rest frame h i lt in record {
      apart = free.apart;
      inside = subst (λ (n : ℕ). (listed rest i).0 < n) (sym l.long) free.inside;
      unplaced = λ other e. rest-unplaced i other lt e;
    };
    once = λ i j li lj e. rest-once frames ram rest frame h i j li lj e;
    all = λ f free unlisted.
        h.pool.all f (was_free f free)
        (λ i lt e. not_listed f free unlisted i lt e (cases_lt i (length rest)));
  }) where
    was_free : (f : Frame) → IsFree (after new ram rest) f → IsFree (before frames ram rest frame) f
    was_free f free = record {
      apart = free.apart;
      inside = subst (λ (n : ℕ). f.0 < n) l.long free.inside;
      unplaced = λ other e. was_unplaced other e (cases_eq other page);
    } where
      was_unplaced : (other : ℕ) → placed_in ram frames other ≡ Some f
          → (other ≡ page) ⊎ (other ≡ page → ⊥) → ⊥
      was_unplaced other e (inl d) = nowhere (sym none ∙ ap (placed_in ram frames) (sym d) ∙ e)
        where
          nowhere : ◌≡◌ {A = Option Frame} None (Some f) → ⊥
          nowhere z = cc
      was_unplaced other e (inr ne) = free.unplaced other (l.others other ne ∙ e)

    not_listed : (f : Frame) → IsFree (after new ram rest) f
        → ((i : ℕ) → i < length rest → listed rest i ≡ f → ⊥)
        → (i : ℕ) → i < length (rest ++ frame ∷ []) → listed (rest ++ frame ∷ []) i ≡ f
        → (i < length rest) ⊎ (length rest ≤ i) → ⊥
    not_listed f free unlisted i lt e (inl front) =
        unlisted i front (sym (listed-front rest frame i front) ∙ e)
    not_listed f free unlisted i lt e (inr last) =
        let more = length_push rest frame in
        let at : i ≡ length rest = omega arith in
        let is : frame ≡ f =
        sym (listed-last rest frame) ∙ ap (listed (rest ++ frame ∷ [])) (sym at) ∙ e in
        free.unplaced page (l.here ∙ ap (λ (g : Frame). Some g) is)

  -- the guest's pages stay where the page gets the bytes that it had
  pub contents-led : page_at new frame.0 ≡ page_in frames (placed_in ram frames page)
      → contents_in ram new ≡ contents_in ram frames
  contents-led bytes =
      contents-same ram frames new (λ other lt. go other (cases_eq other page))
    where
      elsewhere : (other : ℕ) (p : Option Frame) → (other ≡ page → ⊥)
          → placed_in ram frames other ≡ p → page_in new p ≡ page_in frames p
      elsewhere other None ne e = refl
      elsewhere other (Some f) ne e = l.kept other f ne e

      go : (other : ℕ) → (other ≡ page) ⊎ (other ≡ page → ⊥)
          → page_in new (placed_in ram new other) ≡ page_in frames (placed_in ram frames other)
      go other (inl d) =
          subst (λ (w : ℕ).
          page_in new (placed_in ram new w) ≡ page_in frames (placed_in ram frames w))
          (sym d) (ap (page_in new) l.here ∙ bytes)
      go other (inr ne) =
          ap (page_in new) (l.others other ne)
          ∙ elsewhere other (placed_in ram frames other) ne refl

-- the guest's pages after an unplaced page got a frame of zeros
pub contents-mapped : (frames : List (List ℕ)) (ram : ℕ) (rest : List Frame) (frame : Frame)
    (h : Holds (before frames ram rest frame)) (new : List (List ℕ)) (page : ℕ) → page < ram
    → placed_in ram frames page ≡ None → IsLeaf (set frames frame.0 zero_page) new page frame
    → contents_in ram new ≡ contents_in ram frames
contents-mapped frames ram rest frame h new page lt none w =
    contents-led frames ram rest frame h new page
    (is-led frames ram rest frame h new page zero_page lt w)
    (bytes-led frames ram rest frame h new page zero_page lt w ∙ ap (page_in frames) (sym none))
