-- What a nest keeps where a page moves to a free frame and leaves its old one.
use Rattle.std.proofs.Common.{◌≡◌, ℕ, ◌<◌, ◌≤◌, ◌⊎◌, List, [], ◌∷◌, ◌++◌, Option, Some, length, set}
use Rattle.std.proofs.Common.{inl, inr, sym, ap, subst, ◌∙◌, arith}
use Rattle.std.proofs.Common.{get_or-set_other}
use Rattle.std.proofs.lemmas.Bool.{cases_eq, cases_lt}
use Rattle.std.proofs.lemmas.List.{length-set, length_push}
use Rattle.bn_types.specs.Numbers.{page_at, zero_page}
use Rattle.bn_types.specs.declared.frame.Frame.{Frame}
use Rattle.bn_model.specs.Nesting.{IsFree, placed_in, page_in, contents_in}
use Rattle.bn_model.proofs.PageNumbers.{length-zero_page}
use Rattle.bn_model.proofs.PlacingLaws.{placed-past, tree-past}
use Rattle.n_walk.specs.Holding.{Holds, IsPool, listed}
use Rattle.n_walk.proofs.Leading.{before, after, IsLed, is-led, unsome, frame-from_number}
use Rattle.n_walk.proofs.Leading.{last-free, listed-front, listed-last, rest-free, rest-once}
use Rattle.n_walk.proofs.Leading.{rest-unplaced, numbers-led, contents-led, bytes-led}
use Rattle.n_walk.proofs.Writing.{IsLeaf, whole-set}

-- what a move rests on: the page lies on the frame that it leaves, and the other one is free
pub record CanMove (frames one : List (List ℕ)) (ram : ℕ) (rest : List Frame) (frame : Frame)
    (page : ℕ) (left : Frame) : Type 0 where
  pub holds : Holds (before frames ram rest frame)
  pub inside : page < ram
  pub placed : placed_in ram frames page ≡ Some left
  -- and the frames after the page was led to the free one, with its bytes
  pub led : IsLeaf (set frames frame.0 (page_at frames left.0)) one page frame

-- the frames after the frame that it left was cleared
abbrev pub moved : List (List ℕ) → Frame → List (List ℕ)
moved one left = set one left.0 zero_page

module _ (frames one : List (List ℕ)) (ram : ℕ) (rest : List Frame) (frame : Frame) (page : ℕ)
    (left : Frame) (m : CanMove frames one ram rest frame page left) where
  -- the frame that is left is another one
  pub left-other : left ≡ frame → ⊥
  left-other e =
      (last-free frames ram rest frame m.holds).unplaced page
      (m.placed ∙ ap (λ (g : Frame). Some g) e)

  pub is-moved : IsLed frames one ram page frame
  is-moved = is-led frames ram rest frame m.holds one page (page_at frames left.0) m.inside m.led

  -- the places after a move
  pub placed-moved : (other : ℕ) → placed_in ram (moved one left) other ≡ placed_in ram one other
  placed-moved other =
      placed-past ram one left.0 zero_page other (m.holds.nested.apart page left m.placed)

  pub here-moved : placed_in ram (moved one left) page ≡ Some frame
  here-moved = placed-moved page ∙ is-moved.here

  pub others-moved : (other : ℕ) → (other ≡ page → ⊥)
      → placed_in ram (moved one left) other ≡ placed_in ram frames other
  others-moved other ne = placed-moved other ∙ is-moved.others other ne

  pub long-moved : length (moved one left) ≡ length frames
  long-moved = length-set one left.0 zero_page ∙ is-moved.long

  -- a move leads the page to the frame
  pub led-moved : IsLed frames (moved one left) ram page frame
  led-moved =
      let l = is-moved in
      record {
        long = long-moved;
        whole = whole-set one left.0 zero_page length-zero_page l.whole;
        tree = λ free. tree-past (after one ram free) left.0 zero_page free
            (m.holds.nested.apart page left m.placed) (l.tree free);
        here = here-moved;
        others = others-moved;
        kept = λ other f ne e.
            get_or-set_other one left.0 f.0 zero_page []
            (λ z. ne (m.holds.nested.alone other page left
            (e ∙ ap (λ (g : Frame). Some g) (frame-from_number f left z)) m.placed))
            ∙ l.kept other f ne e;
      }

  -- and frees the one that it left
  pub left-free : (free : List Frame) → IsFree (after (moved one left) ram free) left
  left-free free = record {
    apart = m.holds.nested.apart page left m.placed;
    inside = rw long-moved (m.holds.nested.inside page left m.placed);
    unplaced = λ other e. go other e (cases_eq other page);
  } where
    go : (other : ℕ) → placed_in ram (moved one left) other ≡ Some left
        → (other ≡ page) ⊎ (other ≡ page → ⊥) → ⊥
    go other e (inl d) =
        let here : ◌≡◌ {A = Option Frame} (Some frame) (Some left) =
        sym here-moved ∙ ap (placed_in ram (moved one left)) (sym d) ∙ e in
        left-other (sym (unsome frame left here))
    go other e (inr ne) =
        ne (m.holds.nested.alone other page left (sym (others-moved other ne) ∙ e) m.placed)

  -- the pool after a move: the frame that was left in place of the one that was taken
  pool-moved : IsPool (after (moved one left) ram (rest ++ left ∷ []))
  pool-moved = record {
    only = λ i lt. only i lt (cases_lt i (length rest));
    once = λ i j li lj e. once i j li lj e (cases_lt i (length rest)) (cases_lt j (length rest));
    all = λ f free unlisted.
        m.holds.pool.all f (was_free f free unlisted)
        (λ i lt e. not_listed f free unlisted i lt e (cases_lt i (length rest)));
  } where
    new : List (List ℕ)
    new = moved one left

    l : IsLed frames new ram page frame
    l = led-moved

    last : (i : ℕ) → i < length (rest ++ left ∷ []) → length rest ≤ i → i ≡ length rest
    last i lt le = let more = length_push rest left in omega arith

    within : length rest < length (rest ++ left ∷ [])
    within = let more = length_push rest left in omega arith

    listed-left : (i : ℕ) → i ≡ length rest → listed (rest ++ left ∷ []) i ≡ left
    listed-left i e = ap (listed (rest ++ left ∷ [])) e ∙ listed-last rest left

    only : (i : ℕ) → i < length (rest ++ left ∷ []) → (i < length rest) ⊎ (length rest ≤ i)
        → IsFree (after new ram (rest ++ left ∷ [])) (listed (rest ++ left ∷ []) i)
    only i lt (inl front) =
        let free = rest-free frames ram rest frame m.holds i front in
        subst (λ (f : Frame). IsFree (after new ram (rest ++ left ∷ [])) f)
        (sym (listed-front rest left i front))
        (record {
          apart = free.apart;
          inside = subst (λ (n : ℕ). (listed rest i).0 < n) (sym l.long) free.inside;
          unplaced = λ other e.
              rest-unplaced frames ram rest frame m.holds new page l i other front e;
        })
    only i lt (inr le) =
        subst (λ (f : Frame). IsFree (after new ram (rest ++ left ∷ [])) f)
        (sym (listed-left i (last i lt le)))
        (left-free (rest ++ left ∷ []))

    not_left : (i : ℕ) → i < length rest → listed rest i ≡ left → ⊥
    not_left i lt e =
        (rest-free frames ram rest frame m.holds i lt).unplaced page
        (m.placed ∙ ap (λ (g : Frame). Some g) (sym e))

    once : (i j : ℕ) → i < length (rest ++ left ∷ []) → j < length (rest ++ left ∷ [])
        → listed (rest ++ left ∷ []) i ≡ listed (rest ++ left ∷ []) j
        → (i < length rest) ⊎ (length rest ≤ i) → (j < length rest) ⊎ (length rest ≤ j) → i ≡ j
    once i j li lj e (inl a) (inl b) =
        rest-once frames ram rest frame m.holds i j a b
        (sym (listed-front rest left i a) ∙ e ∙ listed-front rest left j b)
    once i j li lj e (inl a) (inr b) =
        absurd (not_left i a (sym (listed-front rest left i a) ∙ e ∙ listed-left j (last j lj b)))
    once i j li lj e (inr a) (inl b) =
        absurd (not_left j b
        (sym (listed-front rest left j b) ∙ sym e ∙ listed-left i (last i li a)))
    once i j li lj e (inr a) (inr b) = last i li a ∙ sym (last j lj b)

    was_free : (f : Frame) → IsFree (after new ram (rest ++ left ∷ [])) f
        → ((i : ℕ) → i < length (rest ++ left ∷ []) → listed (rest ++ left ∷ []) i ≡ f → ⊥)
        → IsFree (before frames ram rest frame) f
    was_free f free unlisted = record {
      apart = free.apart;
      inside = subst (λ (n : ℕ). f.0 < n) l.long free.inside;
      unplaced = λ other e. was_unplaced other e (cases_eq other page);
    } where
      was_unplaced : (other : ℕ) → placed_in ram frames other ≡ Some f
          → (other ≡ page) ⊎ (other ≡ page → ⊥) → ⊥
      was_unplaced other e (inl d) =
          unlisted (length rest) within
          (listed-last rest left
          ∙ unsome left f (sym m.placed ∙ ap (placed_in ram frames) (sym d) ∙ e))
      was_unplaced other e (inr ne) = free.unplaced other (l.others other ne ∙ e)

    not_listed : (f : Frame) → IsFree (after new ram (rest ++ left ∷ [])) f
        → ((i : ℕ) → i < length (rest ++ left ∷ []) → listed (rest ++ left ∷ []) i ≡ f → ⊥)
        → (i : ℕ) → i < length (rest ++ frame ∷ []) → listed (rest ++ frame ∷ []) i ≡ f
        → (i < length rest) ⊎ (length rest ≤ i) → ⊥
    not_listed f free unlisted i lt e (inl front) =
        unlisted i (let more = length_push rest left in omega arith)
        (listed-front rest left i front ∙ sym (listed-front rest frame i front) ∙ e)
    not_listed f free unlisted i lt e (inr le) =
        let more = length_push rest frame in
        let at : i ≡ length rest = omega arith in
        let is : frame ≡ f = sym (listed-last rest frame)
        ∙ ap (listed (rest ++ frame ∷ [])) (sym at)
        ∙ e in
        free.unplaced page (l.here ∙ ap (λ (g : Frame). Some g) is)

  -- a nest holds after a move
  pub holds-moved : Holds (after (moved one left) ram (rest ++ left ∷ []))
  holds-moved =
      numbers-led frames ram rest frame m.holds (moved one left) page led-moved
      (rest ++ left ∷ []) pool-moved

  -- and the guest's pages stay
  pub contents-moved : contents_in ram (moved one left) ≡ contents_in ram frames
  contents-moved =
      contents-led frames ram rest frame m.holds (moved one left) page led-moved
      (get_or-set_other one left.0 frame.0 zero_page []
      (λ z. left-other (frame-from_number left frame (sym z)))
      ∙ bytes-led frames ram rest frame m.holds one page (page_at frames left.0) m.inside m.led
      ∙ ap (page_in frames) (sym m.placed))

  -- the frame that the page was placed at is the one that it left
  pub left-free-at : (free : List Frame) → (f : Frame) → placed_in ram frames page ≡ Some f
      → IsFree (after (moved one left) ram free) f
  left-free-at free f e =
      subst (λ (g : Frame). IsFree (after (moved one left) ram free) g)
      (unsome left f (sym m.placed ∙ e))
      (left-free free)
