-- What a nest keeps where a placed frame changes, and where a page is led to a free frame.
use Rattle.std.proofs.Common.{◌≡◌, ℕ, ◌+◌, ◌%◌, ◌<◌, ◌≤◌, List, [], Option, Some, None, length}
use Rattle.std.proofs.Common.{set, refl, sym, ap, subst, ◌∙◌, arith, get_or-set_same}
use Rattle.std.proofs.Common.{get_or-set_other}
use Rattle.std.proofs.lemmas.List.{length-set}
use Rattle.bn_types.specs.Numbers.{AreWhole, page_at, bytes_of, with_number}
use Rattle.bn_types.specs.declared.width.Width.{Width}
use Rattle.bn_types.specs.declared.frame.Frame.{Frame}
use Rattle.bn_types.specs.declared.width.Width.TheVariants.{B1, B2, B4, B8}
use Rattle.bn_model.specs.Nesting.{Nested, IsNested, table_frames, place, placed_in, page_in}
use Rattle.bn_model.specs.Nesting.{contents_in}
use Rattle.bn_model.proofs.PageNumbers.{length-with_number, length-zero_page}
use Rattle.bn_model.proofs.NestingLaws.{placed-inside, contents-set, get_or-contents}
use Rattle.bn_model.proofs.NestingLaws.{length-contents}
use Rattle.bn_model.proofs.PlacingLaws.{placed-past, tree-past}
use Rattle.n_walk.specs.Holding.{Holds, IsPool, listed}
use Rattle.n_walk.proofs.Writing.{whole-set}

-- the nested tables after a frame past the tables changes
pub nested-past : (n : Nested) (f : ℕ) (bytes : List ℕ) (free : List Frame) → table_frames n.ram ≤ f
    → IsNested n
    → IsNested (record { frames = set n.frames f bytes; free = free; ram = n.ram })
nested-past n f bytes free past h = record {
  tree = tree-past n f bytes free past h.tree;
  apart = λ page frame e. h.apart page frame (back page frame e);
  inside = λ page frame e.
      subst (λ (k : ℕ). frame.0 < k) (sym (length-set n.frames f bytes))
      (h.inside page frame (back page frame e));
  alone = λ page other frame e d. h.alone page other frame (back page frame e) (back other frame d);
} where
  back : (page : ℕ) (frame : Frame) → placed_in n.ram (set n.frames f bytes) page ≡ Some frame
      → place n page ≡ Some frame
  back page frame e = sym (placed-past n.ram n.frames f bytes page past) ∙ e

-- the pool, too
pool-past : (n : Nested) (f : ℕ) (bytes : List ℕ) → table_frames n.ram ≤ f → IsPool n
    → IsPool (record { frames = set n.frames f bytes; free = n.free; ram = n.ram })
pool-past n f bytes past h = record {
  only = λ i lt. let old = h.only i lt in record {
    apart = old.apart;
    inside = subst (λ (k : ℕ). (listed n.free i).0 < k) (sym (length-set n.frames f bytes))
        old.inside;
    unplaced = λ page e. old.unplaced page (sym (placed-past n.ram n.frames f bytes page past) ∙ e);
  };
  once = h.once;
  all = λ frame new none. h.all frame (record {
    apart = new.apart;
    inside = subst (λ (k : ℕ). frame.0 < k) (length-set n.frames f bytes) new.inside;
    unplaced = λ page e. new.unplaced page (placed-past n.ram n.frames f bytes page past ∙ e);
  }) none;
}

-- a placed frame changes
pub holds-changed : (n : Nested) (page : ℕ) (frame : Frame) (bytes : List ℕ) → Holds n
    → place n page ≡ Some frame
    → length bytes ≡ 4096
    → Holds (record { frames = set n.frames frame.0 bytes; free = n.free; ram = n.ram })
holds-changed n page frame bytes h e size =
    let past = h.nested.apart page frame e in
    record {
      nested = nested-past n frame.0 bytes n.free past h.nested;
      pool = pool-past n frame.0 bytes past h.pool;
      some = h.some;
      most = h.most;
      room = subst (λ (k : ℕ). table_frames n.ram ≤ k) (sym (length-set n.frames frame.0 bytes))
          h.room;
      few = subst (λ (k : ℕ). k ≤ 4125) (sym (length-set n.frames frame.0 bytes)) h.few;
      whole = whole-set n.frames frame.0 bytes size h.whole;
    }

-- its page has these bytes, and the others stay
pub contents-changed : (n : Nested) (page : ℕ) (frame : Frame) (bytes : List ℕ) → Holds n
    → place n page ≡ Some frame
    → contents_in n.ram (set n.frames frame.0 bytes) ≡ set (contents_in n.ram n.frames) page bytes
contents-changed n page frame bytes h e =
    contents-set n.ram n.frames (set n.frames frame.0 bytes) page bytes
    (placed-inside n.ram n.frames page frame e) here others
  where
    past : table_frames n.ram ≤ frame.0
    past = h.nested.apart page frame e

    kept : (other : ℕ) → placed_in n.ram (set n.frames frame.0 bytes) other ≡ place n other
    kept other = placed-past n.ram n.frames frame.0 bytes other past

    here : page_in (set n.frames frame.0 bytes)
        (placed_in n.ram (set n.frames frame.0 bytes) page) ≡ bytes
    here =
        ap (page_in (set n.frames frame.0 bytes)) (kept page ∙ e)
        ∙ get_or-set_same n.frames frame.0 bytes [] (h.nested.inside page frame e)

    same : (other : ℕ) (p : Option Frame) → place n other ≡ p → (other ≡ page → ⊥)
        → page_in (set n.frames frame.0 bytes) p ≡ page_in n.frames p
    same other None d ne = refl
    same other (Some f) d ne =
        get_or-set_other n.frames frame.0 f.0 bytes []
        (λ z. ne (let same_frame : f ≡ frame =
        ap (λ (k : ℕ). let g : Frame = record { 0 = k } in g) z in
        h.nested.alone other page frame (d ∙ ap (λ (g : Frame). Some g) same_frame) e))

    others : (other : ℕ) → other < n.ram → (other ≡ page → ⊥)
        → page_in (set n.frames frame.0 bytes) (placed_in n.ram (set n.frames frame.0 bytes) other)
        ≡ page_in n.frames (placed_in n.ram n.frames other)
    others other lt ne = ap (page_in (set n.frames frame.0 bytes)) (kept other)
        ∙ same other (place n other) refl ne

-- a number written to a placed frame leaves the frame's size
pub size-written : (n : Nested) (page : ℕ) (frame : Frame) (width : Width) (offset value : ℕ)
    → Holds n → place n page ≡ Some frame
    → offset % bytes_of width ≡ 0 → offset < 4096
    → length (with_number width (page_at n.frames frame.0) offset value) ≡ 4096
size-written n page frame width offset value h e aligned inside =
    let size : length (page_at n.frames frame.0) ≡ 4096 =
    h.whole frame.0 (h.nested.inside page frame e) in
    length-with_number width (page_at n.frames frame.0) offset value (rw size (fits width aligned))
    ∙ size
  where
    fits : (w : Width) → offset % bytes_of w ≡ 0 → offset + bytes_of w ≤ 4096
    fits B1 a = omega arith
    fits B2 a = omega arith
    fits B4 a = omega arith
    fits B8 a = omega arith

-- each page has the size of a frame
pub whole-contents : (n : Nested) → Holds n → AreWhole (contents_in n.ram n.frames)
whole-contents n h page lt =
    let inside : page < n.ram = subst (λ (k : ℕ). page < k) (length-contents n.ram n.frames) lt in
    ap length (get_or-contents n.ram n.frames page [] inside) ∙ size (place n page) refl
  where
    size : (p : Option Frame) → place n page ≡ p → length (page_in n.frames p) ≡ 4096
    size None e = length-zero_page
    size (Some frame) e = h.whole frame.0 (h.nested.inside page frame e)
