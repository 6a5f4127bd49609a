-- Laws of entries, of the placement and of the guest's pages, after a frame or an entry changes.
use Rattle.std.proofs.Common.{◌≡◌, ℕ, ◌+◌, ◌*◌, ◌/◌, ◌^◌, ◌<◌, ◌⊎◌, Bool, true, false, nat_lt}
use Rattle.std.proofs.Common.{nat_eq, List, [], Some, None, length, get_or, set, inl, inr, refl}
use Rattle.std.proofs.Common.{sym, ap, subst, ◌∙◌, arith, get_or-set_same, get_or-set_other}
use Rattle.std.proofs.lemmas.Bool.{ltb-true, lt-ltb, cases_eq, eqb-true}
use Rattle.std.proofs.lemmas.List.{length-set, same_lists}
use Rattle.std.proofs.lemmas.List.FromFn.{get_or-map-range_with_len, length-map-range_with_len}
use Rattle.bn_types.specs.Numbers.{AreWhole, page_at, number_at, zero_page}
use Rattle.bn_types.specs.declared.frame.Frame.{Frame}
use Rattle.bn_types.specs.declared.width.Width.TheVariants.{B8}
use Rattle.bn_model.specs.Nesting.{Nested, entry_at, leaf_to, frame_of, frame_when, low_entry}
use Rattle.bn_model.specs.Nesting.{placed_in, place_when, page_in, contents_in}

-- a frame that changes leaves the entries of the others
pub entry-other_frame : (frames : List (List ℕ)) (f : ℕ) (page : List ℕ) (t i : ℕ) → (t ≡ f → ⊥)
    → entry_at (set frames f page) t i ≡ entry_at frames t i
unfolding entry_at
entry-other_frame frames f page t i ne =
    ap (λ bytes. number_at B8 bytes (8 * i)) (get_or-set_other frames f t page [] ne)

-- a page whose entry stays keeps its place
pub placed-kept : (ram : ℕ) (old new : List (List ℕ)) (page : ℕ)
    → (page < ram → low_entry new page ≡ low_entry old page)
    → placed_in ram new page ≡ placed_in ram old page
unfolding placed_in
placed-kept ram old new page e = by_test (nat_lt page ram) refl where
  by_test : (b : Bool) → nat_lt page ram ≡ b
      → place_when (nat_lt page ram) new page ≡ place_when (nat_lt page ram) old page
  by_test true t = let f = e (ltb-true page ram t) in rw (t) (ap frame_of f)
  by_test false t = rw t refl

-- a placed page lies in RAM
pub placed-inside : (ram : ℕ) (frames : List (List ℕ)) (page : ℕ) (frame : Frame)
    → placed_in ram frames page ≡ Some frame → page < ram
unfolding placed_in
placed-inside ram frames page frame e = by_test (nat_lt page ram) refl where
  by_test : (b : Bool) → nat_lt page ram ≡ b → page < ram
  by_test true t = ltb-true page ram t
  by_test false t = let f : place_when false frames page ≡ Some frame = rw t at e in absurd (cc)

-- a page whose entry is a leaf is placed there
pub placed-at : (ram : ℕ) (frames : List (List ℕ)) (page : ℕ) (frame : Frame) → page < ram
    → low_entry frames page ≡ leaf_to (Some frame) → placed_in ram frames page ≡ Some frame
unfolding placed_in
placed-at ram frames page frame lt e =
    let inside : nat_lt page ram ≡ true = lt-ltb page ram lt in
    rw (inside, e) (by_test (nat_eq (frame.0 * 2 ^ 10 + 0xDF) 0) refl)
  where
    by_test : (b : Bool) → nat_eq (frame.0 * 2 ^ 10 + 0xDF) 0 ≡ b
        → frame_when (nat_eq (frame.0 * 2 ^ 10 + 0xDF) 0) (frame.0 * 2 ^ 10 + 0xDF) ≡ Some frame
    by_test true t = absurd (let z : frame.0 * 2 ^ 10 + 0xDF ≡ 0 =
        eqb-true (frame.0 * 2 ^ 10 + 0xDF) 0 t in omega arith)
    by_test false t =
        let number : (frame.0 * 2 ^ 10 + 0xDF) / 2 ^ 10 ≡ frame.0 = omega arith in
        rw t (ap (λ (n : ℕ). let f : Frame = record { 0 = n } in Some f) number)

-- the guest's pages, one by one
pub length-contents : (ram : ℕ) (frames : List (List ℕ)) → length (contents_in ram frames) ≡ ram
unfolding contents_in
length-contents ram frames =
    length-map-range_with_len (λ page. page_in frames (placed_in ram frames page)) 0 ram

pub get_or-contents : (ram : ℕ) (frames : List (List ℕ)) (page : ℕ) (d : List ℕ) → page < ram
    → get_or (contents_in ram frames) page d ≡ page_in frames (placed_in ram frames page)
unfolding contents_in
get_or-contents ram frames page d lt =
    get_or-map-range_with_len (λ page. page_in frames (placed_in ram frames page)) 0 ram page page d
    lt (omega arith)

-- a placed page's bytes are its frame's
pub page-contents : (n : Nested) (page : ℕ) (frame : Frame)
    → placed_in n.ram n.frames page ≡ Some frame
    → page_at (contents_in n.ram n.frames) page ≡ page_at n.frames frame.0
page-contents n page frame e =
    get_or-contents n.ram n.frames page [] (placed-inside n.ram n.frames page frame e)
    ∙ ap (page_in n.frames) e

-- pages that are the same one by one
pub contents-same : (ram : ℕ) (old new : List (List ℕ))
    → ((page : ℕ) → page < ram
    → page_in new (placed_in ram new page) ≡ page_in old (placed_in ram old page))
    → contents_in ram new ≡ contents_in ram old
contents-same ram old new e =
    same_lists (contents_in ram new) (contents_in ram old)
    (length-contents ram new ∙ sym (length-contents ram old))
    (λ k d h. let lt : k < ram = subst (λ (n : ℕ). k < n) (length-contents ram new) h in
    get_or-contents ram new k d lt ∙ e k lt ∙ sym (get_or-contents ram old k d lt))

-- one page that changes
pub contents-set : (ram : ℕ) (old new : List (List ℕ)) (page : ℕ) (bytes : List ℕ) → page < ram
    → page_in new (placed_in ram new page) ≡ bytes
    → ((other : ℕ) → other < ram → (other ≡ page → ⊥)
    → page_in new (placed_in ram new other) ≡ page_in old (placed_in ram old other))
    → contents_in ram new ≡ set (contents_in ram old) page bytes
contents-set ram old new page bytes lt at others =
    same_lists (contents_in ram new) (set (contents_in ram old) page bytes)
    (length-contents ram new ∙ sym (length-contents ram old)
    ∙ sym (length-set (contents_in ram old) page bytes))
    (λ k d h. let below : k < ram = subst (λ (n : ℕ). k < n) (length-contents ram new) h in
    get_or-contents ram new k d below ∙ go k d below (cases_eq k page))
  where
    go : (k : ℕ) (d : List ℕ) → k < ram → (k ≡ page) ⊎ (k ≡ page → ⊥)
        → page_in new (placed_in ram new k) ≡ get_or (set (contents_in ram old) page bytes) k d
    go k d below (inl e) =
        let inside : page < length (contents_in ram old) = rw (length-contents ram old) lt in
        subst (λ (w : ℕ).
        page_in new (placed_in ram new w) ≡ get_or (set (contents_in ram old) page bytes) w d)
        (sym e)
        (at ∙ sym (get_or-set_same (contents_in ram old) page bytes d inside))
    go k d below (inr ne) =
        others k below ne ∙ sym (get_or-contents ram old k d below)
        ∙ sym (get_or-set_other (contents_in ram old) page k bytes d ne)

-- an unplaced page of RAM has zeros
pub page-unplaced : (n : Nested) (page : ℕ) → page < n.ram → placed_in n.ram n.frames page ≡ None
    → page_at (contents_in n.ram n.frames) page ≡ zero_page
page-unplaced n page inside e = get_or-contents n.ram n.frames page [] inside
    ∙ ap (page_in n.frames) e

-- a placed page is whole where all pages are
pub size-placed : (n : Nested) (page : ℕ) (frame : Frame) → AreWhole (contents_in n.ram n.frames)
    → placed_in n.ram n.frames page ≡ Some frame
    → length (page_at (contents_in n.ram n.frames) page) ≡ 4096
size-placed n page frame whole e =
    let inside = placed-inside n.ram n.frames page frame e in
    whole page (rw (length-contents n.ram n.frames) inside)
