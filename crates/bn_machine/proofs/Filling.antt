-- Pages that are filled with bytes, one after another.
use Rattle.std.proofs.Common.{◌≡◌, ℕ, zero, suc, ◌+◌, ◌-◌, ◌*◌, ◌%◌, ◌^◌, ◌<◌, ◌≤◌, List, [], ◌∷◌}
use Rattle.std.proofs.Common.{◌++◌, take, drop, length, get_or, set, replicate, ◌≢◌, ◌⊎◌, inl, inr}
use Rattle.std.proofs.Common.{Some, None, refl, sym, ap, ◌∙◌, arith, add-one, subst}
use Rattle.std.proofs.lemmas.List.{append_assoc, length-append, length-take-le, length-drop}
use Rattle.std.proofs.lemmas.List.{length-replicate, set-set, get_or-set_same, get_or-drop}
use Rattle.std.proofs.lemmas.List.{get_or-replicate, get_or-append_right}
use Rattle.std.proofs.lemmas.List.{replicate-append-replicate}
use Rattle.std.proofs.lemmas.Bool.{cases_eq}
use Rattle.std.proofs.lemmas.List.FromFn.{length-map-range_with_len, get_or-map-range_with_len}
use Rattle.bn_types.specs.Numbers.{with_number, zero_page}
use Rattle.bn_types.specs.declared.width.Width.TheVariants.{B1}
use Rattle.bn_model.proofs.MixedLists.{mixed, mixed_all, set-mixed}
use Rattle.bn_model.specs.Opening.{opening_harts, page_of, pages_of}
use Rattle.bn_model.specs.Nesting.{Nested, contents, place}
use Rattle.bn_model.specs.State.{resting_hart}
use Rattle.bn_types.specs.declared.frame.Frame.{Frame}

set_split_suc : {A : Type 0} (l : List A) (i : ℕ) (a : A) → i < length l
    → take i l ++ a ∷ drop (suc i) l ≡ set l i a
set_split_suc (x ∷ l) zero a h = refl
set_split_suc (x ∷ l) (suc i) a h = ap (λ r. x ∷ r) (set_split_suc l i a (omega arith))
set_split_suc [] i a h = absurd (omega arith)

-- writing a byte sets it
pub with_byte : (page : List ℕ) (offset byte : ℕ) → offset < length page → byte < 256
    → with_number B1 page offset byte ≡ set page offset byte
unfolding with_number
with_byte page offset byte inside small =
    let e : byte % 2 ^ (8 * 1) % 256 ≡ byte = omega arith in
    append_assoc (take offset page) (byte % 2 ^ (8 * 1) % 256 ∷ []) (drop (offset + 1) page)
    ∙ rw (e, add-one) (set_split_suc page offset byte inside)

-- one more byte of a page
pub byte_filled : (pages : List (List ℕ)) (f offset byte : ℕ) (bytes old : List ℕ)
    → f < length pages → offset < length bytes
    → length bytes ≡ length old → byte < 256 → byte ≡ get_or bytes offset 0
    → set (set pages f (mixed offset bytes old)) f
    (with_number B1 (get_or (set pages f (mixed offset bytes old)) f []) offset byte)
    ≡ set pages f (mixed (offset + 1) bytes old)
byte_filled pages f offset byte bytes old inside below same small e =
    let now = mixed offset bytes old in
    let size : offset < length now = length_mixed in
    set-set pages f now (with_number B1 (get_or (set pages f now) f []) offset byte)
    ∙ ap (λ page. set pages f (with_number B1 page offset byte))
    (get_or-set_same pages f now [] inside)
    ∙ ap (set pages f) (with_byte now offset byte size small ∙ ap (set now offset) e
    ∙ set-mixed offset bytes old 0 below same)
  where
    length_mixed : offset < length (mixed offset bytes old)
    length_mixed =
        let front = length-take-le offset bytes (omega arith) in
        let back = length-drop offset old in
        omega (arith, length-append (take offset bytes) (drop offset old))

-- a page that isn't filled yet is as it was
pub get_or-mixed : {A : Type 0} (i : ℕ) (new old : List A) (d : A) → i ≤ length new
    → get_or (mixed i new old) i d ≡ get_or old i d
get_or-mixed i new old d h =
    get_or-append_right (take i new) (drop i old) i i d (length-take-le i new h) (omega arith)
    ∙ get_or-drop i old (i - i) d
    ∙ ap (λ n. get_or old n d) (omega arith)

pub length-mixed : {A : Type 0} (i : ℕ) (new old : List A) → i ≤ length new
    → length new ≡ length old → length (mixed i new old) ≡ length old
length-mixed i new old h e =
    let front = length-take-le i new h in
    let back = length-drop i old in
    omega (arith, length-append (take i new) (drop i old))

pub length-pages_of : (count : ℕ) (bytes : List ℕ) → length (pages_of count bytes) ≡ count
unfolding pages_of
length-pages_of count bytes = length-map-range_with_len (page_of bytes) 0 count

pub get_or-pages_of : (count : ℕ) (bytes : List ℕ) (g : ℕ) → g < count
    → get_or (pages_of count bytes) g [] ≡ page_of bytes g
unfolding pages_of
get_or-pages_of count bytes g h =
    get_or-map-range_with_len (page_of bytes) 0 count g g [] h (omega arith)

-- one more page
pub page_filled : (frames : List (List ℕ)) (g : ℕ) (bytes page : List ℕ) → g < length frames
    → page ≡ page_of bytes g
    → set (mixed g (pages_of (length frames) bytes) frames) g page ≡
    mixed (g + 1) (pages_of (length frames) bytes) frames
page_filled frames g bytes page h e =
    let size = length-pages_of (length frames) bytes in
    ap (set (mixed g (pages_of (length frames) bytes) frames) g)
    (e ∙ sym (get_or-pages_of (length frames) bytes g h))
    ∙ set-mixed g (pages_of (length frames) bytes) frames [] (omega arith) size

-- one more hart that rests
pub opening_harts_more : (count entry : ℕ) → 0 < count
    → opening_harts count entry ++ resting_hart ∷ [] ≡ opening_harts (count + 1) entry
opening_harts_more count entry h =
    let n : count - 1 + 1 ≡ count + 1 - 1 = omega arith in
    ap (λ l. get_or (opening_harts count entry) 0 resting_hart ∷ l)
    (replicate-append-replicate (count - 1) 1 resting_hart ∙ ap (λ k. replicate k resting_hart) n)

-- the page at which the filling is
pub page_inside : (frames : List (List ℕ)) (g : ℕ) (bytes : List ℕ) → g < length frames
    → g < length (mixed g (pages_of (length frames) bytes) frames)
page_inside frames g bytes h =
    let size = length-pages_of (length frames) bytes in
    let all = length-mixed g (pages_of (length frames) bytes) frames (omega arith) size in
    omega arith

-- all pages are filled
pub all_filled : (frames : List (List ℕ)) (g : ℕ) (bytes : List ℕ) → g ≡ length frames
    → mixed g (pages_of (length frames) bytes) frames ≡ pages_of (length frames) bytes
all_filled frames g bytes e =
    mixed_all g (pages_of (length frames) bytes) frames
    (length-pages_of (length frames) bytes ∙ sym e) (sym e)

-- page g as a range of the bytes
pub range_is_page : (bytes : List ℕ) (g : ℕ)
    → take (g * 4096 + 4096 - g * 4096) (drop (g * 4096) bytes) ≡ page_of bytes g
range_is_page bytes g =
    let size : g * 4096 + 4096 - g * 4096 ≡ 4096 = omega arith in
    let start : g * 4096 ≡ 4096 * g = omega arith in
    ap (λ n. take n (drop (g * 4096) bytes)) size ∙ ap (λ n. take 4096 (drop n bytes)) start

-- ---- a nest whose pages are placed and filled in order

-- the pages before this one are placed and hold their bytes; the others are as at the start
pub record IsFilled (start nest : Nested) (page : ℕ) (bytes : List ℕ) : Type 0 where
  pub held : contents nest ≡ mixed page (pages_of (length (contents start)) bytes) (contents start)
  pub ram : nest.ram ≡ start.ram
  pub frames : length nest.frames ≡ length start.frames
  pub spare : length nest.free + page ≡ length start.free
  pub placed : (p : ℕ) → p < page → place nest p ≢ None
  pub unplaced : (p : ℕ) → page ≤ p → place nest p ≡ None

-- the next page is placed
pub record IsPlaced (old new : Nested) (page : ℕ) (frame : Frame) : Type 0 where
  pub here : place new page ≡ Some frame
  pub others : (other : ℕ) → (other ≡ page → ⊥) → place new other ≡ place old other
  pub held : contents new ≡ contents old
  pub ram : new.ram ≡ old.ram
  pub frames : length new.frames ≡ length old.frames
  pub spare : length new.free + 1 ≡ length old.free

-- and gets its bytes
pub record HasBytes (old new : Nested) (page : ℕ) (bytes : List ℕ) : Type 0 where
  pub held : contents new ≡ set (contents old) page bytes
  pub places : (other : ℕ) → place new other ≡ place old other
  pub ram : new.ram ≡ old.ram
  pub free : new.free ≡ old.free
  pub frames : length new.frames ≡ length old.frames

pub filled_none : (start : Nested) (bytes : List ℕ) → ((p : ℕ) → place start p ≡ None)
    → IsFilled start start 0 bytes
filled_none start bytes none = record {
  held = refl;
  ram = refl;
  frames = refl;
  spare = omega arith;
  placed = λ p h. absurd (omega arith);
  unplaced = λ p h. none p;
}

pub filled_more : (start old placed new : Nested) (page : ℕ) (frame : Frame) (chunk bytes : List ℕ)
    → page < length (contents start)
    → chunk ≡ page_of bytes page → IsFilled start old page bytes → IsPlaced old placed page frame
    → HasBytes placed new page chunk
    → IsFilled start new (page + 1) bytes
filled_more start old placed new page frame chunk bytes below e f p b = record {
  held =
      b.held
      ∙ ap (λ (pages : List (List ℕ)). set pages page chunk) (p.held ∙ f.held)
      ∙ page_filled (contents start) page bytes chunk below e;
  ram = b.ram ∙ p.ram ∙ f.ram;
  frames = b.frames ∙ p.frames ∙ f.frames;
  spare = let free = ap length b.free in let more = p.spare in let all = f.spare in omega arith;
  placed = λ q h. go q h (cases_eq q page);
  unplaced = λ q h. b.places q ∙ p.others q (λ same. absurd (omega arith))
      ∙ f.unplaced q (omega arith);
} where
  go : (q : ℕ) → q < page + 1 → (q ≡ page) ⊎ (q ≡ page → ⊥) → place new q ≢ None
  go q h (inl same) none =
      let here : place new q ≡ Some frame = b.places q ∙ ap (place placed) same ∙ p.here in
      absurd (cc)
  go q h (inr other) none =
      f.placed q (omega arith) (sym (p.others q other) ∙ sym (b.places q) ∙ none)

-- it is still zeros
pub page_zeros : (frames : List (List ℕ)) (ram g : ℕ) (bytes : List ℕ)
    → frames ≡ replicate ram zero_page → g < length frames
    → get_or (mixed g (pages_of (length frames) bytes) frames) g [] ≡ zero_page
page_zeros frames ram g bytes zeros h =
    let size = length-pages_of (length frames) bytes in
    let below : g < ram =
    subst (λ n. g < n) (ap length zeros ∙ length-replicate ram zero_page) h in
    get_or-mixed g (pages_of (length frames) bytes) frames [] (omega arith)
    ∙ ap (λ (pages : List (List ℕ)). get_or pages g []) zeros
    ∙ get_or-replicate ram g zero_page [] below
