-- Laws of the guest's pages as the untrusted world reads them.
use Rattle.std.proofs.Common.{◌≡◌, ℕ, zero, suc, ◌∷◌, refl, ◌+◌, ◌%◌, ◌<◌, ◌≤◌, ◌⊎◌, inl, inr, Bool}
use Rattle.std.proofs.Common.{true, false, ◌&&◌, nat_lt, List, [], Option, Some, None, length, sym}
use Rattle.std.proofs.Common.{ap, ◌∙◌, arith}
use Rattle.std.proofs.lemmas.Bool.{cases_lt, lt-ltb, ltb-true}
use Rattle.std.proofs.lemmas.Option.{slice_get-get_or, slice_get_past}
use Rattle.std.specs.List.{slice_get}
use Rattle.std.specs.Option.{option_map}
use Rattle.std.specs.Prelude.{not, slice_index_or}
use Rattle.bn_types.specs.Numbers.{number_at, page_at}
use Rattle.bn_types.specs.Visible.{state_at, state_of, word_at, word_of, words_read}
use Rattle.bn_types.specs.declared.page_state.PageState.TheVariants.{Outside, Owned, Free}
use Rattle.bn_types.specs.declared.width.Width.TheVariants.{B8}
use Rattle.bn_model.specs.declared.owner.Owner.{Owner}
use Rattle.bn_model.specs.Memory.{Memory, readable_if, readable_page, visible}
use Rattle.bn_model.specs.Nesting.{Nested, contents, place, words_walked, words_when}
use Rattle.bn_model.specs.Owners.{is_owned}
use Rattle.bn_model.proofs.EachLemmas.{get-each, length-each}
use Rattle.bn_model.proofs.NestingLaws.{length-contents, page-unplaced}
use Rattle.bn_model.proofs.PageNumbers.{number_at-zero_page}

pub length-visible : (m : Memory) → length (visible m) ≡ length m.pages
unfolding visible
length-visible m = length-each (readable_page m.owners) 0 m.pages

-- what can be read of a page of RAM, and of any other
pub seen-inside : (m : Memory) (page : ℕ) (owned : Bool) → page < length m.pages
    → is_owned m.owners page ≡ owned
    → slice_get (visible m) page ≡ Some (readable_if owned (page_at m.pages page))
unfolding visible
seen-inside m page owned inside e =
    get-each (readable_page m.owners) page m.pages
    ∙ ap (option_map (readable_page m.owners page)) (slice_get-get_or m.pages page [] inside)
    ∙ ap (λ (b : Bool). Some (readable_if b (page_at m.pages page))) e

pub seen-outside : (m : Memory) (page : ℕ) → length m.pages ≤ page
    → slice_get (visible m) page ≡ None
unfolding visible
seen-outside m page outside =
    get-each (readable_page m.owners) page m.pages
    ∙ ap (option_map (readable_page m.owners page)) (slice_get_past m.pages page outside)

-- ---- tests

and-left : (b c : Bool) → (b && c) ≡ true → b ≡ true
and-left true c e = refl
and-left false c e = cc

and-right : (b c : Bool) → (b && c) ≡ true → c ≡ true
and-right true c e = e
and-right false c e = cc

and-false : (b c : Bool) → b ≡ true → (b && c) ≡ false → c ≡ false
and-false true c t e = e
and-false false c t e = cc

not-false : (b : Bool) → not b ≡ true → b ≡ false
not-false true e = cc
not-false false e = refl

not-true : (b : Bool) → not b ≡ false → b ≡ true
not-true true e = refl
not-true false e = cc

index_or-seen : (xs : List (Option (List ℕ))) (i : ℕ) (x : Option (List ℕ))
    → slice_get xs i ≡ Some x → slice_index_or xs i None ≡ x
index_or-seen [] i x e = cc
index_or-seen (y ∷ ys) zero x e = cc
index_or-seen (y ∷ ys) (suc i) x e = index_or-seen ys i x e

index_or-unseen : (xs : List (Option (List ℕ))) (i : ℕ) → slice_get xs i ≡ None
    → slice_index_or xs i None ≡ None
index_or-unseen [] i e = refl
index_or-unseen (y ∷ ys) zero e = cc
index_or-unseen (y ∷ ys) (suc i) e = index_or-unseen ys i e

-- ---- the pages of nested memory, where an unplaced page has zeros

abbrev pub nested : Nested → List Owner → Memory
nested n live = record { pages = contents n; owners = live }

module _ (n : Nested) (live : List Owner) (page : ℕ) where
  inside-contents : page < n.ram → page < length (contents n)
  inside-contents inside = rw (length-contents n.ram n.frames) inside

  past-contents : n.ram ≤ page → length (contents n) ≤ page
  past-contents outside = rw (length-contents n.ram n.frames) outside

  pub state-free : page < n.ram → is_owned live page ≡ false
      → state_at (visible (nested n live)) page ≡ Free
  state-free inside e = ap state_of
      (seen-inside (nested n live) page false (inside-contents inside) e)

  pub state-owned : page < n.ram → is_owned live page ≡ true
      → state_at (visible (nested n live)) page ≡ Owned
  state-owned inside e = ap state_of
      (seen-inside (nested n live) page true (inside-contents inside) e)

  pub state-past_ram : n.ram ≤ page → state_at (visible (nested n live)) page ≡ Outside
  state-past_ram outside = ap state_of (seen-outside (nested n live) page (past-contents outside))

  -- ---- a word of a page, where no module owns it

  -- a page of RAM that no module owns
  abbrev pub is_free : Bool
  is_free = nat_lt page n.ram && not (is_owned live page)

  pub inside-free : is_free ≡ true → page < n.ram
  inside-free free = ltb-true page n.ram (and-left _ _ free)

  pub word-placed : (offset word : ℕ) → is_free ≡ true
      → word ≡ number_at B8 (page_at (contents n) page) offset
      → Some word ≡ word_at (visible (nested n live)) page offset
  word-placed offset word free e =
      let seen = seen-inside (nested n live) page false (inside-contents (inside-free free))
      (not-false _ (and-right _ _ free)) in
      ap (λ (w : ℕ). Some w) e
      ∙ sym (ap (λ (content : Option (Option (List ℕ))). word_of content offset) seen)

  pub word-unplaced : (offset : ℕ) → is_free ≡ true → None ≡ place n page → offset % 8 ≡ 0
      → offset < 4096
      → Some 0 ≡ word_at (visible (nested n live)) page offset
  word-unplaced offset free e is_aligned below =
      word-placed offset 0 free
      (sym (ap (λ (bytes : List ℕ). number_at B8 bytes offset)
      (page-unplaced n page (inside-free free) (sym e))
      ∙ number_at-zero_page B8 offset (omega arith)))

  pub word-unread : (offset : ℕ) → is_free ≡ false
      → None ≡ word_at (visible (nested n live)) page offset
  word-unread offset e = go (cases_lt page n.ram) where
    go : (page < n.ram) ⊎ (n.ram ≤ page) → None ≡ word_at (visible (nested n live)) page offset
    go (inl inside) =
        let owned = not-true _ (and-false _ _ (lt-ltb page n.ram inside) e) in
        sym (ap (λ (content : Option (Option (List ℕ))). word_of content offset)
        (seen-inside (nested n live) page true (inside-contents inside) owned))
    go (inr outside) =
        sym (ap (λ (content : Option (Option (List ℕ))). word_of content offset)
        (seen-outside (nested n live) page (past-contents outside)))

  -- it costs the three entries of the nested tables and itself
  pub words-free : (old new : ℕ) → is_free ≡ true → new ≡ old + words_walked n.ram page + 1
      → new ≡ old + words_read (state_at (visible (nested n live)) page)
  words-free old new free e =
      let walked : words_walked n.ram page ≡ 3 = ap words_when (and-left _ _ free) in
      let read : words_read (state_at (visible (nested n live)) page) ≡ 4 =
      ap words_read (state-free (inside-free free) (not-false _ (and-right _ _ free))) in
      omega arith

  pub words-unread : (steps : ℕ) → is_free ≡ false
      → steps ≡ steps + words_read (state_at (visible (nested n live)) page)
  words-unread steps e = go (cases_lt page n.ram) where
    zero_more : words_read (state_at (visible (nested n live)) page) ≡ 0
        → steps ≡ steps + words_read (state_at (visible (nested n live)) page)
    zero_more none = omega arith

    go : (page < n.ram) ⊎ (n.ram ≤ page)
        → steps ≡ steps + words_read (state_at (visible (nested n live)) page)
    go (inl inside) = zero_more
        (ap words_read (state-owned inside
        (not-true _ (and-false _ _ (lt-ltb page n.ram inside) e))))
    go (inr outside) = zero_more (ap words_read (state-past_ram outside))

  -- ---- the bytes of a page, where no module owns it

  pub content-free : (bytes : List ℕ) → is_free ≡ true → bytes ≡ page_at (contents n) page
      → Some bytes ≡ slice_index_or (visible (nested n live)) page None
  content-free bytes free e =
      let seen = seen-inside (nested n live) page false (inside-contents (inside-free free))
      (not-false _ (and-right _ _ free)) in
      ap (λ (b : List ℕ). Some b) e ∙ sym (index_or-seen (visible (nested n live)) page _ seen)

  pub content-unread : is_free ≡ false → None ≡ slice_index_or (visible (nested n live)) page None
  content-unread e = go (cases_lt page n.ram) where
    go : (page < n.ram) ⊎ (n.ram ≤ page) → None ≡ slice_index_or (visible (nested n live)) page None
    go (inl inside) =
        sym (index_or-seen (visible (nested n live)) page _
        (seen-inside (nested n live) page true (inside-contents inside)
        (not-true _ (and-false _ _ (lt-ltb page n.ram inside) e))))
    go (inr outside) = sym
        (index_or-unseen (visible (nested n live)) page
        (seen-outside (nested n live) page (past-contents outside)))
