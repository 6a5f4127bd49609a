-- What keeps a translation right: changes that reach neither its tables, nor its frame, nor what is
-- admitted at its page.
use Rattle.std.proofs.Common.{◌≡◌, ℕ, zero, suc, ◌*◌, ◌<◌, ◌≤◌, ◌==◌, ◌⊎◌, inl, inr}
use Rattle.std.proofs.Common.{Bool, true, false, not, ◌&&◌, List, [], ◌∷◌, length, get_or, set, Option}
use Rattle.std.proofs.Common.{Some, None, Result, Ok, Err, refl, sym, ap, ◌∙◌, subst, arith, slice_get}
use Rattle.std.proofs.Common.{eq-eqb, eqb-true}
use Rattle.std.proofs.lemmas.Bool.{both_ways, cases_lt, false_from_ne_true, and_parts, not-true}
use Rattle.std.proofs.lemmas.List.Folds.{list_any_at}
use Rattle.std.specs.List.{All, list_any}
use Rattle.std.specs.Option.{option_map}
use Rattle.std.specs.Prelude.{slice_set}
use Rattle.bn_types.specs.Visible.{state_at}
use Rattle.bn_types.specs.declared.decl.Decl.{Decl}
use Rattle.bn_types.specs.declared.gpn.Gpn.{Gpn}
use Rattle.bn_types.specs.declared.kind.Kind.{Kind}
use Rattle.bn_types.specs.declared.page_state.PageState.TheVariants.{Free, Owned, Outside}
use Rattle.bn_model.specs.declared.owner.Owner.{Owner}
use Rattle.bn_model.specs.Admission.{admits, admits_by, declaration, has_right}
use Rattle.bn_model.specs.Admission.{is_backed, may_leave}
use Rattle.bn_model.specs.Memory.{readable_page, visible}
use Rattle.bn_model.specs.Nesting.{Nested, contents, place}
use Rattle.bn_model.specs.Owners.{is_owned}
use Rattle.bn_model.specs.WalkLaws.{AgreeOn, AllFree}
use Rattle.bn_model.specs.Walking.{Landing, WalkEnd, WalkFault, landing_of, tables_read}
use Rattle.bn_model.specs.Walking.{vpn_of, walked}
use Rattle.bn_model.proofs.ClaimLemmas.{three-true}
use Rattle.bn_model.proofs.EachLemmas.{get-each}
use Rattle.bn_model.proofs.NestingLaws.{length-contents}
use Rattle.bn_model.proofs.VisiblePages.{seen-inside, state-owned, state-past_ram}
use Rattle.bn_model.proofs.WalkFacts.{leaf-local, walked-free}
use Rattle.bn_tlb.specs.Caching.{Cache, after_drop, is_page, is_walked}
use Rattle.bn_tlb.specs.declared.slot.Slot.{Slot}
use Rattle.bn_tlb.specs.Caching.{AllHeld}
use Rattle.bn_unit.specs.Holding.{IsRight, is_known, landing_held, nested_memory}
use Rattle.bn_unit.specs.Memory.{AllPlaced}
use Rattle.bn_tlb.proofs.HeldSlots.{held-dropped, held-weaker}

-- ---- a page that is written

get-other : {X : Type 0} (xs : List X) (p t : ℕ) (x : X) → (t ≡ p → ⊥)
    → slice_get (set xs p x) t ≡ slice_get xs t
get-other [] p t x apart = refl
get-other (y ∷ ys) zero zero x apart = absurd (apart refl)
get-other (y ∷ ys) zero (suc t) x apart = refl
get-other (y ∷ ys) (suc p) zero x apart = refl
get-other (y ∷ ys) (suc p) (suc t) x apart = get-other ys p t x (λ e. apart (ap suc e))

seen-other : (pages : List (List ℕ)) (live : List Owner) (p t : ℕ) (bytes : List ℕ)
    → (t ≡ p → ⊥)
    → slice_get (visible (record { pages = slice_set pages p bytes; owners = live })) t
    ≡ slice_get (visible (record { pages = pages; owners = live })) t
unfolding visible
seen-other pages live p t bytes apart =
    get-each (readable_page live) t (set pages p bytes)
    ∙ ap (option_map (readable_page live t)) (get-other pages p t bytes apart)
    ∙ sym (get-each (readable_page live) t pages)

-- ---- a translation's tables

landing-tables : (tables : List Gpn) (found : Result WalkEnd WalkFault) (leaf : Landing)
    → landing_of tables found ≡ Ok leaf → tables ≡ leaf.tables
landing-tables tables (Ok end) leaf e = cc
landing-tables tables (Err fault) leaf e = absurd cc

none-any : {X : Type 0} (p : X → Bool) (xs : List X) → list_any p xs ≡ false
    → All (λ (x : X). p x ≡ false) xs
none-any p xs none = λ k d below. false_from_ne_true _
    (λ holds. both_ways (list_any p xs) none (list_any_at p xs k d below holds))

module _ (nest : Nested) (live : List Owner) (slot : Slot) (h : IsRight nest live slot) where
  tables-free : AllFree (visible (nested_memory nest live)) slot.entry.tables.items
  tables-free =
      let pages = visible (nested_memory nest live) in
      let va : ℕ = slot.key.vpn.0 * 4096 in
      let same : vpn_of va ≡ slot.key.vpn.0 = omega arith in
      subst (AllFree pages)
      (landing-tables (tables_read pages slot.key.satp va)
      (walked pages slot.key.satp va).found (landing_held slot.entry) (h.leaf va same))
      (walked-free pages slot.key.satp va)

  -- a page is free in RAM, where no module owns it
  free-parts : (page : ℕ) → state_at (visible (nested_memory nest live)) page ≡ Free
      → (page < nest.ram) × (is_owned live page ≡ false)
  free-parts page free = go (cases_lt page nest.ram) (is_owned live page) refl where
    go : (page < nest.ram) ⊎ (nest.ram ≤ page) → (b : Bool) → is_owned live page ≡ b
        → (page < nest.ram) × (is_owned live page ≡ false)
    go (inl inside) false e = (inside, e)
    go (inl inside) true e =
        let owned = state-owned nest live page inside e in
        absurd (let clash : Free ≡ Owned = sym free ∙ owned in cc)
    go (inr past) b e =
        let outside = state-past_ram nest live page past in
        absurd (let clash : Free ≡ Outside = sym free ∙ outside in cc)

  -- ---- the same modules, and another page's bytes

  module _ (new : Nested) (p : ℕ) (bytes : List ℕ)
      (written : contents new ≡ slice_set (contents nest) p bytes) (ram : new.ram ≡ nest.ram)
      (places : (page : ℕ) → place new page ≡ place nest page) where
    -- a page that is none of its tables
    kept-apart : All (λ (table : Gpn). table.0 ≡ p → ⊥) slot.entry.tables.items
        → IsRight new live slot
    kept-apart apart = record {
      leaf = λ va same. leaf-local (visible (nested_memory nest live))
          (visible (nested_memory new live)) slot.key.satp va (landing_held slot.entry)
          (h.leaf va same) agree;
      inside = omega (arith, ram, h.inside);
      frame = places slot.entry.page.0 ∙ h.frame;
      rights = h.rights;
      some = h.some;
      known = h.known;
    } where
      agree : AgreeOn (visible (nested_memory nest live)) (visible (nested_memory new live))
          slot.entry.tables.items
      agree = λ k d below.
          sym (ap (λ (pages : List (List ℕ)).
          slice_get (visible (record { pages = pages; owners = live }))
          (get_or slot.entry.tables.items k d).0) written
          ∙ seen-other (contents nest) live p (get_or slot.entry.tables.items k d).0 bytes
          (apart k d below))

    pub kept-unwalked : is_walked p slot ≡ false → IsRight new live slot
    kept-unwalked missed =
        kept-apart (λ k d below e.
        both_ways _ (none-any (is_page p) slot.entry.tables.items missed k d below)
        (eq-eqb (get_or slot.entry.tables.items k d).0 p e))

    pub kept-owned : is_owned live p ≡ true → IsRight new live slot
    kept-owned owned =
        kept-apart (λ k d below e.
        both_ways (is_owned live p)
        (subst (λ (n : ℕ). is_owned live n ≡ false) e
        (free-parts (get_or slot.entry.tables.items k d).0 (tables-free k d below)).1) owned)

  -- ---- the same pages, and other modules

  module _ (now : List Owner)
      (tables : All (λ (table : Gpn). is_owned live table.0 ≡ false → is_owned now table.0 ≡ false)
      slot.entry.tables.items)
      (page : is_owned live slot.entry.page.0 ≡ false → is_owned now slot.entry.page.0 ≡ false)
      (declares : declaration now slot.key.«module».0 slot.key.vpn.0
      ≡ declaration live slot.key.«module».0 slot.key.vpn.0)
      (backs : (decl : Decl) → declaration live slot.key.«module».0 slot.key.vpn.0 ≡ Some decl
      → decl.gpn.0 ≡ slot.entry.page.0 → is_backed live decl.sort decl.source.0 ≡ true
      → is_backed now decl.sort decl.source.0 ≡ true)
      (known : is_known now slot.key.«module».0 ≡ true) where
    agree-owners : AgreeOn (visible (nested_memory nest live)) (visible (nested_memory nest now))
        slot.entry.tables.items
    agree-owners = λ k d below.
        let table : ℕ = (get_or slot.entry.tables.items k d).0 in
        let parts = free-parts table (tables-free k d below) in
        let size : length (contents nest) ≡ nest.ram = length-contents nest.ram nest.frames in
        let inside : table < length (contents nest) = omega (arith, size, parts.0) in
        seen-inside (nested_memory nest live) table false inside parts.1
        ∙ sym (seen-inside (nested_memory nest now) table false inside
        (tables k d below parts.1))

    abbrev id : ℕ
    id = slot.key.«module».0

    abbrev to : ℕ
    to = slot.entry.page.0

    -- what is admitted to a page without a declaration
    undeclared : (some : Kind) → (not (is_owned live to) && may_leave id some) ≡ true
        → (kind : Kind) → (not (is_owned now to) && may_leave id kind)
        ≡ (not (is_owned live to) && may_leave id kind)
    undeclared some allowed kind =
        let free = not-true (is_owned live to) (and_parts (not (is_owned live to)) _ allowed).0 in
        ap (λ (b : Bool). not b && may_leave id kind) (page free ∙ sym free)

    by_decl : (declared : Option Decl)
        → declaration live id slot.key.vpn.0 ≡ declared → (some : Kind)
        → admits_by live id to some declared ≡ true
        → (kind : Kind) → admits_by now id to kind declared ≡ admits_by live id to kind declared
    by_decl None is some allowed kind = undeclared some allowed kind
    by_decl (Some decl) is some allowed kind =
        let parts = three-true _ _ _ allowed in
        let backed = backs decl is (eqb-at decl parts.0) parts.2 in
        ap (λ (b : Bool). (decl.gpn.0 == to) && has_right kind decl.rights && b)
        (backed ∙ sym parts.2) where
          eqb-at : (decl : Decl) → (decl.gpn.0 == to) ≡ true → decl.gpn.0 ≡ to
          eqb-at decl e = eqb-true decl.gpn.0 to e

    admits-kept : (kind : Kind) → admits now id slot.key.vpn.0 to kind
        ≡ admits live id slot.key.vpn.0 to kind
    unfolding admits
    admits-kept kind =
        ap (admits_by now id to kind) declares
        ∙ by_decl (declaration live id slot.key.vpn.0) refl h.some.0
        (sym (h.rights h.some.0) ∙ h.some.1) kind

    pub kept-live : IsRight nest now slot
    kept-live = record {
      leaf = λ va same. leaf-local (visible (nested_memory nest live))
          (visible (nested_memory nest now)) slot.key.satp va (landing_held slot.entry)
          (h.leaf va same) agree-owners;
      inside = h.inside;
      frame = h.frame;
      rights = λ kind. h.rights kind ∙ sym (admits-kept kind);
      some = h.some;
      known = known;
    }

-- ---- all that are held

pub placed-kept : (nest new : Nested) → new.ram ≡ nest.ram
    → ((page : ℕ) → place new page ≡ place nest page) → AllPlaced nest → AllPlaced new
placed-kept nest new ram places placed = λ page inside none.
    placed page (omega (arith, ram, inside)) (sym (places page) ∙ none)

module _ (nest : Nested) (live : List Owner) (new : Nested) (p : ℕ) (bytes : List ℕ)
    (written : contents new ≡ slice_set (contents nest) p bytes) (ram : new.ram ≡ nest.ram)
    (places : (page : ℕ) → place new page ≡ place nest page) (m : Cache) where
  pub held-written : (now : Cache) → now ≡ after_drop (is_walked p) m
      → AllHeld (IsRight nest live) m → AllHeld (IsRight new live) now
  held-written now dropped all =
      subst (AllHeld (IsRight new live)) (sym dropped)
      (held-dropped (IsRight nest live) (IsRight new live) (is_walked p)
      (λ slot h missed. kept-unwalked nest live slot h new p bytes written ram places missed) m all)

  pub held-owned : is_owned live p ≡ true → AllHeld (IsRight nest live) m
      → AllHeld (IsRight new live) m
  held-owned owned all =
      held-weaker (IsRight nest live) (IsRight new live)
      (λ slot h. kept-owned nest live slot h new p bytes written ram places owned) m all
