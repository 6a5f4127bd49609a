-- Laws of declarations: whose a page is, and whom the rule of admission lets reach it.
use Rattle.std.proofs.Common.{◌≡◌, ℕ, zero, suc, ◌==◌, ◌&&◌, ◌||◌, Bool, true, false, not, List, []}
use Rattle.std.proofs.Common.{◌∷◌, ◌++◌, map, filter, find, Option, Some, None, inl, inr, refl, sym}
use Rattle.std.proofs.Common.{ap, ◌∙◌, eqb-true, eq-eqb}
use Rattle.std.proofs.lemmas.Bool.{and_parts, both_ways, false_from_ne_true, not-true}
use Rattle.std.proofs.lemmas.Map.Views.{any-filter_same}
use Rattle.std.proofs.lemmas.List.Folds.{list_any-append}
use Rattle.std.specs.List.{list_any}
use Rattle.bn_types.specs.declared.decl.Decl.{Decl}
use Rattle.bn_types.specs.declared.gpn.Gpn.{Gpn}
use Rattle.bn_types.specs.declared.kind.Kind.{Kind}
use Rattle.bn_types.specs.declared.mod_id.ModId.{ModId}
use Rattle.bn_types.specs.declared.row.Row.{Row}
use Rattle.bn_types.specs.declared.sort.Sort.{Sort}
use Rattle.bn_types.specs.declared.sort.Sort.TheVariants.{Private, Offer, Accept}
use Rattle.bn_model.specs.declared.owner.Owner.{Owner}
use Rattle.bn_model.specs.Admission.{admits, admits_by, declaration, declared_by, has_right, is_at}
use Rattle.bn_model.specs.Admission.{is_backed, may_leave}
use Rattle.bn_model.specs.Evicting.{is_among, is_given_up, rows_left, stays}
use Rattle.bn_model.specs.Owners.{Claim, claim_by, claims, claims_by, is_live, is_module, is_on}
use Rattle.bn_model.specs.Owners.{is_own, is_owned, is_private, is_private_of, is_private_page}
use Rattle.bn_model.specs.Rows.{has_id, owner_of, owners}
use Rattle.bn_model.specs.Soundness.{Has}
use Rattle.bn_model.proofs.MembershipLemmas.{any-has, any-implies, has-find, has-flat_map, has-map}
use Rattle.bn_model.proofs.TestLemmas.{any-flat_map, any-map, find-passes}

-- ---- private pages

-- what it takes that a declaration makes a page private
pub record IsPrivateOf (id page : ℕ) (claim : Claim) : Type 0 where
  pub owner : claim.owner.0 ≡ id
  pub sort : claim.decl.sort ≡ Private
  pub reaches : claim.decl.gpn.0 ≡ page

private-sort : (sort : Sort) → is_private sort ≡ true → sort ≡ Private
private-sort Private e = refl
private-sort Offer e = cc
private-sort Accept e = cc

pub three-true : (a b c : Bool) → (a && b && c) ≡ true → (a ≡ true) × (b ≡ true) × (c ≡ true)
three-true true true true e = (refl, refl, refl)
three-true true true false e = cc
three-true true false c e = cc
three-true false b c e = cc

pub private-of : (id page : ℕ) (claim : Claim) → is_private_of id page claim ≡ true
    → IsPrivateOf id page claim
private-of id page claim e =
    let parts =
    three-true (claim.owner.0 == id) (is_private claim.decl.sort) (is_on page claim) e in
    record {
      owner = eqb-true claim.owner.0 id parts.0;
      sort = private-sort claim.decl.sort parts.1;
      reaches = eqb-true claim.decl.gpn.0 page parts.2;
    }

private-on : (id page : ℕ) (claim : Claim) → is_private_of id page claim ≡ true
    → is_on page claim ≡ true
private-on id page claim e =
    (three-true (claim.owner.0 == id) (is_private claim.decl.sort) (is_on page claim) e).2

-- a private page has owners
pub owned-private : (owners : List Owner) (id page : ℕ) → is_private_page owners id page ≡ true
    → is_owned owners page ≡ true
owned-private owners id page e =
    any-implies (is_private_of id page) (is_on page) (private-on id page) (claims owners) e

-- ---- what is declared

by-declaration : (owners : List Owner) (id vpn : ℕ) (decl : Decl) (owner : Option Owner)
    → find (is_module id) owners ≡ owner → declared_by vpn owner ≡ Some decl
    → (claim : Claim) × Has claim (claims owners) × (claim.owner.0 ≡ id) × (claim.decl ≡ decl)
unfolding claims
by-declaration owners id vpn decl None is e = cc
by-declaration owners id vpn decl (Some owner) is e =
    let made : Has (claim_by owner.id decl) (claims_by owner) =
    has-map (claim_by owner.id) owner.decls.items decl
    (has-find (is_at vpn) owner.decls.items decl e) in
    let whose : owner.id.0 ≡ id =
    eqb-true owner.id.0 id (find-passes (is_module id) owners owner is) in (
      claim_by owner.id decl,
      has-flat_map claims_by owners owner (claim_by owner.id decl)
          (has-find (is_module id) owners owner is) made,
      whose,
      refl,
    )

-- what a module declares is one of all declarations
pub declared : (owners : List Owner) (id vpn : ℕ) (decl : Decl)
    → declaration owners id vpn ≡ Some decl
    → (claim : Claim) × Has claim (claims owners) × (claim.owner.0 ≡ id) × (claim.decl ≡ decl)
declared owners zero vpn decl e = cc
declared owners (suc id) vpn decl e =
    by-declaration owners (suc id) vpn decl (find (is_module (suc id)) owners) refl e

-- ---- private pages are their module's alone

-- a page with a private declaration has no other declaration
abbrev pub ArePrivate : List Owner → Type 0
ArePrivate owners =
    (one other : Claim) → Has one (claims owners) → Has other (claims owners)
    → one.decl.sort ≡ Private →
    other.decl.gpn ≡ one.decl.gpn → other ≡ one

two-true : (a b c : Bool) → (a && b && c) ≡ true → a ≡ true
two-true a b c e = (three-true a b c e).0

-- a declared page isn't private to another module
declared-other : (owners : List Owner) → ArePrivate owners → (m id vpn page : ℕ) (decl : Decl)
    → (id ≡ m → ⊥)
    → declaration owners id vpn ≡ Some decl → decl.gpn.0 ≡ page
    → is_private_page owners m page ≡ true → ⊥
declared-other owners alone m id vpn page decl other is on private =
    let mine = declared owners id vpn decl is in
    let theirs = any-has (is_private_of m page) (claims owners) private in
    let told = private-of m page theirs.0 theirs.2 in
    let same : mine.0.decl.gpn ≡ theirs.0.decl.gpn =
    same_page (ap (λ (d : Decl). d.gpn.0) mine.3 ∙ on ∙ sym told.reaches) in
    let one : mine.0 ≡ theirs.0 = alone theirs.0 mine.0 theirs.1 mine.1 told.sort same in
    other (sym mine.2 ∙ ap (λ (claim : Claim). claim.owner.0) one ∙ told.owner)
  where
    same_page : {g h : Gpn} → g.0 ≡ h.0 → g ≡ h
    same_page {g} {h} e = ap (λ (n : ℕ). let p : Gpn = record { 0 = n } in p) e

-- a page that a module reaches isn't private to another
pub admitted-other : (owners : List Owner) → ArePrivate owners → (m id vpn page : ℕ) (kind : Kind)
    → (id ≡ m → ⊥)
    → admits owners id vpn page kind ≡ true → is_private_page owners m page ≡ false
unfolding admits
admitted-other owners alone m id vpn page kind other e =
    false_from_ne_true (is_private_page owners m page)
    (by_declaration (declaration owners id vpn) refl e)
  where
    by_declaration : (decl : Option Decl) → declaration owners id vpn ≡ decl
        → admits_by owners id page kind decl ≡ true → is_private_page owners m page ≡ true → ⊥
    by_declaration None is e private =
        both_ways (is_owned owners page)
        (not-true (is_owned owners page)
        (and_parts (not (is_owned owners page)) (may_leave id kind) e).0)
        (owned-private owners m page private)
    by_declaration (Some decl) is e private =
        declared-other owners alone m id vpn page decl other is
        (eqb-true decl.gpn.0 page
        (two-true (decl.gpn.0 == page) (has_right kind decl.rights)
        (is_backed owners decl.sort decl.source.0) e))
        private

-- ---- owners one by one

-- module `id` makes a private declaration for the page
unfoldable pub is_private_for : (id page : ℕ) → Owner → Bool
is_private_for id page owner = list_any (is_private_of id page) (claims_by owner)

pub private-pages : (owners : List Owner) (id page : ℕ)
    → is_private_page owners id page ≡ list_any (is_private_for id page) owners
unfolding claims is_private_for
private-pages owners id page = any-flat_map (is_private_of id page) claims_by owners

has-owner : (id : ModId) (decls : List Decl) (claim : Claim) → Has claim (map (claim_by id) decls)
    → claim.owner ≡ id
has-owner id [] claim h = absurd h
has-owner id (decl ∷ decls) claim (inl is) = ap (λ (c : Claim). c.owner) is
has-owner id (decl ∷ decls) claim (inr h) = has-owner id decls claim h

pub private-for : (id page : ℕ) (owner : Owner) → is_private_for id page owner ≡ true → owner.id.0 ≡ id
unfolding is_private_for
private-for id page owner e =
    let found = any-has (is_private_of id page) (claims_by owner) e in
    sym (ap (λ (m : ModId). m.0) (has-owner owner.id owner.decls.items found.0 found.1))
    ∙ (private-of id page found.0 found.2).owner

-- a module with a private page is live
pub live-private : (owners : List Owner) (id page : ℕ) → is_private_page owners id page ≡ true
    → is_live owners id ≡ true
live-private owners id page e =
    any-implies (is_private_for id page) (is_module id)
    (λ owner is. eq-eqb owner.id.0 id (private-for id page owner is))
    owners (sym (private-pages owners id page) ∙ e)

-- a module more has no private pages of another
pub private-append : (owners : List Owner) (owner : Owner) (id page : ℕ) → (owner.id.0 ≡ id → ⊥)
    → is_private_page (owners ++ owner ∷ []) id page ≡ is_private_page owners id page
private-append owners owner id page other =
    private-pages (owners ++ owner ∷ []) id page
    ∙ list_any-append (is_private_for id page) owners (owner ∷ [])
    ∙ ap (λ (b : Bool). list_any (is_private_for id page) owners || (b || false))
    (false_from_ne_true (is_private_for id page owner) (λ e. other (private-for id page owner e)))
    ∙ or-false (list_any (is_private_for id page) owners)
    ∙ sym (private-pages owners id page)
  where
    or-false : (b : Bool) → (b || (false || false)) ≡ b
    or-false true = refl
    or-false false = refl

-- ---- when rows go

pub private-left : (gone rows : List Row) (id page : ℕ)
    → is_private_page (owners (rows_left gone rows)) id page
    ≡ (not (is_among gone id) && is_private_page (owners rows) id page)
unfolding owners rows_left
private-left gone rows id page =
    private-pages (map owner_of (filter (stays gone) rows)) id page
    ∙ any-map (is_private_for id page) (λ row. is_private_for id page (owner_of row)) owner_of
    (λ row. refl) (filter (stays gone) rows)
    ∙ any-filter_same (λ row. is_private_for id page (owner_of row)) (stays gone)
    (not (is_among gone id))
    (λ row e. ap (λ (i : ℕ). not (is_among gone i)) (private-for id page (owner_of row) e)) rows
    ∙ ap (λ (b : Bool). not (is_among gone id) && b)
    (sym (any-map (is_private_for id page) (λ row. is_private_for id page (owner_of row)) owner_of
    (λ row. refl) rows)
    ∙ sym (private-pages (map owner_of rows) id page))

given-up : (gone : List Row) (id page : ℕ) (claim : Claim) → is_among gone id ≡ true
    → is_private_of id page claim ≡ true → is_given_up gone page claim ≡ true
given-up gone id page claim among e =
    let told = private-of id page claim e in
    let one : is_among gone claim.owner.0 ≡ true = ap (is_among gone) told.owner ∙ among in
    let two : is_own claim.decl.sort ≡ true = ap is_own told.sort in
    let three : is_on page claim ≡ true = eq-eqb claim.decl.gpn.0 page told.reaches in
    rw (one, two, three) refl

-- the private pages of a module that goes are given up
pub private-gone : (gone : List Row) (owners : List Owner) (id page : ℕ) → is_among gone id ≡ true
    → is_private_page owners id page ≡ true
    → list_any (is_given_up gone page) (claims owners) ≡ true
private-gone gone owners id page among e =
    any-implies (is_private_of id page) (is_given_up gone page)
    (λ claim. given-up gone id page claim among) (claims owners) e

-- whoever lives on is live and isn't among those that go
pub live-left : (gone rows : List Row) (id : ℕ)
    → is_live (owners (rows_left gone rows)) id
    ≡ (not (is_among gone id) && is_live (owners rows) id)
unfolding owners rows_left
live-left gone rows id =
    any-map (is_module id) (has_id id) owner_of (λ row. refl) (filter (stays gone) rows)
    ∙ any-filter_same (has_id id) (stays gone) (not (is_among gone id))
    (λ row e. ap (λ (i : ℕ). not (is_among gone i)) (eqb-true row.id.0 id e)) rows
    ∙ ap (λ (b : Bool). not (is_among gone id) && b)
    (sym (any-map (is_module id) (has_id id) owner_of (λ row. refl) rows))

given-owner : (gone : List Row) (page : ℕ) (claim : Claim) → is_given_up gone page claim ≡ true
    → (is_among gone claim.owner.0 ≡ true) × (claim.decl.gpn.0 ≡ page)
given-owner gone page claim e =
    let parts =
    three-true (is_among gone claim.owner.0) (is_own claim.decl.sort) (is_on page claim) e in
    (parts.0, eqb-true claim.decl.gpn.0 page parts.2)

-- a private page of a module that stays isn't given up
pub private-stays : (gone : List Row) (owners : List Owner) → ArePrivate owners → (id page : ℕ)
    → is_among gone id ≡ false
    → is_private_page owners id page ≡ true
    → list_any (is_given_up gone page) (claims owners) ≡ false
private-stays gone owners alone id page among e =
    false_from_ne_true (list_any (is_given_up gone page) (claims owners)) refute
  where
    refute : list_any (is_given_up gone page) (claims owners) ≡ true → ⊥
    refute given =
        let mine = any-has (is_private_of id page) (claims owners) e in
        let told = private-of id page mine.0 mine.2 in
        let theirs = any-has (is_given_up gone page) (claims owners) given in
        let lost = given-owner gone page theirs.0 theirs.2 in
        let one : theirs.0 ≡ mine.0 =
        alone mine.0 theirs.0 mine.1 theirs.1 told.sort
        (ap (λ (n : ℕ). let p : Gpn = record { 0 = n } in p) (lost.1 ∙ sym told.reaches)) in
        both_ways (is_among gone id) among
        (ap (is_among gone) (sym (ap (λ (claim : Claim). claim.owner.0) one ∙ told.owner)) ∙ lost.0)
