-- What a launched module declares, beside the live ones.
use Rattle.std.proofs.Common.{◌≡◌, ℕ, zero, suc, ◌+◌, ◌^◌, ◌<◌, ◌≤◌, ◌==◌, ◌&&◌, ◌⊎◌, Bool}
use Rattle.std.proofs.Common.{true, false, length, get_or, List, [], ◌∷◌, map, find, slice_get}
use Rattle.std.proofs.Common.{Option, Some, None, is_some, option_map, unwrap_or, Result, Ok, Err}
use Rattle.std.proofs.Common.{inl, inr, refl, sym, ap, ap₂, subst, ◌∙◌, arith, eqb-true, eq-eqb}
use Rattle.std.proofs.lemmas.Bool.{and_parts, both_ways, cases_lt, eqb-false, false_from_ne_true}
use Rattle.std.proofs.lemmas.Bool.{or_parts}
use Rattle.std.proofs.lemmas.Option.{none-some, same_Some, slice_get-get_or, slice_get_past}
use Rattle.std.specs.List.{list_all, list_any, range_with_len}
use Rattle.bn_types.specs.Visible.{state_at, state_of}
use Rattle.bn_types.specs.declared.decl.Decl.{Decl}
use Rattle.bn_types.specs.declared.digest.Digest.{Digest}
use Rattle.bn_types.specs.declared.gpn.Gpn.{Gpn}
use Rattle.bn_types.specs.declared.judged.Judged.{Judged}
use Rattle.bn_types.specs.declared.mod_id.ModId.{ModId}
use Rattle.bn_types.specs.declared.page_state.PageState.TheVariants.{Owned}
use Rattle.bn_types.specs.declared.seg_page.SegPage.{SegPage}
use Rattle.bn_types.specs.declared.segment.Segment.{Segment}
use Rattle.bn_types.specs.declared.sort.Sort.{Sort}
use Rattle.bn_types.specs.declared.sort.Sort.TheVariants.{Private, Offer, Accept}
use Rattle.bn_model.specs.declared.owner.Owner.{Owner}
use Rattle.bn_model.specs.Launching.{address_of_page, decl_of, has_source, have_alias, id_if_some}
use Rattle.bn_model.specs.Launching.{includes, is_backed_decl, is_offer, is_offered, is_owned_state}
use Rattle.bn_model.specs.Launching.{is_reached, is_same_page, names_partner, offerer}
use Rattle.bn_model.specs.Launching.{offers, page_if_in_ram, page_in_ram, page_of_address}
use Rattle.bn_model.specs.Launching.{page_of_leaf, source_if, takes_owned, with_source}
use Rattle.bn_model.specs.Memory.{readable_if, readable_page, visible}
use Rattle.bn_model.specs.Owners.{Claim, claims, is_on, is_own, is_owned}
use Rattle.bn_model.specs.Rows.{Enclave}
use Rattle.bn_model.specs.Segments.{ascends, page_count, page_in, segment_in, segment_of, vpn_in}
use Rattle.bn_model.specs.Soundness.{GuestPagesDiffer, Has, IsOfferedBy, ReachesNone}
use Rattle.bn_model.specs.Soundness.{VirtualPagesAscend}
use Rattle.bn_model.specs.Walking.{Landing, WalkFault, guest_page, leaf_of}
use Rattle.bn_model.proofs.ClaimsKept.{IsNew}
use Rattle.bn_model.proofs.EachLemmas.{get-each, length-each}
use Rattle.bn_model.proofs.Judgements.{IsJudged}
use Rattle.bn_model.proofs.LiveClaims.{from-map, owned}
use Rattle.bn_model.proofs.MembershipLemmas.{any-has, has-any, has-find}
use Rattle.bn_model.proofs.SegmentFacts.{accepted, order-is, passes, vpn-fits, vpn-more}
use Rattle.bn_model.proofs.TestLemmas.{find-passes}

-- ---- tests on lists

all-has : {X : Type 0} (p : X → Bool) (xs : List X) (x : X) → list_all p xs ≡ true → Has x xs
    → p x ≡ true
all-has p [] x e h = absurd h
all-has p (y ∷ ys) x e (inl is) = ap p is ∙ (and_parts (p y) (list_all p ys) e).0
all-has p (y ∷ ys) x e (inr h) = all-has p ys x (and_parts (p y) (list_all p ys) e).1 h

none-has : {X : Type 0} (p : X → Bool) (xs : List X) (x : X) → list_any p xs ≡ false → Has x xs
    → p x ≡ false
none-has p xs x e h = false_from_ne_true (p x)
    (λ is. both_ways (list_any p xs) e (has-any p xs x h is))

-- ---- pages

pub got-within : {X : Type 0} (xs : List X) (i : ℕ) (x : X) → slice_get xs i ≡ Some x
    → i < length xs
got-within xs i x e = by_place (cases_lt i (length xs))
  where
    by_place : (i < length xs) ⊎ (length xs ≤ i) → i < length xs
    by_place (inl within) = within
    by_place (inr past) = absurd (none-some x (sym (slice_get_past xs i past) ∙ e))

pub reached-in_ram : (pages : List (Option (List ℕ))) (satp va page : ℕ)
    → page_of_address pages satp va ≡ Some page → page < length pages
unfolding page_of_address
reached-in_ram pages satp va page e = by_leaf (leaf_of pages satp va) e
  where
    by_content : (g : ℕ) (content : Option (List ℕ)) → slice_get pages g ≡ Some content
        → page_in_ram (state_of (Some content)) g ≡ Some page → page < length pages
    by_content g None at e =
        subst (λ (n : ℕ). n < length pages) (same_Some g page e) (got-within pages g None at)
    by_content g (Some bytes) at e =
        subst (λ (n : ℕ). n < length pages) (same_Some g page e)
        (got-within pages g (Some bytes) at)

    by_state : (g : ℕ) (content : Option (Option (List ℕ))) → slice_get pages g ≡ content
        → page_in_ram (state_of content) g ≡ Some page → page < length pages
    by_state g None at e = absurd (none-some page e)
    by_state g (Some content) at e = by_content g content at e

    by_page : (g : Option ℕ) → page_if_in_ram pages g ≡ Some page → page < length pages
    by_page None e = absurd (none-some page e)
    by_page (Some g) e = by_state g (slice_get pages g) refl e

    by_leaf : (leaf : Result Landing WalkFault) → page_of_leaf pages leaf ≡ Some page
        → page < length pages
    by_leaf (Err walk_fault) e = absurd (none-some page e)
    by_leaf (Ok landing) e = by_page (guest_page landing.ppn) e

in_ram-decl : (pages : List (Option (List ℕ))) (satp : ℕ) (page : SegPage)
    → is_reached pages satp page ≡ true → (decl_of pages satp page).gpn.0 < length pages
unfolding is_reached decl_of
in_ram-decl pages satp page e =
    by_page (page_of_address pages satp (address_of_page page.vpn.0)) refl e
  where
    by_page : (o : Option ℕ) → page_of_address pages satp (address_of_page page.vpn.0) ≡ o
        → is_some o ≡ true → unwrap_or o 0 < length pages
    by_page None is e = absurd cc
    by_page (Some g) is e = reached-in_ram pages satp (address_of_page page.vpn.0) g is

pub length-seen : (os : List Owner) (pages : List (List ℕ))
    → length (visible (record { pages = pages; owners = os })) ≡ length pages
unfolding visible
length-seen os pages = length-each (readable_page os) 0 pages

seen-owned : (os : List Owner) (pages : List (List ℕ)) (page : ℕ) → is_owned os page ≡ true
    → page < length pages
    → state_at (visible (record { pages = pages; owners = os })) page ≡ Owned
unfolding visible
seen-owned os pages page e within =
    ap state_of (get-each (readable_page os) page pages
    ∙ ap (option_map (readable_page os page)) (slice_get-get_or pages page [] within)
    ∙ ap (λ (b : Bool). Some (readable_if b (get_or pages page []))) e)

-- ---- virtual pages

SegmentAscends : (least : ℕ) → List SegPage → Type 0
SegmentAscends least [] = Unit {0}
SegmentAscends least (first ∷ rest) =
    (least ≤ first.vpn.0) × (first.vpn.0 < 2 ^ 52) × SegmentAscends (first.vpn.0 + 1) rest

pages-from : (text : List ℕ) (n a least : ℕ) → ((i : ℕ) → i < a + n → ascends text i ≡ true)
    → (1 ≤ n → least ≤ vpn_in text a)
    → SegmentAscends least (map (page_in text) (range_with_len a n))
unfolding SegmentAscends page_in
pages-from text zero a least all low = tt
pages-from text (suc n) a least all low = (
  low (omega arith),
  vpn-fits text a (all a (omega arith)),
  pages-from text n (a + 1) (vpn_in text a + 1)
      (λ i (below : i < a + 1 + n). all i (omega arith))
      (λ (some : 1 ≤ n). let more : vpn_in text a < vpn_in text (a + 1) =
      vpn-more text a (all (a + 1) (omega arith)) in omega arith),
)

in_text : (text : List ℕ) → ((i : ℕ) → i < page_count text → ascends text i ≡ true)
    → SegmentAscends zero (segment_in text).pages.items
unfolding segment_in
in_text text all =
    pages-from text (page_count text) 0 0
    (λ i (below : i < 0 + page_count text). all i (omega arith)) (λ some. omega arith)

segment-ascends : (text : List ℕ) (segment : Segment) → segment_of text ≡ Ok segment
    → SegmentAscends zero segment.pages.items
segment-ascends text segment e =
    let told = accepted text segment e in
    let p = passes text told.0 in
    subst (λ (s : Segment). SegmentAscends zero s.pages.items) told.1
    (in_text text (λ i below. order-is text p.order i below))

-- an acceptance goes to an offer
record IsBacked (live : List Enclave) (who : Digest) (decl : Decl) : Type 0 where
  by : Enclave
  has : Has by live
  source : (with_source live who decl).source ≡ by.id
  offered : IsOfferedBy by who (with_source live who decl)

module _ (live : List Enclave) (who : Digest) (pages : List (Option (List ℕ))) (satp : ℕ) where
  virtual : (least : ℕ) (segment : List SegPage) → SegmentAscends least segment
      → VirtualPagesAscend least (map (with_source live who) (map (decl_of pages satp) segment))
  unfolding SegmentAscends with_source decl_of
  virtual least [] up = tt
  virtual least (first ∷ rest) up = (up.0, up.1, virtual (first.vpn.0 + 1) rest up.2)

  -- ---- guest pages

  reaches-none : (page : ℕ) (decls : List Decl) → list_any (is_same_page page) decls ≡ false
      → ReachesNone page (map (with_source live who) decls)
  unfolding with_source
  reaches-none page [] e = tt
  reaches-none page (first ∷ rest) e =
      let parts = or_parts (is_same_page page first) (list_any (is_same_page page) rest) e in
      (eqb-false first.gpn.0 page parts.0, reaches-none page rest parts.1)

  guests : (ram : ℕ) (decls : List Decl) → have_alias decls ≡ false
      → ((decl : Decl) → Has decl decls → decl.gpn.0 < ram)
      → GuestPagesDiffer ram (map (with_source live who) decls)
  unfolding with_source have_alias
  guests ram [] e small = tt
  guests ram (first ∷ rest) e small =
      let parts = or_parts (list_any (is_same_page first.gpn.0) rest) (have_alias rest) e in (
        small first (inl refl),
        reaches-none first.gpn.0 rest parts.0,
        guests ram rest parts.1 (λ decl h. small decl (inr h)),
      )

  -- ---- offers

  four : (a b c d : Bool) → (a && b && c && d) ≡ true
      → (a ≡ true) × (b ≡ true) × (c ≡ true) × (d ≡ true)
  four true true true true e = (refl, refl, refl, refl)
  four true true true false e = absurd cc
  four true true false d e = absurd cc
  four true false c d e = absurd cc
  four false b c d e = absurd cc

  offer-sort : (sort : Sort) → is_offer sort ≡ true → sort ≡ Offer
  offer-sort Private e = absurd cc
  offer-sort Offer e = refl
  offer-sort Accept e = absurd cc

  same-page : (g h : Gpn) → g.0 ≡ h.0 → g ≡ h
  same-page g h e = ap (λ (n : ℕ). let p : Gpn = record { 0 = n } in p) e

  offered-by : (by : Enclave) (decl : Decl) → offers who decl.gpn.0 decl.rights by ≡ true
      → IsOfferedBy by who (with_source live who decl)
  unfolding offers is_offered with_source
  offered-by by decl e =
      let found = any-has (is_offered by.judged.partners.items who decl.gpn.0 decl.rights)
      by.judged.decls.items e in
      let told = four (is_offer found.0.sort) (found.0.gpn.0 == decl.gpn.0)
      (includes found.0.rights decl.rights)
      (names_partner found.0.mask by.judged.partners.items who) found.2 in
      record {
        offer = found.0;
        declared = found.1;
        sort = offer-sort found.0.sort told.0;
        page = same-page found.0.gpn decl.gpn (eqb-true found.0.gpn.0 decl.gpn.0 told.1);
        rights = told.2;
        partner = told.3;
      }

  source-is : (decl : Decl) (by : Enclave) → decl.sort ≡ Accept
      → offerer live who decl.gpn.0 decl.rights ≡ Some by.id
      → (with_source live who decl).source ≡ by.id
  unfolding with_source
  source-is decl by accept e = ap₂ (λ (sort : Sort) (o : Option ModId). source_if sort o) accept e

  backed : (decl : Decl) → has_source live who decl ≡ true → decl.sort ≡ Accept
      → IsBacked live who decl
  unfolding has_source offerer
  backed decl e accept =
      by_found (find (offers who decl.gpn.0 decl.rights) live) refl
      (ap (λ (sort : Sort).
      is_backed_decl sort (id_if_some (find (offers who decl.gpn.0 decl.rights) live))) (sym accept)
      ∙ e)
    where
      by_found : (o : Option Enclave) → find (offers who decl.gpn.0 decl.rights) live ≡ o
          → is_some (id_if_some (find (offers who decl.gpn.0 decl.rights) live)) ≡ true
          → IsBacked live who decl
      by_found None is some =
          let none = ap (λ (o : Option Enclave). is_some (id_if_some o)) is in absurd cc
      by_found (Some by) is some = record {
        by = by;
        has = has-find (offers who decl.gpn.0 decl.rights) live by is;
        source = source-is decl by accept (ap id_if_some is);
        offered = offered-by by decl (find-passes (offers who decl.gpn.0 decl.rights) live by is);
      }

  with-sort : (decl : Decl) → (with_source live who decl).sort ≡ decl.sort
  unfolding with_source
  with-sort decl = refl

  with-gpn : (decl : Decl) → (with_source live who decl).gpn ≡ decl.gpn
  unfolding with_source
  with-gpn decl = refl

-- ---- the whole

takes : (pages : List (Option (List ℕ))) (decl : Decl) → is_own decl.sort ≡ true
    → state_at pages decl.gpn.0 ≡ Owned → takes_owned pages decl ≡ true
unfolding takes_owned
takes pages decl own e = ap₂ (λ (a b : Bool). a && b) own (ap is_owned_state e)

pub launched-new : (live : List Enclave) (next : ℕ) (pages : List (List ℕ)) (satp at : ℕ)
    (judged : Judged)
    → IsJudged live next (visible (record { pages = pages; owners = owned live })) satp at judged
    → IsNew live next (length pages) (record { id = record { 0 = next }; judged = judged })
launched-new live next pages satp at judged known =
    subst (λ (j : Judged).
    IsNew live next (length pages) (record { id = record { 0 = next }; judged = j })) (sym known.is)
    (record {
      id = refl;
      unowned = unowned;
      offered = offered;
      ordered = record {
        virtual = virtual-pages;
        guest = guests live known.who seen satp (length pages) known.decls known.apart small;
      };
    })
  where
    seen : List (Option (List ℕ))
    seen = visible (record { pages = pages; owners = owned live })

    small : (decl : Decl) → Has decl known.decls → decl.gpn.0 < length pages
    small decl has =
        let found = from-map (decl_of seen satp) known.segment.pages.items decl
        (subst (λ (ds : List Decl). Has decl ds) known.named has) in
        subst (λ (d : Decl). d.gpn.0 < length pages) (sym found.2)
        (subst (λ (n : ℕ). (decl_of seen satp found.0).gpn.0 < n) (length-seen (owned live) pages)
        (in_ram-decl seen satp found.0
        (all-has (is_reached seen satp) known.segment.pages.items found.0 known.reached found.1)))

    unowned : (decl : Decl) (claim : Claim)
        → Has decl (map (with_source live known.who) known.decls) → is_own decl.sort ≡ true
        → Has claim (claims (owned live)) → claim.decl.gpn ≡ decl.gpn → ⊥
    unowned decl claim has own there same =
        let found = from-map (with_source live known.who) known.decls decl has in
        let sort : decl.sort ≡ found.0.sort = ap (λ (d : Decl). d.sort) found.2
        ∙ with-sort live known.who seen satp found.0 in
        let page : decl.gpn ≡ found.0.gpn = ap (λ (d : Decl). d.gpn) found.2
        ∙ with-gpn live known.who seen satp found.0 in
        let is : is_owned (owned live) found.0.gpn.0 ≡ true =
        has-any (is_on found.0.gpn.0) (claims (owned live)) claim there
        (eq-eqb claim.decl.gpn.0 found.0.gpn.0 (ap (λ (g : Gpn). g.0) (same ∙ page))) in
        both_ways (takes_owned seen found.0)
        (none-has (takes_owned seen) known.decls found.0 known.unowned found.1)
        (takes seen found.0 (ap is_own (sym sort) ∙ own)
        (seen-owned (owned live) pages found.0.gpn.0 is (small found.0 found.1)))

    offered : (decl : Decl) → Has decl (map (with_source live known.who) known.decls)
        → decl.sort ≡ Accept
        → (e : Enclave) × Has e live × (e.id ≡ decl.source) × IsOfferedBy e known.who decl
    offered decl has accept =
        let found = from-map (with_source live known.who) known.decls decl has in
        let b = backed live known.who seen satp found.0
        (all-has (has_source live known.who) known.decls found.0 known.sources found.1)
        (sym (ap (λ (d : Decl). d.sort) found.2 ∙ with-sort live known.who seen satp found.0)
        ∙ accept) in (
          b.by,
          b.has,
          sym (ap (λ (d : Decl). d.source) found.2 ∙ b.source),
          subst (λ (d : Decl). IsOfferedBy b.by known.who d) (sym found.2) b.offered,
        )

    virtual-pages : VirtualPagesAscend zero (map (with_source live known.who) known.decls)
    virtual-pages =
        subst (λ (ds : List Decl). VirtualPagesAscend zero (map (with_source live known.who) ds))
        (sym known.named)
        (virtual live known.who seen satp zero known.segment.pages.items
        (segment-ascends known.bytes known.segment known.accepted))
