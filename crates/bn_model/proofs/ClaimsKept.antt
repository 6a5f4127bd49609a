-- Declarations stay in order, when modules go and when one is launched.
use Rattle.std.proofs.Common.{◌≡◌, ℕ, zero, ◌<◌, ◌≤◌, ◌⊎◌, true, false}
use Rattle.std.proofs.Common.{List, [], ◌∷◌, ◌++◌, inl, inr, refl, sym, ap, subst, ◌∙◌}
use Rattle.std.proofs.Common.{arith}
use Rattle.std.proofs.lemmas.Bool.{both_ways, cases_Bool, false_from_ne_true}
use Rattle.bn_types.specs.declared.decl.Decl.{Decl}
use Rattle.bn_types.specs.declared.digest.Digest.{Digest}
use Rattle.bn_types.specs.declared.gpn.Gpn.{Gpn}
use Rattle.bn_types.specs.declared.mod_id.ModId.{ModId}
use Rattle.bn_types.specs.declared.sort.Sort.{Sort}
use Rattle.bn_types.specs.declared.sort.Sort.TheVariants.{Private, Offer, Accept}
use Rattle.bn_model.specs.declared.owner.Owner.{Owner}
use Rattle.bn_model.specs.Owners.{Claim, claim_by, claims, is_live, is_own}
use Rattle.bn_model.specs.Rows.{Enclave}
use Rattle.bn_model.specs.Soundness.{AreOrdered, Ascend, EachOrdered, GuestPagesDiffer, Has}
use Rattle.bn_model.specs.Soundness.{HasClaims, IsOfferedBy, ReachesNone}
use Rattle.bn_model.proofs.LiveClaims.{IsMade, claim-parts, from-map, has-between, has-live}
use Rattle.bn_model.proofs.LiveClaims.{has-parts, live-has, made, makes, makes-claim, one-of-id}
use Rattle.bn_model.proofs.LiveClaims.{owned}
use Rattle.bn_model.proofs.MembershipLemmas.{has-left, has-map}
use Rattle.bn_model.proofs.RowLemmas.{owner_by}

private-offer : {P : Type 0} (sort : Sort) → sort ≡ Private → sort ≡ Offer → P
private-offer sort e d = let f : Private ≡ Offer = sym e ∙ d in absurd cc

offer-accept : {P : Type 0} (sort : Sort) → sort ≡ Offer → sort ≡ Accept → P
offer-accept sort e d = let f : Offer ≡ Accept = sym e ∙ d in absurd cc

pub ordered-at : (ram : ℕ) (own : List Owner) → EachOrdered ram own → (owner : Owner)
    → Has owner own → AreOrdered ram owner.decls.items
ordered-at ram [] h owner has = absurd has
ordered-at ram (first ∷ rest) h owner (inl is) =
    subst (λ (o : Owner). AreOrdered ram o.decls.items) (sym is) h.0
ordered-at ram (first ∷ rest) h owner (inr later) = ordered-at ram rest h.1 owner later

ordered-from : (ram : ℕ) (own : List Owner)
    → ((owner : Owner) → Has owner own → AreOrdered ram owner.decls.items) → EachOrdered ram own
ordered-from ram [] h = tt
ordered-from ram (first ∷ rest) h =
    (h first (inl refl), ordered-from ram rest (λ owner later. h owner (inr later)))

-- ---- modules that go

module _ (live left : List Enclave) (ram : ℕ) (within : (e : Enclave) → Has e left → Has e live)
    (h : HasClaims live (owned live) ram) where
  claim-within : (claim : Claim) → Has claim (claims (owned left)) → Has claim (claims (owned live))
  claim-within claim has =
      let m = made left claim has in
      makes-claim live claim
      (record { by = m.by; has = within m.by m.has; declared = m.declared; owner = m.owner })

  owner-within : (owner : Owner) → Has owner (owned left) → Has owner (owned live)
  owner-within owner has =
      let found = from-map owner_by left owner has in
      subst (λ (o : Owner). Has o (owned live)) (sym found.2)
      (has-map owner_by live found.0 (within found.0 found.1))

  -- a page that is accepted from a module that went
  orphaned : (one other : Claim) → Has one (claims (owned left)) → Has other (claims (owned left))
      → one.decl.sort ≡ Accept
      → is_live (owned left) one.decl.source.0 ≡ false → (sort : Sort) → other.decl.sort ≡ sort
      → is_own sort ≡ true → other.decl.gpn ≡ one.decl.gpn
      → (is_live (owned live) one.decl.source.0 ≡ true) ⊎
      (is_live (owned live) one.decl.source.0 ≡ false) → ⊥
  orphaned one other has_one has_other accept dead sort is own same (inr before) =
      h.orphan one other (claim-within one has_one) (claim-within other has_other) accept before
      (ap is_own is ∙ own) same
  orphaned one other has_one has_other accept dead sort is own same (inl before) =
      by_sort sort is own
    where
      offering : (e : Enclave) × Has e live × (e.id.0 ≡ one.decl.source.0)
      offering = live-has live one.decl.source.0 before

      accepting : IsMade live one
      accepting = made live one (claim-within one has_one)

      offered : IsOfferedBy offering.0 accepting.by.judged.digest one.decl
      offered =
          h.accepted accepting.by offering.0 one.decl accepting.has accepting.declared accept
          offering.1
          (ap (λ (n : ℕ). let m : ModId = record { 0 = n } in m) offering.2)

      theirs : Has (claim_by offering.0.id offered.offer) (claims (owned live))
      theirs = makes live offering.0 offered.offer offering.1 offered.declared

      lives : other ≡ claim_by offering.0.id offered.offer → ⊥
      lives is =
          let m = made left other has_other in
          both_ways (is_live (owned left) one.decl.source.0) dead
          (has-live left one.decl.source.0 m.by m.has
          (ap (λ (i : ModId). i.0) (sym m.owner ∙ ap (λ (c : Claim). c.owner) is) ∙ offering.2))

      by_sort : (sort : Sort) → other.decl.sort ≡ sort → is_own sort ≡ true → ⊥
      by_sort Private is own =
          let e : claim_by offering.0.id offered.offer ≡ other =
          h.alone other (claim_by offering.0.id offered.offer) (claim-within other has_other) theirs
          is (offered.page ∙ sym same) in
          private-offer other.decl.sort is (ap (λ (c : Claim). c.decl.sort) (sym e) ∙ offered.sort)
      by_sort Offer is own =
          lives (h.one_offer (claim_by offering.0.id offered.offer) other theirs
          (claim-within other has_other) offered.sort is (same ∙ sym offered.page))
      by_sort Accept is own = cc

  pub left-claims : HasClaims left (owned left) ram
  left-claims = record {
    ordered = ordered-from ram (owned left)
        (λ owner has. ordered-at ram (owned live) h.ordered owner (owner-within owner has));
    alone = λ one other has_one has_other.
        h.alone one other (claim-within one has_one) (claim-within other has_other);
    one_offer = λ one other has_one has_other.
        h.one_offer one other (claim-within one has_one) (claim-within other has_other);
    orphan = λ one other has_one has_other accept dead own same.
        orphaned one other has_one has_other accept dead other.decl.sort refl own same
        (cases_Bool (is_live (owned live) one.decl.source.0));
    accepted = λ one offering decl has_one declared accept has_offering is.
        h.accepted one offering decl (within one has_one) declared accept
        (within offering has_offering) is;
    sources = λ one has_one. h.sources one (claim-within one has_one);
  }

-- ---- a module more

-- what a launched module declares beside the live ones
pub record IsNew (live : List Enclave) (next ram : ℕ) (new : Enclave) : Type 0 where
  pub id : new.id.0 ≡ next
  pub unowned : (decl : Decl) (claim : Claim) → Has decl new.judged.decls.items
      → is_own decl.sort ≡ true → Has claim (claims (owned live)) → claim.decl.gpn ≡ decl.gpn → ⊥
  pub offered : (decl : Decl) → Has decl new.judged.decls.items → decl.sort ≡ Accept
      → (e : Enclave) × Has e live × (e.id ≡ decl.source) × IsOfferedBy e new.judged.digest decl
  pub ordered : AreOrdered ram new.judged.decls.items

-- a declaration of the new module
record IsTheirs (new : Enclave) (claim : Claim) : Type 0 where
  owner : claim.owner ≡ new.id
  declared : Has claim.decl new.judged.decls.items

-- an offer of a page
record IsOffer (live : List Enclave) (page : Gpn) : Type 0 where
  claim : Claim
  has : Has claim (claims (owned live))
  sort : claim.decl.sort ≡ Offer
  reaches : claim.decl.gpn ≡ page

reaches-other : (page : ℕ) (decls : List Decl) → ReachesNone page decls → (decl : Decl)
    → Has decl decls → decl.gpn.0 ≡ page → ⊥
reaches-other page [] none decl has e = absurd has
reaches-other page (first ∷ rest) none decl (inl is) e =
    none.0 (ap (λ (d : Decl). d.gpn.0) (sym is) ∙ e)
reaches-other page (first ∷ rest) none decl (inr later) e =
    reaches-other page rest none.1 decl later e

-- two declarations of a module that reach one page are one
pub one-of-page : (ram : ℕ) (decls : List Decl) → GuestPagesDiffer ram decls → (one other : Decl)
    → Has one decls → Has other decls → other.gpn.0 ≡ one.gpn.0 → other ≡ one
one-of-page ram [] differ one other h k e = absurd h
one-of-page ram (first ∷ rest) differ one other (inl is) (inl be) e = be ∙ sym is
one-of-page ram (first ∷ rest) differ one other (inl is) (inr later) e =
    absurd (reaches-other first.gpn.0 rest differ.1 other later (e ∙ ap (λ (d : Decl). d.gpn.0) is))
one-of-page ram (first ∷ rest) differ one other (inr later) (inl be) e =
    absurd (reaches-other first.gpn.0 rest differ.1 one later
    (sym e ∙ ap (λ (d : Decl). d.gpn.0) be))
one-of-page ram (first ∷ rest) differ one other (inr h) (inr k) e =
    one-of-page ram rest differ.2 one other h k e

module _ (live : List Enclave) (next ram : ℕ) (new : Enclave) (ids : Ascend zero live next)
    (h : HasClaims live (owned live) ram) (n : IsNew live next ram new) where
  enclave-of : (e : Enclave) → Has e (live ++ new ∷ []) → Has e live ⊎ (e ≡ new)
  enclave-of e has = by_part (has-parts live (new ∷ []) e has)
    where
      by_part : Has e live ⊎ Has e (new ∷ []) → Has e live ⊎ (e ≡ new)
      by_part (inl there) = inl there
      by_part (inr (inl is)) = inr is
      by_part (inr (inr none)) = absurd none

  old-or-new : (claim : Claim) → Has claim (claims (owned (live ++ new ∷ [])))
      → Has claim (claims (owned live)) ⊎ IsTheirs new claim
  old-or-new claim has = by_part (enclave-of m.by m.has)
    where
      m : IsMade (live ++ new ∷ []) claim
      m = made (live ++ new ∷ []) claim has

      by_part : Has m.by live ⊎ (m.by ≡ new) → Has claim (claims (owned live)) ⊎ IsTheirs new claim
      by_part (inl there) =
          inl (makes-claim live claim
          (record { by = m.by; has = there; declared = m.declared; owner = m.owner }))
      by_part (inr is) = inr (record {
        owner = m.owner ∙ ap (λ (e : Enclave). e.id) is;
        declared = subst (λ (e : Enclave). Has claim.decl e.judged.decls.items) is m.declared;
      })

  one-new : (one other : Claim) → IsTheirs new one → IsTheirs new other
      → other.decl.gpn ≡ one.decl.gpn → other ≡ one
  one-new one other t u same =
      claim-parts other one (u.owner ∙ sym t.owner)
      (one-of-page ram new.judged.decls.items n.ordered.guest one.decl other.decl t.declared
      u.declared (ap (λ (g : Gpn). g.0) same))

  offer-of : (decl : Decl) → Has decl new.judged.decls.items → decl.sort ≡ Accept
      → IsOffer live decl.gpn
  offer-of decl declared accept =
      let found = n.offered decl declared accept in
      let offered = found.3 in
      record {
        claim = claim_by found.0.id offered.offer;
        has = makes live found.0 offered.offer found.1 offered.declared;
        sort = offered.sort;
        reaches = offered.page;
      }

  alone-new : (one other : Claim) → Has one (claims (owned live)) ⊎ IsTheirs new one
      → Has other (claims (owned live)) ⊎ IsTheirs new other
      → one.decl.sort ≡ Private → other.decl.gpn ≡ one.decl.gpn → other ≡ one
  alone-new one other (inl old) (inl ancient) private same =
      h.alone one other old ancient private same
  alone-new one other (inr theirs) (inl old) private same =
      absurd (n.unowned one.decl other theirs.declared (ap is_own private) old same)
  alone-new one other (inr t) (inr u) private same = one-new one other t u same
  alone-new one other (inl old) (inr theirs) private same = absurd (by_sort other.decl.sort refl)
    where
      by_offer : IsOffer live other.decl.gpn → ⊥
      by_offer o =
          let e : o.claim ≡ one = h.alone one o.claim old o.has private (o.reaches ∙ same) in
          private-offer one.decl.sort private (ap (λ (c : Claim). c.decl.sort) (sym e) ∙ o.sort)

      by_sort : (sort : Sort) → other.decl.sort ≡ sort → ⊥
      by_sort Private is = n.unowned other.decl one theirs.declared (ap is_own is) old (sym same)
      by_sort Offer is = n.unowned other.decl one theirs.declared (ap is_own is) old (sym same)
      by_sort Accept is = by_offer (offer-of other.decl theirs.declared is)

  offer-new : (one other : Claim) → Has one (claims (owned live)) ⊎ IsTheirs new one
      → Has other (claims (owned live)) ⊎ IsTheirs new other
      → one.decl.sort ≡ Offer → other.decl.sort ≡ Offer → other.decl.gpn ≡ one.decl.gpn
      → other ≡ one
  offer-new one other (inl old) (inl ancient) offer too same =
      h.one_offer one other old ancient offer too same
  offer-new one other (inr theirs) (inl old) offer too same =
      absurd (n.unowned one.decl other theirs.declared (ap is_own offer) old same)
  offer-new one other (inl old) (inr theirs) offer too same =
      absurd (n.unowned other.decl one theirs.declared (ap is_own too) old (sym same))
  offer-new one other (inr t) (inr u) offer too same = one-new one other t u same

  still-live : (id : ℕ) → is_live (owned live) id ≡ true
      → is_live (owned (live ++ new ∷ [])) id ≡ true
  still-live id e =
      let found = live-has live id e in
      has-live (live ++ new ∷ []) id found.0 (has-left live (new ∷ []) found.0 found.1) found.2

  orphan-new : (one other : Claim) → Has one (claims (owned live)) ⊎ IsTheirs new one
      → Has other (claims (owned live)) ⊎ IsTheirs new other
      → one.decl.sort ≡ Accept → is_live (owned (live ++ new ∷ [])) one.decl.source.0 ≡ false
      → is_own other.decl.sort ≡ true → other.decl.gpn ≡ one.decl.gpn → ⊥
  orphan-new one other (inr theirs) whose accept dead own same =
      let found = n.offered one.decl theirs.declared accept in
      both_ways (is_live (owned (live ++ new ∷ [])) one.decl.source.0) dead
      (still-live one.decl.source.0
      (has-live live one.decl.source.0 found.0 found.1 (ap (λ (i : ModId). i.0) found.2)))
  orphan-new one other (inl old) (inl ancient) accept dead own same =
      h.orphan one other old ancient accept
      (false_from_ne_true (is_live (owned live) one.decl.source.0)
      (λ e. both_ways (is_live (owned (live ++ new ∷ [])) one.decl.source.0) dead
      (still-live one.decl.source.0 e)))
      own same
  orphan-new one other (inl old) (inr theirs) accept dead own same =
      n.unowned other.decl one theirs.declared own old (sym same)

  accepted-new : (one offering : Enclave) (decl : Decl) → Has one live ⊎ (one ≡ new)
      → Has decl one.judged.decls.items → decl.sort ≡ Accept
      → Has offering live ⊎ (offering ≡ new) → offering.id ≡ decl.source
      → IsOfferedBy offering one.judged.digest decl
  accepted-new one offering decl (inl old) declared accept (inl ancient) is =
      h.accepted one offering decl old declared accept ancient is
  accepted-new one offering decl (inl old) declared accept (inr be) is =
      let below : decl.source.0 < one.id.0 =
      (h.sources (claim_by one.id decl) (makes live one decl old declared) accept).1 in
      let least : one.id.0 < next = (has-between zero live next ids one old).1 in
      let whose : decl.source.0 ≡ next =
      ap (λ (i : ModId). i.0) (sym is ∙ ap (λ (e : Enclave). e.id) be) ∙ n.id in
      absurd (omega arith)
  accepted-new one offering decl (inr be) declared accept (inl ancient) is =
      let found = n.offered decl
      (subst (λ (e : Enclave). Has decl e.judged.decls.items) be declared) accept in
      let same : found.0 ≡ offering =
      one-of-id zero live next ids found.0 offering found.1 ancient
      (ap (λ (i : ModId). i.0) (found.2 ∙ sym is)) in
      subst (λ (who : Digest). IsOfferedBy offering who decl)
      (ap (λ (e : Enclave). e.judged.digest) (sym be))
      (subst (λ (e : Enclave). IsOfferedBy e new.judged.digest decl) same found.3)
  accepted-new one offering decl (inr be) declared accept (inr too) is =
      let found = n.offered decl
      (subst (λ (e : Enclave). Has decl e.judged.decls.items) be declared) accept in
      let below : found.0.id.0 < next = (has-between zero live next ids found.0 found.1).1 in
      let whose : found.0.id.0 ≡ next =
      ap (λ (i : ModId). i.0) (found.2 ∙ sym is ∙ ap (λ (e : Enclave). e.id) too) ∙ n.id in
      absurd (omega arith)

  sources-new : (one : Claim) → Has one (claims (owned live)) ⊎ IsTheirs new one
      → one.decl.sort ≡ Accept → (1 ≤ one.decl.source.0) × (one.decl.source.0 < one.owner.0)
  sources-new one (inl old) accept = h.sources one old accept
  sources-new one (inr theirs) accept =
      let found = n.offered one.decl theirs.declared accept in
      let between = has-between zero live next ids found.0 found.1 in
      let least : zero < found.0.id.0 = between.0 in
      let most : found.0.id.0 < next = between.1 in
      let source : found.0.id.0 ≡ one.decl.source.0 = ap (λ (i : ModId). i.0) found.2 in
      let owner : one.owner.0 ≡ next = ap (λ (i : ModId). i.0) theirs.owner ∙ n.id in
      (omega arith, omega arith)

  ordered-new : (owner : Owner) → Has owner (owned (live ++ new ∷ []))
      → AreOrdered ram owner.decls.items
  ordered-new owner has = by_part (enclave-of found.0 found.1)
    where
      found : (e : Enclave) × Has e (live ++ new ∷ []) × (owner ≡ owner_by e)
      found = from-map owner_by (live ++ new ∷ []) owner has

      by_part : Has found.0 live ⊎ (found.0 ≡ new) → AreOrdered ram owner.decls.items
      by_part (inl there) =
          subst (λ (o : Owner). AreOrdered ram o.decls.items) (sym found.2)
          (ordered-at ram (owned live) h.ordered (owner_by found.0)
          (has-map owner_by live found.0 there))
      by_part (inr is) =
          subst (λ (o : Owner). AreOrdered ram o.decls.items) (sym (found.2 ∙ ap owner_by is))
          n.ordered

  pub launched-claims : HasClaims (live ++ new ∷ []) (owned (live ++ new ∷ [])) ram
  launched-claims = record {
    ordered = ordered-from ram (owned (live ++ new ∷ [])) ordered-new;
    alone = λ one other has_one has_other.
        alone-new one other (old-or-new one has_one) (old-or-new other has_other);
    one_offer = λ one other has_one has_other.
        offer-new one other (old-or-new one has_one) (old-or-new other has_other);
    orphan = λ one other has_one has_other.
        orphan-new one other (old-or-new one has_one) (old-or-new other has_other);
    accepted = λ one offering decl has_one declared accept has_offering.
        accepted-new one offering decl (enclave-of one has_one) declared accept
        (enclave-of offering has_offering);
    sources = λ one has_one. sources-new one (old-or-new one has_one);
  }
