-- Translations stay right where modules go, once those leave that touch the pages that they leave.
use Rattle.std.proofs.Common.{◌≡◌, ℕ, zero, suc, ◌&&◌, Bool, true, false, not, List}
use Rattle.std.proofs.Common.{get_or, Some, refl, sym, ap, ◌∙◌, subst}
use Rattle.std.proofs.Common.{eq-eqb, eqb-true}
use Rattle.std.proofs.lemmas.Bool.{both_ways, false_from_ne_true, or_parts}
use Rattle.std.proofs.lemmas.Map.Views.{any-filter_same}
use Rattle.bn_types.specs.declared.decl.Decl.{Decl}
use Rattle.bn_types.specs.declared.gpn.Gpn.{Gpn}
use Rattle.bn_types.specs.declared.mod_id.ModId.{ModId}
use Rattle.bn_types.specs.declared.row.Row.{Row}
use Rattle.bn_types.specs.declared.sort.Sort.{Sort}
use Rattle.bn_types.specs.declared.sort.Sort.TheVariants.{Private, Offer, Accept}
use Rattle.bn_model.specs.declared.owner.Owner.{Owner}
use Rattle.bn_model.specs.Admission.{declaration, declared_by, is_backed}
use Rattle.bn_model.specs.Evicting.{is_among, is_given_up}
use Rattle.bn_model.specs.Nesting.{Nested}
use Rattle.bn_model.specs.Owners.{Claim, claims, claims_by, is_live, is_module, is_on}
use Rattle.bn_model.specs.Owners.{is_owned}
use Rattle.bn_model.specs.Soundness.{Has}
use Rattle.bn_model.proofs.ClaimLemmas.{declared}
use Rattle.bn_model.proofs.MembershipLemmas.{any-has, filter-has, flat_map-has, has-any}
use Rattle.bn_model.proofs.MembershipLemmas.{has-flat_map}
use Rattle.bn_model.proofs.TestLemmas.{find-filter}
use Rattle.bn_shadow.specs.Counting.{is_left, owners_left}
use Rattle.bn_tlb.specs.Caching.{Cache, is_walked, leads_to}
use Rattle.bn_tlb.specs.declared.slot.Slot.{Slot}
use Rattle.bn_unit.specs.Dropping.{AreOffered, cache_left, cache_of_others, is_left_by}
use Rattle.bn_tlb.specs.Caching.{AllHeld}
use Rattle.bn_unit.specs.Holding.{IsRight, is_known}
use Rattle.bn_tlb.proofs.HeldSlots.{held-weaker}
use Rattle.bn_unit.proofs.Leaving.{Remains, held-left, held-others}
use Rattle.bn_unit.proofs.Rightness.{kept-live}

all-three : (a b c : Bool) → a ≡ true → b ≡ true → c ≡ true → ((a && b) && c) ≡ true
all-three a b c p q r = rw (p, q, r) refl

module _ (gone : List Row) (live : List Owner) where
  -- a page that nobody owned
  owned-fewer : (page : ℕ) → is_owned live page ≡ false
      → is_owned (owners_left gone live) page ≡ false
  unfolding claims
  owned-fewer page free = false_from_ne_true _ (λ holds. none (any-has _ _ holds)) where
    none : ((claim : Claim) × Has claim (claims (owners_left gone live))
        × (is_on page claim ≡ true)) → ⊥
    none c =
        let by = flat_map-has claims_by (owners_left gone live) c.0 c.1 in
        both_ways (is_owned live page) free
        (has-any (is_on page) (claims live) c.0
        (has-flat_map claims_by live by.0 c.0 (filter-has (is_left gone) live by.0 by.1).0 by.2)
        c.2)

  is-left : (id : ℕ) → is_among gone id ≡ false → (owner : Owner) → is_module id owner ≡ true
      → is_left gone owner ≡ true
  is-left id other owner same =
      ap (λ (n : ℕ). not (is_among gone n)) (eqb-true owner.id.0 id same) ∙ ap not other

  live-stays : (id : ℕ) → is_among gone id ≡ false → is_live live id ≡ true
      → is_live (owners_left gone live) id ≡ true
  live-stays id other lives =
      any-filter_same (is_module id) (is_left gone) true (is-left id other) live ∙ lives

  known-stays : (id : ℕ) → is_among gone id ≡ false → is_known live id ≡ true
      → is_known (owners_left gone live) id ≡ true
  known-stays zero other lives = refl
  known-stays (suc id) other lives = live-stays (suc id) other lives

  declares-left : (id vpn : ℕ) → is_among gone id ≡ false
      → declaration (owners_left gone live) id vpn ≡ declaration live id vpn
  declares-left zero vpn other = refl
  declares-left (suc id) vpn other =
      ap (declared_by vpn)
      (find-filter (is_module (suc id)) (is_left gone) (is-left (suc id) other) live)

  module _ (offered : AreOffered live) where
    -- an acceptance on a page that isn't left stays backed
    backed-left : (id vpn page : ℕ) (decl : Decl) → declaration live id vpn ≡ Some decl
        → decl.gpn.0 ≡ page → is_left_by gone live page ≡ false
        → is_backed live decl.sort decl.source.0 ≡ true
        → is_backed (owners_left gone live) decl.sort decl.source.0 ≡ true
    backed-left id vpn page decl is on remains = go decl.sort refl where
      stays : decl.sort ≡ Accept → is_live live decl.source.0 ≡ true
          → is_among gone decl.source.0 ≡ false
      stays accepted lives = false_from_ne_true _ (λ among.
          let mine = declared live id vpn decl is in
          let offer = offered.offered mine.0 mine.1
          (ap (λ (d : Decl). d.sort) mine.3 ∙ accepted)
          (ap (λ (d : Decl). is_live live d.source.0) mine.3 ∙ lives) in
          let by : is_among gone offer.0.owner.0 ≡ true =
          ap (λ (m : ModId). is_among gone m.0) offer.2
          ∙ ap (λ (d : Decl). is_among gone d.source.0) mine.3 ∙ among in
          let there : offer.0.decl.gpn.0 ≡ page =
          ap (λ (g : Gpn). g.0) offer.4 ∙ ap (λ (d : Decl). d.gpn.0) mine.3 ∙ on in
          both_ways (is_left_by gone live page) remains
          (has-any (is_given_up gone page) (claims live) offer.0 offer.1
          (all-three _ _ _ by offer.3 (eq-eqb offer.0.decl.gpn.0 page there))))

      go : (sort : Sort) → decl.sort ≡ sort → is_backed live sort decl.source.0 ≡ true
          → is_backed (owners_left gone live) sort decl.source.0 ≡ true
      go Private sorted lives = refl
      go Offer sorted lives = refl
      go Accept sorted lives = live-stays decl.source.0 (stays sorted lives) lives

    kept-left : (nest : Nested) (slot : Slot) → IsRight nest live slot
        → Remains gone live nest.ram slot → is_among gone slot.key.«module».0 ≡ false
        → IsRight nest (owners_left gone live) slot
    kept-left nest slot h remains other =
        kept-live nest live slot h (owners_left gone live)
        (λ k d below. owned-fewer (get_or slot.entry.tables.items k d).0)
        (owned-fewer slot.entry.page.0)
        (declares-left slot.key.«module».0 slot.key.vpn.0 other)
        (λ decl is on. backed-left slot.key.«module».0 slot.key.vpn.0 slot.entry.page.0 decl is on
        not-left)
        (known-stays slot.key.«module».0 other h.known) where
          not-left : is_left_by gone live slot.entry.page.0 ≡ false
          not-left = false_from_ne_true _ (λ left.
              both_ways (leads_to slot.entry.page.0 slot)
              (or_parts (leads_to slot.entry.page.0 slot) (is_walked slot.entry.page.0 slot)
              (remains slot.entry.page.0 h.inside left)).0
              (eq-eqb slot.entry.page.0 slot.entry.page.0 refl))

    all-left : (nest : Nested) (m : Cache) → AllHeld (IsRight nest live) m
        → AllHeld (IsRight nest (owners_left gone live))
        (cache_of_others gone (cache_left gone live nest.ram m))
    all-left nest m all =
        held-weaker
        (λ slot. (IsRight nest live slot × Remains gone live nest.ram slot)
        × (is_among gone slot.key.«module».0 ≡ false))
        (IsRight nest (owners_left gone live))
        (λ slot h. kept-left nest slot h.0.0 h.0.1 h.1)
        (cache_of_others gone (cache_left gone live nest.ram m))
        (held-others (λ slot. IsRight nest live slot × Remains gone live nest.ram slot) gone
        (cache_left gone live nest.ram m)
        (held-left (IsRight nest live) gone live nest.ram m all))

pub held-released : (gone : List Row) (live was : List Owner) → live ≡ was → AreOffered was
    → (nest : Nested) (m a b : Cache) (new : List Owner) (count : ℕ) → count ≡ nest.ram
    → new ≡ owners_left gone live → a ≡ cache_left gone live count m → b ≡ cache_of_others gone a
    → AllHeld (IsRight nest live) m → AllHeld (IsRight nest new) b
held-released gone live was same offered nest m a b new count ram is left others all =
    rw (is, others, left, ram)
    (all-left gone live (subst AreOffered (sym same) offered) nest m all)
