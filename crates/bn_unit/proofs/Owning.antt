-- Translations stay right where a module comes, once those leave that touch its pages.
use Rattle.std.proofs.Common.{◌≡◌, ℕ, zero, suc, ◌||◌, ◌⊎◌, inl, inr, Bool, true, false, List, []}
use Rattle.std.proofs.Common.{◌∷◌, ◌++◌, get_or, refl, sym, ap, ◌∙◌, subst}
use Rattle.std.proofs.Common.{eq-eqb, eqb-true, ◌<◌, length}
use Rattle.std.proofs.lemmas.Bool.{both_ways, false_from_ne_true, or_parts}
use Rattle.std.proofs.lemmas.List.Folds.{list_any-append, list_any_at}
use Rattle.std.specs.List.{list_any}
use Rattle.bn_types.specs.declared.decl.Decl.{Decl}
use Rattle.bn_types.specs.declared.gpn.Gpn.{Gpn}
use Rattle.bn_types.specs.declared.sort.Sort.{Sort}
use Rattle.bn_types.specs.declared.sort.Sort.TheVariants.{Private, Offer, Accept}
use Rattle.bn_model.specs.declared.owner.Owner.{Owner}
use Rattle.bn_model.specs.Admission.{declaration, declared_by, is_backed}
use Rattle.bn_model.specs.Nesting.{Nested}
use Rattle.bn_model.specs.Owners.{Claim, claim_by, claims, claims_by, is_live, is_module, is_on}
use Rattle.bn_model.specs.Owners.{is_owned}
use Rattle.bn_model.specs.Soundness.{Has}
use Rattle.bn_model.proofs.MembershipLemmas.{any-has, append-has, flat_map-has, has-any}
use Rattle.bn_model.proofs.MembershipLemmas.{has-flat_map, map-has}
use Rattle.bn_model.proofs.TestLemmas.{find-push}
use Rattle.bn_tlb.specs.Caching.{Cache, is_page, is_walked, leads_to}
use Rattle.bn_tlb.specs.declared.slot.Slot.{Slot}
use Rattle.bn_unit.specs.Dropping.{cache_without}
use Rattle.bn_tlb.specs.Caching.{AllHeld}
use Rattle.bn_unit.specs.Holding.{IsRight, is_known}
use Rattle.bn_tlb.proofs.HeldSlots.{held-weaker}
use Rattle.bn_unit.proofs.Leaving.{Untouched, held-without}
use Rattle.bn_unit.proofs.Rightness.{kept-live}

module _ (live : List Owner) (owner : Owner) where
  now : List Owner
  now = live ++ owner ∷ []

  -- a page that the new module doesn't declare
  owned-more : (page : ℕ) → ((decl : Decl) → Has decl owner.decls.items → (decl.gpn.0 ≡ page → ⊥))
      → is_owned live page ≡ false → is_owned (live ++ owner ∷ []) page ≡ false
  unfolding claims
  owned-more page apart free = false_from_ne_true _ (λ holds. none (any-has _ _ holds)) where
    none : ((claim : Claim) × Has claim (claims (live ++ owner ∷ [])) × (is_on page claim ≡ true))
        → ⊥
    none c = by_part (flat_map-has claims_by (live ++ owner ∷ []) c.0 c.1) where
      mine : Has c.0 (claims_by owner) → ⊥
      mine has =
          let made = map-has (claim_by owner.id) owner.decls.items c.0 has in
          apart made.0 made.1
          (ap (λ (claim : Claim). claim.decl.gpn.0) (sym made.2) ∙ eqb-true c.0.decl.gpn.0 page c.2)

      by_whom : (by : Owner) → Has c.0 (claims_by by) → Has by live ⊎ Has by (owner ∷ []) → ⊥
      by_whom by has (inl old) =
          both_ways (is_owned live page) free
          (has-any (is_on page) (claims live) c.0 (has-flat_map claims_by live by c.0 old has) c.2)
      by_whom by has (inr (inl is)) =
          mine (subst (λ (o : Owner). Has c.0 (claims_by o)) is has)
      by_whom by has (inr (inr more)) = absurd more

      by_part : ((by : Owner) × Has by (live ++ owner ∷ []) × Has c.0 (claims_by by)) → ⊥
      by_part found = by_whom found.0 found.2 (append-has live (owner ∷ []) found.0 found.1)

  live-more : (id : ℕ) → is_live live id ≡ true → is_live (live ++ owner ∷ []) id ≡ true
  live-more id lives =
      list_any-append (is_module id) live (owner ∷ [])
      ∙ ap (λ (b : Bool). b || list_any (is_module id) (owner ∷ [])) lives

  known-more : (id : ℕ) → is_known live id ≡ true → is_known (live ++ owner ∷ []) id ≡ true
  known-more zero lives = refl
  known-more (suc id) lives = live-more (suc id) lives

  backed-more : (sort : Sort) (source : ℕ) → is_backed live sort source ≡ true
      → is_backed (live ++ owner ∷ []) sort source ≡ true
  backed-more Private source lives = refl
  backed-more Offer source lives = refl
  backed-more Accept source lives = live-more source lives

  declares-more : is_live live owner.id.0 ≡ false → (id vpn : ℕ) → is_known live id ≡ true
      → declaration (live ++ owner ∷ []) id vpn ≡ declaration live id vpn
  declares-more new zero vpn known = refl
  declares-more new (suc id) vpn known =
      ap (declared_by vpn) (find-push (is_module (suc id)) live owner other) where
        other : is_module (suc id) owner ≡ false
        other = false_from_ne_true _ (λ same.
            both_ways (is_live live owner.id.0) new
            (ap (is_live live) (eqb-true owner.id.0 (suc id) same) ∙ known))

  kept-entered : (nest : Nested) → is_live live owner.id.0 ≡ false → (slot : Slot)
      → IsRight nest live slot → Untouched owner.decls.items slot
      → IsRight nest (live ++ owner ∷ []) slot
  kept-entered nest new slot h untouched =
      kept-live nest live slot h (live ++ owner ∷ [])
      (λ k d below. owned-more (get_or slot.entry.tables.items k d).0 (apart-table k d below))
      (owned-more slot.entry.page.0 apart-page)
      (declares-more new slot.key.«module».0 slot.key.vpn.0 h.known)
      (λ decl is on backed. backed-more decl.sort decl.source.0 backed)
      (known-more slot.key.«module».0 h.known) where
        apart-page : (decl : Decl) → Has decl owner.decls.items
            → (decl.gpn.0 ≡ slot.entry.page.0 → ⊥)
        apart-page decl has e =
            both_ways (leads_to decl.gpn.0 slot)
            (or_parts (leads_to decl.gpn.0 slot) (is_walked decl.gpn.0 slot)
            (untouched decl has)).0 (eq-eqb slot.entry.page.0 decl.gpn.0 (sym e))

        apart-table : (k : ℕ) (d : Gpn) → k < length slot.entry.tables.items → (decl : Decl)
            → Has decl owner.decls.items
            → (decl.gpn.0 ≡ (get_or slot.entry.tables.items k d).0 → ⊥)
        apart-table k d below decl has e =
            both_ways (is_walked decl.gpn.0 slot)
            (or_parts (leads_to decl.gpn.0 slot) (is_walked decl.gpn.0 slot)
            (untouched decl has)).1
            (list_any_at (is_page decl.gpn.0) slot.entry.tables.items k d below
            (eq-eqb (get_or slot.entry.tables.items k d).0 decl.gpn.0 (sym e)))

  pub all-entered : (nest : Nested) (m : Cache) → is_live live owner.id.0 ≡ false
      → AllHeld (IsRight nest live) m
      → AllHeld (IsRight nest (live ++ owner ∷ [])) (cache_without owner.decls.items m)
  all-entered nest m new all =
      held-weaker (λ slot. IsRight nest live slot × Untouched owner.decls.items slot)
      (IsRight nest (live ++ owner ∷ []))
      (λ slot h. kept-entered nest new slot h.0 h.1)
      (cache_without owner.decls.items m)
      (held-without (IsRight nest live) owner.decls.items m all)

pub held-owning : (live : List Owner) (owner : Owner) (nest : Nested) (m now : Cache)
    (new : List Owner) (decls : List Decl) → new ≡ live ++ owner ∷ [] → decls ≡ owner.decls.items
    → now ≡ cache_without decls m → is_live live owner.id.0 ≡ false
    → AllHeld (IsRight nest live) m → AllHeld (IsRight nest new) now
held-owning live owner nest m now new decls is same dropped other all =
    rw (is, dropped, same) (all-entered live owner nest m other all)
