-- What always holds of a cache holds after a fill and after a drop.
use Rattle.std.proofs.Common.{◌≡◌, ℕ, zero, suc, ◌<◌, Bool, List, [], ◌∷◌}
use Rattle.std.proofs.Common.{length, map, get_or, set, ◌⊎◌, inl, inr, refl, sym, ap, ◌∙◌, arith}
use Rattle.std.proofs.Common.{None, subst}
use Rattle.std.proofs.lemmas.Bool.{cases_eq}
use Rattle.std.proofs.lemmas.List.{get_or_default, get_or-set_other, get_or-set_same}
use Rattle.std.proofs.lemmas.List.{length-map, length-set}
use Rattle.bn_tlb.specs.declared.slot.Slot.{Slot}
use Rattle.bn_tlb.specs.Caching.{Cache, IsCache, IsSet, after_drop, after_fill, filled, found}
use Rattle.bn_tlb.specs.Caching.{held, set_number, set_of, without}
use Rattle.bn_tlb.proofs.SetLemmas.{set-filled, set-without}

set-same : (set : ℕ) (slots now : List Slot) → now ≡ slots → IsSet set slots → IsSet set now
set-same set slots now e h = rw e h

held-map : (f : List Slot → List Slot) (sets : List (List Slot)) (i : ℕ) → f [] ≡ []
    → get_or (map f sets) i [] ≡ f (get_or sets i [])
held-map f [] zero e = sym e
held-map f [] (suc i) e = sym e
held-map f (slots ∷ sets) zero e = refl
held-map f (slots ∷ sets) (suc i) e = held-map f sets i e

pub cache_after_drop : (leaves : Slot → Bool) (m : Cache) → IsCache m
    → IsCache (after_drop leaves m)
cache_after_drop leaves m h = record {
  size = length-map m.sets (without leaves) ∙ h.size;
  sets = λ hart place below. set-same place (without leaves (held m hart place))
      (held (after_drop leaves m) hart place)
      (held-map (without leaves) m.sets (set_number hart place) refl)
      (set-without leaves place (held m hart place) (h.sets hart place below));
}

pub cache_after_fill : (m : Cache) (hart : ℕ) (slot : Slot) → IsCache m → hart < m.harts
    → found m hart slot.key ≡ None
    → IsCache (after_fill m hart slot)
cache_after_fill m hart slot h below new = record {
  size = length-set m.sets number now ∙ h.size;
  sets = λ other place lies. by_place other place lies
      (cases_eq (set_number other place) number);
} where
  number : ℕ
  number = set_number hart (set_of slot.key)

  now : List Slot
  now = filled slot (held m hart (set_of slot.key))

  inside : number < length m.sets
  inside = omega (arith, h.size, below)

  full : IsSet (set_of slot.key) now
  full =
      set-filled (set_of slot.key) (held m hart (set_of slot.key)) slot
      (h.sets hart (set_of slot.key) (omega arith)) refl new

  by_place : (other place : ℕ) → place < 64
      → (set_number other place ≡ number) ⊎ (set_number other place ≡ number → ⊥)
      → IsSet place (get_or (set m.sets number now) (set_number other place) [])
  by_place other place lies (inl same) =
      let own : place ≡ set_of slot.key = omega (arith, same, lies) in
      rw (same, own, get_or-set_same m.sets number now [] inside) full
  by_place other place lies (inr differ) =
      set-same place (held m other place) _
      (get_or-set_other m.sets number (set_number other place) now [] differ)
      (h.sets other place lies)

-- the same, of the set as it was read and written
pub sets_filled : (m : Cache) (hart number : ℕ) (slot : Slot) (was now : List Slot) → IsCache m
    → hart < m.harts → number ≡ set_number hart (set_of slot.key)
    → was ≡ get_or m.sets number was → now ≡ filled slot was
    → set m.sets number now ≡ (after_fill m hart slot).sets
sets_filled m hart number slot was now h below place read written =
    rw (place, written, same) refl where
      inside : number < length m.sets
      inside = omega (arith, place, h.size, below)

      same : was ≡ held m hart (set_of slot.key)
      same = read ∙ get_or_default m.sets number was [] inside
          ∙ ap (λ (i : ℕ). get_or m.sets i []) place

pub cache_filled : (m : Cache) (hart number : ℕ) (slot : Slot) (was now : List Slot) → IsCache m
    → hart < m.harts → found m hart slot.key ≡ None
    → number ≡ set_number hart (set_of slot.key)
    → was ≡ get_or m.sets number was → now ≡ filled slot was
    → IsCache (record m { sets = set m.sets number now })
cache_filled m hart number slot was now h below new place read written =
    subst (λ (sets : List (List Slot)). IsCache (record m { sets = sets }))
    (sym (sets_filled m hart number slot was now h below place read written))
    (cache_after_fill m hart slot h below new)
