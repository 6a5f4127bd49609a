-- Sets that are kept from the newest on. Where no key is held twice, the newest translation at a
-- key is the only one.
use Rattle.std.proofs.Common.{◌≡◌, Bool, true, false, List, [], ◌∷◌, Option, Some, None, refl}
use Rattle.std.proofs.Common.{ap, subst, sym, arith, ◌∙◌, ◌++◌, ◌≤◌, length}
use Rattle.std.proofs.lemmas.List.{append-nil, reverse-append}
use Rattle.std.proofs.lemmas.List.Elements.{filter-append}
use Rattle.std.proofs.lemmas.List.Folds.{find-append}
use Rattle.std.specs.Option.{option_or}
use Rattle.std.specs.Prelude.{filter, find, reverse, take}
use Rattle.bn_tlb.specs.declared.key.Key.{Key}
use Rattle.bn_tlb.specs.declared.slot.Slot.{Slot}
use Rattle.bn_tlb.specs.Caching.{HeldOnce, is_at, with_room}
use Rattle.bn_tlb.proofs.HeldSlots.{same-key}

by_end : (key : Key) (slot : Slot) (slots : List Slot)
    → find (is_at key) (reverse (slot ∷ slots))
    ≡ option_or (find (is_at key) (reverse slots)) (find (is_at key) (slot ∷ []))
by_end key slot slots =
    ap (find (is_at key)) (reverse-append (slot ∷ []) slots)
    ∙ find-append (is_at key) (reverse slots) (slot ∷ [])

or-none : {A : Type 0} (found : Option A) → option_or found None ≡ found
or-none None = refl
or-none (Some one) = refl

pub newest-found : (key : Key) (slots : List Slot) → HeldOnce slots
    → find (is_at key) (reverse slots) ≡ find (is_at key) slots
newest-found key [] once = refl
newest-found key (slot ∷ slots) once =
    by_end key slot slots
    ∙ ap (λ (found : Option Slot). option_or found (find (is_at key) (slot ∷ [])))
    (newest-found key slots once.1)
    ∙ by_test (is_at key slot) refl
  where
    by_test : (b : Bool) → is_at key slot ≡ b
        → option_or (find (is_at key) slots) (find (is_at key) (slot ∷ []))
        ≡ find (is_at key) (slot ∷ slots)
    by_test true e =
        let none : find (is_at key) slots ≡ None =
        subst (λ (k : Key). find (is_at k) slots ≡ None) (same-key slot.key key e) once.0 in
        rw (none, e) refl
    by_test false e = rw e (or-none (find (is_at key) slots))

-- with three slots at most before it there is room for a newest one
pub room-left : (slots : List Slot) → length slots ≤ 4
    → reverse (take 3 slots) ≡ with_room (reverse slots)
room-left [] few = refl
room-left (a ∷ []) few = refl
room-left (a ∷ b ∷ []) few = refl
room-left (a ∷ b ∷ c ∷ []) few = refl
room-left (a ∷ b ∷ c ∷ d ∷ []) few = refl
room-left (a ∷ b ∷ c ∷ d ∷ e ∷ more) few = absurd (omega (arith, few))

pub newest-last : (slot : Slot) (slots : List Slot)
    → reverse (slot ∷ slots) ≡ reverse slots ++ slot ∷ []
newest-last slot slots = reverse-append (slot ∷ []) slots

pub filter-reverse : (p : Slot → Bool) (slots : List Slot)
    → reverse (filter p slots) ≡ filter p (reverse slots)
filter-reverse p [] = refl
filter-reverse p (slot ∷ slots) =
    by_test (filter-reverse p slots) (p slot) refl
    ∙ sym (ap (filter p) (newest-last slot slots)
    ∙ filter-append p (reverse slots) (slot ∷ []))
  where
    by_test : reverse (filter p slots) ≡ filter p (reverse slots)
        → (b : Bool) → p slot ≡ b
        → reverse (filter p (slot ∷ slots)) ≡ filter p (reverse slots) ++ filter p (slot ∷ [])
    by_test others true e =
        rw e (newest-last slot (filter p slots)
        ∙ ap (λ (kept : List Slot). kept ++ slot ∷ []) others)
    by_test others false e =
        rw e (others ∙ sym (append-nil (filter p (reverse slots))))
