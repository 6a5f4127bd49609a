-- What a set keeps when a translation is filled and when some leave.
use Rattle.std.proofs.Common.{◌≡◌, cond, ℕ, ◌<◌, ◌==◌, Bool, true, false}
use Rattle.std.proofs.Common.{◌&&◌, List, [], ◌∷◌, ◌++◌, length, drop, filter, refl, sym, ◌∙◌}
use Rattle.std.proofs.Common.{arith, Option, Some, None}
use Rattle.std.specs.Prelude.{find}
use Rattle.std.proofs.lemmas.Bool.Decides.{nat_tests}
use Rattle.std.proofs.lemmas.List.{length-append, length-drop}
use Rattle.std.proofs.lemmas.List.Elements.{All-drop, All-filter, All-push}
use Rattle.std.proofs.lemmas.List.Folds.{find-append}
use Rattle.std.proofs.lemmas.Option.{none-some}
use Rattle.bn_model.proofs.Chains.{length-thinned}
use Rattle.bn_tlb.specs.declared.slot.Slot.{Slot}
use Rattle.bn_tlb.specs.Caching.{HeldOnce, IsSet, entry_at, entry_if, filled, is_at, set_of}
use Rattle.bn_tlb.specs.Caching.{stays, with_room_if, without}

-- ---- look-ups that find nothing

misses-head : {X : Type 0} (p : X → Bool) (x : X) (xs : List X) → find p (x ∷ xs) ≡ None
    → p x ≡ false
misses-head p x xs none = by_test (p x) none where
  by_test : (b : Bool) → cond b (Some x) (find p xs) ≡ None → b ≡ false
  by_test true e = absurd (none-some x (sym e))
  by_test false e = refl

misses-tail : {X : Type 0} (p : X → Bool) (x : X) (xs : List X) → find p (x ∷ xs) ≡ None
    → find p xs ≡ None
misses-tail p x xs none = by_test (p x) none where
  by_test : (b : Bool) → cond b (Some x) (find p xs) ≡ None → find p xs ≡ None
  by_test true e = absurd (none-some x (sym e))
  by_test false e = e

misses-filter : {X : Type 0} (p q : X → Bool) (xs : List X) → find p xs ≡ None
    → find p (filter q xs) ≡ None
misses-filter p q [] none = refl
misses-filter p q (x ∷ xs) none =
    by_test (q x) (misses-head p x xs none)
    (misses-filter p q xs (misses-tail p x xs none)) where
      by_test : (b : Bool) → p x ≡ false → find p (filter q xs) ≡ None
          → find p (cond b (x ∷ filter q xs) (filter q xs)) ≡ None
      by_test true other rest = rw other rest
      by_test false other rest = rest

misses-push : {X : Type 0} (p : X → Bool) (xs : List X) (x : X) → find p xs ≡ None
    → p x ≡ false
    → find p (xs ++ x ∷ []) ≡ None
misses-push p xs x none other = find-append p xs (x ∷ []) ∙ rw (none, other) refl

misses-drop : {X : Type 0} (p : X → Bool) (xs : List X) → find p xs ≡ None
    → find p (drop 1 xs) ≡ None
misses-drop p [] none = refl
misses-drop p (x ∷ xs) none = misses-tail p x xs none

no-entry : (slot : Option Slot) → entry_if slot ≡ None → slot ≡ None
no-entry (Some slot) e = absurd (none-some slot.entry (sym e))
no-entry None e = refl

-- ---- no key twice

same-either : (one other : Slot) → is_at one.key other ≡ is_at other.key one
same-either one other =
    sides (same one.key.vpn.0 other.key.vpn.0) (same one.key.satp other.key.satp)
    (same one.key.«module».0 other.key.«module».0) where
      same : (a b : ℕ) → (b == a) ≡ (a == b)
      same a b = grind (arith, nat_tests)

      sides : {a b c d e f : Bool} → a ≡ b → c ≡ d → e ≡ f → (a && c && e) ≡ (b && d && f)
      sides p q r = rw (p, q, r) refl

once-filter : (p : Slot → Bool) (slots : List Slot) → HeldOnce slots → HeldOnce (filter p slots)
once-filter p [] h = h
once-filter p (slot ∷ slots) h =
    by_test (p slot) (misses-filter (is_at slot.key) p slots h.0) (once-filter p slots h.1) where
      by_test : (b : Bool) → find (is_at slot.key) (filter p slots) ≡ None
          → HeldOnce (filter p slots)
          → HeldOnce (cond b (slot ∷ filter p slots) (filter p slots))
      by_test true none rest = (none, rest)
      by_test false none rest = rest

once-drop : (slots : List Slot) → HeldOnce slots → HeldOnce (drop 1 slots)
once-drop [] h = h
once-drop (slot ∷ slots) h = h.1

once-push : (slots : List Slot) (slot : Slot) → HeldOnce slots → find (is_at slot.key) slots ≡ None
    → HeldOnce (slots ++ slot ∷ [])
once-push [] slot h none = (refl, h)
once-push (first ∷ slots) slot h none =
    let other : is_at first.key slot ≡ false = same-either first slot
    ∙ misses-head (is_at slot.key) first slots none in (
      misses-push (is_at first.key) slots slot h.0 other,
      once-push slots slot h.1 (misses-tail (is_at slot.key) first slots none),
    )

-- ---- sets

abbrev lies : ℕ → Slot → Type 0
lies set slot = set_of slot.key ≡ set

pub set-without : (leaves : Slot → Bool) (set : ℕ) (slots : List Slot) → IsSet set slots
    → IsSet set (without leaves slots)
set-without leaves set slots h = record {
  few = let fewer = length-thinned (stays leaves) slots in omega (arith, fewer, h.few);
  own = All-filter (stays leaves) (lies set) slots h.own;
  once = once-filter (stays leaves) slots h.once;
}

set-push : (set : ℕ) (slots : List Slot) (slot : Slot) → IsSet set slots → length slots < 4
    → set_of slot.key ≡ set → find (is_at slot.key) slots ≡ None
    → IsSet set (slots ++ slot ∷ [])
set-push set slots slot h room own none = record {
  few = let more = length-append slots (slot ∷ []) in omega (arith, more, room);
  own = All-push (lies set) slots slot h.own own;
  once = once-push slots slot h.once none;
}

set-drop : (set : ℕ) (slots : List Slot) → IsSet set slots → IsSet set (drop 1 slots)
set-drop set slots h = record {
  few = let fewer = length-drop 1 slots in omega (arith, fewer, h.few);
  own = All-drop (lies set) 1 slots h.own;
  once = once-drop slots h.once;
}

pub set-filled : (set : ℕ) (slots : List Slot) (slot : Slot) → IsSet set slots
    → set_of slot.key ≡ set → entry_at slot.key slots ≡ None
    → IsSet set (filled slot slots)
set-filled set slots slot h own new =
    by_test (length slots == 4) refl where
      none : find (is_at slot.key) slots ≡ None
      none = no-entry (find (is_at slot.key) slots) new

      by_test : (b : Bool) → (length slots == 4) ≡ b
          → IsSet set (with_room_if b slots ++ slot ∷ [])
      by_test true full =
          let size = length-drop 1 slots in
          set-push set (drop 1 slots) slot (set-drop set slots h)
          (omega (arith, size, h.few)) own (misses-drop (is_at slot.key) slots none)
      by_test false some =
          let fewer : length slots < 4 = grind (arith, nat_tests, some, h.few) in
          set-push set slots slot h fewer own none
