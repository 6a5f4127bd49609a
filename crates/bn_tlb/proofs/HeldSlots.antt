-- What holds of each translation that is held.
use Rattle.std.proofs.Common.{◌≡◌, ℕ, ◌*◌, ◌<◌, ◌≤◌, ◌==◌, ◌⊎◌, inl, inr, Bool, true, false}
use Rattle.std.proofs.Common.{List, [], length, get_or, Option, Some, None, refl, sym, ap, ◌∙◌}
use Rattle.std.proofs.Common.{subst, eqb-true}
use Rattle.std.proofs.lemmas.Bool.{cases_lt, not-true}
use Rattle.std.proofs.lemmas.List.{get_or_past}
use Rattle.std.proofs.lemmas.List.Elements.{All-drop, All-filter, All-get_or, All-map, All-nil}
use Rattle.std.proofs.lemmas.List.Elements.{All-push, All-replicate, All-set, All-weaker}
use Rattle.std.proofs.lemmas.List.Elements.{filter_passes}
use Rattle.std.specs.List.{All}
use Rattle.std.specs.Prelude.{find}
use Rattle.bn_model.proofs.ClaimLemmas.{three-true}
use Rattle.bn_model.proofs.MembershipLemmas.{all-has, has-find}
use Rattle.bn_model.proofs.TestLemmas.{find-passes}
use Rattle.bn_tlb.specs.declared.entry.Entry.{Entry}
use Rattle.bn_tlb.specs.declared.key.Key.{Key}
use Rattle.bn_tlb.specs.declared.slot.Slot.{Slot}
use Rattle.bn_tlb.specs.Caching.{AllHeld, Cache, after_drop, after_fill, empty_cache, entry_if, filled, found}
use Rattle.bn_tlb.specs.Caching.{held, is_at, is_key, set_number, set_of, stays, with_room}
use Rattle.bn_tlb.specs.Caching.{with_room_if, without}

-- what is the same in each part is the same
pub same-key : (one other : Key) → is_key one other ≡ true → one ≡ other
same-key one other same =
    let parts = three-true _ _ _ same in
    ap (λ (n : ℕ). let k : Key = record one { vpn = record { 0 = n } } in k)
    (eqb-true one.vpn.0 other.vpn.0 parts.0)
    ∙ ap (λ (n : ℕ). let k : Key = record one { vpn = other.vpn; satp = n } in k)
    (eqb-true one.satp other.satp parts.1)
    ∙ ap (λ (n : ℕ). let k : Key = record other { «module» = record { 0 = n } } in k)
    (eqb-true one.«module».0 other.«module».0 parts.2)

-- each translation of each set
abbrev pub AllIn : (Slot → Type 0) → List Slot → Type 0
AllIn P slots = All P slots

pub held-weaker : (P Q : Slot → Type 0) → ((slot : Slot) → P slot → Q slot) → (m : Cache)
    → AllHeld P m → AllHeld Q m
held-weaker P Q weaker m all =
    All-weaker (AllIn P) (AllIn Q) (λ slots h. All-weaker P Q weaker slots h) m.sets all

-- what stays after a drop
pub held-dropped : (P Q : Slot → Type 0) (leaves : Slot → Bool)
    → ((slot : Slot) → P slot → leaves slot ≡ false → Q slot)
    → (m : Cache) → AllHeld P m → AllHeld Q (after_drop leaves m)
held-dropped P Q leaves kept m all =
    All-map (AllIn Q) (without leaves) m.sets
    (All-weaker (AllIn P) (λ slots. AllIn Q (without leaves slots)) one m.sets all) where
      one : (slots : List Slot) → AllIn P slots → AllIn Q (without leaves slots)
      one slots h = λ k d below.
          kept _ (All-filter (stays leaves) P slots h k d below)
          (not-true _ (filter_passes (stays leaves) slots k d below))

module _ (P : Slot → Type 0) (m : Cache) (all : AllHeld P m) where
  in-set : (n : ℕ) → AllIn P (get_or m.sets n [])
  in-set n = by_place (cases_lt n (length m.sets)) where
    by_place : (n < length m.sets) ⊎ (length m.sets ≤ n) → AllIn P (get_or m.sets n [])
    by_place (inl inside) = All-get_or (AllIn P) m.sets n [] inside all
    by_place (inr past) = subst (AllIn P) (sym (get_or_past m.sets n [] past)) (All-nil P)

  -- what is there after a fill
  pub held-filled : (hart : ℕ) (slot : Slot) → P slot → AllHeld P (after_fill m hart slot)
  held-filled hart slot h =
      All-set (AllIn P) m.sets (set_number hart (set_of slot.key)) (filled slot was)
      (All-push P (with_room was) slot (room (length was == 4)) h) all where
        was : List Slot
        was = held m hart (set_of slot.key)

        room : (b : Bool) → AllIn P (with_room_if b was)
        room true = All-drop P 1 was (in-set (set_number hart (set_of slot.key)))
        room false = in-set (set_number hart (set_of slot.key))

  -- what is found
  pub held-found : (hart : ℕ) (key : Key) (entry : Entry) → found m hart key ≡ Some entry
      → P (record { key = key; entry = entry })
  held-found hart key entry e = go (find (is_at key) was) refl e where
    was : List Slot
    was = held m hart (set_of key)

    same-slot : (slot : Slot) → is_at key slot ≡ true → Some slot.entry ≡ Some entry
        → slot ≡ record { key = key; entry = entry }
    same-slot slot at is =
        let e : slot.entry ≡ entry = cc in
        ap (λ (k : Key). let s : Slot = record slot { key = k } in s) (same-key slot.key key at)
        ∙ ap (λ (x : Entry). let s : Slot = record { key = key; entry = x } in s) e

    go : (r : Option Slot) → find (is_at key) was ≡ r → entry_if r ≡ Some entry
        → P (record { key = key; entry = entry })
    go None f is = cc
    go (Some slot) f is =
        subst P (same-slot slot (find-passes (is_at key) was slot f) is)
        (all-has P was slot (in-set (set_number hart (set_of key)))
        (has-find (is_at key) was slot f))

pub held-none : (P : Slot → Type 0) (harts : ℕ) → AllHeld P (empty_cache harts)
held-none P harts = All-replicate (AllIn P) (64 * harts) [] (All-nil P)
