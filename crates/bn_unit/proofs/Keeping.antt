-- What is filled is held.
use Rattle.std.proofs.Common.{◌≡◌, ℕ, ◌<◌, ◌==◌, Bool, true, false, List, [], ◌∷◌, ◌++◌, length}
use Rattle.std.proofs.Common.{arith, refl, ap, ◌∙◌}
use Rattle.std.proofs.lemmas.Bool.Decides.{nat_tests}
use Rattle.std.proofs.lemmas.List.{get_or-set_same}
use Rattle.std.specs.Option.{is_some}
use Rattle.std.specs.Prelude.{find}
use Rattle.bn_types.specs.declared.asker.Asker.{Asker}
use Rattle.bn_tlb.specs.declared.entry.Entry.{Entry}
use Rattle.bn_tlb.specs.declared.key.Key.{Key}
use Rattle.bn_tlb.specs.declared.slot.Slot.{Slot}
use Rattle.bn_tlb.specs.Caching.{Cache, IsCache, after_fill, entry_if, filled, found, held, is_at}
use Rattle.bn_tlb.specs.Caching.{is_key, set_number, set_of, with_room}
use Rattle.bn_unit.specs.Holding.{is_held, key_of}

same-number : (n : ℕ) → (n == n) ≡ true
same-number n = grind (arith, nat_tests)

same-key : (key : Key) → is_key key key ≡ true
same-key key =
    rw (same-number key.vpn.0, same-number key.satp, same-number key.«module».0) refl

-- whatever stands before a slot, something is found at its key
some-at : (key : Key) (slots : List Slot) (slot : Slot) → is_at key slot ≡ true
    → is_some (entry_if (find (is_at key) (slots ++ slot ∷ []))) ≡ true
some-at key [] slot e = rw e refl
some-at key (first ∷ slots) slot e = by_test (is_at key first) refl (some-at key slots slot e) where
  by_test : (b : Bool) → is_at key first ≡ b
      → is_some (entry_if (find (is_at key) (slots ++ slot ∷ []))) ≡ true
      → is_some (entry_if (find (is_at key) (first ∷ slots ++ slot ∷ []))) ≡ true
  by_test true t more = rw t refl
  by_test false t more = rw t more

found-filled : (m : Cache) (hart : ℕ) (slot : Slot) → IsCache m → hart < m.harts
    → is_some (found (after_fill m hart slot) hart slot.key) ≡ true
found-filled m hart slot sets below =
    let number = set_number hart (set_of slot.key) in
    let now = filled slot (held m hart (set_of slot.key)) in
    let inside : number < length m.sets = omega (arith, sets.size, below) in
    ap (λ (slots : List Slot). is_some (entry_if (find (is_at slot.key) slots)))
    (get_or-set_same m.sets number now [] inside)
    ∙ some-at slot.key (with_room (held m hart (set_of slot.key))) slot (same-key slot.key)

pub held-filled : (m now : Cache) (who : Asker) (va : ℕ) (key : Key) (entry : Entry) → IsCache m
    → who.hart < m.harts → key ≡ key_of who va
    → now ≡ after_fill m who.hart (record { key = key; entry = entry })
    → is_held now who va ≡ true
held-filled m now who va key entry sets below is filled =
    ap (λ (cache : Cache). is_held cache who va)
    (filled ∙ ap (λ (k : Key). after_fill m who.hart (record { key = k; entry = entry })) is)
    ∙ found-filled m who.hart (record { key = key_of who va; entry = entry }) sets below
