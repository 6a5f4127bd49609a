-- The pages that walks read are marked.
use Rattle.std.proofs.Common.{◌≡◌, cond, ℕ, zero, suc, ◌+◌, ◌<◌, ◌≤◌, ◌==◌, Bool, true}
use Rattle.std.proofs.Common.{false, None, take_all, not, List, [], ◌∷◌, length, map, take, get_or, set, refl}
use Rattle.std.proofs.Common.{sym, ap, ap₂, ◌∙◌, subst, eq-eqb, eqb-true, ◌||◌}
use Rattle.std.proofs.lemmas.Bool.{both_ways, false_from_ne_true}
use Rattle.std.proofs.lemmas.List.Elements.{All-head, All-more, All-tail}
use Rattle.std.proofs.lemmas.List.Folds.{list_any_at}
use Rattle.std.specs.List.{All, list_any}
use Rattle.std.specs.Prelude.{slice_set}
use Rattle.bn_types.specs.declared.gpn.Gpn.{Gpn}
use Rattle.bn_tlb.specs.declared.slot.Slot.{Slot}
use Rattle.bn_tlb.specs.Caching.{AllHeld, Cache, after_drop, after_fill, filled, found, is_page, is_walked, set_number, set_of}
use Rattle.bn_tlb.specs.Caching.{without}
use Rattle.bn_tlb.specs.Marking.{AreMarked, HasMarks, IsKept, is_marked}
use Rattle.bn_tlb.proofs.CacheLemmas.{cache_filled, sets_filled}
use Rattle.bn_tlb.proofs.HeldSlots.{AllIn, held-dropped, held-filled, held-weaker}

-- ---- one page more

pub marked-set : (marks : List Bool) (page other : ℕ) → is_marked marks other ≡ true
    → is_marked (slice_set marks page true) other ≡ true
marked-set [] page other e = refl
marked-set (mark ∷ marks) zero zero e = refl
marked-set (mark ∷ marks) zero (suc other) e = e
marked-set (mark ∷ marks) (suc page) zero e = e
marked-set (mark ∷ marks) (suc page) (suc other) e = marked-set marks page other e

pub marked-now : (marks : List Bool) (page : ℕ) → is_marked (slice_set marks page true) page ≡ true
marked-now [] page = refl
marked-now (mark ∷ marks) zero = refl
marked-now (mark ∷ marks) (suc page) = marked-now marks page

pub marked-apart : (marks : List Bool) (page other : ℕ) → (other ≡ page → ⊥)
    → is_marked marks other ≡ true → is_marked (slice_set marks page false) other ≡ true
marked-apart [] page other apart e = refl
marked-apart (mark ∷ marks) zero zero apart e = absurd (apart refl)
marked-apart (mark ∷ marks) zero (suc other) apart e = e
marked-apart (mark ∷ marks) (suc page) zero apart e = e
marked-apart (mark ∷ marks) (suc page) (suc other) apart e =
    marked-apart marks page other (λ is. apart (ap suc is)) e

-- the next of several pages is marked
pub marks-more : (pages : List Gpn) (i : ℕ) (d : Gpn) (first old new : List Bool)
    → i < length pages → new ≡ slice_set old (get_or pages i d).0 true
    → AreMarked old (take i pages)
    × ((page : ℕ) → is_marked first page ≡ true → is_marked old page ≡ true)
    → AreMarked new (take (i + 1) pages)
    × ((page : ℕ) → is_marked first page ≡ true → is_marked new page ≡ true)
marks-more pages i d first old new below e h =
    let page : ℕ = (get_or pages i d).0 in (
      subst (λ (marks : List Bool). AreMarked marks (take (i + 1) pages)) (sym e)
          (All-more (λ (t : Gpn). is_marked (slice_set old page true) t.0 ≡ true) pages i d below
          (λ k x lt. marked-set old page (get_or (take i pages) k x).0 (h.0 k x lt))
          (marked-now old page)),
      λ other was. ap (λ (marks : List Bool). is_marked marks other) e
          ∙ marked-set old page other (h.1 other was),
    )

pub marks-all : (pages : List Gpn) (i : ℕ) (marks : List Bool) → length pages ≤ i
    → AreMarked marks (take i pages) → AreMarked marks pages
marks-all pages i marks past h =
    subst (AreMarked marks) (take_all i pages past) h

-- ---- all that are held

pub held-marked : (m : Cache) (old new : List Bool) (hart : ℕ) (slot : Slot)
    → ((page : ℕ) → is_marked old page ≡ true → is_marked new page ≡ true)
    → HasMarks new slot → AllHeld (HasMarks old) m → AllHeld (HasMarks new) (after_fill m hart slot)
held-marked m old new hart slot kept marked all =
    held-filled (HasMarks new) m
    (held-weaker (HasMarks old) (HasMarks new)
    (λ slot h. λ k d below. kept (get_or slot.entry.tables.items k d).0 (h k d below)) m all) hart
    slot marked

pub held-cleared : (m : Cache) (marks : List Bool) (page : ℕ) → AllHeld (HasMarks marks) m
    → AllHeld (HasMarks (slice_set marks page false)) (after_drop (is_walked page) m)
held-cleared m marks page all =
    held-dropped (HasMarks marks) (HasMarks (slice_set marks page false)) (is_walked page)
    (λ slot h missed. λ k d below.
    marked-apart marks page (get_or slot.entry.tables.items k d).0
    (λ is. both_ways (is_walked page slot) missed
    (list_any_at (is_page page) slot.entry.tables.items k d below
    (eq-eqb (get_or slot.entry.tables.items k d).0 page is))) (h k d below)) m all

-- ---- a page without a mark is a table of none

unread : (marks : List Bool) (page : ℕ) → is_marked marks page ≡ false → (tables : List Gpn)
    → AreMarked marks tables → list_any (is_page page) tables ≡ false
unread marks page none [] all = refl
unread marks page none (table ∷ tables) all =
    ap₂ (λ (b c : Bool). b || c)
    (false_from_ne_true (table.0 == page) (λ is. both_ways (is_marked marks page) none
    (ap (is_marked marks) (sym (eqb-true table.0 page is))
    ∙ All-head (λ (t : Gpn). is_marked marks t.0 ≡ true) table tables all)))
    (unread marks page none tables
    (All-tail (λ (t : Gpn). is_marked marks t.0 ≡ true) table tables all))

all-stay : (leaves : Slot → Bool) (slots : List Slot) → AllIn (λ slot. leaves slot ≡ false) slots
    → without leaves slots ≡ slots
all-stay leaves [] all = refl
all-stay leaves (slot ∷ slots) all =
    ap (λ (b : Bool). cond (not b) (slot ∷ without leaves slots) (without leaves slots))
    (All-head (λ (s : Slot). leaves s ≡ false) slot slots all)
    ∙ ap (λ (rest : List Slot). slot ∷ rest)
    (all-stay leaves slots (All-tail (λ (s : Slot). leaves s ≡ false) slot slots all))

sets-stay : (leaves : Slot → Bool) (sets : List (List Slot))
    → All (AllIn (λ slot. leaves slot ≡ false)) sets → map (without leaves) sets ≡ sets
sets-stay leaves [] all = refl
sets-stay leaves (slots ∷ sets) all =
    ap₂ (λ (x : List Slot) (xs : List (List Slot)). x ∷ xs)
    (all-stay leaves slots (All-head (AllIn (λ slot. leaves slot ≡ false)) slots sets all))
    (sets-stay leaves sets (All-tail (AllIn (λ slot. leaves slot ≡ false)) slots sets all))

pub unmarked-stay : (m : Cache) (marks : List Bool) (page : ℕ) → is_marked marks page ≡ false
    → AllHeld (HasMarks marks) m → m ≡ after_drop (is_walked page) m
unmarked-stay m marks page none all =
    ap (λ (sets : List (List Slot)). let c : Cache = record m { sets = sets } in c)
    (sym (sets-stay (is_walked page) m.sets
    (held-weaker (HasMarks marks) (λ slot. is_walked page slot ≡ false)
    (λ slot h. unread marks page none slot.entry.tables.items h) m all)))

pub kept-filled : (m : Cache) (old new : List Bool) (hart number : ℕ) (slot : Slot)
    (was now : List Slot) → IsKept m old → hart < m.harts → found m hart slot.key ≡ None
    → number ≡ set_number hart (set_of slot.key)
    → was ≡ get_or m.sets number was → now ≡ filled slot was
    → ((page : ℕ) → is_marked old page ≡ true → is_marked new page ≡ true) → HasMarks new slot
    → IsKept (record m { sets = set m.sets number now }) new
kept-filled m old new hart number slot was now h below missed place read written kept marked =
    record {
      cache = cache_filled m hart number slot was now h.cache below missed place read written;
      marked = subst
          (λ (sets : List (List Slot)). AllHeld (HasMarks new) (record m { sets = sets }))
          (sym (sets_filled m hart number slot was now h.cache below place read written))
          (held-marked m old new hart slot kept marked h.marked);
    }
