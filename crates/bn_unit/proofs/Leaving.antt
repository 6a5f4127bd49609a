-- Translations that leave one after another.
use Rattle.std.proofs.Common.{◌≡◌, ℕ, zero, suc, ◌+◌, ◌<◌, ◌≤◌, ◌==◌, ◌||◌, ◌⊎◌, inl, inr, Bool, true}
use Rattle.std.proofs.Common.{false, List, [], ◌∷◌, length, drop, get_or, refl, sym, ap, ◌∙◌}
use Rattle.std.proofs.Common.{arith, add-one, drop-cons, drop_of_length-le}
use Rattle.std.proofs.lemmas.Bool.{cases_eq}
use Rattle.std.proofs.lemmas.Bool.Decides.{nat_tests}
use Rattle.bn_types.specs.declared.decl.Decl.{Decl}
use Rattle.bn_types.specs.declared.row.Row.{Row}
use Rattle.bn_model.specs.declared.owner.Owner.{Owner}
use Rattle.bn_model.specs.Evicting.{is_among}
use Rattle.bn_model.specs.Soundness.{Has}
use Rattle.bn_tlb.specs.Caching.{Cache, after_drop, is_of, touches}
use Rattle.bn_tlb.specs.declared.slot.Slot.{Slot}
use Rattle.bn_unit.specs.Dropping.{cache_if, cache_left, cache_of_others, cache_without, is_left_by}
use Rattle.bn_tlb.specs.Caching.{AllHeld}
use Rattle.bn_tlb.proofs.HeldSlots.{held-dropped, held-weaker}

-- ---- one more

first-of : {X : Type 0} (xs : List X) (i : ℕ) (x : X) → i < length xs → x ≡ get_or xs i x
    → drop i xs ≡ x ∷ drop (i + 1) xs
first-of xs i x inside is =
    drop-cons xs i x inside
    ∙ ap (λ (first : _). first ∷ drop (suc i) xs) (sym is)
    ∙ ap (λ (n : ℕ). x ∷ drop n xs) (sym (add-one i))

pub without-more : (decls : List Decl) (i : ℕ) (d : Decl) (m now all : Cache)
    → i < length decls → now ≡ after_drop (touches (get_or decls i d).gpn.0) m
    → cache_without (drop i decls) m ≡ all → cache_without (drop (i + 1) decls) now ≡ all
without-more decls i d m now all inside dropped e =
    let first : drop i decls ≡ get_or decls i d ∷ drop (i + 1) decls =
    drop-cons decls i d inside
    ∙ ap (λ (n : ℕ). get_or decls i d ∷ drop n decls) (sym (add-one i)) in
    ap (cache_without (drop (i + 1) decls)) dropped
    ∙ sym (ap (λ (rest : List Decl). cache_without rest m) first) ∙ e

pub without-all : (decls : List Decl) (i : ℕ) (m all : Cache) → length decls ≤ i
    → cache_without (drop i decls) m ≡ all → m ≡ all
without-all decls i m all past e =
    sym (ap (λ (rest : List Decl). cache_without rest m) (drop_of_length-le decls past)) ∙ e

pub others-more : (gone : List Row) (i : ℕ) (row : Row) (m now all : Cache)
    → i < length gone → row ≡ get_or gone i row → now ≡ after_drop (is_of row.id.0) m
    → cache_of_others (drop i gone) m ≡ all → cache_of_others (drop (i + 1) gone) now ≡ all
others-more gone i row m now all inside is dropped e =
    ap (cache_of_others (drop (i + 1) gone)) dropped
    ∙ sym (ap (λ (rest : List Row). cache_of_others rest m) (first-of gone i row inside is)) ∙ e

pub others-all : (gone : List Row) (i : ℕ) (m all : Cache) → length gone ≤ i
    → cache_of_others (drop i gone) m ≡ all → m ≡ all
others-all gone i m all past e =
    sym (ap (λ (rest : List Row). cache_of_others rest m) (drop_of_length-le gone past)) ∙ e

pub left-next : (gone : List Row) (live : List Owner) (page : ℕ) (old m now : Cache)
    → m ≡ cache_left gone live page old → now ≡ cache_if (is_left_by gone live page) page m
    → now ≡ cache_left gone live (page + 1) old
left-next gone live page old m now e is =
    is ∙ ap (cache_if (is_left_by gone live page) page) e
    ∙ ap (λ (n : ℕ). cache_left gone live n old) (sym (add-one page))

-- ---- how many harts there are

pub harts-without : (decls : List Decl) (m : Cache) → (cache_without decls m).harts ≡ m.harts
harts-without [] m = refl
harts-without (decl ∷ decls) m = harts-without decls (after_drop (touches decl.gpn.0) m)

pub harts-others : (gone : List Row) (m : Cache) → (cache_of_others gone m).harts ≡ m.harts
harts-others [] m = refl
harts-others (row ∷ gone) m = harts-others gone (after_drop (is_of row.id.0) m)

pub harts-left : (gone : List Row) (live : List Owner) (count : ℕ) (m : Cache)
    → (cache_left gone live count m).harts ≡ m.harts
harts-left gone live zero m = refl
harts-left gone live (suc page) m =
    go (is_left_by gone live page) ∙ harts-left gone live page m where
      go : (b : Bool) → (cache_if b page (cache_left gone live page m)).harts
          ≡ (cache_left gone live page m).harts
      go true = refl
      go false = refl

-- ---- what stays

-- it neither leads to a declared page nor was walked through one
abbrev pub Untouched : List Decl → Slot → Type 0
Untouched decls slot = (decl : Decl) → Has decl decls → touches decl.gpn.0 slot ≡ false

pub held-without : (P : Slot → Type 0) (decls : List Decl) (m : Cache) → AllHeld P m
    → AllHeld (λ slot. P slot × Untouched decls slot) (cache_without decls m)
held-without P [] m all =
    held-weaker P (λ slot. P slot × Untouched [] slot) (λ slot h. (h, λ decl has. absurd has)) m all
held-without P (first ∷ decls) m all =
    held-weaker (λ slot. (P slot × (touches first.gpn.0 slot ≡ false)) × Untouched decls slot)
    (λ slot. P slot × Untouched (first ∷ decls) slot)
    (λ slot h. (h.0.0, λ decl has. by_place slot h.0.1 h.1 decl has))
    (cache_without decls (after_drop (touches first.gpn.0) m))
    (held-without (λ slot. P slot × (touches first.gpn.0 slot ≡ false)) decls
    (after_drop (touches first.gpn.0) m)
    (held-dropped P (λ slot. P slot × (touches first.gpn.0 slot ≡ false)) (touches first.gpn.0)
    (λ slot h missed. (h, missed)) m all)) where
      by_place : (slot : Slot) → touches first.gpn.0 slot ≡ false → Untouched decls slot
          → (decl : Decl) → (decl ≡ first) ⊎ Has decl decls → touches decl.gpn.0 slot ≡ false
      by_place slot missed others decl (inl is) =
          ap (λ (d : Decl). touches d.gpn.0 slot) is ∙ missed
      by_place slot missed others decl (inr has) = others decl has

-- it neither leads to one of the first pages that are left nor was walked through one
abbrev pub Remains : List Row → List Owner → (count : ℕ) → Slot → Type 0
Remains gone live count slot =
    (page : ℕ) → page < count → is_left_by gone live page ≡ true → touches page slot ≡ false

pub held-left : (P : Slot → Type 0) (gone : List Row) (live : List Owner) (count : ℕ) (m : Cache)
    → AllHeld P m
    → AllHeld (λ slot. P slot × Remains gone live count slot) (cache_left gone live count m)
held-left P gone live zero m all =
    held-weaker P (λ slot. P slot × Remains gone live 0 slot)
    (λ slot h. (h, λ page below. absurd (omega (arith, below)))) m all
held-left P gone live (suc count) m all =
    go (is_left_by gone live count) refl (held-left P gone live count m all) where
      before : Cache
      before = cache_left gone live count m

      Was : Slot → Type 0
      Was slot = P slot × Remains gone live count slot

      Is : Slot → Type 0
      Is slot = P slot × Remains gone live (suc count) slot

      one-more : (slot : Slot)
          → (is_left_by gone live count ≡ true → touches count slot ≡ false)
          → Remains gone live count slot → Remains gone live (suc count) slot
      one-more slot last others page below left =
          by_place (cases_eq page count) where
            by_place : (page ≡ count) ⊎ (page ≡ count → ⊥) → touches page slot ≡ false
            by_place (inl same) =
                ap (λ (n : ℕ). touches n slot) same
                ∙ last (ap (is_left_by gone live) (sym same) ∙ left)
            by_place (inr apart) =
                others page (omega (arith, below, apart)) left

      go : (b : Bool) → is_left_by gone live count ≡ b → AllHeld Was before
          → AllHeld Is (cache_if b count before)
      go true is h =
          held-dropped Was Is (touches count)
          (λ slot was missed. (was.0, one-more slot (λ left. missed) was.1)) before h
      go false is h =
          held-weaker Was Is
          (λ slot was. (
            was.0,
            one-more slot
                (λ left. absurd (let clash : true ≡ false = sym left ∙ is in cc)) was.1,
          )) before h

-- it is held for none of the modules that go
pub held-others : (P : Slot → Type 0) (gone : List Row) (m : Cache) → AllHeld P m
    → AllHeld (λ slot. P slot × (is_among gone slot.key.«module».0 ≡ false))
    (cache_of_others gone m)
held-others P [] m all =
    held-weaker P (λ slot. P slot × (is_among [] slot.key.«module».0 ≡ false))
    (λ slot h. (h, refl)) m all
held-others P (row ∷ gone) m all =
    held-weaker
    (λ slot. (P slot × (is_of row.id.0 slot ≡ false))
    × (is_among gone slot.key.«module».0 ≡ false))
    (λ slot. P slot × (is_among (row ∷ gone) slot.key.«module».0 ≡ false))
    (λ slot h. (h.0.0, neither slot h.0.1 h.1))
    (cache_of_others gone (after_drop (is_of row.id.0) m))
    (held-others (λ slot. P slot × (is_of row.id.0 slot ≡ false)) gone
    (after_drop (is_of row.id.0) m)
    (held-dropped P (λ slot. P slot × (is_of row.id.0 slot ≡ false)) (is_of row.id.0)
    (λ slot h missed. (h, missed)) m all)) where
      neither : (slot : Slot) → is_of row.id.0 slot ≡ false
          → is_among gone slot.key.«module».0 ≡ false
          → is_among (row ∷ gone) slot.key.«module».0 ≡ false
      neither slot missed others =
          let swapped : (row.id.0 == slot.key.«module».0) ≡ (slot.key.«module».0 == row.id.0) =
          grind (arith, nat_tests) in
          ap (λ (b : Bool). b || is_among gone slot.key.«module».0) (swapped ∙ missed) ∙ others
