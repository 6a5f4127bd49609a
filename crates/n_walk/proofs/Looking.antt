-- What a walk of the tables finds.
use Rattle.std.proofs.Common.{◌≡◌, ℕ, ◌+◌, ◌*◌, ◌/◌, ◌%◌, ◌^◌, ◌<◌, ◌≤◌, Bool, true, false, nat_lt}
use Rattle.std.proofs.Common.{nat_eq, List, Option, Some, None, refl, sym, ap, ◌∙◌, arith}
use Rattle.std.proofs.lemmas.Bool.{le-ltb, lt-ltb, eqb-true, eq-eqb}
use Rattle.bn_types.specs.declared.frame.Frame.{Frame}
use Rattle.bn_model.specs.Nesting.{Nested, entry_at, leaf_to, low_entry, low_tables, placed_in}
use Rattle.bn_model.specs.Nesting.{place, frame_of, pointer_to, middle_when}
use Rattle.n_walk.specs.Holding.{Holds}

-- a page outside RAM has no frame
pub placed-outside : (ram : ℕ) (frames : List (List ℕ)) (page : ℕ) → ram ≤ page
    → None ≡ placed_in ram frames page
unfolding placed_in
placed-outside ram frames page past =
    let out : nat_lt page ram ≡ false = le-ltb page ram past in rw out refl

-- the place of a page in RAM is what its entry says
pub placed-here : (ram : ℕ) (frames : List (List ℕ)) (page : ℕ) → page < ram
    → placed_in ram frames page ≡ frame_of (low_entry frames page)
unfolding placed_in
placed-here ram frames page lt =
    let inside : nat_lt page ram ≡ true = lt-ltb page ram lt in rw inside refl

-- an entry of a low table has a frame's number as its PPN
pub leaf-fits : (n : Nested) → Holds n → (page : ℕ) → page < n.ram
    → low_entry n.frames page / 2 ^ 10 < 2 ^ 32
leaf-fits n h page lt = go (place n page) refl where
  go : (p : Option Frame) → place n page ≡ p → low_entry n.frames page / 2 ^ 10 < 2 ^ 32
  go None e =
      let entry : low_entry n.frames page ≡ 0 = h.nested.tree.low page (omega arith)
      ∙ ap leaf_to e in omega arith
  go (Some frame) e =
      let entry : low_entry n.frames page ≡ frame.0 * 2 ^ 10 + 0xDF =
      h.nested.tree.low page (omega arith) ∙ ap leaf_to e in
      let small = h.nested.inside page frame e in
      let few = h.few in
      omega arith

-- the three entries that a walk reads
pub walked : (n : Nested) → Holds n → (page first second third : ℕ) → page < n.ram
    → first ≡ entry_at n.frames ((524288 + page) / 262144 / 512) ((524288 + page) / 262144 % 512)
    → second ≡ entry_at n.frames (first / 1024) ((524288 + page) / 512 % 512)
    → third ≡ entry_at n.frames (second / 1024) ((524288 + page) % 512)
    → third ≡ low_entry n.frames page
walked n h page first second third lt a b c =
    let most = h.most in
    let root : (524288 + page) / 262144 ≡ 2 = omega arith in
    let one : first ≡ 4097 = a ∙ rw root (h.nested.tree.root 2 (omega arith)) in
    let to_middle : first / 1024 ≡ 4 = omega arith in
    let index : (524288 + page) / 512 % 512 ≡ page / 512 = omega arith in
    let two : second ≡ pointer_to (5 + page / 512) =
    b ∙ rw (to_middle, index) (h.nested.tree.middle (page / 512) (omega arith))
    ∙ (let inside : nat_lt (page / 512) (low_tables n.ram) ≡ true =
    lt-ltb (page / 512) (low_tables n.ram) (omega arith) in
    ap (λ (t : Bool). middle_when t (page / 512)) inside) in
    let to_low : second / 1024 ≡ 5 + page / 512 = omega arith in
    let last : (524288 + page) % 512 ≡ page % 512 = omega arith in
    c ∙ rw (to_low, last) refl

-- what an entry that isn't 0 says, and what 0 says
pub found : (entry leaf : ℕ) → leaf ≡ entry → (leaf ≡ 0 → ⊥)
    → ◌≡◌ {A = Option Frame} (Some (record { 0 = leaf / 1024 })) (frame_of entry)
found entry leaf e ne =
    let some : nat_eq entry 0 ≡ false = not_zero (nat_eq entry 0) refl in
    rw (some, e) refl
  where
    not_zero : (b : Bool) → nat_eq entry 0 ≡ b → nat_eq entry 0 ≡ false
    not_zero true t = absurd (ne (e ∙ eqb-true entry 0 t))
    not_zero false t = t

pub found_none : (entry leaf : ℕ) → leaf ≡ entry → leaf ≡ 0
    → ◌≡◌ {A = Option Frame} None (frame_of entry)
found_none entry leaf e z =
    let none : nat_eq entry 0 ≡ true = eq-eqb entry 0 (sym e ∙ z) in
    rw none refl

-- the frame of a page that has one
pub leaf-place : (ram : ℕ) (frames : List (List ℕ)) (page : ℕ) → page < ram
    → (placed_in ram frames page ≡ None → ⊥)
    → placed_in ram frames page ≡ Some (record { 0 = low_entry frames page / 2 ^ 10 })
leaf-place ram frames page lt ne =
    placed-here ram frames page lt
    ∙ sym (found (low_entry frames page) (low_entry frames page) refl
    (λ z. ne (placed-here ram frames page lt
    ∙ sym (found_none (low_entry frames page) (low_entry frames page) refl z))))
