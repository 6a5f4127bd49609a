use Rattle.std.proofs.Common.{◌≡◌, ℕ, ◌+◌, ◌*◌, ◌∷◌, [], ◌++◌, List, Result, length, ap, sym, ◌∙◌}
use Rattle.std.proofs.Common.{arith, append_assoc, append-nil}
use Rattle.bn_types.specs.declared.gpn.Gpn.{Gpn}
use Rattle.bn_model.proofs.Walks.{walk-invalid, walk-leaf, walk-pointer, walk-unread}
use Rattle.bn_model.specs.Walking.{WalkEnd, WalkFault, Walk, ends, through}
use Rattle.g_walk.proofs.structure.+descend.Goals as goal

-- a walk that ends at this level has read one table more
one-table : (tables pushed : List Gpn) (page : Gpn) (walk : Walk) (found : Result WalkEnd WalkFault)
    → pushed ≡ tables ++ page ∷ [] → walk ≡ through page (ends found)
    → pushed ≡ tables ++ walk.tables
one-table tables pushed page walk found is_pushed is_walk =
    is_pushed ∙ ap (λ (walk : Walk). tables ++ walk.tables) (sym is_walk)

one-step : (page : Gpn) (walk : Walk) (found : Result WalkEnd WalkFault) (old new : ℕ)
    → walk ≡ through page (ends found) → new ≡ old + 4 → new ≡ old + 4 * length walk.tables
one-step page walk found old new is_walk is_new =
    omega (arith, ap (λ (walk : Walk). length walk.tables) is_walk)

-- a walk that is refused at this level has read no more
no-step : (walk : Walk) (found : Result WalkEnd WalkFault) (old new : ℕ) → walk ≡ ends found
    → new ≡ old → new ≡ old + 4 * length walk.tables
no-step walk found old new is_walk is_new =
    omega (arith, ap (λ (walk : Walk). length walk.tables) is_walk)

-- a walk that goes on has read one table, and what it reads from there on
more-tables : (tables pushed all : List Gpn) (page : Gpn) (walk deep : Walk)
    → pushed ≡ tables ++ page ∷ [] → all ≡ pushed ++ deep.tables → walk ≡ through page deep
    → all ≡ tables ++ walk.tables
more-tables tables pushed all page walk deep is_pushed is_all is_walk =
    is_all ∙
    ap (λ (front : List Gpn). front ++ deep.tables) is_pushed ∙
    append_assoc tables (page ∷ []) deep.tables ∙
    ap (λ (walk : Walk). tables ++ walk.tables) (sym is_walk)

more-steps : (page : Gpn) (walk deep : Walk) (old middle new : ℕ) → walk ≡ through page deep
    → middle ≡ old + 4 → new ≡ middle + 4 * length deep.tables → new ≡ old + 4 * length walk.tables
more-steps page walk deep old middle new is_walk is_middle is_new =
    omega (arith, ap (λ (walk : Walk). length walk.tables) is_walk)

pub returns-in_default-clause-leaf : goal.returns-in_default-clause-leaf
returns-in_default-clause-leaf g t c =
    ap (λ (walk : Walk). walk.found) (sym (walk-unread _ _ _ _ c.in_default.ensures.entry))

pub returns-in_default-clause-tables : goal.returns-in_default-clause-tables
returns-in_default-clause-tables g t c =
    sym (append-nil _) ∙ ap (λ (walk : Walk). c.args.tables.now.items ++ walk.tables)
    (sym (walk-unread _ _ _ _ c.in_default.ensures.entry))

pub returns-in_default-clause-steps : goal.returns-in_default-clause-steps
returns-in_default-clause-steps g t c =
    no-step _ _ _ _ (walk-unread _ _ _ _ c.in_default.ensures.entry) c.in_default.ensures.none

pub returns-in-Invalid-clause-leaf : goal.returns-in-Invalid-clause-leaf
returns-in-Invalid-clause-leaf g t c =
    ap (λ (walk : Walk). walk.found)
    (sym (walk-invalid _ _ _ _ _ _ c.in-Some.ensures.entry c.in-Invalid.ensures))

pub returns-in-Invalid-clause-tables : goal.returns-in-Invalid-clause-tables
returns-in-Invalid-clause-tables g t c =
    one-table _ _ _ _ _ c.push.ensures.items
    (walk-invalid _ _ _ _ _ _ c.in-Some.ensures.entry c.in-Invalid.ensures)

pub returns-in-Invalid-clause-steps : goal.returns-in-Invalid-clause-steps
returns-in-Invalid-clause-steps g t c =
    one-step _ _ _ _ _ (walk-invalid _ _ _ _ _ _ c.in-Some.ensures.entry c.in-Invalid.ensures)
    c.in-Some.ensures.some

pub returns-in-Leaf-clause-leaf : goal.returns-in-Leaf-clause-leaf
returns-in-Leaf-clause-leaf g t c =
    c.end_at.ensures ∙ ap (λ (walk : Walk). walk.found)
    (sym (walk-leaf _ _ _ _ _ _ c.in-Some.ensures.entry c.in-Leaf.ensures))

pub returns-in-Leaf-clause-tables : goal.returns-in-Leaf-clause-tables
returns-in-Leaf-clause-tables g t c =
    one-table _ _ _ _ _ c.push.ensures.items
    (walk-leaf _ _ _ _ _ _ c.in-Some.ensures.entry c.in-Leaf.ensures)

pub returns-in-Leaf-clause-steps : goal.returns-in-Leaf-clause-steps
returns-in-Leaf-clause-steps g t c =
    one-step _ _ _ _ _ (walk-leaf _ _ _ _ _ _ c.in-Some.ensures.entry c.in-Leaf.ensures)
    c.in-Some.ensures.some

pub returns-in-Pointer-clause-leaf : goal.returns-in-Pointer-clause-leaf
returns-in-Pointer-clause-leaf g t c =
    c.descend.ensures.leaf ∙
    ap (λ (walk : Walk). walk.found)
    (sym (walk-pointer _ _ _ _ _ _ _ c.in-Some.ensures.entry c.in-Pointer.ensures c.ppn_in.ensures))

pub returns-in-Pointer-clause-tables : goal.returns-in-Pointer-clause-tables
returns-in-Pointer-clause-tables g t c =
    more-tables _ _ _ _ _ _ c.push.ensures.items c.descend.ensures.tables
    (walk-pointer _ _ _ _ _ _ _ c.in-Some.ensures.entry c.in-Pointer.ensures c.ppn_in.ensures)

pub returns-in-Pointer-clause-steps : goal.returns-in-Pointer-clause-steps
returns-in-Pointer-clause-steps g t c =
    more-steps _ _ _ _ _ _
    (walk-pointer _ _ _ _ _ _ _ c.in-Some.ensures.entry c.in-Pointer.ensures c.ppn_in.ensures)
    c.in-Some.ensures.some c.descend.ensures.steps
