-- What a walk finds at one level, by the entry there.
use Rattle.std.proofs.Common.{◌≡◌, ℕ, zero, suc, ◌-◌, Bool, true, false, List, Option, Ok, Err, sym}
use Rattle.std.proofs.Common.{◌∙◌, ap, arith}
use Rattle.bn_types.specs.declared.gpn.Gpn.{Gpn}
use Rattle.bn_model.specs.Entries.{EntryKind, Invalid, LeafEntry, Pointer, entry_kind}
use Rattle.bn_model.specs.Entries.{kind_by_flags, leaf_kind, ppn_of}
use Rattle.bn_model.specs.Walking.{Entry, NoLeaf, Refused, Unread, ends, entry_at, leaf_end}
use Rattle.bn_model.specs.Walking.{through, walk_from, walk_on}

pub walk-unread : (pages : List (Option (List ℕ))) (va level ppn : ℕ)
    → Unread ≡ entry_at pages va level ppn → walk_from pages va level ppn ≡ ends (Err Refused)
unfolding walk_on
walk-unread pages va level ppn e = ap (walk_on pages va level) (sym e)

-- the entry with its kind told
walk-kind : (pages : List (Option (List ℕ))) (va level ppn : ℕ) (page : Gpn) (word : ℕ)
    (kind : EntryKind) → Entry page word (entry_kind level word) ≡ entry_at pages va level ppn
    → kind ≡ entry_kind level word
    → walk_from pages va level ppn ≡ walk_on pages va level (Entry page word kind)
walk-kind pages va level ppn page word kind e is_kind =
    ap (walk_on pages va level) (sym e)
    ∙ ap (λ (kind : EntryKind). walk_on pages va level (Entry page word kind)) (sym is_kind)

pub walk-invalid : (pages : List (Option (List ℕ))) (va level ppn : ℕ) (page : Gpn) (word : ℕ)
    → Entry page word (entry_kind level word) ≡ entry_at pages va level ppn
    → Invalid ≡ entry_kind level word
    → walk_from pages va level ppn ≡ through page (ends (Err NoLeaf))
unfolding walk_on
walk-invalid pages va level ppn page word e is_kind =
    walk-kind pages va level ppn page word Invalid e is_kind

pub walk-leaf : (pages : List (Option (List ℕ))) (va level ppn : ℕ) (page : Gpn) (word : ℕ)
    → Entry page word (entry_kind level word) ≡ entry_at pages va level ppn
    → LeafEntry ≡ entry_kind level word
    → walk_from pages va level ppn ≡ through page (ends (Ok (leaf_end va level word)))
unfolding walk_on
walk-leaf pages va level ppn page word e is_kind =
    walk-kind pages va level ppn page word LeafEntry e is_kind

leaf_kind-no : (aligned : Bool) → Pointer ≡ leaf_kind aligned → ⊥
leaf_kind-no true e = cc
leaf_kind-no false e = cc

kind-no : (word : ℕ) (bad leaf : Bool) → Pointer ≡ kind_by_flags 0 word bad leaf → ⊥
kind-no word true leaf e = cc
kind-no word false true e = leaf_kind-no _ e
kind-no word false false e = cc

-- the last level has no pointers
last-level : (word : ℕ) → Pointer ≡ entry_kind 0 word → ⊥
last-level word e = kind-no word _ _ e

-- a pointer leads to the next table
pub walk-pointer : (pages : List (Option (List ℕ))) (va level ppn next : ℕ) (page : Gpn) (word : ℕ)
    → Entry page word (entry_kind level word) ≡ entry_at pages va level ppn
    → Pointer ≡ entry_kind level word → next ≡ ppn_of word
    → walk_from pages va level ppn ≡ through page (walk_from pages va (level - 1) next)
unfolding walk_on
walk-pointer pages va zero ppn next page word e is_kind is_next = absurd (last-level word is_kind)
walk-pointer pages va (suc level) ppn next page word e is_kind is_next =
    walk-kind pages va (suc level) ppn page word Pointer e is_kind ∙
    ap (λ (deep : ℕ). through page (walk_from pages va deep (ppn_of word))) (omega arith) ∙
    ap (λ (ppn : ℕ). through page (walk_from pages va (suc level - 1) ppn)) (sym is_next)
