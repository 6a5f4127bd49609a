-- Which pages may be tables of translations that are held: a write to any other drops nothing.
use Rattle.std.specs.Prelude.{◌≡◌, ℕ, Bool, true, List, slice_index_or}
use Rattle.std.specs.List.{All}
use Rattle.bn_types.specs.declared.gpn.Gpn.{Gpn}
use Rattle.bn_tlb.specs.Caching.{AllHeld, Cache, IsCache}
use Rattle.bn_tlb.specs.declared.slot.Slot.{Slot}

-- a page past the marks is taken for marked
abbrev pub is_marked : List Bool → (page : ℕ) → Bool
is_marked marks page = slice_index_or marks page true

abbrev pub AreMarked : List Bool → List Gpn → Type 0
AreMarked marks tables = All (λ (table : Gpn). is_marked marks table.0 ≡ true) tables

abbrev pub HasMarks : List Bool → Slot → Type 0
HasMarks marks slot = AreMarked marks slot.entry.tables.items

pub record IsKept (m : Cache) (marks : List Bool) : Type 0 where
  pub cache : IsCache m
  -- the pages that the walk of a translation read are marked
  pub marked : AllHeld (HasMarks marks) m
