-- The two areas of a vault, which may not tell them, and what its calls do to them.
use Rattle.std.specs.Prelude.{◌≡◌, ℕ, ◌≤◌, List, length, Option, Some, None, IsSomeAnd}
use Rattle.std.proofs.lemmas.Option.{none-some}
use Rattle.bn_edge.specs.declared.area.Area.{Area}
use Rattle.bn_edge.specs.declared.area.Area.TheVariants.{First, Second}

-- the bytes of both
pub record Areas : Type 0 where
  pub first : List ℕ
  pub second : List ℕ

-- the most bytes of an area
abbrev pub area_room : ℕ
area_room = 65536

abbrev pub area_at : Area → Areas → List ℕ
area_at First areas = areas.first
area_at Second areas = areas.second

abbrev pub other_area : Area → Area
other_area First = Second
other_area Second = First

-- both have room
abbrev pub Fit : Areas → Type 0
Fit areas = (length areas.first ≤ area_room) × (length areas.second ≤ area_room)

-- the areas with this text in one of them
abbrev pub with_area : Area → List ℕ → Areas → Areas
with_area First text areas = record areas { first = text }
with_area Second text areas = record areas { second = text }

-- an area may hold any bytes, as many as fit, and the other one stays
pub record IsTorn (area : Area) (old new : Areas) : Type 0 where
  pub stays : area_at (other_area area) new ≡ area_at (other_area area) old
  pub fits : length (area_at area new) ≤ area_room

-- ---- what calls say, where the areas are told

-- a read gives the area
abbrev pub GivesArea : Option Areas → Area → List ℕ → Type 0
GivesArea None area bytes = Unit {0}
GivesArea (Some areas) area bytes = bytes ≡ area_at area areas

-- the areas once a text is written to one of them
abbrev pub written : Area → List ℕ → Option Areas → Option Areas
written area text None = None
written area text (Some areas) = Some (with_area area text areas)

-- the areas after a write that failed
abbrev pub MayBeTorn : Area → Option Areas → Option Areas → Type 0
MayBeTorn area None new = new ≡ None
MayBeTorn area (Some old) new = IsSomeAnd new (IsTorn area old)

-- where nothing is told, it says nothing
pub none_told : (a : Areas) → None ≡ Some a → Fit a
none_told a told = absurd (none-some a told)
