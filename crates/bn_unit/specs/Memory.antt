-- The memory of a unit, and what its accesses come to.
use Rattle.std.specs.Prelude.{◌≡◌, ◌≢◌, ℕ, ◌%◌, ◌<◌, Bool, true, false, List, Option, Some, None}
use Rattle.std.specs.Prelude.{Result, Ok, Err}
use Rattle.bn_types.specs.Numbers.{bytes_of, number_at}
use Rattle.bn_types.specs.declared.fault.Fault.{Fault}
use Rattle.bn_types.specs.declared.gpn.Gpn.{Gpn}
use Rattle.bn_types.specs.declared.width.Width.{Width}
use Rattle.bn_types.specs.declared.width.Width.TheVariants.{B1}
use Rattle.bn_model.specs.declared.place.Place.{Place}
use Rattle.bn_model.specs.declared.owner.Owner.{Owner}
use Rattle.bn_model.specs.Memory.{Memory}
use Rattle.bn_model.specs.Nesting.{Nested, contents, place}
use Rattle.bn_tlb.specs.Caching.{Cache}
use Rattle.bn_tlb.specs.Caching.{AllHeld}
use Rattle.bn_unit.specs.Holding.{IsRight}
use Rattle.bn_unit.specs.declared.spot.Spot.{Spot}

-- what stands behind a unit
pub record Backing : Type 0 where
  -- the machine's frames, with the nested tables in them
  pub nest : Nested
  -- the live modules, with what they declare
  pub live : List Owner
  -- the translations that the harts hold
  pub cache : Cache

-- the guest's memory
abbrev pub memory_of : Backing → Memory
memory_of b = record { pages = contents b.nest; owners = b.live }

-- what stands behind a view of the guest's pages
pub record Seen : Type 0 where
  pub nest : Nested
  pub live : List Owner

abbrev pub memory_seen : Seen → Memory
memory_seen v = record { pages = contents v.nest; owners = v.live }

-- the view of a unit's pages
abbrev pub seen_of : Backing → Seen
seen_of b = record { nest = b.nest; live = b.live }

-- every page of RAM has a frame
abbrev pub AllPlaced : Nested → Type 0
AllPlaced nest = (page : ℕ) → page < nest.ram → place nest page ≢ None

-- every page has a frame, the index of owners has a place for each, and each translation that is
-- held is right
pub record IsBacked (nest : Nested) (indexed : ℕ) (live : List Owner) (cache : Cache) : Type
    0 where
  pub placed : AllPlaced nest
  pub indexes : indexed ≡ nest.ram
  pub right : AllHeld (IsRight nest live) cache

-- what can be read of a page: its bytes, or nothing
abbrev pub bytes_if : Bool → List ℕ → Option (List ℕ)
bytes_if true bytes = Some bytes
bytes_if false bytes = None

-- three table words where it is read
abbrev pub words_if : Bool → ℕ
words_if true = 3
words_if false = 0

-- a device reaches a page that can be read
abbrev pub is_seen : Option (Option (List ℕ)) → Bool
is_seen None = false
is_seen (Some None) = false
is_seen (Some (Some bytes)) = true

-- the byte that it reads there
abbrev pub byte_seen : Option (Option (List ℕ)) → (offset : ℕ) → Option ℕ
byte_seen None offset = None
byte_seen (Some None) offset = None
byte_seen (Some (Some bytes)) offset = Some (number_at B1 bytes offset)

-- three table words where it reaches one
abbrev pub words_seen : Option (Option (List ℕ)) → ℕ
words_seen content = words_if (is_seen content)

-- an aligned access of this width at a place in RAM
pub record IsWithin (ram : ℕ) (place : Place) (width : Width) : Type 0 where
  pub page : place.page.0 < ram
  pub offset : place.offset < 4096
  pub aligned : place.offset % bytes_of width ≡ 0

-- a store answers as its access comes out
abbrev pub Completes : Result Unit Fault → Result Place Fault → Type 0
Completes (Ok done) (Ok place) = Unit {0}
Completes (Ok done) (Err fault) = ⊥
Completes (Err told) (Ok place) = ⊥
Completes (Err told) (Err fault) = told ≡ fault

-- the place of an address in a page
abbrev pub at_offset : ℕ → Result Gpn Fault → Result Place Fault
at_offset va (Ok page) = Ok (record { page = page; offset = va % 4096 })
at_offset va (Err fault) = Err fault

-- the place of an address in a page whose frame was found
abbrev pub place_at : ℕ → Result Spot Fault → Result Place Fault
place_at va (Ok spot) = Ok (record { page = spot.page; offset = va % 4096 })
place_at va (Err fault) = Err fault

-- a page of RAM with its frame
pub record IsSpot (nest : Nested) (spot : Spot) : Type 0 where
  pub inside : spot.page.0 < nest.ram
  pub frame : place nest spot.page.0 ≡ Some spot.frame
