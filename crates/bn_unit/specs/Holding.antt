-- The translations that harts hold: when they are right, and what an access makes of them.
use Rattle.std.specs.Prelude.{◌≡◌, ℕ, zero, suc, ◌+◌, ◌%◌, ◌<◌, Bool, true, false, List, Option}
use Rattle.std.specs.Prelude.{Some, None, Result, Ok, Err}
use Rattle.std.specs.Option.{is_some}
use Rattle.bn_types.specs.declared.asker.Asker.{Asker}
use Rattle.bn_types.specs.declared.fault.Fault.{Fault}
use Rattle.bn_types.specs.declared.kind.Kind.{Kind}
use Rattle.bn_model.specs.declared.owner.Owner.{Owner}
use Rattle.bn_model.specs.declared.place.Place.{Place}
use Rattle.bn_model.specs.Accessing.{denial, fault}
use Rattle.bn_model.specs.Admission.{admits, has_right}
use Rattle.bn_model.specs.Memory.{Memory, visible}
use Rattle.bn_model.specs.Nesting.{Nested, contents, place}
use Rattle.bn_model.specs.Owners.{is_live}
use Rattle.bn_model.specs.Walking.{Landing, leaf_of, page_fault, permits, vpn_of}
pub use Rattle.bn_tlb.specs.Caching.{AllHeld, Cache, IsCache}
use Rattle.bn_tlb.specs.Caching.{after_drop, after_fill, found, is_walked}
use Rattle.bn_tlb.specs.declared.entry.Entry.{Entry}
use Rattle.bn_tlb.specs.declared.key.Key.{Key}
use Rattle.bn_tlb.specs.declared.slot.Slot.{Slot}

-- ---- right translations

-- the leaf for which a translation stands: RAM begins at physical page 0x80000
abbrev pub landing_held : Entry → Landing
landing_held entry = record {
  ppn = 0x80000 + entry.page.0;
  flags = entry.flags;
  bare = entry.bare;
  tables = entry.tables.items;
}

-- the untrusted world, or a live module
abbrev pub is_known : List Owner → (id : ℕ) → Bool
is_known live zero = true
is_known live (suc id) = is_live live (suc id)

abbrev pub nested_memory : Nested → List Owner → Memory
nested_memory nest live = record { pages = contents nest; owners = live }

-- a translation is what the two stages and the rule of admission give now at its key
pub record IsRight (nest : Nested) (live : List Owner) (slot : Slot) : Type 0 where
  -- at each address of the page the guest's tables lead to this leaf, by these tables
  pub leaf :
      (va : ℕ) → vpn_of va ≡ slot.key.vpn.0 →
      leaf_of (visible (nested_memory nest live)) slot.key.satp va ≡ Ok (landing_held slot.entry)
  -- the leaf's page is in RAM, and lies on this frame
  pub inside : slot.entry.page.0 < nest.ram
  pub frame : place nest slot.entry.page.0 ≡ Some slot.entry.frame
  -- these kinds of access are admitted, and at least one of them
  pub rights :
      (kind : Kind) →
      has_right kind slot.entry.rights
      ≡ admits live slot.key.«module».0 slot.key.vpn.0 slot.entry.page.0 kind
  pub some : (kind : Kind) × (has_right kind slot.entry.rights ≡ true)
  -- the key's module is the untrusted world or lives
  pub known : is_known live slot.key.«module».0 ≡ true

-- ---- keys

abbrev pub key_of : Asker → (va : ℕ) → Key
key_of who va =
    record { «module» = who.«module»; satp = who.satp; vpn = record { 0 = vpn_of va } }

abbrev pub is_held : Cache → Asker → (va : ℕ) → Bool
is_held m who va = is_some (found m who.hart (key_of who va))

-- ---- an access at a key that is held

abbrev pub place_if_right : (admitted : Bool) → Entry → Kind → (va : ℕ) → Result Place Fault
place_if_right true entry kind va = Ok (record { page = entry.page; offset = va % 4096 })
place_if_right false entry kind va = denial kind va entry.page.0

abbrev pub place_if_permitted :
    (permitted admitted : Bool) → Entry → Kind → (va : ℕ) → Result Place Fault
place_if_permitted true admitted entry kind va = place_if_right admitted entry kind va
place_if_permitted false admitted entry kind va = fault (page_fault kind) va

-- the flags are judged by the mode, SUM and MXR of the one who asks now, the admission by the
-- rights that are held
abbrev pub place_held : Entry → Asker → Kind → (va : ℕ) → Result Place Fault
place_held entry who kind va =
    place_if_permitted (permits (landing_held entry) kind who.mode who.sum who.mxr)
    (has_right kind entry.rights) entry kind va

-- ---- what an access leaves

-- a success at a key that wasn't held is held from then on; of a full set the oldest key leaves
abbrev pub IsEntered : Result Place Fault → (old new : Cache) → (hart : ℕ) → Key → Type 0
IsEntered (Err refusal) old new hart key = new ≡ old
IsEntered (Ok place) old new hart key =
    (entry : Entry) × (new ≡ after_fill old hart (record { key = key; entry = entry }))

abbrev pub IsEnteredIf :
    (held : Bool) → Result Place Fault → (old new : Cache) → (hart : ℕ) → Key → Type 0
IsEnteredIf true reached old new hart key = new ≡ old
IsEnteredIf false reached old new hart key = IsEntered reached old new hart key

abbrev pub IsAfterAccess : Asker → (va : ℕ) → Result Place Fault → (old new : Cache) → Type 0
IsAfterAccess who va reached old new =
    IsEnteredIf (is_held old who va) reached old new who.hart (key_of who va)

-- the page that was written is a table of none
abbrev pub after_write : Result Place Fault → Cache → Cache
after_write (Err refusal) m = m
after_write (Ok place) m = after_drop (is_walked place.page.0) m

-- a poke that reaches its byte drops
abbrev pub after_poke : Option (Option (List ℕ)) → (page : ℕ) → Cache → Cache
after_poke None page m = m
after_poke (Some None) page m = m
after_poke (Some (Some bytes)) page m = after_drop (is_walked page) m

-- a store drops after it has entered its own key
abbrev pub IsAfterStore : Asker → (va : ℕ) → Result Place Fault → (old new : Cache) → Type 0
IsAfterStore who va reached old new =
    (entered : Cache) × IsAfterAccess who va reached old entered
    × (new ≡ after_write reached entered)

-- an access at a key that is held reads no table
abbrev pub words_if_missed : (held : Bool) → (words : ℕ) → ℕ
words_if_missed true words = 0
words_if_missed false words = words
