-- The translations that are held: each set of each hart as a list, the one filled first in front.
use Rattle.std.specs.Prelude.{◌≡◌, ℕ, ◌+◌, ◌*◌, ◌%◌, ◌<◌, ◌≤◌, ◌==◌, Bool, true, false, not}
use Rattle.std.specs.Prelude.{◌&&◌, ◌||◌, List, [], ◌∷◌, ◌++◌, length, map, drop, filter, find}
use Rattle.std.specs.Prelude.{get_or, replicate, slice_set, Option, Some, None, ⊤}
use Rattle.std.specs.List.{All, list_any}
use Rattle.bn_types.specs.declared.gpn.Gpn.{Gpn}
use Rattle.bn_tlb.specs.declared.entry.Entry.{Entry}
use Rattle.bn_tlb.specs.declared.key.Key.{Key}
use Rattle.bn_tlb.specs.declared.slot.Slot.{Slot}

-- hart 0's 64 sets, then hart 1's, and so on
pub record Cache : Type 0 where
  pub harts : ℕ
  pub sets : List (List Slot)

abbrev pub empty_cache : (harts : ℕ) → Cache
empty_cache harts = record { harts = harts; sets = replicate (64 * harts) [] }

abbrev pub set_number : (hart set : ℕ) → ℕ
set_number hart set = 64 * hart + set

-- what a set of a hart holds
abbrev pub held : Cache → (hart set : ℕ) → List Slot
held m hart set = get_or m.sets (set_number hart set) []

-- the low six bits of the virtual page
abbrev pub set_of : Key → ℕ
set_of key = key.vpn.0 % 64

-- ---- a look-up

abbrev pub is_key : Key → Key → Bool
is_key one other =
    one.vpn.0 == other.vpn.0 && one.satp == other.satp && one.«module».0 == other.«module».0

abbrev pub is_at : Key → Slot → Bool
is_at key slot = is_key slot.key key

abbrev pub entry_if : Option Slot → Option Entry
entry_if (Some slot) = Some slot.entry
entry_if None = None

abbrev pub entry_at : Key → List Slot → Option Entry
entry_at key slots = entry_if (find (is_at key) slots)

-- what a hart holds at a key
abbrev pub found : Cache → (hart : ℕ) → Key → Option Entry
found m hart key = entry_at key (held m hart (set_of key))

-- ---- a fill

abbrev pub with_room_if : Bool → List Slot → List Slot
with_room_if true slots = drop 1 slots
with_room_if false slots = slots

-- of four the one that was filled first leaves
abbrev pub with_room : List Slot → List Slot
with_room slots = with_room_if (length slots == 4) slots

abbrev pub filled : Slot → List Slot → List Slot
filled slot slots = with_room slots ++ slot ∷ []

-- the key's set has one more, and all other sets are as they were
abbrev pub after_fill : Cache → (hart : ℕ) → Slot → Cache
after_fill m hart slot =
    let set = set_of slot.key in
    record m {
      sets = slice_set m.sets (set_number hart set) (filled slot (held m hart set));
    }

-- ---- drops

abbrev pub is_page : ℕ → Gpn → Bool
is_page page gpn = gpn.0 == page

-- its walk read the page
abbrev pub is_walked : ℕ → Slot → Bool
is_walked page slot = list_any (is_page page) slot.entry.tables.items

abbrev pub leads_to : ℕ → Slot → Bool
leads_to page slot = slot.entry.page.0 == page

abbrev pub touches : ℕ → Slot → Bool
touches page slot = leads_to page slot || is_walked page slot

abbrev pub is_of : (id : ℕ) → Slot → Bool
is_of id slot = slot.key.«module».0 == id

abbrev pub stays : (Slot → Bool) → Slot → Bool
stays leaves slot = not (leaves slot)

-- a set without those that leave
abbrev pub without : (Slot → Bool) → List Slot → List Slot
without leaves slots = filter (stays leaves) slots

-- every set of every hart is without them
abbrev pub after_drop : (Slot → Bool) → Cache → Cache
after_drop leaves m = record m { sets = map (without leaves) m.sets }

-- ---- what always holds

-- a fact of each translation that is held
abbrev pub AllHeld : (Slot → Type 0) → Cache → Type 0
AllHeld P m = All (λ (slots : List Slot). All P slots) m.sets

-- no key is held twice
abbrev pub HeldOnce : List Slot → Type 0
HeldOnce [] = ⊤
HeldOnce (slot ∷ slots) = (find (is_at slot.key) slots ≡ None) × HeldOnce slots

pub record IsSet (set : ℕ) (slots : List Slot) : Type 0 where
  pub few : length slots ≤ 4
  -- each key lies in its own set
  pub own : All (λ (slot : Slot). set_of slot.key ≡ set) slots
  pub once : HeldOnce slots

pub record IsCache (m : Cache) : Type 0 where
  pub size : length m.sets ≡ 64 * m.harts
  pub sets : (hart set : ℕ) → set < 64 → IsSet set (held m hart set)
