-- A machine as a value: its parts, and the state of the flat machine for which they stand.
use Rattle.std.specs.Prelude.{◌≡◌, ℕ, ◌<◌, List, length, Some}
use Rattle.std.specs.List.{All}
use Rattle.bn_types.specs.declared.decl.Decl.{Decl}
use Rattle.bn_types.specs.declared.judged.Judged.{Judged}
use Rattle.bn_types.specs.declared.mod_id.ModId.{ModId}
use Rattle.bn_types.specs.declared.row.Row.{Row}
use Rattle.bn_types.specs.declared.row_state.RowState.TheVariants.{Stopped}
use Rattle.bn_types.specs.declared.sbi_ask.SbiAsk.{SbiAsk}
use Rattle.bn_types.specs.declared.sbi_ask.SbiAsk.TheVariants as ask
use Rattle.bn_model.specs.Nesting.{IsNested}
use Rattle.bn_model.specs.Rows.{owners}
use Rattle.bn_model.specs.Standing.{Parts, StandsFor, state_of}
use Rattle.bn_model.specs.Soundness.{state_at}
use Rattle.bn_model.specs.State.{Hart, State, hart_at, untrusted}
use Rattle.bn_unit.specs.Holding.{AllHeld, Cache, IsCache, IsRight}
use Rattle.bn_unit.specs.Memory.{Backing}

pub record Standing : Type 0 where
  pub parts : Parts
  pub state : State
  -- the translations that the harts hold
  pub cache : Cache

abbrev pub standing : Parts → Cache → Standing
standing parts cache = record { parts = parts; state = state_of parts; cache = cache }

-- the parts stand for the state; each hart holds translations of its own, and what each of them
-- says is what the tables, the placement and the modules' declarations give now
pub record IsMachine (m : Standing) : Type 0 where
  pub stands : StandsFor m.parts m.state
  pub right : AllHeld (IsRight m.parts.nest (owners m.parts.rows)) m.cache
  pub sets : IsCache m.cache
  pub harts : m.cache.harts ≡ length m.state.harts

-- the nested tables lead as their placement says, the memory unit knows what the live modules
-- declare, there is a hart, and the memory unit knows how many there are
pub record HasParts (unit : Backing) (rows : List Row) (harts : List Hart) : Type 0 where
  pub nested : IsNested unit.nest
  pub owned : unit.live ≡ owners rows
  pub some : 0 < length harts
  -- each hart holds translations of its own
  pub held : unit.cache.harts ≡ length harts

-- there is room for a launched module and an id, and its pages lie in RAM
pub record HasRoomFor (s : State) (judged : Judged) : Type 0 where
  pub room : length s.rows < 15
  pub ids : s.next < 65536
  pub inside : All (λ (decl : Decl). decl.gpn.0 < length s.pages) judged.decls.items

-- module m is stopped, and hart h runs the untrusted world
pub record MayResume (s : State) (h : ℕ) (id : ModId) : Type 0 where
  pub outside : (hart_at s h).current ≡ untrusted
  pub stopped : state_at s.rows id.0 ≡ Some Stopped

-- there is a hart of this number, and it runs the untrusted world
pub record MayStart (s : State) (target : ℕ) : Type 0 where
  pub within : target < length s.harts
  pub outside : (hart_at s target).current ≡ untrusted

-- what a call to the hypervisor asks for starts such a hart alone
abbrev pub MayBeAsked : State → SbiAsk → Type 0
MayBeAsked s (ask.Start target pc opaque) = MayStart s target
MayBeAsked s asked = Unit {0}
