-- A context as a part of a hart of the flat machine.
use Rattle.std.specs.Prelude.{◌≡◌, ◌≢◌, true, List, Option, Some, None}
use Rattle.bn_types.specs.declared.mod_id.ModId.{ModId}
use Rattle.bn_types.specs.declared.row.Row.{Row}
use Rattle.bn_model.specs.Soundness.{state_at}
use Rattle.bn_model.specs.State.{Hart, resting_hart, untrusted}
use Rattle.bn_table.specs.Tables.{IsRunning}
use Rattle.bn_switch.specs.declared.context.Context.{Context}

-- the module of a seat
abbrev pub module_in : Option ModId → ModId
module_in None = untrusted
module_in (Some id) = id

-- a seat is a module's: the untrusted world has none
abbrev pub IsOfModule : Option ModId → Type 0
IsOfModule None = Unit {0}
IsOfModule (Some id) = id.0 ≢ 0

-- a hart that stands in a context; what else a hart has plays no part
abbrev pub hart_of : Context → Hart
hart_of context = record resting_hart {
  regs = context.regs;
  pc = context.pc;
  mode = context.mode;
  started = true;
  current = module_in context.seat;
}

-- a hart stands in a context
pub record StandsIn (context : Context) (hart : Hart) : Type 0 where
  pub regs : context.regs ≡ hart.regs
  pub pc : context.pc ≡ hart.pc
  pub mode : context.mode ≡ hart.mode
  pub current : module_in context.seat ≡ hart.current
  pub inside : IsOfModule context.seat

-- a seat is that of a module that runs; the untrusted world has none
abbrev pub IsSeated : List Row → Option ModId → Type 0
IsSeated rows None = Unit {0}
IsSeated rows (Some id) = IsRunning (state_at rows id.0)

-- there is a seat, of a module that runs
abbrev pub HasSeat : List Row → Option ModId → Type 0
HasSeat rows None = ⊥
HasSeat rows (Some id) = IsRunning (state_at rows id.0)
