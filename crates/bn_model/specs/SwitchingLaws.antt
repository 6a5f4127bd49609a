-- How modules start and stop on harts.
use Rattle.std.specs.Prelude.{◌≡◌, ◌≢◌, ℕ, suc, ◌<◌, ◌≤◌, ◌⊎◌, Some, replicate, slice_index}
use Rattle.bn_types.specs.declared.event.Event.{Event}
use Rattle.bn_types.specs.declared.event.Event.TheVariants.{Turn}
use Rattle.bn_types.specs.declared.row.Row.{Row}
use Rattle.bn_types.specs.declared.row_state.RowState.TheVariants.{Idle, Waiting, Stopped}
use Rattle.bn_model.specs.Deciding.{decision_of}
use Rattle.bn_model.specs.Decision.{Decision, Trap, Deny}
use Rattle.bn_model.specs.Rows.{row_of}
use Rattle.bn_model.specs.Soundness.{Has, IsSound}
use Rattle.bn_model.specs.State.{Hart, State, frame_of, hart_at}
use Rattle.bn_model.specs.Stepping.{Fits, step}

-- ---- stops

-- a turn comes to a trap: an interrupt, an exception, or an access that isn't admitted
abbrev pub IsTrap : Decision → Type 0
IsTrap (Trap cause value) = Unit {0}
IsTrap (Deny kind va) = Unit {0}
IsTrap decision = ⊥

-- a hart is back in the untrusted world, with nothing in its registers
pub record IsCleared (hart : Hart) : Type 0 where
  pub outside : hart.current.0 ≡ 0
  pub registers : hart.regs.x ≡ replicate 32 0

-- a trap out of a module leaves the untrusted world none of its registers
abbrev pub StopsClear : Type 0
StopsClear =
    (s : State) (h m : ℕ) → (hart_at s h).current.0 ≡ suc m → IsTrap (decision_of s h) →
    IsCleared (hart_at (step s (Turn h)) h)

-- it keeps the module's registers, pc and mode in the module's row
abbrev pub StopsSave : Type 0
StopsSave =
    (s : State) (h m : ℕ) (row : Row) → (hart_at s h).current.0 ≡ suc m → IsTrap (decision_of s h) →
    row_of s.rows (suc m) ≡ Some row →
    row_of (step s (Turn h)).rows (suc m) ≡
    Some (record row { state = Stopped; saved = frame_of (hart_at s h) })

-- ---- starts

-- register x_r of a hart
abbrev pub register_at : Hart → ℕ → ℕ
register_at hart r = slice_index hart.regs.x r

-- an idle module starts at one of its entries and in its mode, with a0 to a7 of the call and
-- nothing else in its registers
pub record IsEntry (row : Row) (before after : Hart) : Type 0 where
  pub idle : row.state ≡ Idle
  pub entry : Has after.pc row.judged.entries.items
  pub mode : after.mode ≡ row.judged.mode
  pub arguments : (r : ℕ) → 10 ≤ r → r ≤ 17 → register_at after r ≡ register_at before r
  pub others : (r : ℕ) → (r < 10) ⊎ (17 < r) → r < 32 → register_at after r ≡ 0

-- a stopped module goes on as it was stopped
pub record IsSaved (row : Row) (after : Hart) : Type 0 where
  pub stopped : row.state ≡ Stopped
  pub pc : after.pc ≡ row.saved.pc
  pub mode : after.mode ≡ row.saved.mode
  pub registers : after.regs ≡ row.saved.regs

-- a waiting module goes on as it was, with a0 and a1 of the module that it called, which ran on
-- the hart
pub record IsBack (row : Row) (before after : Hart) : Type 0 where
  pub waited : row.state ≡ Waiting before.current
  pub pc : after.pc ≡ row.saved.pc
  pub mode : after.mode ≡ row.saved.mode
  pub answers : (r : ℕ) → (r ≡ 10) ⊎ (r ≡ 11) → register_at after r ≡ register_at before r
  pub others : (r : ℕ) → r ≢ 10 → r ≢ 11 → register_at after r ≡ slice_index row.saved.regs.x r

-- module m, which has this row, starts on a hart
pub record IsStart (s : State) (m : ℕ) (before after : Hart) : Type 0 where
  pub row : Row
  pub live : Has row s.rows
  pub whose : row.id.0 ≡ m
  pub starts : IsEntry row before after ⊎ (IsSaved row after ⊎ IsBack row before after)

-- a module starts only at an entry, as it was stopped, or back from the module that it called
abbrev pub ModulesStart : Type 0
ModulesStart =
    (s : State) (event : Event) (h m : ℕ) → Fits s event → IsSound s →
    (hart_at s h).current.0 ≢ suc m → (hart_at (step s event) h).current.0 ≡ suc m →
    IsStart s (suc m) (hart_at s h) (hart_at (step s event) h)
