-- A table of live modules, and how its rows change.
use Rattle.std.specs.Prelude.{◌≡◌, ℕ, zero, suc, ◌≤◌, Bool, length, List, Option, Some, None}
use Rattle.bn_types.specs.declared.digest.Digest.{Digest}
use Rattle.bn_types.specs.declared.rights.Rights.{Rights}
use Rattle.bn_types.specs.declared.row.Row.{Row}
use Rattle.bn_types.specs.declared.row_state.RowState.{RowState}
use Rattle.bn_types.specs.declared.row_state.RowState.TheVariants.{Idle, Running, Waiting, Stopped}
use Rattle.bn_model.specs.Blanking.{blank_row}
use Rattle.bn_model.specs.Launching.{has_identity, offers}
use Rattle.bn_model.specs.Rows.{enclave_of, enclaves, with_row}
use Rattle.bn_model.specs.Soundness.{Ascend, caller_at, state_at}
use Rattle.bn_model.specs.Switching.{row_after_answer, row_after_call, row_after_return}
use Rattle.bn_model.specs.Switching.{row_after_stop, row_after_wait}
use Rattle.bn_table.specs.declared.change.Change.{Change}
use Rattle.bn_table.specs.declared.change.Change.TheVariants as act

-- the rows of live modules in the order of their ids, and the next id
pub record Tabled : Type 0 where
  pub rows : List Row
  pub next : ℕ

pub record IsTable (m : Tabled) : Type 0 where
  pub few : length m.rows ≤ 15
  pub first : 1 ≤ m.next
  pub last : m.next ≤ 65536
  -- ids strictly ascend, are at least 1 and below the next id
  pub ascend : Ascend zero (enclaves m.rows) m.next
  -- an idle module has no caller
  pub idle : (id : ℕ) → state_at m.rows id ≡ Some Idle → caller_at m.rows id ≡ zero
  -- a module's caller is live and waits for it
  pub called : (id c : ℕ) → caller_at m.rows id ≡ suc c → state_at m.rows (suc c) ≡ Some
      (Waiting (record { 0 = id }))

-- ---- what a call asks of a module's state

abbrev pub IsRunning : Option RowState → Type 0
IsRunning None = ⊥
IsRunning (Some Idle) = ⊥
IsRunning (Some (Running hart)) = Unit {0}
IsRunning (Some (Waiting callee)) = ⊥
IsRunning (Some Stopped) = ⊥

-- it waits for a module that is idle
abbrev pub IsAnswered : List Row → Option RowState → Type 0
IsAnswered rows None = ⊥
IsAnswered rows (Some Idle) = ⊥
IsAnswered rows (Some (Running hart)) = ⊥
IsAnswered rows (Some (Waiting callee)) = state_at rows callee.0 ≡ Some Idle
IsAnswered rows (Some Stopped) = ⊥

-- the untrusted world may call a module, and a module that waits for it
abbrev pub MayCall : List Row → (caller id : ℕ) → Type 0
MayCall rows zero id = Unit {0}
MayCall rows (suc c) id = state_at rows (suc c) ≡ Some (Waiting (record { 0 = id }))

-- ---- changes of a row

abbrev pub changed : Change → Row → Row
changed (act.Call hart caller back) = row_after_call hart caller back
changed (act.Wait frame callee) = row_after_wait frame callee.0
changed act.Return = row_after_return
changed (act.Run hart) = row_after_answer hart
changed (act.Stop frame) = row_after_stop frame
changed act.Blank = blank_row

abbrev pub with_change : Tabled → ℕ → Change → Tabled
with_change m id change = record m { rows = with_row id (changed change) m.rows }

-- ---- searches

abbrev pub row_offers : Digest → ℕ → Rights → Row → Bool
row_offers who page rights row = offers who page rights (enclave_of row)

abbrev pub row_has_identity : Digest → Row → Bool
row_has_identity who row = has_identity who (enclave_of row)
