-- Calls into modules and back, stops and resumptions (this project's own rules): what becomes of
-- the rows.
use Rattle.std.specs.Prelude.{ℕ, zero, suc, ◌==◌, Bool, true, false, ◌&&◌, find, List, Option, Some}
use Rattle.std.specs.Prelude.{None}
use Rattle.std.specs.List.{list_any}
use Rattle.bn_types.specs.Registers.{zero_frame}
use Rattle.bn_types.specs.declared.decl.Decl.{Decl}
use Rattle.bn_types.specs.declared.kind.Kind.TheVariants.{Fetch}
use Rattle.bn_types.specs.declared.mod_id.ModId.{ModId}
use Rattle.bn_types.specs.declared.mode.Mode.{Mode}
use Rattle.bn_types.specs.declared.mode.Mode.TheVariants.{U, S}
use Rattle.bn_types.specs.declared.row.Row.{Row}
use Rattle.bn_types.specs.declared.row_state.RowState.{RowState}
use Rattle.bn_types.specs.declared.row_state.RowState.TheVariants.{Idle, Running, Waiting, Stopped}
use Rattle.bn_types.specs.declared.saved_frame.SavedFrame.{SavedFrame}
use Rattle.bn_model.specs.Admission.{has_right}
use Rattle.bn_model.specs.Owners.{is_private}
use Rattle.bn_model.specs.Rows.{back_of, row_of, saved_of, with_row}

-- ---- calls

-- a called module runs on a hart; where the untrusted world called it, it keeps what that gets back
abbrev pub row_after_call : ℕ → ModId → SavedFrame → Row → Row
row_after_call h caller back row =
    record row { state = Running h; caller = caller; back = back }

-- a module that called another waits for it
abbrev pub row_after_wait : SavedFrame → ℕ → Row → Row
row_after_wait frame callee row =
    record row { state = Waiting (record { 0 = callee }); saved = frame }

-- the caller's frame is kept in the callee's row for the untrusted world, in its own row for a
-- module
abbrev pub rows_after_call : (caller : ℕ) → (h callee : ℕ) → SavedFrame → List Row → List Row
rows_after_call zero h callee frame rows =
    with_row callee (row_after_call h (record { 0 = zero }) frame) rows
rows_after_call (suc m) h callee frame rows =
    with_row callee (row_after_call h (record { 0 = suc m }) zero_frame)
    (with_row (suc m) (row_after_wait frame callee) rows)

-- ---- returns

abbrev pub row_after_return : Row → Row
row_after_return row =
    record row { state = Idle; caller = record { 0 = 0 }; back = zero_frame }

-- the answer came: the module runs again
abbrev pub row_after_answer : ℕ → Row → Row
row_after_answer h row = record row { state = Running h; saved = zero_frame }

abbrev pub rows_after_return : (caller : ℕ) → (h m : ℕ) → List Row → List Row
rows_after_return zero h m rows = with_row m row_after_return rows
rows_after_return (suc c) h m rows =
    with_row (suc c) (row_after_answer h) (with_row m row_after_return rows)

-- what the caller of module m gets back
abbrev pub frame_of_caller : (caller : ℕ) → List Row → ℕ → SavedFrame
frame_of_caller zero rows m = back_of (row_of rows m)
frame_of_caller (suc c) rows m = saved_of (row_of rows (suc c))

-- ---- stops and resumptions

abbrev pub row_after_stop : SavedFrame → Row → Row
row_after_stop frame row = record row { state = Stopped; saved = frame }

abbrev pub row_after_resume : ℕ → Row → Row
row_after_resume h row = record row { state = Running h; saved = zero_frame }

abbrev pub is_stopped : RowState → Bool
is_stopped Idle = false
is_stopped (Running hart) = false
is_stopped (Waiting callee) = false
is_stopped Stopped = true

abbrev pub is_mode : Mode → Mode → Bool
is_mode U U = true
is_mode U S = false
is_mode S U = false
is_mode S S = true

-- a private page of code, at this virtual page
abbrev pub is_code_at : (page vpn : ℕ) → Decl → Bool
is_code_at page vpn decl =
    (decl.gpn.0 == page) && (decl.vpn.0 == vpn) && is_private decl.sort && has_right Fetch
    decl.rights

-- it was stopped at this pc and in this mode, in its own code on the page
unfoldable pub is_stopped_at : (page vpn pc : ℕ) → Mode → Row → Bool
is_stopped_at page vpn pc mode row =
    is_stopped row.state && list_any (is_code_at page vpn) row.judged.decls.items &&
    (row.saved.pc == pc) && is_mode row.saved.mode mode

abbrev pub id_of_row : Option Row → Option ModId
id_of_row None = None
id_of_row (Some row) = Some row.id

-- the module that a fetch at pc from the page resumes
unfoldable pub stopped_at : List Row → (page vpn pc : ℕ) → Mode → Option ModId
stopped_at rows page vpn pc mode = id_of_row (find (is_stopped_at page vpn pc mode) rows)
