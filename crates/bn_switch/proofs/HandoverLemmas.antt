-- What a call and a return do to the rows, change by change.
use Rattle.std.proofs.Common.{◌≡◌, ℕ, zero, suc, List, Option, Some, None, option_map, refl}
use Rattle.std.proofs.Common.{sym, ap, subst, ◌∙◌, arith}
use Rattle.bn_types.specs.Registers.{zero_frame}
use Rattle.bn_types.specs.declared.row.Row.{Row}
use Rattle.bn_types.specs.declared.row_state.RowState.{RowState}
use Rattle.bn_types.specs.declared.row_state.RowState.TheVariants.{Idle, Waiting}
use Rattle.bn_types.specs.declared.saved_frame.SavedFrame.{SavedFrame}
use Rattle.bn_model.specs.Deciding.{caller_of}
use Rattle.bn_model.specs.Rows.{row_of, saved_of, with_row}
use Rattle.bn_model.specs.Soundness.{caller_at, caller_if_some, state_at, state_if_some}
use Rattle.bn_model.specs.Switching.{row_after_call, row_after_return, row_after_wait}
use Rattle.bn_model.specs.Switching.{frame_of_caller, rows_after_call}
use Rattle.bn_model.proofs.RowLemmas.{row_of-other, row_of-same, seen-same}
use Rattle.bn_table.specs.Tables.{IsAnswered, IsRunning, IsTable, MayCall, Tabled}
use Rattle.bn_switch.proofs.IdBounds.{row_of-between}

-- a module that runs has a row
runs-found : (rows : List Row) (id : ℕ) → IsRunning (state_at rows id) → row_of rows id ≡ None → ⊥
runs-found rows id running none = subst IsRunning (ap state_if_some none) running

-- it isn't another that does something else
runs-other : (rows : List Row) (id other : ℕ) (state : RowState) → IsRunning (state_at rows id)
    → state_at rows other ≡ Some state → (IsRunning (Some state) → ⊥) → other ≡ id → ⊥
runs-other rows id other state running is rests same =
    rests (subst IsRunning is (subst (λ (n : ℕ). IsRunning (state_at rows n)) (sym same) running))

-- ---- a call

-- the callee is idle while its caller begins to wait
pub idle-after_wait : (rows : List Row) (id callee : ℕ) (frame : SavedFrame)
    → IsRunning (state_at rows id) → state_at rows callee ≡ Some Idle
    → state_at (with_row id (row_after_wait frame callee) rows) callee ≡ Some Idle
idle-after_wait rows id callee frame running idle =
    ap state_if_some
    (row_of-other id (row_after_wait frame callee) (record { same = λ row. refl }) callee rows
    (runs-other rows id callee Idle running idle (λ h. h)))
    ∙ idle

waits-after_wait : (rows : List Row) (id callee : ℕ) (frame : SavedFrame)
    → IsRunning (state_at rows id)
    → state_at (with_row id (row_after_wait frame callee) rows) id ≡
    Some (Waiting (record { 0 = callee }))
waits-after_wait rows id callee frame running =
    ap state_if_some
    (row_of-same id (row_after_wait frame callee) (record { same = λ row. refl }) rows)
    ∙ by_row (row_of rows id) refl where
      by_row : (found : Option Row) → row_of rows id ≡ found
          → state_if_some (option_map (row_after_wait frame callee) found) ≡
          Some (Waiting (record { 0 = callee }))
      by_row None is = absurd (runs-found rows id running is)
      by_row (Some row) is = refl

pub may_call-after_wait : (rows : List Row) (id callee : ℕ) (frame : SavedFrame)
    → IsRunning (state_at rows id)
    → MayCall (with_row id (row_after_wait frame callee) rows) id callee
may_call-after_wait rows zero callee frame running = tt
may_call-after_wait rows (suc c) callee frame running =
    waits-after_wait rows (suc c) callee frame running

-- the two changes of a call by a module are those of its definition
pub rows-after_call : (m : Tabled) (h id callee : ℕ) (frame : SavedFrame) → IsTable m
    → IsRunning (state_at m.rows id)
    → with_row callee (row_after_call h (record { 0 = id }) zero_frame)
    (with_row id (row_after_wait frame callee) m.rows) ≡ rows_after_call id h callee frame m.rows
rows-after_call m h (suc c) callee frame table running = refl
rows-after_call m h zero callee frame table running =
    absurd (by_row (row_of m.rows zero) refl) where
      by_row : (found : Option Row) → row_of m.rows zero ≡ found → ⊥
      by_row None is = runs-found m.rows zero running is
      by_row (Some row) is = let between = (row_of-between m table zero row is).0 in omega arith

-- ---- a return

idle-after_return : (rows : List Row) (id : ℕ) → IsRunning (state_at rows id)
    → state_at (with_row id row_after_return rows) id ≡ Some Idle
idle-after_return rows id running =
    ap state_if_some (row_of-same id row_after_return (record { same = λ row. refl }) rows)
    ∙ by_row (row_of rows id) refl where
      by_row : (found : Option Row) → row_of rows id ≡ found
          → state_if_some (option_map row_after_return found) ≡ Some Idle
      by_row None is = absurd (runs-found rows id running is)
      by_row (Some row) is = refl

-- the caller of a module that returned waits for one that is idle
pub answered-after_return : (m : Tabled) (id c : ℕ) → IsTable m → IsRunning (state_at m.rows id)
    → c ≡ caller_at m.rows id → (c ≡ 0 → ⊥)
    → IsAnswered (with_row id row_after_return m.rows)
    (state_at (with_row id row_after_return m.rows) c)
answered-after_return m id zero table running is inside = absurd (inside refl)
answered-after_return m id (suc c) table running is inside =
    let waits : state_at m.rows (suc c) ≡ Some (Waiting (record { 0 = id })) =
    table.called id c (sym is) in
    let still : state_at (with_row id row_after_return m.rows) (suc c) ≡
    Some (Waiting (record { 0 = id })) =
    ap state_if_some
    (row_of-other id row_after_return (record { same = λ row. refl }) (suc c) m.rows
    (runs-other m.rows id (suc c) (Waiting (record { 0 = id })) running waits (λ h. h)))
    ∙ waits in
    subst (IsAnswered (with_row id row_after_return m.rows)) (sym still)
    (idle-after_return m.rows id running)

caller_of-at : (found : Option Row) → (caller_of found).0 ≡ caller_if_some found
caller_of-at None = refl
caller_of-at (Some row) = refl

-- what it gets back is what it left
pub saved-after_return : (rows : List Row) (id c : ℕ) → c ≡ caller_at rows id → (c ≡ 0 → ⊥)
    → saved_of (row_of (with_row id row_after_return rows) c) ≡
    frame_of_caller (caller_of (row_of rows id)).0 rows id
saved-after_return rows id c is inside =
    seen-same saved_of id row_after_return (record { same = λ row. refl }) (λ row. refl) c rows
    ∙ (by_caller c inside
    ∙ ap (λ (n : ℕ). frame_of_caller n rows id) (is ∙ sym (caller_of-at (row_of rows id))))
  where
    by_caller : (c : ℕ) → (c ≡ 0 → ⊥) → saved_of (row_of rows c) ≡ frame_of_caller c rows id
    by_caller zero inside = absurd (inside refl)
    by_caller (suc c) inside = refl
