-- What a change of one row leaves of a table's facts.
use Rattle.std.proofs.Common.{◌≡◌, ℕ, zero, suc, ◌+◌, ◌<◌, ◌⊎◌, Bool, true, false, cond, List}
use Rattle.std.proofs.Common.{[], ◌∷◌, ◌++◌, length, Option, Some, None, option_map, inl}
use Rattle.std.proofs.Common.{inr, refl, sym, ap, subst, ◌∙◌, arith}
use Rattle.std.proofs.lemmas.Bool.{cases_eq}
use Rattle.std.proofs.lemmas.List.{length-append, map-append}
use Rattle.std.proofs.lemmas.List.Folds.{find-append}
use Rattle.std.proofs.lemmas.Option.{same_Some}
use Rattle.std.specs.Option.{option_or}
use Rattle.bn_types.specs.declared.judged.Judged.{Judged}
use Rattle.bn_types.specs.declared.mod_id.ModId.{ModId}
use Rattle.bn_types.specs.declared.row.Row.{Row}
use Rattle.bn_types.specs.declared.row_state.RowState.{RowState}
use Rattle.bn_types.specs.declared.row_state.RowState.TheVariants.{Idle, Running, Waiting, Stopped}
use Rattle.bn_types.specs.declared.saved_frame.SavedFrame.{SavedFrame}
use Rattle.bn_model.specs.Rows.{Enclave, enclave_of, enclaves, has_id, new_row, row_of, with_row}
use Rattle.bn_model.specs.Soundness.{Ascend, caller_at, caller_if_some, state_at, state_if_some}
use Rattle.bn_model.proofs.RowLemmas.{Keeps, enclaves-with_row, length-with_row, row_of-other}
use Rattle.bn_model.proofs.RowLemmas.{row_of-same, seen-same}
use Rattle.bn_table.specs.declared.change.Change.{Change}
use Rattle.bn_table.specs.declared.change.Change.TheVariants as act
use Rattle.bn_table.specs.Tables.{IsAnswered, IsRunning, IsTable, MayCall, Tabled, changed}
use Rattle.bn_table.specs.Tables.{with_change}

-- each change leaves what never changes of a row
keeps : (change : Change) → Keeps (changed change)
keeps (act.Call hart caller back) = record { same = λ row. refl }
keeps (act.Wait frame callee) = record { same = λ row. refl }
keeps act.Return = record { same = λ row. refl }
keeps (act.Run hart) = record { same = λ row. refl }
keeps (act.Stop frame) = record { same = λ row. refl }
keeps act.Blank = record { same = λ row. refl }

-- ---- states and callers after a change

state-same : (change : Change) (rows : List Row) (id : ℕ)
    → state_at (with_row id (changed change) rows) id ≡
    state_if_some (option_map (changed change) (row_of rows id))
state-same change rows id = ap state_if_some (row_of-same id (changed change) (keeps change) rows)

state-other : (change : Change) (rows : List Row) (id j : ℕ) → (j ≡ id → ⊥)
    → state_at (with_row id (changed change) rows) j ≡ state_at rows j
state-other change rows id j other =
    ap state_if_some (row_of-other id (changed change) (keeps change) j rows other)

caller-same : (change : Change) (rows : List Row) (id : ℕ)
    → caller_at (with_row id (changed change) rows) id ≡
    caller_if_some (option_map (changed change) (row_of rows id))
caller-same change rows id = ap caller_if_some (row_of-same id (changed change) (keeps change) rows)

caller-other : (change : Change) (rows : List Row) (id j : ℕ) → (j ≡ id → ⊥)
    → caller_at (with_row id (changed change) rows) j ≡ caller_at rows j
caller-other change rows id j other =
    ap caller_if_some (row_of-other id (changed change) (keeps change) j rows other)

-- ---- what a change must be for a table to stay one

-- no module is called by this one
abbrev Alone : List Row → ℕ → Type 0
Alone rows id = (j c : ℕ) → caller_at rows j ≡ suc c → suc c ≡ id → ⊥

record Fits (rows : List Row) (id : ℕ) (change : Change) : Type 0 where
  idle : (row : Row) → row_of rows id ≡ Some row → (changed change row).state ≡ Idle
      → (changed change row).caller.0 ≡ zero
  called : (row : Row) (c : ℕ) → row_of rows id ≡ Some row → (changed change row).caller.0 ≡ suc c
      → (suc c ≡ id → ⊥) × (state_at rows (suc c) ≡ Some (Waiting (record { 0 = id })))
  alone : Alone rows id

idle-after : (m : Tabled) (id : ℕ) (change : Change) → IsTable m → Fits m.rows id change
    → (j : ℕ) → state_at (with_row id (changed change) m.rows) j ≡ Some Idle
    → caller_at (with_row id (changed change) m.rows) j ≡ zero
idle-after m id change table fits j e = by_id (cases_eq j id) where
  by_row : (found : Option Row) → row_of m.rows id ≡ found
      → state_if_some (option_map (changed change) found) ≡ Some Idle
      → caller_if_some (option_map (changed change) found) ≡ zero
  by_row None is idle = refl
  by_row (Some row) is idle = fits.idle row is (same_Some (changed change row).state Idle idle)

  by_id : (j ≡ id) ⊎ (j ≡ id → ⊥) → caller_at (with_row id (changed change) m.rows) j ≡ zero
  by_id (inl is) =
      ap (caller_at (with_row id (changed change) m.rows)) is
      ∙ caller-same change m.rows id
      ∙ by_row (row_of m.rows id) refl
      (sym (state-same change m.rows id)
      ∙ ap (state_at (with_row id (changed change) m.rows)) (sym is) ∙ e)
  by_id (inr other) =
      caller-other change m.rows id j other
      ∙ table.idle j (sym (state-other change m.rows id j other) ∙ e)

called-after : (m : Tabled) (id : ℕ) (change : Change) → IsTable m → Fits m.rows id change
    → (j c : ℕ) → caller_at (with_row id (changed change) m.rows) j ≡ suc c
    → state_at (with_row id (changed change) m.rows) (suc c) ≡ Some (Waiting (record { 0 = j }))
called-after m id change table fits j c e = by_id (cases_eq j id) where
  by_row : (found : Option Row) → row_of m.rows id ≡ found
      → caller_if_some (option_map (changed change) found) ≡ suc c
      → (suc c ≡ id → ⊥) × (state_at m.rows (suc c) ≡ Some (Waiting (record { 0 = id })))
  by_row None is called = absurd (omega arith)
  by_row (Some row) is called = fits.called row c is called

  by_id : (j ≡ id) ⊎ (j ≡ id → ⊥)
      → state_at (with_row id (changed change) m.rows) (suc c) ≡ Some (Waiting (record { 0 = j }))
  by_id (inl is) =
      let known = by_row (row_of m.rows id) refl
      (sym (caller-same change m.rows id)
      ∙ ap (caller_at (with_row id (changed change) m.rows)) (sym is) ∙ e) in
      state-other change m.rows id (suc c) known.0 ∙ known.1
      ∙ ap (λ (n : ℕ). Some (Waiting (record { 0 = n }))) (sym is)
  by_id (inr other) =
      let before : caller_at m.rows j ≡ suc c = sym (caller-other change m.rows id j other) ∙ e in
      state-other change m.rows id (suc c) (fits.alone j c before) ∙ table.called j c before

changed-table : (m : Tabled) (id : ℕ) (change : Change) → IsTable m → Fits m.rows id change
    → IsTable (with_change m id change)
changed-table m id change table fits = record {
  few = rw (length-with_row id (changed change) m.rows) table.few;
  first = table.first;
  last = table.last;
  ascend = rw (enclaves-with_row id (changed change) (keeps change) m.rows) table.ascend;
  idle = idle-after m id change table fits;
  called = called-after m id change table fits;
}

-- ---- each change

-- a module that doesn't wait called none
alone-unless : (m : Tabled) (id : ℕ) → IsTable m
    → ((callee : ModId) → state_at m.rows id ≡ Some (Waiting callee) → ⊥) → Alone m.rows id
alone-unless m id table idle j c e is =
    idle (record { 0 = j }) (ap (state_at m.rows) (sym is) ∙ table.called j c e)

running-waits_not : (o : Option RowState) → IsRunning o → (callee : ModId)
    → o ≡ Some (Waiting callee) → ⊥
running-waits_not None h callee e = h
running-waits_not (Some Idle) h callee e = h
running-waits_not (Some (Running hart)) h callee e = cc
running-waits_not (Some (Waiting other)) h callee e = h
running-waits_not (Some Stopped) h callee e = h

alone-running : (m : Tabled) (id : ℕ) → IsTable m → IsRunning (state_at m.rows id) → Alone m.rows id
alone-running m id table running =
    alone-unless m id table (running-waits_not (state_at m.rows id) running)

-- a change that leaves the caller, and after which the module isn't idle
same_caller : (m : Tabled) (id : ℕ) (change : Change) → IsTable m → Alone m.rows id
    → ((row : Row) → (changed change row).caller.0 ≡ row.caller.0)
    → ((row : Row) → (changed change row).state ≡ Idle → ⊥) → Fits m.rows id change
same_caller m id change table alone same busy = record {
  idle = λ row is e. absurd (busy row e);
  called = λ row c is e.
      let before : caller_at m.rows id ≡ suc c = ap caller_if_some is ∙ (sym (same row) ∙ e) in
      (alone id c before, table.called id c before);
  alone = alone;
}

pub call-table : (m : Tabled) (id hart : ℕ) (caller : ModId) (back : SavedFrame) → IsTable m
    → state_at m.rows id ≡ Some Idle → MayCall m.rows caller.0 id
    → IsTable (with_change m id (act.Call hart caller back))
call-table m id hart caller back table idle may =
    let waits_not : (callee : ModId) → state_at m.rows id ≡ Some (Waiting callee) → ⊥ = λ callee e.
    idle-waits_not callee (sym idle ∙ e) in
    let alone : Alone m.rows id = alone-unless m id table waits_not in
    changed-table m id (act.Call hart caller back) table
    (record {
      idle = λ row is e. absurd (runs-idle hart e);
      called = λ row c is e.
          let waits : state_at m.rows (suc c) ≡ Some (Waiting (record { 0 = id })) =
          subst (λ (n : ℕ). MayCall m.rows n id) e may in
          (λ same. waits_not (record { 0 = id }) (ap (state_at m.rows) (sym same) ∙ waits), waits);
      alone = alone;
    }) where
      idle-waits_not : (callee : ModId) → Some Idle ≡ Some (Waiting callee) → ⊥
      idle-waits_not callee e = cc

      runs-idle : (h : ℕ) → Running h ≡ Idle → ⊥
      runs-idle h e = cc

pub wait-table : (m : Tabled) (id : ℕ) (frame : SavedFrame) (callee : ModId) → IsTable m
    → IsRunning (state_at m.rows id)
    → IsTable (with_change m id (act.Wait frame callee))
wait-table m id frame callee table running =
    changed-table m id (act.Wait frame callee) table
    (same_caller m id (act.Wait frame callee) table (alone-running m id table running) (λ row. refl)
    (λ row e. never (record { 0 = callee.0 }) e)) where
      never : (m : ModId) → Waiting m ≡ Idle → ⊥
      never m e = cc

pub return-table : (m : Tabled) (id : ℕ) → IsTable m → IsRunning (state_at m.rows id)
    → IsTable (with_change m id act.Return)
return-table m id table running =
    changed-table m id act.Return table
    (record {
      idle = λ row is e. refl;
      called = λ row c is e. absurd (omega (arith, e));
      alone = alone-running m id table running;
    })

run-table : (m : Tabled) (id hart : ℕ) → IsTable m → Alone m.rows id
    → IsTable (with_change m id (act.Run hart))
run-table m id hart table alone =
    changed-table m id (act.Run hart) table
    (same_caller m id (act.Run hart) table alone (λ row. refl) (λ row e. never hart e)) where
      never : (h : ℕ) → Running h ≡ Idle → ⊥
      never h e = cc

pub come_back-table : (m : Tabled) (id hart : ℕ) → IsTable m
    → IsAnswered m.rows (state_at m.rows id) → IsTable (with_change m id (act.Run hart))
come_back-table m id hart table answered =
    run-table m id hart table (by_state (state_at m.rows id) refl answered) where
      same_callee : (callee : ModId) (j : ℕ)
          → Some (Waiting callee) ≡ Some (Waiting (record { 0 = j }))
          → callee.0 ≡ j
      same_callee callee j e =
          ap (λ (m : ModId). m.0) (same_waits callee (record { 0 = j }) e) where
            same_waits : (a b : ModId) → Some (Waiting a) ≡ Some (Waiting b) → a ≡ b
            same_waits a b e = cc

      by_state : (o : Option RowState) → state_at m.rows id ≡ o → IsAnswered m.rows o
          → Alone m.rows id
      by_state None is h = absurd h
      by_state (Some Idle) is h = absurd h
      by_state (Some (Running other)) is h = absurd h
      by_state (Some (Waiting callee)) is h = λ j c e same.
          let waits : Some (Waiting callee) ≡ Some (Waiting (record { 0 = j })) = sym is
          ∙ ap (state_at m.rows) (sym same) ∙ table.called j c e in
          let idle : state_at m.rows j ≡ Some Idle =
          ap (state_at m.rows) (sym (same_callee callee j waits)) ∙ h in
          let free : caller_at m.rows j ≡ zero = table.idle j idle in
          omega (arith, e, free)
      by_state (Some Stopped) is h = absurd h

pub resume-table : (m : Tabled) (id hart : ℕ) → IsTable m → state_at m.rows id ≡ Some Stopped
    → IsTable (with_change m id (act.Run hart))
resume-table m id hart table stopped =
    run-table m id hart table
    (alone-unless m id table (λ callee e. never callee (sym stopped ∙ e))) where
      never : (callee : ModId) → Some Stopped ≡ Some (Waiting callee) → ⊥
      never callee e = cc

pub stop-table : (m : Tabled) (id : ℕ) (frame : SavedFrame) → IsTable m
    → IsRunning (state_at m.rows id) → IsTable (with_change m id (act.Stop frame))
stop-table m id frame table running =
    changed-table m id (act.Stop frame) table
    (same_caller m id (act.Stop frame) table (alone-running m id table running) (λ row. refl)
    (λ row e. never e)) where
      never : Stopped ≡ Idle → ⊥
      never e = cc

-- states and callers stay where saved registers are zeroed
pub blank-table : (m : Tabled) (id : ℕ) → IsTable m → IsTable (with_change m id act.Blank)
blank-table m id table =
    let state : (j : ℕ) → state_at (with_row id (changed act.Blank) m.rows) j ≡ state_at m.rows j =
    λ j. seen-same state_if_some id (changed act.Blank) (keeps act.Blank) (λ row. refl) j m.rows in
    let caller : (j : ℕ) → caller_at (with_row id (changed act.Blank) m.rows) j ≡
    caller_at m.rows j =
    λ j. seen-same caller_if_some id (changed act.Blank) (keeps act.Blank) (λ row. refl) j m.rows in
    record {
      few = rw (length-with_row id (changed act.Blank) m.rows) table.few;
      first = table.first;
      last = table.last;
      ascend = rw (enclaves-with_row id (changed act.Blank) (keeps act.Blank) m.rows) table.ascend;
      idle = λ j e. caller j ∙ table.idle j (sym (state j) ∙ e);
      called = λ j c e. state (suc c) ∙ table.called j c (sym (caller j) ∙ e);
    }

-- a module that was found runs after a change that makes it run
runs-after : (rows : List Row) (id : ℕ) (change : Change) → (row_of rows id ≡ None → ⊥)
    → ((row : Row) → IsRunning (Some (changed change row).state))
    → IsRunning (state_at (with_row id (changed change) rows) id)
runs-after rows id change there runs =
    subst IsRunning (sym (state-same change rows id)) (by_row (row_of rows id) refl) where
      by_row : (found : Option Row) → row_of rows id ≡ found
          → IsRunning (state_if_some (option_map (changed change) found))
      by_row None is = there is
      by_row (Some row) is = runs row

there-if : (rows : List Row) (id : ℕ) (state : RowState) → state_at rows id ≡ Some state
    → row_of rows id ≡ None → ⊥
there-if rows id state e none = never (sym (ap state_if_some none) ∙ e) where
  never : None ≡ Some state → ⊥
  never e = cc

pub call-runs : (rows : List Row) (id hart : ℕ) (caller : ModId) (back : SavedFrame)
    → state_at rows id ≡ Some Idle
    → IsRunning (state_at (with_row id (changed (act.Call hart caller back)) rows) id)
call-runs rows id hart caller back idle =
    runs-after rows id (act.Call hart caller back) (there-if rows id Idle idle) (λ row. tt)

pub resume-runs : (rows : List Row) (id hart : ℕ) → state_at rows id ≡ Some Stopped
    → IsRunning (state_at (with_row id (changed (act.Run hart)) rows) id)
resume-runs rows id hart stopped =
    runs-after rows id (act.Run hart) (there-if rows id Stopped stopped) (λ row. tt)

pub answer-runs : (rows : List Row) (id hart : ℕ) → IsAnswered rows (state_at rows id)
    → IsRunning (state_at (with_row id (changed (act.Run hart)) rows) id)
answer-runs rows id hart answered =
    runs-after rows id (act.Run hart)
    (λ none. subst (IsAnswered rows) (ap state_if_some none) answered) (λ row. tt)

-- ---- a new module

ascend-more : (low : ℕ) (live : List Enclave) (next : ℕ) (one : Enclave) → Ascend low live next
    → low < next → one.id.0 ≡ next
    → Ascend low (live ++ one ∷ []) (next + 1)
ascend-more low [] next one h below is = (omega arith, omega arith, tt)
ascend-more low (first ∷ rest) next one h below is =
    (h.0, omega (arith, h.1), ascend-more first.id.0 rest next one h.2 h.1 is)

enclaves-more : (rows : List Row) (row : Row)
    → enclaves (rows ++ row ∷ []) ≡ enclaves rows ++ enclave_of row ∷ []
unfolding enclaves
enclaves-more rows row = map-append enclave_of rows (row ∷ [])

abbrev last_found : Bool → Row → Option Row
last_found b row = cond b (Some row) None

row_of-more : (rows : List Row) (row : Row) (id : ℕ)
    → row_of (rows ++ row ∷ []) id ≡ option_or (row_of rows id) (last_found (has_id id row) row)
row_of-more rows row id = find-append (has_id id) rows (row ∷ [])

pub add-table : (m : Tabled) (judged : Judged) → IsTable m → length m.rows < 15 → m.next < 65536
    → IsTable (record { rows = m.rows ++ new_row m.next judged ∷ []; next = m.next + 1 })
add-table m judged table room ids = record {
  few = omega (arith, length-append m.rows (new_row m.next judged ∷ []));
  first = omega arith;
  last = omega arith;
  ascend = rw (enclaves-more m.rows (new_row m.next judged))
      (ascend-more zero (enclaves m.rows) m.next (enclave_of (new_row m.next judged)) table.ascend
      table.first refl);
  idle = λ id e. by_idle id (row_of m.rows id) refl (has_id id (new_row m.next judged)) refl e;
  called = λ id c e. by_called id c (row_of m.rows id) refl (has_id id (new_row m.next judged))
      refl e;
} where
  read : (id : ℕ) (found : Option Row) (b : Bool) → row_of m.rows id ≡ found
      → has_id id (new_row m.next judged) ≡ b
      → row_of (m.rows ++ new_row m.next judged ∷ []) id ≡
      option_or found (last_found b (new_row m.next judged))
  read id found b is test =
      row_of-more m.rows (new_row m.next judged) id
      ∙ ap (λ (o : Option Row).
      option_or o (last_found (has_id id (new_row m.next judged)) (new_row m.next judged))) is
      ∙ ap (λ (t : Bool). option_or found (last_found t (new_row m.next judged))) test

  -- a live row is found as before
  before : (id : ℕ) (row : Row) → row_of m.rows id ≡ Some row
      → row_of (m.rows ++ new_row m.next judged ∷ []) id ≡ Some row
  before id row is = read id (Some row) (has_id id (new_row m.next judged)) is refl

  by_idle : (id : ℕ) (found : Option Row) → row_of m.rows id ≡ found → (b : Bool)
      → has_id id (new_row m.next judged) ≡ b
      → state_at (m.rows ++ new_row m.next judged ∷ []) id ≡ Some Idle
      → caller_at (m.rows ++ new_row m.next judged ∷ []) id ≡ zero
  by_idle id (Some row) is b test e =
      ap caller_if_some (before id row is)
      ∙ (sym (ap caller_if_some is)
      ∙ table.idle id (ap state_if_some is ∙ (sym (ap state_if_some (before id row is)) ∙ e)))
  by_idle id None is true test e = ap caller_if_some (read id None true is test)
  by_idle id None is false test e = ap caller_if_some (read id None false is test)

  by_called : (id c : ℕ) (found : Option Row) → row_of m.rows id ≡ found → (b : Bool)
      → has_id id (new_row m.next judged) ≡ b
      → caller_at (m.rows ++ new_row m.next judged ∷ []) id ≡ suc c
      → state_at (m.rows ++ new_row m.next judged ∷ []) (suc c) ≡ Some (Waiting (record { 0 = id }))
  by_called id c (Some row) is b test e =
      let old : caller_at m.rows id ≡ suc c = ap caller_if_some is
      ∙ (sym (ap caller_if_some (before id row is)) ∙ e) in
      waits (row_of m.rows (suc c)) refl (table.called id c old) where
        waits : (caller : Option Row) → row_of m.rows (suc c) ≡ caller
            → state_at m.rows (suc c) ≡ Some (Waiting (record { 0 = id }))
            → state_at (m.rows ++ new_row m.next judged ∷ []) (suc c) ≡
            Some (Waiting (record { 0 = id }))
        waits None at w =
            let none : None ≡ Some (Waiting (record { 0 = id })) = sym (ap state_if_some at)
            ∙ w in cc
        waits (Some other) at w = ap state_if_some (before (suc c) other at)
            ∙ (sym (ap state_if_some at) ∙ w)
  by_called id c None is true test e =
      absurd (omega (arith, sym (ap caller_if_some (read id None true is test)) ∙ e))
  by_called id c None is false test e =
      absurd (omega (arith, sym (ap caller_if_some (read id None false is test)) ∙ e))

ascend-none : (next : ℕ) → Ascend zero (enclaves []) next
unfolding enclaves
ascend-none next = tt

pub empty-table : IsTable (record { rows = []; next = 1 })
empty-table = record {
  few = omega arith;
  first = omega arith;
  last = omega arith;
  ascend = ascend-none 1;
  idle = λ id e. refl;
  called = λ id c e. absurd (omega (arith, e));
}
