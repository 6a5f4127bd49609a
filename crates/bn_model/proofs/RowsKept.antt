-- Rows keep their shapes, after each turn.
use Rattle.std.proofs.Common.{◌≡◌, ℕ, zero, suc, ◌^◌, ◌<◌, ◌≤◌, ◌⊎◌, Bool, true, false, length}
use Rattle.std.proofs.Common.{List, [], ◌∷◌, map, Option, Some, inl, inr, refl}
use Rattle.std.proofs.Common.{sym, ap, subst, ◌∙◌, arith, eqb-true}
use Rattle.std.proofs.lemmas.List.Elements.{All-cons, All-filter, All-head, All-nil, All-push}
use Rattle.std.proofs.lemmas.List.Elements.{All-tail}
use Rattle.std.proofs.lemmas.Option.{same_Some}
use Rattle.std.specs.List.{All}
use Rattle.bn_types.specs.Registers.{zero_frame}
use Rattle.bn_types.specs.declared.cause.Cause.{Cause}
use Rattle.bn_types.specs.declared.judged.Judged.{Judged}
use Rattle.bn_types.specs.declared.mod_id.ModId.{ModId}
use Rattle.bn_types.specs.declared.mode.Mode.{Mode}
use Rattle.bn_types.specs.declared.reg.Reg.{Reg}
use Rattle.bn_types.specs.declared.row.Row.{Row}
use Rattle.bn_types.specs.declared.row_state.RowState.{RowState}
use Rattle.bn_types.specs.declared.row_state.RowState.TheVariants.{Idle, Running, Waiting, Stopped}
use Rattle.bn_types.specs.declared.saved_frame.SavedFrame.{SavedFrame}
use Rattle.bn_model.specs.Decision.{Decision, Trap, Deny}
use Rattle.bn_model.specs.Decision.{Launch, Call, Return, Resume, Evict}
use Rattle.bn_model.specs.Evicting.{evicted_rows, rows_left, stays}
use Rattle.bn_model.specs.Rows.{Enclave, change_at, change_if, enclaves, has_id, new_row, row_of}
use Rattle.bn_model.specs.Rows.{with_row}
use Rattle.bn_model.specs.Soundness.{AreStates, BackFits, Has, HasIds, HasModeOf}
use Rattle.bn_model.specs.Soundness.{IsFrame, IsHart, IsPc, IsRow, SavedFits, module_of, state_at}
use Rattle.bn_model.specs.Soundness.{state_if_some}
use Rattle.bn_model.specs.State.{Hart, State, frame_of}
use Rattle.bn_model.specs.Stepping.{after_trap_in, after_turn, frame_of_call}
use Rattle.bn_model.specs.Switching.{row_after_answer, row_after_call, row_after_resume}
use Rattle.bn_model.specs.Switching.{row_after_return, row_after_stop, row_after_wait}
use Rattle.bn_model.specs.Switching.{rows_after_call, rows_after_return}
use Rattle.bn_model.specs.Walking.{access_fault}
use Rattle.bn_model.proofs.Evidence.{Calls, Holds, Launches, Returns}
use Rattle.bn_model.proofs.RegisterLemmas.{AreRegisters-set, IsFrame-zero, IsPc-next}
use Rattle.bn_model.proofs.RowLemmas.{enclaves-with_row}
use Rattle.bn_model.proofs.StatesKept.{idle-state, row_of-has, state-other}

-- ---- a change of one row

pub all-change : (P : Row → Type 0) (m : ℕ) (change : Row → Row) (rows : List Row) → All P rows
    → ((row : Row) → Has row rows → row.id.0 ≡ m → P row → P (change row))
    → All P (with_row m change rows)
unfolding with_row
all-change P m change [] all kept = All-nil P
all-change P m change (row ∷ rows) all kept =
    All-cons P (change_at m change row) (map (change_at m change) rows)
    (by_test (has_id m row) refl)
    (all-change P m change rows (All-tail P row rows all) (λ r h. kept r (inr h)))
  where
    by_test : (b : Bool) → has_id m row ≡ b → P (change_if b change row)
    by_test true e = kept row (inl refl) (eqb-true row.id.0 m e) (All-head P row rows all)
    by_test false e = All-head P row rows all

-- the state of the row of an id
pub state-of : (rows : List Row) (next : ℕ) → HasIds (enclaves rows) next
    → (m : ℕ) (state : RowState) → state_at rows m ≡ Some state
    → (row : Row) → Has row rows → row.id.0 ≡ m → row.state ≡ state
state-of rows next ids m state e row has is =
    same_Some row.state state
    (sym (ap state_if_some
    (ap (row_of rows) (sym is) ∙ (row_of-has zero rows next ids.ascend row has).1)) ∙ e)

-- ---- frames

-- a row that isn't idle may have each back frame, if the untrusted world waits for it
back-fits : (caller : ℕ) (one other : RowState) (frame : SavedFrame) → (Idle ≡ other → ⊥)
    → BackFits caller one frame → BackFits caller other frame
back-fits zero one Idle frame apart fits = absurd (apart refl)
back-fits zero one (Running h) frame apart fits = tt
back-fits zero one (Waiting m) frame apart fits = tt
back-fits zero one Stopped frame apart fits = tt
back-fits (suc c) one other frame apart fits = fits

frame-at : (state : RowState) (mode : Mode) (frame : SavedFrame) → SavedFits state mode frame
    → (state ≡ Idle) ⊎ ((h : ℕ) × (state ≡ Running h)) → frame ≡ zero_frame
frame-at Idle mode frame fits e = fits
frame-at (Running h) mode frame fits e = fits
frame-at (Waiting m) mode frame fits (inl e) = absurd cc
frame-at (Waiting m) mode frame fits (inr e) = let f = e.1 in absurd cc
frame-at Stopped mode frame fits (inl e) = absurd cc
frame-at Stopped mode frame fits (inr e) = let f = e.1 in absurd cc

back-call : (caller h : ℕ) (frame : SavedFrame) → ((c : ℕ) → caller ≡ suc c → frame ≡ zero_frame)
    → BackFits caller (Running h) frame
back-call zero h frame zeros = tt
back-call (suc c) h frame zeros = zeros c refl

IsRow-call : (h : ℕ) (caller : ModId) (back : SavedFrame) (row : Row)
    → ((c : ℕ) → caller.0 ≡ suc c → back ≡ zero_frame) → IsFrame back
    → row.state ≡ Idle → IsRow row → IsRow (row_after_call h caller back row)
IsRow-call h caller back row zeros frame idle r = record {
  frames = record {
    saved = frame-at row.state row.judged.mode row.saved r.frames.saved (inl idle);
    back = back-call caller.0 h back zeros;
  };
  saved = r.saved;
  back = frame;
  entries = r.entries;
  identity = r.identity;
  digest = r.digest;
  partners = r.partners;
}

IsRow-wait : (frame : SavedFrame) (callee : ℕ) (row : Row) → IsFrame frame
    → frame.mode ≡ row.judged.mode → IsRow row → IsRow (row_after_wait frame callee row)
IsRow-wait frame callee row is mode r = record {
  frames = record {
    saved = mode;
    back = back-fits row.caller.0 row.state (Waiting (record { 0 = callee })) row.back (λ e. cc)
        r.frames.back;
  };
  saved = is;
  back = r.back;
  entries = r.entries;
  identity = r.identity;
  digest = r.digest;
  partners = r.partners;
}

IsRow-return : (h : ℕ) (row : Row) → row.state ≡ Running h → IsRow row
    → IsRow (row_after_return row)
IsRow-return h row e r = record {
  frames = record {
    saved = frame-at row.state row.judged.mode row.saved r.frames.saved
        (inr (h, e));
    back = refl;
  };
  saved = r.saved;
  back = IsFrame-zero;
  entries = r.entries;
  identity = r.identity;
  digest = r.digest;
  partners = r.partners;
}

IsRow-answer : (h : ℕ) (row : Row) → IsRow row → IsRow (row_after_answer h row)
IsRow-answer h row r = record {
  frames = record {
    saved = refl;
    back = back-fits row.caller.0 row.state (Running h) row.back (λ e. cc) r.frames.back;
  };
  saved = IsFrame-zero;
  back = r.back;
  entries = r.entries;
  identity = r.identity;
  digest = r.digest;
  partners = r.partners;
}

IsRow-stop : (frame : SavedFrame) (row : Row) → IsFrame frame → frame.mode ≡ row.judged.mode
    → IsRow row → IsRow (row_after_stop frame row)
IsRow-stop frame row is mode r = record {
  frames = record {
    saved = mode;
    back = back-fits row.caller.0 row.state Stopped row.back (λ e. cc) r.frames.back;
  };
  saved = is;
  back = r.back;
  entries = r.entries;
  identity = r.identity;
  digest = r.digest;
  partners = r.partners;
}

-- what is known of a launched module by itself
pub record IsWellJudged (judged : Judged) : Type 0 where
  pub entries : All IsPc judged.entries.items
  pub identity : length judged.digest.0 ≡ 32
  pub digest : All (λ byte. byte < 2 ^ 8) judged.digest.0
  pub partners : length judged.partners.items ≤ 4

IsRow-new : (next : ℕ) (judged : Judged) → IsWellJudged judged → IsRow (new_row next judged)
IsRow-new next judged j = record {
  frames = record { saved = refl; back = refl };
  saved = IsFrame-zero;
  back = IsFrame-zero;
  entries = j.entries;
  identity = j.identity;
  digest = j.digest;
  partners = j.partners;
}

mode-of : (o : Option Row) (row : Row) (mode : Mode) → o ≡ Some row → HasModeOf o mode
    → mode ≡ row.judged.mode
mode-of o row mode e has = subst (λ (p : Option Row). HasModeOf p mode) e has

left-all : (gone rows : List Row) → All IsRow rows → All IsRow (rows_left gone rows)
unfolding rows_left
left-all gone rows all = All-filter (stays gone) IsRow rows all

two-states : {P : Type 0} (o : Option RowState) (one other : RowState) → o ≡ Some one
    → o ≡ Some other → (one ≡ other → ⊥) → P
two-states o one other e d apart = absurd (apart (same_Some one other (sym e ∙ d)))

module _ (s : State) (h : ℕ) (hart : Hart) (mine : hart.current.0 ≡ module_of s.harts h)
    (st : AreStates s.harts s.rows) (ids : HasIds (enclaves s.rows) s.next)
    (rows : All IsRow s.rows)
    (fits : HasModeOf (row_of s.rows hart.current.0) hart.mode) (clock : ℕ)
    (is : IsHart clock hart) where
  frame-is : IsFrame (frame_of hart)
  frame-is = record { regs = is.regs; pc = is.pc }

  call-frame-is : (rd : Reg) → IsFrame (frame_of_call hart rd)
  call-frame-is rd = record {
    regs = AreRegisters-set hart.regs rd 0 (omega arith) is.regs;
    pc = IsPc-next hart.pc is.pc;
  }

  -- the hart is in the mode of its module's row
  mode-here : (m : ℕ) → hart.current.0 ≡ m → (row : Row) → Has row s.rows → row.id.0 ≡ m
      → hart.mode ≡ row.judged.mode
  mode-here m e row has id =
      mode-of (row_of s.rows hart.current.0) row hart.mode
      (ap (row_of s.rows) (e ∙ sym id) ∙ (row_of-has zero s.rows s.next ids.ascend row has).1) fits

  trap-rows : (cause : Cause) (value current : ℕ) → hart.current.0 ≡ current
      → All IsRow (after_trap_in current s h hart cause value).rows
  trap-rows cause value zero e = rows
  trap-rows cause value (suc m) e =
      all-change IsRow (suc m) (row_after_stop (frame_of hart)) s.rows rows
      (λ row has id r. IsRow-stop (frame_of hart) row frame-is (mode-here (suc m) e row has id) r)

  call-rows : (rd : Reg) (callee entry : ℕ) → Calls s hart callee entry → (current : ℕ)
      → hart.current.0 ≡ current
      → All IsRow (rows_after_call current h callee (frame_of_call hart rd) s.rows)
  call-rows rd callee entry calls zero e =
      let idle : state_at s.rows callee ≡ Some Idle = ap state_if_some calls.found
      ∙ ap (λ (t : RowState). Some t) (idle-state calls.row.state calls.idle) in
      all-change IsRow callee (row_after_call h (record { 0 = zero }) (frame_of_call hart rd))
      s.rows rows
      (λ row has id r. IsRow-call h (record { 0 = zero }) (frame_of_call hart rd) row
      (λ c f. absurd cc) (call-frame-is rd)
      (state-of s.rows s.next ids callee Idle idle row has id) r)
  call-rows rd callee entry calls (suc c) e =
      let frame : SavedFrame = frame_of_call hart rd in
      let waits : Row → Row = row_after_wait frame callee in
      let inner : List Row = with_row (suc c) waits s.rows in
      let idle : state_at s.rows callee ≡ Some Idle = ap state_if_some calls.found
      ∙ ap (λ (t : RowState). Some t) (idle-state calls.row.state calls.idle) in
      let ran : state_at s.rows (suc c) ≡ Some (Running h) = st.current h c (sym mine ∙ e) in
      let apart : callee ≡ suc c → ⊥ = λ same.
      two-states (state_at s.rows callee) Idle (Running h) idle (ap (state_at s.rows) same ∙ ran)
      (λ f. cc) in
      let live : enclaves inner ≡ enclaves s.rows =
      enclaves-with_row (suc c) waits (record { same = λ row. refl }) s.rows in
      all-change IsRow callee (row_after_call h (record { 0 = suc c }) zero_frame) inner
      (all-change IsRow (suc c) waits s.rows rows
      (λ row has id r. IsRow-wait frame callee row (call-frame-is rd)
      (mode-here (suc c) e row has id) r))
      (λ row has id r. IsRow-call h (record { 0 = suc c }) zero_frame row (λ k f. refl) IsFrame-zero
      (state-of inner s.next (subst (λ (es : List Enclave). HasIds es s.next) (sym live) ids) callee
      Idle
      (state-other s.rows (suc c) waits (record { same = λ row. refl }) callee apart ∙ idle) row has
      id) r)

  return-rows : (caller : ModId) (pc : ℕ) → Returns s hart caller pc → (n : ℕ)
      → All IsRow (rows_after_return n h hart.current.0 s.rows)
  return-rows caller pc returns n = by_caller n
    where
      ran : state_at s.rows hart.current.0 ≡ Some (Running h)
      ran = ap (state_at s.rows) returns.inside ∙ st.current h returns.m (sym mine ∙ returns.inside)

      inner : All IsRow (with_row hart.current.0 row_after_return s.rows)
      inner =
          all-change IsRow hart.current.0 row_after_return s.rows rows
          (λ row has id r.
          IsRow-return h row
          (state-of s.rows s.next ids hart.current.0 (Running h) ran row has id) r)

      by_caller : (n : ℕ) → All IsRow (rows_after_return n h hart.current.0 s.rows)
      by_caller zero = inner
      by_caller (suc c) =
          all-change IsRow (suc c) (row_after_answer h)
          (with_row hart.current.0 row_after_return s.rows) inner
          (λ row has id r. IsRow-answer h row r)

  pub turn-rows : ((rd : Reg) (judged : Judged) → Launches s hart judged → IsWellJudged judged)
      → (d : Decision) → Holds s h hart d → All IsRow (after_turn s h hart d).rows
  unfolding Holds
  turn-rows judges (Trap cause value) e = trap-rows cause value hart.current.0 refl
  turn-rows judges (Deny kind va) e = trap-rows (access_fault kind) va hart.current.0 refl
  turn-rows judges (Launch rd judged) e =
      All-push IsRow s.rows (new_row s.next judged) rows
      (IsRow-new s.next judged (judges rd judged e))
  turn-rows judges (Call rd callee entry) e = call-rows rd callee entry e hart.current.0 refl
  turn-rows judges (Return caller pc) e = return-rows caller pc e caller.0
  turn-rows judges (Resume id) e =
      all-change IsRow id.0 (row_after_resume h) s.rows rows (λ row has i r. IsRow-answer h row r)
  turn-rows judges (Evict rd id count) e = left-all (evicted_rows s.rows id) s.rows rows
  turn-rows judges d e = rows
