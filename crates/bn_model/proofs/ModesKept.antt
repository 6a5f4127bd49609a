-- A hart that runs a module is in the module's mode, after each turn.
use Rattle.std.proofs.Common.{◌≡◌, ℕ, zero, suc, ◌<◌, ◌≤◌, ◌⊎◌, Bool, true, false}
use Rattle.std.proofs.Common.{length, get_or, List, [], ◌∷◌, ◌++◌, set, Option, Some, None}
use Rattle.std.proofs.Common.{option_map, inl, inr, refl, sym, ap, subst, ◌∙◌, arith, ne_eqb}
use Rattle.std.proofs.lemmas.Bool.{cases_Bool}
use Rattle.std.proofs.lemmas.List.Elements.{All-from_get_or, All-head, All-set, All-tail}
use Rattle.std.proofs.lemmas.List.Elements.{All-weaker}
use Rattle.std.proofs.lemmas.Option.{none-some, same_Some}
use Rattle.std.specs.List.{All}
use Rattle.bn_types.specs.declared.cause.Cause.{Cause}
use Rattle.bn_types.specs.declared.judged.Judged.{Judged}
use Rattle.bn_types.specs.declared.mod_id.ModId.{ModId}
use Rattle.bn_types.specs.declared.mode.Mode.{Mode}
use Rattle.bn_types.specs.declared.mode.Mode.TheVariants.{U, S}
use Rattle.bn_types.specs.declared.row.Row.{Row}
use Rattle.bn_types.specs.declared.row_state.RowState.{RowState}
use Rattle.bn_types.specs.declared.row_state.RowState.TheVariants.{Idle, Running, Waiting, Stopped}
use Rattle.bn_types.specs.declared.saved_frame.SavedFrame.{SavedFrame}
use Rattle.bn_model.specs.Deciding.{enclave_at, is_enclave}
use Rattle.bn_model.specs.Decision.{Decision, Rest, Trap, Deny, Next, Set, Jump, Store, Csr}
use Rattle.bn_model.specs.Decision.{ReturnFromTrap, Put, Answer, ShutDown, SetTimer, TakeKey, NoKey}
use Rattle.bn_model.specs.Decision.{Start, Send, Refuse, Launch, Call, Return, Resume, Evict, Tell}
use Rattle.bn_model.specs.Decision.{SetWord}
use Rattle.bn_model.specs.Bits.{is_set}
use Rattle.bn_model.specs.Evicting.{evicted_rows, is_among, rows_left}
use Rattle.bn_model.specs.Rows.{Enclave, enclave_of, enclaves, has_id, new_row, row_of, saved_of}
use Rattle.bn_model.specs.Rows.{with_row}
use Rattle.bn_model.specs.Soundness.{AreStates, Has, HasIds, HasModeOf, HaveModes, IsRow, SavedFits}
use Rattle.bn_model.specs.Soundness.{module_of, state_if_some}
use Rattle.bn_model.specs.State.{Hart, State, frame_of, hart_after_answer, hart_after_call}
use Rattle.bn_model.specs.State.{hart_after_resume, hart_after_return, hart_after_set}
use Rattle.bn_model.specs.State.{hart_after_sret, hart_after_stop, hart_after_trap, resting_hart}
use Rattle.bn_model.specs.State.{started_hart}
use Rattle.bn_model.specs.Stepping.{after_trap_in, after_turn, frame_of_call, hart_by_mask}
use Rattle.bn_model.specs.Stepping.{hart_if_named, page_address}
use Rattle.bn_model.specs.Switching.{frame_of_caller, is_mode, row_after_resume, row_after_stop}
use Rattle.bn_model.specs.Switching.{rows_after_call, rows_after_return}
use Rattle.bn_model.specs.Walking.{access_fault}
use Rattle.bn_model.proofs.AsleepKept.{All-each}
use Rattle.bn_model.proofs.Evidence.{Holds, Returns}
use Rattle.bn_model.proofs.MembershipLemmas.{has-find}
use Rattle.bn_model.proofs.RestingLemmas.{left-row}
use Rattle.bn_model.proofs.RowLemmas.{enclaves-with_row}
use Rattle.bn_model.proofs.StatesKept.{next-free, resumes-row, returns-caller, row_of-gone}
use Rattle.bn_model.proofs.TestLemmas.{find-map, find-push}
use Rattle.bn_model.proofs.TurnKinds.{call-live, return-live}

-- ---- what a hart's mode has to be

mode_if_some : Option Row → Option Mode
mode_if_some None = None
mode_if_some (Some row) = Some row.judged.mode

mode-same : (one other : Option Row) → mode_if_some other ≡ mode_if_some one → (mode : Mode)
    → HasModeOf one mode → HasModeOf other mode
unfolding mode_if_some
mode-same one None e mode has = tt
mode-same None (Some row) e mode has = absurd (none-some row.judged.mode (sym e))
mode-same (Some row) (Some other) e mode has = has
    ∙ sym (same_Some other.judged.mode row.judged.mode e)

enclave_mode : Option Enclave → Option Mode
enclave_mode None = None
enclave_mode (Some e) = Some e.judged.mode

mode-live : (rows : List Row) (m : ℕ)
    → mode_if_some (row_of rows m) ≡ enclave_mode (enclave_at (enclaves rows) m)
unfolding mode_if_some enclave_mode enclaves
mode-live rows m =
    by_row (row_of rows m)
    ∙ sym (ap enclave_mode (find-map (is_enclave m) (has_id m) enclave_of (λ row. refl) rows))
  where
    by_row : (o : Option Row) → mode_if_some o ≡ enclave_mode (option_map enclave_of o)
    by_row None = refl
    by_row (Some row) = refl

-- the rows of the same modules
pub mode-steady : (rows others : List Row) → enclaves others ≡ enclaves rows → (m : ℕ) (mode : Mode)
    → HasModeOf (row_of rows m) mode → HasModeOf (row_of others m) mode
mode-steady rows others e m mode has =
    mode-same (row_of rows m) (row_of others m)
    (mode-live others m ∙ ap (λ (live : List Enclave). enclave_mode (enclave_at live m)) e
    ∙ sym (mode-live rows m)) mode has

abbrev Fits : List Row → Hart → Type 0
Fits rows hart = HasModeOf (row_of rows hart.current.0) hart.mode

no-mode : (o : Option Row) → o ≡ None → (mode : Mode) → HasModeOf o mode
no-mode None e mode = tt
no-mode (Some row) e mode = absurd (none-some row (sym e))

some-mode : (o : Option Row) (row : Row) → o ≡ Some row → (mode : Mode) → mode ≡ row.judged.mode
    → HasModeOf o mode
some-mode None row e mode is = tt
some-mode (Some other) row e mode is = is
    ∙ sym (ap (λ (r : Row). r.judged.mode) (same_Some other row e))

zero-row : (o : Option Row) → state_if_some o ≡ None → o ≡ None
zero-row None e = refl
zero-row (Some row) e = absurd (none-some row.state (sym e))

same-mode : (one other : Mode) → is_mode one other ≡ true → one ≡ other
same-mode U U e = refl
same-mode U S e = absurd cc
same-mode S U e = absurd cc
same-mode S S e = refl

pub all-of : {X : Type 0} (P : X → Type 0) (xs : List X) (x : X) → All P xs → Has x xs → P x
all-of P [] x all h = absurd h
all-of P (y ∷ ys) x all (inl is) = subst P (sym is) (All-head P y ys all)
all-of P (y ∷ ys) x all (inr h) = all-of P ys x (All-tail P y ys all) h

-- the mode of what waits in a row that isn't idle and doesn't run
saved-mode : (state : RowState) (mode : Mode) (frame : SavedFrame) → SavedFits state mode frame
    → (state ≡ Stopped) ⊎ ((m : ModId) × (state ≡ Waiting m)) → frame.mode ≡ mode
saved-mode Idle mode frame fits (inl e) = absurd cc
saved-mode Idle mode frame fits (inr e) = let f = e.1 in absurd cc
saved-mode (Running h) mode frame fits (inl e) = absurd cc
saved-mode (Running h) mode frame fits (inr e) = let f = e.1 in absurd cc
saved-mode (Waiting m) mode frame fits e = fits
saved-mode Stopped mode frame fits e = fits

row-with : (o : Option Row) (state : RowState) → state_if_some o ≡ Some state
    → (row : Row) × (o ≡ Some row) × (row.state ≡ state)
row-with None state e = absurd (none-some state e)
row-with (Some row) state e = (row, refl, same_Some row.state state e)

module _ (s : State) (h : ℕ) (hart : Hart) (within : h < length s.harts)
    (mine : hart.current.0 ≡ module_of s.harts h)
    (st : AreStates s.harts s.rows) (ids : HasIds (enclaves s.rows) s.next)
    (rows : All IsRow s.rows)
    (modes : HaveModes s.harts s.rows) (fits : Fits s.rows hart) where
  -- of other rows of the same modules
  steady : (others : List Row) → enclaves others ≡ enclaves s.rows → (new : Hart) → Fits others new
      → HaveModes (set s.harts h new) others
  steady others e new is =
      All-set (Fits others) s.harts h new is
      (All-weaker (Fits s.rows) (Fits others)
      (λ x has. mode-steady s.rows others e x.current.0 x.mode has) s.harts modes)

  via : (others : List Row) → enclaves others ≡ enclaves s.rows → (new : Hart) → Fits s.rows new
      → HaveModes (set s.harts h new) others
  via others e new is = steady others e new (mode-steady s.rows others e new.current.0 new.mode is)

  -- the untrusted world may be in each mode
  outside : (new : Hart) → new.current.0 ≡ zero → Fits s.rows new
  outside new e = no-mode (row_of s.rows new.current.0)
      (ap (row_of s.rows) e ∙ zero-row (row_of s.rows zero) st.not_zero) new.mode

  alone : (new : Hart) → Fits s.rows new → HaveModes (set s.harts h new) s.rows
  alone new is = steady s.rows refl new is

  found-saved : (id : ℕ) (row : Row) → row_of s.rows id ≡ Some row
      → (row.state ≡ Stopped) ⊎ ((m : ModId) × (row.state ≡ Waiting m))
      → (saved_of (row_of s.rows id)).mode ≡ row.judged.mode
  found-saved id row e rests =
      ap (λ (o : Option Row). (saved_of o).mode) e
      ∙ saved-mode row.state row.judged.mode row.saved
      (all-of IsRow s.rows row rows (has-find (has_id id) s.rows row e)).frames.saved rests

  return-mode : (caller : ModId) (pc : ℕ) → Returns s hart caller pc → (n : ℕ) → caller.0 ≡ n
      → HasModeOf (row_of s.rows caller.0) (frame_of_caller n s.rows hart.current.0).mode
  return-mode caller pc returns zero e =
      no-mode (row_of s.rows caller.0)
      (ap (row_of s.rows) e ∙ zero-row (row_of s.rows zero) st.not_zero) _
  return-mode caller pc returns (suc c) e =
      let waits = row-with (row_of s.rows (suc c)) (Waiting (record { 0 = hart.current.0 }))
      (st.called hart.current.0 c (returns-caller s hart caller pc returns ∙ e)) in
      some-mode (row_of s.rows caller.0) waits.0 (ap (row_of s.rows) e ∙ waits.1) _
      (found-saved (suc c) waits.0 waits.1 (inr (record { 0 = hart.current.0 }, waits.2)))

  trap-modes : (cause : Cause) (value current : ℕ) → hart.current.0 ≡ current
      → HaveModes (after_trap_in current s h hart cause value).harts
      (after_trap_in current s h hart cause value).rows
  trap-modes cause value zero e =
      alone (hart_after_trap hart cause value) (outside (hart_after_trap hart cause value) e)
  trap-modes cause value (suc m) e =
      let new : Hart = hart_after_trap (hart_after_stop hart) cause (page_address value) in
      let others : List Row = with_row (suc m) (row_after_stop (frame_of hart)) s.rows in
      via others (enclaves-with_row (suc m) (row_after_stop (frame_of hart))
      (record { same = λ row. refl }) s.rows) new (outside new refl)

  -- ---- launch and eviction

  not-next-at : (i n : ℕ) → n ≡ s.next → module_of s.harts i ≡ n → ⊥
  not-next-at i zero is e = let least : 1 ≤ s.next = ids.first in absurd (omega arith)
  not-next-at i (suc p) is e =
      none-some (Running i)
      (sym (ap state_if_some (ap (row_of s.rows) is ∙ next-free zero s.rows s.next ids.ascend))
      ∙ st.current i p e)

  not-next : All (λ (x : Hart). x.current.0 ≡ s.next → ⊥) s.harts
  not-next = All-from_get_or (λ (x : Hart). x.current.0 ≡ s.next → ⊥) s.harts resting_hart
      (λ i inside e. not-next-at i s.next refl e)

  launch-modes : (new : Hart) (judged : Judged) → new.current.0 ≡ hart.current.0 → Fits s.rows new
      → HaveModes (set s.harts h new) (s.rows ++ new_row s.next judged ∷ [])
  launch-modes new judged same is k d inside =
      let others : Hart = get_or (set s.harts h new) k d in
      let other : others.current.0 ≡ s.next → ⊥ =
      All-set (λ (x : Hart). x.current.0 ≡ s.next → ⊥) s.harts h new
      (λ e. not-next-at h s.next refl (sym mine ∙ sym same ∙ e)) not-next k d inside in
      subst (λ (o : Option Row). HasModeOf o others.mode)
      (sym (find-push (has_id others.current.0) s.rows (new_row s.next judged)
      (ne_eqb s.next others.current.0 (λ e. other (sym e)))))
      (alone new is k d inside)

  left-mode : (gone : List Row) (x : Hart)
      → (is_among gone x.current.0 ≡ true) ⊎ (is_among gone x.current.0 ≡ false) → Fits s.rows x
      → Fits (rows_left gone s.rows) x
  left-mode gone x (inl out) is =
      no-mode (row_of (rows_left gone s.rows) x.current.0) (row_of-gone gone s.rows x.current.0 out)
      x.mode
  left-mode gone x (inr here) is =
      subst (λ (o : Option Row). HasModeOf o x.mode)
      (sym (left-row gone s.rows x.current.0 here)) is

  evict-modes : (gone : List Row) (new : Hart) → Fits s.rows new
      → HaveModes (set s.harts h new) (rows_left gone s.rows)
  evict-modes gone new is =
      All-weaker (Fits s.rows) (Fits (rows_left gone s.rows))
      (λ x. left-mode gone x (cases_Bool (is_among gone x.current.0)))
      (set s.harts h new) (alone new is)

  named-mode : (b : Bool) (x : Hart) → Fits s.rows x → Fits s.rows (hart_if_named b x)
  named-mode true x is = is
  named-mode false x is = is

  -- ---- a turn

  pub turn-modes : (d : Decision) → Holds s h hart d
      → HaveModes (after_turn s h hart d).harts (after_turn s h hart d).rows
  unfolding Holds
  turn-modes Rest e = modes
  turn-modes (Trap cause value) e = trap-modes cause value hart.current.0 refl
  turn-modes (Deny kind va) e = trap-modes (access_fault kind) va hart.current.0 refl
  turn-modes ReturnFromTrap e = alone (hart_after_sret hart) (outside (hart_after_sret hart) e)
  turn-modes (Start target pc opaque) e =
      All-set (Fits s.rows) (set s.harts h (hart_after_answer hart 0)) target
      (started_hart target pc opaque)
      (outside (started_hart target pc opaque) refl) (alone (hart_after_answer hart 0) fits)
  turn-modes (Send mask) e =
      All-each (Fits s.rows) (hart_by_mask mask) (λ k x is. named-mode (is_set mask k) x is) 0
      (set s.harts h (hart_after_answer hart 0)) (alone (hart_after_answer hart 0) fits)
  turn-modes (Launch rd judged) e = launch-modes (hart_after_set hart rd s.next) judged refl fits
  turn-modes (Call rd callee entry) e =
      via (rows_after_call hart.current.0 h callee (frame_of_call hart rd) s.rows)
      (call-live hart.current.0 h callee (frame_of_call hart rd) s.rows)
      (hart_after_call hart callee entry)
      (some-mode (row_of s.rows callee) e.row e.found hart.mode
      (same-mode hart.mode e.row.judged.mode e.mode))
  turn-modes (Return caller pc) e =
      via (rows_after_return caller.0 h hart.current.0 s.rows)
      (return-live caller.0 h hart.current.0 s.rows)
      (hart_after_return hart caller (frame_of_caller caller.0 s.rows hart.current.0))
      (return-mode caller pc e caller.0 refl)
  turn-modes (Resume id) e =
      let found = resumes-row s hart id ids e in
      via (with_row id.0 (row_after_resume h) s.rows)
      (enclaves-with_row id.0 (row_after_resume h) (record { same = λ row. refl }) s.rows)
      (hart_after_resume hart id (saved_of (row_of s.rows id.0)))
      (some-mode (row_of s.rows id.0) e.row found.0 (saved_of (row_of s.rows id.0)).mode
      (found-saved id.0 e.row found.0 (inl found.1)))
  turn-modes (Evict rd id count) e =
      evict-modes (evicted_rows s.rows id) (hart_after_set hart rd 0) fits
  turn-modes Next e = alone _ fits
  turn-modes (Set rd value) e = alone _ fits
  turn-modes (Jump target rd link) e = alone _ fits
  turn-modes (Store place width value) e = alone _ fits
  turn-modes (Csr rd old csrs) e = alone _ fits
  turn-modes (Put byte) e = alone _ fits
  turn-modes (Answer error) e = alone _ fits
  turn-modes ShutDown e = alone _ fits
  turn-modes (SetTimer timer) e = alone _ fits
  turn-modes (TakeKey key rest) e = alone _ fits
  turn-modes NoKey e = alone _ fits
  turn-modes (Refuse rd request code) e = alone _ fits
  turn-modes (Tell rd value) e = alone _ fits
  turn-modes (SetWord rd index records) e = alone _ fits
