-- How a module starts on a hart.
use Rattle.std.proofs.Common.{◌≡◌, ◌≢◌, ℕ, zero, suc, ◌+◌, ◌-◌, ◌<◌, ◌≤◌, ◌==◌, ◌&&◌, ◌⊎◌, Bool}
use Rattle.std.proofs.Common.{true, false, List, [], ◌∷◌, ◌++◌, drop, length, get_or, replicate}
use Rattle.std.proofs.Common.{set, take, Option, Some, None, inl, inr, refl, sym, ap, subst, cond}
use Rattle.std.proofs.Common.{◌∙◌, arith, eqb-true, eq-eqb, ne_eqb}
use Rattle.std.proofs.lemmas.List.{get_or-append-add, get_or-drop, get_or-replicate}
use Rattle.std.proofs.lemmas.List.{get_or-set_other, get_or-set_same, get_or-take}
use Rattle.std.proofs.lemmas.List.{get_or_append_left, length-drop, length-set, length-take-le}
use Rattle.std.proofs.lemmas.List.Elements.{All-get_or}
use Rattle.std.proofs.lemmas.Option.{none-some, same_Some}
use Rattle.std.specs.List.{list_any}
use Rattle.bn_types.specs.declared.cause.Cause.{Cause}
use Rattle.bn_types.specs.declared.event.Event.TheVariants.{Turn, Key, Poke, Peek}
use Rattle.bn_types.specs.declared.mod_id.ModId.{ModId}
use Rattle.bn_types.specs.declared.mode.Mode.{Mode}
use Rattle.bn_types.specs.declared.mode.Mode.TheVariants.{U, S}
use Rattle.bn_types.specs.declared.regs.Regs.{Regs}
use Rattle.bn_types.specs.declared.row.Row.{Row}
use Rattle.bn_types.specs.declared.row_state.RowState.{RowState}
use Rattle.bn_types.specs.declared.row_state.RowState.TheVariants.{Idle, Running, Waiting, Stopped}
use Rattle.bn_types.specs.declared.saved_frame.SavedFrame.{SavedFrame}
use Rattle.bn_model.specs.Bits.{is_set}
use Rattle.bn_model.specs.Deciding.{caller_of, decision_of, decision_of_hart, is_entry, is_idle}
use Rattle.bn_model.specs.Decision.{Decision, Rest, Trap, Deny, Start, Send, Call, Return, Resume}
use Rattle.bn_model.specs.Each.{each}
use Rattle.bn_model.specs.Rows.{enclaves, has_id, row_of, saved_of}
use Rattle.bn_model.specs.Soundness.{Ascend, Has, IsHart, IsRow, IsSound, caller_at, caller_if_some}
use Rattle.bn_model.specs.Soundness.{state_at, state_if_some}
use Rattle.bn_model.specs.State.{Hart, State, answer_registers, argument_registers}
use Rattle.bn_model.specs.State.{hart_after_answer, hart_after_call, hart_after_resume}
use Rattle.bn_model.specs.State.{hart_after_return, hart_after_stop, hart_after_trap, hart_at}
use Rattle.bn_model.specs.State.{hart_in, resting_hart, started_hart}
use Rattle.bn_model.specs.Stepping.{after_trap_in, after_turn, hart_by_mask, hart_if_named}
use Rattle.bn_model.specs.Stepping.{page_address, step}
use Rattle.bn_model.specs.Switching.{frame_of_caller, is_code_at, is_mode, is_stopped}
use Rattle.bn_model.specs.Switching.{is_stopped_at}
use Rattle.bn_model.specs.SwitchingLaws.{IsBack, IsStart, ModulesStart}
use Rattle.bn_model.specs.Walking.{access_fault}
use Rattle.bn_model.proofs.Evidence.{Calls, Holds, Resumes, Returns, holds}
use Rattle.bn_model.proofs.MembershipLemmas.{all-has, any-has, has-find}
use Rattle.bn_model.proofs.RowLemmas.{row_of-id}

-- ---- registers

module _ (regs : Regs) (full : length regs.x ≡ 32) where
  abbrev arguments : List ℕ
  arguments = take 8 (drop 10 regs.x)

  eight : length arguments ≡ 8
  eight =
      let rest : length (drop 10 regs.x) ≡ length regs.x - 10 = length-drop 10 regs.x in
      let enough : 8 ≤ length (drop 10 regs.x) = omega arith in
      length-take-le 8 (drop 10 regs.x) enough

  -- a0 to a7
  argument : (i : ℕ) → i < 8
      → get_or (argument_registers regs).x (10 + i) 0 ≡ get_or regs.x (10 + i) 0
  unfolding argument_registers
  argument i small =
      let inside : i < length arguments = omega (arith, eight) in
      get_or-append-add (replicate 10 0) (arguments ++ replicate 14 0) i 0
      ∙ get_or_append_left arguments (replicate 14 0) 0 i inside
      ∙ get_or-take 8 (drop 10 regs.x) i 0 small
      ∙ get_or-drop 10 regs.x i 0

  -- those before them
  before : (r : ℕ) → r < 10 → get_or (argument_registers regs).x r 0 ≡ 0
  unfolding argument_registers
  before r small =
      get_or_append_left (replicate 10 0) (take 8 (drop 10 regs.x) ++ replicate 14 0) 0 r small
      ∙ get_or-replicate 10 r 0 0 small

  -- those after them
  after : (i : ℕ) → i < 14 → get_or (argument_registers regs).x (10 + (8 + i)) 0 ≡ 0
  unfolding argument_registers
  after i small =
      get_or-append-add (replicate 10 0) (arguments ++ replicate 14 0) (8 + i) 0
      ∙ ap (λ (n : ℕ). get_or (arguments ++ replicate 14 0) (n + i) 0) (sym eight)
      ∙ get_or-append-add arguments (replicate 14 0) i 0
      ∙ get_or-replicate 14 i 0 0 small

module _ (x answer : List ℕ) where
  abbrev answered : List ℕ
  answered = set (set x 10 (get_or answer 10 0)) 11 (get_or answer 11 0)

  answer-first : length x ≡ 32 → get_or answered 10 0 ≡ get_or answer 10 0
  answer-first full =
      let inside : 10 < length x = omega arith in
      get_or-set_other (set x 10 (get_or answer 10 0)) 11 10 (get_or answer 11 0) 0 (λ e. cc)
      ∙ get_or-set_same x 10 (get_or answer 10 0) 0 inside

  answer-second : length x ≡ 32 → get_or answered 11 0 ≡ get_or answer 11 0
  answer-second full =
      let size : length (set x 10 (get_or answer 10 0)) ≡ length x =
      length-set x 10 (get_or answer 10 0) in
      let inside : 11 < length (set x 10 (get_or answer 10 0)) = omega arith in
      get_or-set_same (set x 10 (get_or answer 10 0)) 11 (get_or answer 11 0) 0 inside

  answer-other : (r : ℕ) → r ≢ 10 → r ≢ 11 → get_or answered r 0 ≡ get_or x r 0
  answer-other r one two =
      get_or-set_other (set x 10 (get_or answer 10 0)) 11 r (get_or answer 11 0) 0 two
      ∙ get_or-set_other x 10 r (get_or answer 10 0) 0 one

-- ---- rows

idle-state : (state : RowState) → is_idle state ≡ true → state ≡ Idle
idle-state Idle e = refl
idle-state (Running hart) e = cc
idle-state (Waiting callee) e = cc
idle-state Stopped e = cc

stopped-state : (state : RowState) → is_stopped state ≡ true → state ≡ Stopped
stopped-state Idle e = cc
stopped-state (Running hart) e = cc
stopped-state (Waiting callee) e = cc
stopped-state Stopped e = refl

first-true : (a b c d : Bool) → (a && b && c && d) ≡ true → a ≡ true
first-true true b c d e = refl
first-true false b c d e = cc

stopped-row : (page vpn pc : ℕ) (mode : Mode) (row : Row)
    → is_stopped_at page vpn pc mode row ≡ true → row.state ≡ Stopped
unfolding is_stopped_at
stopped-row page vpn pc mode row e =
    stopped-state row.state
    (first-true (is_stopped row.state) (list_any (is_code_at page vpn) row.judged.decls.items)
    (row.saved.pc == pc) (is_mode row.saved.mode mode) e)

caller-is : (o : Option Row) → caller_if_some o ≡ (caller_of o).0
caller-is None = refl
caller-is (Some row) = refl

-- ids ascend, so a row is the one of its id
row-of-id : (low : ℕ) (rows : List Row) (next : ℕ) → Ascend low (enclaves rows) next → (row : Row)
    → Has row rows
    → (low < row.id.0) × (row_of rows row.id.0 ≡ Some row)
unfolding enclaves
row-of-id low [] next ids row h = absurd h
row-of-id low (first ∷ rest) next ids row (inl is) =
    subst (λ (r : Row). (low < r.id.0) × (row_of (first ∷ rest) r.id.0 ≡ Some r)) (sym is) (
      ids.0,
      ap (λ (b : Bool). cond b (Some first) (row_of rest first.id.0))
          (eq-eqb first.id.0 first.id.0 refl),
    )
row-of-id low (first ∷ rest) next ids row (inr later) =
    let deeper = row-of-id first.id.0 rest next ids.2 row later in
    let one : low < first.id.0 = ids.0 in
    let two : first.id.0 < row.id.0 = deeper.0 in (
      omega arith,
      ap (λ (b : Bool). cond b (Some first) (row_of rest row.id.0))
          (ne_eqb first.id.0 row.id.0 (λ (e : first.id.0 ≡ row.id.0). absurd (omega arith)))
          ∙ deeper.1,
    )

-- ---- the three starts

same-mode : (mode other : Mode) → is_mode mode other ≡ true → mode ≡ other
same-mode U U e = refl
same-mode U S e = cc
same-mode S U e = cc
same-mode S S e = refl

call-starts : (s : State) (m : ℕ) (hart : Hart) (callee entry : ℕ) → length hart.regs.x ≡ 32
    → Calls s hart callee entry → callee ≡ m
    → IsStart s m hart (hart_after_call hart callee entry)
call-starts s m hart callee entry full calls is =
    let named = any-has (is_entry entry) calls.row.judged.entries.items calls.entries in record {
      row = calls.row;
      live = has-find (has_id callee) s.rows calls.row calls.found;
      whose = row_of-id s.rows callee calls.row calls.found ∙ is;
      starts = inl (record {
        idle = idle-state calls.row.state calls.idle;
        entry =
            subst (λ (at : ℕ). Has at calls.row.judged.entries.items)
            (eqb-true named.0 entry named.2) named.1;
        mode = same-mode hart.mode calls.row.judged.mode calls.mode;
        arguments = λ r low high. passed r low high;
        others = λ r out small. cleared r out small;
      });
    }
  where
    passed : (r : ℕ) → 10 ≤ r → r ≤ 17
        → get_or (argument_registers hart.regs).x r 0 ≡ get_or hart.regs.x r 0
    passed r low high =
        let place : 10 + (r - 10) ≡ r = omega arith in
        let small : r - 10 < 8 = omega arith in
        subst
        (λ (n : ℕ). get_or (argument_registers hart.regs).x n 0 ≡ get_or hart.regs.x n 0) place
        (argument hart.regs full (r - 10) small)

    cleared : (r : ℕ) → (r < 10) ⊎ (17 < r) → r < 32
        → get_or (argument_registers hart.regs).x r 0 ≡ 0
    cleared r (inl low) small = before hart.regs full r low
    cleared r (inr high) small =
        let place : 10 + (8 + (r - 18)) ≡ r = omega arith in
        let inside : r - 18 < 14 = omega arith in
        subst (λ (n : ℕ). get_or (argument_registers hart.regs).x n 0 ≡ 0) place
        (after hart.regs full (r - 18) inside)

resume-starts : (s : State) (m : ℕ) (hart : Hart) (id : ModId) → IsSound s → Resumes s hart id
    → id.0 ≡ m
    → IsStart s m hart (hart_after_resume hart id (saved_of (row_of s.rows id.0)))
resume-starts s m hart id sound resumes is =
    let found : row_of s.rows id.0 ≡ Some resumes.row =
    ap (λ (i : ModId). row_of s.rows i.0) (sym resumes.whose)
    ∙ (row-of-id zero s.rows s.next sound.ids.ascend resumes.row resumes.has).1 in
    let frame : saved_of (row_of s.rows id.0) ≡ resumes.row.saved = ap saved_of found in record {
      row = resumes.row;
      live = resumes.has;
      whose = ap (λ (i : ModId). i.0) resumes.whose ∙ is;
      starts = inr (inl (record {
        stopped = stopped-row resumes.page _ hart.pc hart.mode resumes.row resumes.stopped;
        pc = ap (λ (f : SavedFrame). f.pc) frame;
        mode = ap (λ (f : SavedFrame). f.mode) frame;
        registers = ap (λ (f : SavedFrame). f.regs) frame;
      }));
    }

-- the row of a state that is known
record Stands (rows : List Row) (id : ℕ) (state : RowState) : Type 0 where
  row : Row
  found : row_of rows id ≡ Some row
  has : Has row rows
  is : row.state ≡ state

stands : (rows : List Row) (id : ℕ) (state : RowState) → state_at rows id ≡ Some state
    → Stands rows id state
stands rows id state e = by_row (row_of rows id) refl e
  where
    by_row : (o : Option Row) → row_of rows id ≡ o → state_if_some o ≡ Some state
        → Stands rows id state
    by_row None found is = absurd (none-some state is)
    by_row (Some row) found is =
        record {
          row = row;
          found = found;
          has = has-find (has_id id) rows row found;
          is = same_Some row.state state is;
        }

-- registers of a sound row
frame-full : (s : State) → IsSound s → (row : Row) → Has row s.rows → length row.saved.regs.x ≡ 32
frame-full s sound row has = (all-has IsRow s.rows row sound.rows has).saved.regs.count

back-register : (row : Row) (hart : Hart) → length row.saved.regs.x ≡ 32 → (r : ℕ) → (r ≡ 10)
    ⊎ (r ≡ 11)
    → get_or (answer_registers row.saved.regs hart.regs).x r 0 ≡ get_or hart.regs.x r 0
unfolding answer_registers
back-register row hart full r (inl e) =
    subst (λ (n : ℕ). get_or (answered row.saved.regs.x hart.regs.x) n 0 ≡ get_or hart.regs.x n 0)
    (sym e)
    (answer-first row.saved.regs.x hart.regs.x full)
back-register row hart full r (inr e) =
    subst (λ (n : ℕ). get_or (answered row.saved.regs.x hart.regs.x) n 0 ≡ get_or hart.regs.x n 0)
    (sym e)
    (answer-second row.saved.regs.x hart.regs.x full)

back-other : (row : Row) (hart : Hart) (r : ℕ) → r ≢ 10 → r ≢ 11
    → get_or (answer_registers row.saved.regs hart.regs).x r 0 ≡ get_or row.saved.regs.x r 0
unfolding answer_registers
back-other row hart r one two = answer-other row.saved.regs.x hart.regs.x r one two

back : (row : Row) (hart : Hart) (caller : ModId) → row.state ≡ Waiting hart.current
    → length row.saved.regs.x ≡ 32
    → IsBack row hart (hart_after_return hart caller row.saved)
back row hart caller waited full = record {
  waited = waited;
  pc = refl;
  mode = refl;
  answers = back-register row hart full;
  others = back-other row hart;
}

return-starts : (s : State) (m : ℕ) (hart : Hart) (caller : ModId) (pc : ℕ) → IsSound s
    → Returns s hart caller pc → caller.0 ≡ suc m
    → IsStart s (suc m) hart
    (hart_after_return hart caller (frame_of_caller caller.0 s.rows hart.current.0))
return-starts s m hart caller pc sound returns is =
    let called : caller_at s.rows hart.current.0 ≡ suc m =
    caller-is (row_of s.rows hart.current.0) ∙ sym (ap (λ (i : ModId). i.0) returns.is) ∙ is in
    let waits =
    stands s.rows (suc m) (Waiting hart.current) (sound.states.called hart.current.0 m called) in
    let frame : frame_of_caller caller.0 s.rows hart.current.0 ≡ waits.row.saved =
    ap (λ (c : ℕ). frame_of_caller c s.rows hart.current.0) is ∙ ap saved_of waits.found in
    subst (λ (f : SavedFrame). IsStart s (suc m) hart (hart_after_return hart caller f)) (sym frame)
    (record {
      row = waits.row;
      live = waits.has;
      whose = row_of-id s.rows (suc m) waits.row waits.found;
      starts =
          inr (inr (back waits.row hart caller waits.is (frame-full s sound waits.row waits.has)));
    })

-- ---- the hart that starts it

-- a hart of a machine, after one hart changed
set-cases : (harts : List Hart) (k h : ℕ) (new : Hart)
    → ((h ≡ k) × (hart_in (set harts k new) h ≡ new))
    ⊎ (hart_in (set harts k new) h ≡ hart_in harts h)
set-cases [] k h new = inr refl
set-cases (hart ∷ harts) zero zero new = inl (refl, refl)
set-cases (hart ∷ harts) zero (suc h) new = inr refl
set-cases (hart ∷ harts) (suc k) zero new = inr refl
set-cases (hart ∷ harts) (suc k) (suc h) new = deeper (set-cases harts k h new)
  where
    deeper : ((h ≡ k) × (hart_in (set harts k new) h ≡ new))
        ⊎ (hart_in (set harts k new) h ≡ hart_in harts h)
        → ((suc h ≡ suc k) × (hart_in (set harts k new) h ≡ new))
        ⊎ (hart_in (set harts k new) h ≡ hart_in harts h)
    deeper (inl here) = inl (ap suc here.0, here.1)
    deeper (inr there) = inr there

current-each : (change : ℕ → Hart → Hart)
    → ((k : ℕ) (hart : Hart) → (change k hart).current.0 ≡ hart.current.0)
    → (i : ℕ) (harts : List Hart) (h : ℕ)
    → (hart_in (each change i harts) h).current.0 ≡ (hart_in harts h).current.0
current-each change same i [] h = refl
current-each change same i (hart ∷ harts) zero = same i hart
current-each change same i (hart ∷ harts) (suc h) = current-each change same (suc i) harts h

current-named : (b : Bool) (hart : Hart) → (hart_if_named b hart).current.0 ≡ hart.current.0
current-named true hart = refl
current-named false hart = refl

-- one of them is started
abbrev with_started : List Hart → (target pc opaque : ℕ) → List Hart
with_started harts target pc opaque = set harts target (started_hart target pc opaque)

zero-suc : {P : Type 0} (m : ℕ) → zero ≡ suc m → P
zero-suc m e = cc

module _ (s : State) (t h m : ℕ) (fresh : (hart_at s h).current.0 ≢ suc m) where
  -- the hart of a turn alone changes
  at-turn : (new : Hart)
      → ((hart_at s t).current.0 ≢ suc m → new.current.0 ≡ suc m
      → IsStart s (suc m) (hart_at s t) new)
      → (hart_in (set s.harts t new) h).current.0 ≡ suc m
      → IsStart s (suc m) (hart_at s h) (hart_in (set s.harts t new) h)
  at-turn new starts runs = by_place (set-cases s.harts t h new)
    where
      by_place : ((h ≡ t) × (hart_in (set s.harts t new) h ≡ new))
          ⊎ (hart_in (set s.harts t new) h ≡ hart_in s.harts h)
          → IsStart s (suc m) (hart_at s h) (hart_in (set s.harts t new) h)
      by_place (inl here) =
          subst (λ (after : Hart). IsStart s (suc m) (hart_at s h) after) (sym here.1)
          (subst (λ (k : ℕ). IsStart s (suc m) (hart_at s k) new) (sym here.0)
          (starts (λ e. fresh (ap (λ (k : ℕ). (hart_at s k).current.0) here.0 ∙ e))
          (sym (ap (λ (after : Hart). after.current.0) here.1) ∙ runs)))
      by_place (inr there) =
          absurd (fresh (sym (ap (λ (after : Hart). after.current.0) there) ∙ runs))

  -- it goes on with its module
  quiet : (new : Hart) → new.current.0 ≡ (hart_at s t).current.0
      → (hart_in (set s.harts t new) h).current.0 ≡ suc m
      → IsStart s (suc m) (hart_at s h) (hart_in (set s.harts t new) h)
  quiet new same = at-turn new (λ other runs. absurd (other (sym same ∙ runs)))

  -- no hart has a module that it hadn't
  none : (harts : List Hart)
      → ((hart_in harts h).current.0 ≡ suc m → (hart_at s h).current.0 ≡ suc m)
      → (hart_in harts h).current.0 ≡ suc m → IsStart s (suc m) (hart_at s h) (hart_in harts h)
  none harts same runs = absurd (fresh (same runs))

  quiet-current : (new : Hart) → new.current.0 ≡ (hart_at s t).current.0
      → (hart_in (set s.harts t new) h).current.0 ≡ suc m → (hart_at s h).current.0 ≡ suc m
  quiet-current new same runs = by_place (set-cases s.harts t h new)
    where
      by_place : ((h ≡ t) × (hart_in (set s.harts t new) h ≡ new))
          ⊎ (hart_in (set s.harts t new) h ≡ hart_in s.harts h)
          → (hart_at s h).current.0 ≡ suc m
      by_place (inl here) =
          ap (λ (k : ℕ). (hart_at s k).current.0) here.0 ∙ sym same
          ∙ sym (ap (λ (after : Hart). after.current.0) here.1) ∙ runs
      by_place (inr there) = sym (ap (λ (after : Hart). after.current.0) there) ∙ runs

  trap-starts : (current : ℕ) → current ≡ (hart_at s t).current.0 → (cause : Cause) (value : ℕ)
      → (hart_at (after_trap_in current s t (hart_at s t) cause value) h).current.0 ≡ suc m
      → IsStart s (suc m) (hart_at s h)
      (hart_at (after_trap_in current s t (hart_at s t) cause value) h)
  trap-starts zero is cause value = quiet (hart_after_trap (hart_at s t) cause value) refl
  trap-starts (suc k) is cause value =
      at-turn (hart_after_trap (hart_after_stop (hart_at s t)) cause (page_address value))
      (λ other runs. absurd (zero-suc m runs))

  -- a hart that is started runs no module
  start-current : (target pc opaque : ℕ) (new : Hart) → new.current.0 ≡ (hart_at s t).current.0
      → (hart_in (with_started (set s.harts t new) target pc opaque) h).current.0 ≡ suc m
      → (hart_at s h).current.0 ≡ suc m
  start-current target pc opaque new same runs =
      by_place (set-cases (set s.harts t new) target h (started_hart target pc opaque))
    where
      by_place : ((h ≡ target)
          × (hart_in (with_started (set s.harts t new) target pc opaque) h
          ≡ started_hart target pc opaque))
          ⊎ (hart_in (with_started (set s.harts t new) target pc opaque) h
          ≡ hart_in (set s.harts t new) h)
          → (hart_at s h).current.0 ≡ suc m
      by_place (inl here) =
          absurd (zero-suc m (sym (ap (λ (after : Hart). after.current.0) here.1) ∙ runs))
      by_place (inr there) =
          quiet-current new same (sym (ap (λ (after : Hart). after.current.0) there) ∙ runs)

  turn-starts : length (hart_at s t).regs.x ≡ 32 → IsSound s → (d : Decision)
      → Holds s t (hart_at s t) d
      → (hart_at (after_turn s t (hart_at s t) d) h).current.0 ≡ suc m
      → IsStart s (suc m) (hart_at s h) (hart_at (after_turn s t (hart_at s t) d) h)
  unfolding Holds
  turn-starts full sound Rest knows = none s.harts (λ runs. runs)
  turn-starts full sound (Trap cause value) knows =
      trap-starts (hart_at s t).current.0 refl cause value
  turn-starts full sound (Deny kind va) knows =
      trap-starts (hart_at s t).current.0 refl (access_fault kind) va
  turn-starts full sound (Start target pc opaque) knows =
      none
      (with_started (set s.harts t (hart_after_answer (hart_at s t) 0)) target pc opaque)
      (start-current target pc opaque (hart_after_answer (hart_at s t) 0) refl)
  turn-starts full sound (Send mask) knows =
      none (each (hart_by_mask mask) 0 (set s.harts t (hart_after_answer (hart_at s t) 0)))
      (λ runs. quiet-current (hart_after_answer (hart_at s t) 0) refl
      (sym
      (current-each (hart_by_mask mask) (λ k hart. current-named (is_set mask k) hart) 0
      (set s.harts t (hart_after_answer (hart_at s t) 0)) h) ∙ runs))
  turn-starts full sound (Call rd callee entry) knows =
      at-turn (hart_after_call (hart_at s t) callee entry)
      (λ other runs. call-starts s (suc m) (hart_at s t) callee entry full knows runs)
  turn-starts full sound (Return caller pc) knows =
      at-turn
      (hart_after_return (hart_at s t) caller
      (frame_of_caller caller.0 s.rows (hart_at s t).current.0))
      (λ other runs. return-starts s m (hart_at s t) caller pc sound knows runs)
  turn-starts full sound (Resume id) knows =
      at-turn (hart_after_resume (hart_at s t) id (saved_of (row_of s.rows id.0)))
      (λ other runs. resume-starts s (suc m) (hart_at s t) id sound knows runs)
  turn-starts full sound decision knows = quiet _ refl

pub modules-start : ModulesStart
unfolding step decision_of
modules-start s (Turn t) h m fits sound fresh runs =
    let hart : IsHart s.clock (hart_at s t) =
    All-get_or (IsHart s.clock) s.harts t resting_hart fits sound.harts in
    turn-starts s t h m fresh hart.regs.count sound (decision_of_hart s t (hart_at s t))
    (holds s t (hart_at s t)) runs
modules-start s (Key byte) h m fits sound fresh runs = absurd (fresh runs)
modules-start s (Poke page offset byte) h m fits sound fresh runs = absurd (fresh runs)
modules-start s (Peek page offset) h m fits sound fresh runs = absurd (fresh runs)
