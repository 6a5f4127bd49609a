-- Who runs, waits and is called, after each turn.
use Rattle.std.proofs.Common.{◌≡◌, ℕ, zero, suc, ◌<◌, ◌≤◌, ◌==◌, ◌&&◌, ◌⊎◌, Bool, true}
use Rattle.std.proofs.Common.{false, cond, not, List, [], ◌∷◌, ◌++◌, find, length}
use Rattle.std.proofs.Common.{set, Option, Some, None, is_some, option_map, inl, inr, refl, sym, ap}
use Rattle.std.proofs.Common.{subst, ◌∙◌, arith, eq-eqb, ne_eqb}
use Rattle.std.proofs.lemmas.List.{get_or-set_other, get_or-set_same, length-set}
use Rattle.std.proofs.lemmas.Option.{none-some}
use Rattle.std.specs.List.{list_any}
use Rattle.bn_types.specs.Registers.{zero_frame}
use Rattle.bn_types.specs.declared.cause.Cause.{Cause}
use Rattle.bn_types.specs.declared.judged.Judged.{Judged}
use Rattle.bn_types.specs.declared.mod_id.ModId.{ModId}
use Rattle.bn_types.specs.declared.mode.Mode.{Mode}
use Rattle.bn_types.specs.declared.reg.Reg.{Reg}
use Rattle.bn_types.specs.declared.row.Row.{Row}
use Rattle.bn_types.specs.declared.row_state.RowState.{RowState}
use Rattle.bn_types.specs.declared.row_state.RowState.TheVariants.{Idle, Running, Waiting, Stopped}
use Rattle.bn_types.specs.declared.saved_frame.SavedFrame.{SavedFrame}
use Rattle.bn_model.specs.Deciding.{caller_of, is_idle}
use Rattle.bn_model.specs.Decision.{Decision, Rest, Trap, Deny, Next, Set, Jump, Store, Csr}
use Rattle.bn_model.specs.Decision.{ReturnFromTrap, Put, Answer, ShutDown, SetTimer, TakeKey, NoKey}
use Rattle.bn_model.specs.Decision.{Start, Send, Refuse, Launch, Call, Return, Resume, Evict, Tell}
use Rattle.bn_model.specs.Decision.{SetWord}
use Rattle.bn_model.specs.Each.{each}
use Rattle.bn_model.specs.Evicting.{evicted_rows, is_among, rows_left}
use Rattle.bn_model.specs.Owners.{is_live}
use Rattle.bn_model.specs.Rows.{enclaves, has_id, new_row, owners, row_of, saved_of, with_row}
use Rattle.bn_model.specs.Soundness.{AreAsleep, AreStates, Ascend, Has, HasIds, caller_at}
use Rattle.bn_model.specs.Soundness.{caller_if_some, module_of, state_at, state_if_some}
use Rattle.bn_model.specs.State.{Hart, State, frame_of, hart_after_answer, hart_after_call}
use Rattle.bn_model.specs.State.{hart_after_resume, hart_after_return, hart_after_set}
use Rattle.bn_model.specs.State.{hart_after_stop, hart_after_trap, resting_hart}
use Rattle.bn_model.specs.State.{started_hart}
use Rattle.bn_model.specs.Stepping.{after_trap_in, after_turn, frame_of_call, hart_by_mask}
use Rattle.bn_model.specs.Stepping.{hart_if_named, page_address}
use Rattle.bn_model.specs.Bits.{is_set}
use Rattle.bn_model.specs.Switching.{frame_of_caller, is_code_at, is_mode, is_stopped}
use Rattle.bn_model.specs.Switching.{is_stopped_at, row_after_answer, row_after_call}
use Rattle.bn_model.specs.Switching.{row_after_resume, row_after_return, row_after_stop}
use Rattle.bn_model.specs.Switching.{row_after_wait, rows_after_call, rows_after_return}
use Rattle.bn_model.specs.Walking.{access_fault}
use Rattle.bn_model.proofs.Chains.{chain-down, chain-up}
use Rattle.bn_model.proofs.ClaimLemmas.{live-left}
use Rattle.bn_model.proofs.Evidence.{Calls, Evicts, Holds, Resumes, Returns}
use Rattle.bn_model.proofs.RestingLemmas.{left-row}
use Rattle.bn_model.proofs.RowLemmas.{Keeps, is_live-row_of, row_of-other, row_of-same, seen-same}
use Rattle.bn_model.proofs.Switches.{by_same, called-inside, called-outside, evicted-there}
use Rattle.bn_model.proofs.Switches.{launched-there, resumed-there, returned-inside}
use Rattle.bn_model.proofs.Switches.{returned-outside, stopped-there, unswitched}
use Rattle.bn_model.proofs.TestLemmas.{find-push}

-- ---- the modules of harts

module-here : (harts : List Hart) (h : ℕ) (hart : Hart) → h < length harts
    → module_of (set harts h hart) h ≡ hart.current.0
module-here harts h hart within =
    ap (λ (x : Hart). x.current.0) (get_or-set_same harts h hart resting_hart within)

module-other : (harts : List Hart) (h : ℕ) (hart : Hart) (k : ℕ) → (k ≡ h → ⊥)
    → module_of (set harts h hart) k ≡ module_of harts k
module-other harts h hart k other =
    ap (λ (x : Hart). x.current.0) (get_or-set_other harts h k hart resting_hart other)

module-same : (harts : List Hart) (h : ℕ) (hart : Hart) → h < length harts
    → hart.current.0 ≡ module_of harts h
    → (k : ℕ) → module_of (set harts h hart) k ≡ module_of harts k
module-same harts h hart within same k =
    by_same k h
    (λ is. ap (module_of (set harts h hart)) is ∙ module-here harts h hart within ∙ same
    ∙ ap (module_of harts) (sym is))
    (λ other. module-other harts h hart k other)

module-each : (change : ℕ → Hart → Hart)
    → ((k : ℕ) (hart : Hart) → (change k hart).current.0 ≡ hart.current.0)
    → (i : ℕ) (harts : List Hart) (k : ℕ) → module_of (each change i harts) k ≡ module_of harts k
module-each change same i [] k = refl
module-each change same i (hart ∷ harts) zero = same i hart
module-each change same i (hart ∷ harts) (suc k) = module-each change same (suc i) harts k

-- ---- the states of rows

state-set : (rows : List Row) (m : ℕ) (change : Row → Row) → Keeps change → (was new : RowState)
    → ((row : Row) → (change row).state ≡ new) → state_at rows m ≡ Some was
    → state_at (with_row m change rows) m ≡ Some new
state-set rows m change keeps was new is e =
    ap state_if_some (row_of-same m change keeps rows) ∙ by_row (row_of rows m) e
  where
    by_row : (o : Option Row) → state_if_some o ≡ Some was
        → state_if_some (option_map change o) ≡ Some new
    by_row None e = absurd (none-some was e)
    by_row (Some row) e = ap (λ (state : RowState). Some state) (is row)

caller-set : (rows : List Row) (m : ℕ) (change : Row → Row) → Keeps change
    → (was : RowState) (caller : ℕ)
    → ((row : Row) → (change row).caller.0 ≡ caller) → state_at rows m ≡ Some was
    → caller_at (with_row m change rows) m ≡ caller
caller-set rows m change keeps was caller is e =
    ap caller_if_some (row_of-same m change keeps rows) ∙ by_row (row_of rows m) e
  where
    by_row : (o : Option Row) → state_if_some o ≡ Some was
        → caller_if_some (option_map change o) ≡ caller
    by_row None e = absurd (none-some was e)
    by_row (Some row) e = is row

pub state-other : (rows : List Row) (m : ℕ) (change : Row → Row) → Keeps change → (i : ℕ)
    → (i ≡ m → ⊥) → state_at (with_row m change rows) i ≡ state_at rows i
state-other rows m change keeps i other =
    ap state_if_some (row_of-other m change keeps i rows other)

caller-other : (rows : List Row) (m : ℕ) (change : Row → Row) → Keeps change → (i : ℕ) → (i ≡ m → ⊥)
    → caller_at (with_row m change rows) i ≡ caller_at rows i
caller-other rows m change keeps i other =
    ap caller_if_some (row_of-other m change keeps i rows other)

caller-seen : (rows : List Row) (m : ℕ) (change : Row → Row) → Keeps change
    → ((row : Row) → (change row).caller.0 ≡ row.caller.0)
    → (i : ℕ) → caller_at (with_row m change rows) i ≡ caller_at rows i
caller-seen rows m change keeps same i = seen-same caller_if_some m change keeps same i rows

-- ---- ids

-- a row is the one of its id
pub row_of-has : (low : ℕ) (rows : List Row) (next : ℕ) → Ascend low (enclaves rows) next
    → (row : Row) → Has row rows
    → (low < row.id.0) × (row_of rows row.id.0 ≡ Some row)
unfolding enclaves
row_of-has low [] next ids row h = absurd h
row_of-has low (first ∷ rest) next ids row (inl is) =
    subst (λ (r : Row). (low < r.id.0) × (row_of (first ∷ rest) r.id.0 ≡ Some r)) (sym is) (
      ids.0,
      ap (λ (b : Bool). cond b (Some first) (row_of rest first.id.0))
          (eq-eqb first.id.0 first.id.0 refl),
    )
row_of-has low (first ∷ rest) next ids row (inr later) =
    let deeper = row_of-has first.id.0 rest next ids.2 row later in
    let one : low < first.id.0 = ids.0 in
    let two : first.id.0 < row.id.0 = deeper.0 in (
      omega arith,
      ap (λ (b : Bool). cond b (Some first) (row_of rest row.id.0))
          (ne_eqb first.id.0 row.id.0 (λ (e : first.id.0 ≡ row.id.0). absurd (omega arith)))
          ∙ deeper.1,
    )

-- the next id is nobody's
pub next-free : (low : ℕ) (rows : List Row) (next : ℕ) → Ascend low (enclaves rows) next
    → row_of rows next ≡ None
unfolding enclaves
next-free low [] next ids = refl
next-free low (first ∷ rest) next ids =
    let below : first.id.0 < next = ids.1 in
    ap (λ (b : Bool). cond b (Some first) (row_of rest next))
    (ne_eqb first.id.0 next (λ (e : first.id.0 ≡ next). absurd (omega arith)))
    ∙ next-free first.id.0 rest next ids.2

found-last : {X : Type 0} (p : X → Bool) (b : Bool) (y x : X) (rest after : Option X)
    → cond b (Some y) rest ≡ None → (rest ≡ None → after ≡ Some x)
    → cond b (Some y) after ≡ Some x
found-last p true y x rest after e deeper = absurd (none-some y (sym e))
found-last p false y x rest after e deeper = deeper e

find-last : {X : Type 0} (p : X → Bool) (xs : List X) (x : X) → find p xs ≡ None → p x ≡ true
    → find p (xs ++ x ∷ []) ≡ Some x
find-last p [] x none is = ap (λ (b : Bool). cond b (Some x) None) is
find-last p (y ∷ ys) x none is =
    found-last p (p y) y x (find p ys) (find p (ys ++ x ∷ [])) none (λ e. find-last p ys x e is)

none-if : (o : Option Row) → is_some o ≡ false → o ≡ None
none-if None e = refl
none-if (Some row) e = absurd cc

-- a row that goes is gone
pub row_of-gone : (gone rows : List Row) (i : ℕ) → is_among gone i ≡ true
    → row_of (rows_left gone rows) i ≡ None
row_of-gone gone rows i among =
    none-if (row_of (rows_left gone rows) i)
    (sym (is_live-row_of i (rows_left gone rows)) ∙ live-left gone rows i
    ∙ ap (λ (b : Bool). not b && is_live (owners rows) i) among)

-- ---- each switch of a turn

pub idle-state : (state : RowState) → is_idle state ≡ true → state ≡ Idle
idle-state Idle e = refl
idle-state (Running hart) e = absurd cc
idle-state (Waiting callee) e = absurd cc
idle-state Stopped e = absurd cc

stopped-state : (state : RowState) → is_stopped state ≡ true → state ≡ Stopped
stopped-state Idle e = absurd cc
stopped-state (Running hart) e = absurd cc
stopped-state (Waiting callee) e = absurd cc
stopped-state Stopped e = refl

first-true : (a b c d : Bool) → (a && b && c && d) ≡ true → a ≡ true
first-true true b c d e = refl
first-true false b c d e = absurd cc

pub caller-is : (o : Option Row) → (caller_of o).0 ≡ caller_if_some o
caller-is None = refl
caller-is (Some row) = refl

-- the module to which one returns is its caller
pub returns-caller : (s : State) (hart : Hart) (caller : ModId) (pc : ℕ) → Returns s hart caller pc
    → caller_at s.rows hart.current.0 ≡ caller.0
returns-caller s hart caller pc returns =
    sym (ap (λ (i : ModId). i.0) returns.is ∙ caller-is (row_of s.rows hart.current.0))

stopped-there-row : (page vpn pc : ℕ) (mode : Mode) (row : Row)
    → is_stopped_at page vpn pc mode row ≡ true → row.state ≡ Stopped
unfolding is_stopped_at
stopped-there-row page vpn pc mode row e =
    stopped-state row.state
    (first-true (is_stopped row.state) (list_any (is_code_at page vpn) row.judged.decls.items)
    (row.saved.pc == pc) (is_mode row.saved.mode mode) e)

-- the module with which one goes on has a row, and is stopped
pub resumes-row : (s : State) (hart : Hart) (id : ModId) → HasIds (enclaves s.rows) s.next
    → (r : Resumes s hart id)
    → (row_of s.rows id.0 ≡ Some r.row) × (r.row.state ≡ Stopped)
resumes-row s hart id ids r = (
  ap (λ (i : ModId). row_of s.rows i.0) (sym r.whose)
      ∙ (row_of-has zero s.rows s.next ids.ascend r.row r.has).1,
  stopped-there-row r.page _ hart.pc hart.mode r.row r.stopped,
)

two-states : {P : Type 0} (o : Option RowState) (one other : RowState) → o ≡ Some one
    → o ≡ Some other → (one ≡ other → ⊥) → P
two-states o one other e d apart = absurd (apart (grind arith))

no-state : {P : Type 0} (o : Option RowState) (one : RowState) → o ≡ None → o ≡ Some one → P
no-state o one none some = absurd (none-some one (sym none ∙ some))

-- it waits for a module that goes
record WaitsAmong (gone : List Row) (state : Option RowState) : Type 0 where
  callee : ModId
  among : is_among gone callee.0 ≡ true
  waits : state ≡ Some (Waiting callee)

-- the module that a row waits for
waited : Option RowState → ℕ
waited None = zero
waited (Some Idle) = zero
waited (Some (Running on)) = zero
waited (Some (Waiting callee)) = callee.0
waited (Some Stopped) = zero

waits-same : (o : Option RowState) (one other : ModId) → o ≡ Some (Waiting one)
    → o ≡ Some (Waiting other) → other.0 ≡ one.0
unfolding waited
waits-same o one other e d = ap waited (sym d ∙ e)

module _ (s : State) (h : ℕ) (hart : Hart) (within : h < length s.harts)
    (mine : hart.current.0 ≡ module_of s.harts h)
    (st : AreStates s.harts s.rows) where
  -- the hart alone changes, and goes on with its module
  alone : (new : Hart) → new.current.0 ≡ hart.current.0 → AreStates (set s.harts h new) s.rows
  alone new same =
      unswitched (module_of s.harts) (state_at s.rows) (caller_at s.rows) st
      (module_of (set s.harts h new)) (state_at s.rows) (caller_at s.rows)
      (module-same s.harts h new within (same ∙ mine)) (λ id. refl) (λ id. refl)

  trap-states : (cause : Cause) (value current : ℕ) → hart.current.0 ≡ current
      → AreStates (after_trap_in current s h hart cause value).harts
      (after_trap_in current s h hart cause value).rows
  trap-states cause value zero e = alone (hart_after_trap hart cause value) refl
  trap-states cause value (suc m) e =
      let new : Hart = hart_after_trap (hart_after_stop hart) cause (page_address value) in
      let stop : Row → Row = row_after_stop (frame_of hart) in
      let keeps : Keeps stop = record { same = λ row. refl } in
      let ran : state_at s.rows (suc m) ≡ Some (Running h) = st.current h m (sym mine ∙ e) in
      stopped-there (module_of s.harts) (state_at s.rows) (caller_at s.rows) st
      (module_of (set s.harts h new)) (state_at (with_row (suc m) stop s.rows))
      (caller_at (with_row (suc m) stop s.rows))
      h (suc m) (sym mine ∙ e) ran
      (module-here s.harts h new within) (module-other s.harts h new)
      (state-set s.rows (suc m) stop keeps (Running h) Stopped (λ row. refl) ran)
      (state-other s.rows (suc m) stop keeps)
      (caller-seen s.rows (suc m) stop keeps (λ row. refl))

  call-states : (rd : Reg) (callee entry : ℕ) → Calls s hart callee entry
      → (frame : SavedFrame) (current : ℕ) → hart.current.0 ≡ current
      → AreStates (set s.harts h (hart_after_call hart callee entry))
      (rows_after_call current h callee frame s.rows)
  call-states rd callee entry calls frame zero e =
      let new : Hart = hart_after_call hart callee entry in
      let change : Row → Row = row_after_call h (record { 0 = zero }) frame in
      let keeps : Keeps change = record { same = λ row. refl } in
      let idle : state_at s.rows callee ≡ Some Idle = ap state_if_some calls.found
      ∙ ap (λ (t : RowState). Some t) (idle-state calls.row.state calls.idle) in
      called-outside (module_of s.harts) (state_at s.rows) (caller_at s.rows) st
      (module_of (set s.harts h new)) (state_at (with_row callee change s.rows))
      (caller_at (with_row callee change s.rows))
      h callee (sym mine ∙ e) idle
      (module-here s.harts h new within) (module-other s.harts h new)
      (state-set s.rows callee change keeps Idle (Running h) (λ row. refl) idle)
      (state-other s.rows callee change keeps)
      (caller-set s.rows callee change keeps Idle zero (λ row. refl) idle)
      (caller-other s.rows callee change keeps)
  call-states rd callee entry calls frame (suc c) e =
      let new : Hart = hart_after_call hart callee entry in
      let change : Row → Row = row_after_call h (record { 0 = suc c }) zero_frame in
      let waits : Row → Row = row_after_wait frame callee in
      let keeps : Keeps change = record { same = λ row. refl } in
      let kept : Keeps waits = record { same = λ row. refl } in
      let inner : List Row = with_row (suc c) waits s.rows in
      let idle : state_at s.rows callee ≡ Some Idle = ap state_if_some calls.found
      ∙ ap (λ (t : RowState). Some t) (idle-state calls.row.state calls.idle) in
      let ran : state_at s.rows (suc c) ≡ Some (Running h) = st.current h c (sym mine ∙ e) in
      let apart : callee ≡ suc c → ⊥ = λ is.
      two-states (state_at s.rows callee) Idle (Running h) idle (ap (state_at s.rows) is ∙ ran)
      (λ f. cc) in
      let idle_inner : state_at inner callee ≡ Some Idle =
      state-other s.rows (suc c) waits kept callee apart ∙ idle in
      called-inside (module_of s.harts) (state_at s.rows) (caller_at s.rows) st
      (module_of (set s.harts h new)) (state_at (with_row callee change inner))
      (caller_at (with_row callee change inner))
      h callee c (sym mine ∙ e) idle
      (module-here s.harts h new within) (module-other s.harts h new)
      (state-set inner callee change keeps Idle (Running h) (λ row. refl) idle_inner)
      (state-other inner callee change keeps (suc c) (λ is. apart (sym is))
      ∙ state-set s.rows (suc c) waits kept (Running h) (Waiting (record { 0 = callee }))
      (λ row. refl) ran)
      (λ id one two. state-other inner callee change keeps id one
      ∙ state-other s.rows (suc c) waits kept id two)
      (caller-set inner callee change keeps Idle (suc c) (λ row. refl) idle_inner)
      (λ id one. caller-other inner callee change keeps id one
      ∙ caller-seen s.rows (suc c) waits kept (λ row. refl) id)

  return-states : (caller : ModId) (pc : ℕ) (frame : SavedFrame) → Returns s hart caller pc
      → (n : ℕ) → caller.0 ≡ n
      → AreStates (set s.harts h (hart_after_return hart caller frame))
      (rows_after_return n h hart.current.0 s.rows)
  return-states caller pc frame returns zero e =
      let m : ℕ = hart.current.0 in
      let new : Hart = hart_after_return hart caller frame in
      let keeps : Keeps row_after_return = record { same = λ row. refl } in
      let ran : state_at s.rows m ≡ Some (Running h) = ap (state_at s.rows) returns.inside
      ∙ st.current h returns.m (sym mine ∙ returns.inside) in
      let called : caller_at s.rows m ≡ zero =
      sym (ap (λ (i : ModId). i.0) returns.is ∙ caller-is (row_of s.rows m)) ∙ e in
      returned-outside (module_of s.harts) (state_at s.rows) (caller_at s.rows) st
      (module_of (set s.harts h new)) (state_at (with_row m row_after_return s.rows))
      (caller_at (with_row m row_after_return s.rows))
      h m (sym mine) ran called
      (module-here s.harts h new within ∙ e) (module-other s.harts h new)
      (state-set s.rows m row_after_return keeps (Running h) Idle (λ row. refl) ran)
      (state-other s.rows m row_after_return keeps)
      (caller-set s.rows m row_after_return keeps (Running h) zero (λ row. refl) ran)
      (caller-other s.rows m row_after_return keeps)
  return-states caller pc frame returns (suc c) e =
      let m : ℕ = hart.current.0 in
      let new : Hart = hart_after_return hart caller frame in
      let keeps : Keeps row_after_return = record { same = λ row. refl } in
      let answer : Row → Row = row_after_answer h in
      let kept : Keeps answer = record { same = λ row. refl } in
      let inner : List Row = with_row m row_after_return s.rows in
      let ran : state_at s.rows m ≡ Some (Running h) = ap (state_at s.rows) returns.inside
      ∙ st.current h returns.m (sym mine ∙ returns.inside) in
      let called : caller_at s.rows m ≡ suc c =
      sym (ap (λ (i : ModId). i.0) returns.is ∙ caller-is (row_of s.rows m)) ∙ e in
      let waited : state_at s.rows (suc c) ≡ Some (Waiting (record { 0 = m })) =
      st.called m c called in
      let apart : m ≡ suc c → ⊥ = λ is.
      two-states (state_at s.rows m) (Running h) (Waiting (record { 0 = m })) ran
      (ap (state_at s.rows) is ∙ waited) (λ f. cc) in
      let wait_inner : state_at inner (suc c) ≡ Some (Waiting (record { 0 = m })) =
      state-other s.rows m row_after_return keeps (suc c) (λ is. apart (sym is)) ∙ waited in
      returned-inside (module_of s.harts) (state_at s.rows) (caller_at s.rows) st
      (module_of (set s.harts h new)) (state_at (with_row (suc c) answer inner))
      (caller_at (with_row (suc c) answer inner))
      h m c (sym mine) ran called
      (module-here s.harts h new within ∙ e) (module-other s.harts h new)
      (state-other inner (suc c) answer kept m apart
      ∙ state-set s.rows m row_after_return keeps (Running h) Idle (λ row. refl) ran)
      (state-set inner (suc c) answer kept (Waiting (record { 0 = m })) (Running h) (λ row. refl)
      wait_inner)
      (λ id one two. state-other inner (suc c) answer kept id two
      ∙ state-other s.rows m row_after_return keeps id one)
      (caller-seen inner (suc c) answer kept (λ row. refl) m
      ∙ caller-set s.rows m row_after_return keeps (Running h) zero (λ row. refl) ran)
      (λ id one. caller-seen inner (suc c) answer kept (λ row. refl) id
      ∙ caller-other s.rows m row_after_return keeps id one)

  stopped-row : (page vpn pc : ℕ) (row : Row) → is_stopped_at page vpn pc hart.mode row ≡ true
      → row.state ≡ Stopped
  unfolding is_stopped_at
  stopped-row page vpn pc row e =
      stopped-state row.state
      (first-true (is_stopped row.state) (list_any (is_code_at page vpn) row.judged.decls.items)
      (row.saved.pc == pc) (is_mode row.saved.mode hart.mode) e)

  resume-states : (id : ModId) (frame : SavedFrame) → HasIds (enclaves s.rows) s.next
      → Resumes s hart id
      → AreStates (set s.harts h (hart_after_resume hart id frame))
      (with_row id.0 (row_after_resume h) s.rows)
  resume-states id frame ids resumes =
      let new : Hart = hart_after_resume hart id frame in
      let change : Row → Row = row_after_resume h in
      let keeps : Keeps change = record { same = λ row. refl } in
      let found : row_of s.rows id.0 ≡ Some resumes.row =
      ap (λ (i : ModId). row_of s.rows i.0) (sym resumes.whose)
      ∙ (row_of-has zero s.rows s.next ids.ascend resumes.row resumes.has).1 in
      let stopped : state_at s.rows id.0 ≡ Some Stopped =
      ap state_if_some found
      ∙ ap (λ (t : RowState). Some t)
      (stopped-row resumes.page _ hart.pc resumes.row resumes.stopped) in
      resumed-there (module_of s.harts) (state_at s.rows) (caller_at s.rows) st
      (module_of (set s.harts h new)) (state_at (with_row id.0 change s.rows))
      (caller_at (with_row id.0 change s.rows))
      h id.0 (sym mine ∙ resumes.outside) stopped
      (module-here s.harts h new within) (module-other s.harts h new)
      (state-set s.rows id.0 change keeps Stopped (Running h) (λ row. refl) stopped)
      (state-other s.rows id.0 change keeps)
      (caller-seen s.rows id.0 change keeps (λ row. refl))

  launch-states : (new : Hart) (judged : Judged) → new.current.0 ≡ hart.current.0
      → HasIds (enclaves s.rows) s.next
      → AreStates (set s.harts h new) (s.rows ++ new_row s.next judged ∷ [])
  launch-states new judged same ids =
      let after : List Row = s.rows ++ new_row s.next judged ∷ [] in
      let free : row_of s.rows s.next ≡ None = next-free zero s.rows s.next ids.ascend in
      let least : 1 ≤ s.next = ids.first in
      launched-there (module_of s.harts) (state_at s.rows) (caller_at s.rows) st
      (module_of (set s.harts h new)) (state_at after) (caller_at after)
      s.next (λ (e : s.next ≡ zero). absurd (omega arith)) (ap state_if_some free)
      (ap caller_if_some free)
      (module-same s.harts h new within (same ∙ mine))
      (ap state_if_some (there free))
      (λ id other. ap state_if_some (elsewhere id other))
      (λ id. by_same id s.next
      (λ is. ap (caller_at after) is ∙ ap caller_if_some (there free)
      ∙ sym (ap (caller_at s.rows) is ∙ ap caller_if_some free))
      (λ other. ap caller_if_some (elsewhere id other)))
    where
      there : row_of s.rows s.next ≡ None
          → row_of (s.rows ++ new_row s.next judged ∷ []) s.next ≡ Some (new_row s.next judged)
      there free = find-last (has_id s.next) s.rows (new_row s.next judged) free
          (eq-eqb s.next s.next refl)

      elsewhere : (id : ℕ) → (id ≡ s.next → ⊥)
          → row_of (s.rows ++ new_row s.next judged ∷ []) id ≡ row_of s.rows id
      elsewhere id other =
          find-push (has_id id) s.rows (new_row s.next judged)
          (ne_eqb s.next id (λ e. other (sym e)))

  -- whoever goes with a module that is idle or stopped is that module, or waits for one that goes
  gone-by : (id i : ℕ) → (i ≡ id) ⊎
      ((j : ℕ) × (is_among (evicted_rows s.rows id) j ≡ true) × (caller_at s.rows j ≡ i))
      → (k : ℕ) → k ≡ i → (i ≡ id) ⊎
      (WaitsAmong (evicted_rows s.rows id) (state_at s.rows i) ⊎ (state_at s.rows i ≡ None))
  gone-by id i (inl is) k e = inl is
  gone-by id i (inr found) zero e = inr (inr (ap (state_at s.rows) (sym e) ∙ st.not_zero))
  gone-by id i (inr found) (suc c) e =
      inr (inl (record {
        callee = record { 0 = found.0 };
        among = found.1;
        waits = ap (state_at s.rows) (sym e) ∙ st.called found.0 c (found.2 ∙ sym e);
      }))

  gone-way : (id i : ℕ) → is_among (evicted_rows s.rows id) i ≡ true
      → (i ≡ id) ⊎ ((j : ℕ) × (is_among (evicted_rows s.rows id) j ≡ true) ×
      (caller_at s.rows j ≡ i))
  unfolding evicted_rows
  gone-way id i among = chain-down (length s.rows) s.rows id i among

  gone-up : (id i c : ℕ) → is_among (evicted_rows s.rows id) i ≡ true → caller_at s.rows i ≡ c
      → (is_among (evicted_rows s.rows id) c ≡ true) ⊎ (row_of s.rows c ≡ None)
  unfolding evicted_rows
  gone-up id i c among calls = chain-up (length s.rows) s.rows id i c (omega arith) among calls

  evict-states : (new : Hart) (id count : ℕ) → new.current.0 ≡ hart.current.0
      → Evicts s hart id count
      → AreStates (set s.harts h new) (rows_left (evicted_rows s.rows id) s.rows)
  evict-states new id count same evicts =
      evicted-there (module_of s.harts) (state_at s.rows) (caller_at s.rows) st
      (module_of (set s.harts h new)) (state_at (rows_left gone s.rows))
      (caller_at (rows_left gone s.rows))
      (is_among gone)
      (module-same s.harts h new within (same ∙ mine))
      (λ i among. ap state_if_some (row_of-gone gone s.rows i among))
      (λ i here. ap state_if_some (left-row gone s.rows i here))
      (λ i among. ap caller_if_some (row_of-gone gone s.rows i among))
      (λ i here. ap caller_if_some (left-row gone s.rows i here))
      (λ i k among runs. not_running i k (gone-by id i (gone-way id i among) i refl) runs)
      (λ i c among calls. up i c (gone-up id i (suc c) among calls) calls)
      (λ i callee among waits. down i callee (gone-by id i (gone-way id i among) i refl) waits)
    where
      gone : List Row
      gone = evicted_rows s.rows id

      at_id : state_at s.rows id ≡ Some evicts.row.state
      at_id = ap state_if_some evicts.found

      not_first : {P : Type 0} (i : ℕ) (state : RowState) → i ≡ id → state_at s.rows i ≡ Some state
          → (Idle ≡ state → ⊥) → (Stopped ≡ state → ⊥)
          → (evicts.row.state ≡ Idle) ⊎ (evicts.row.state ≡ Stopped) → P
      not_first i state is e idle stopped (inl rests) =
          two-states (state_at s.rows id) Idle state (at_id ∙ ap (λ (t : RowState). Some t) rests)
          (ap (state_at s.rows) (sym is) ∙ e) idle
      not_first i state is e idle stopped (inr rests) =
          two-states (state_at s.rows id) Stopped state
          (at_id ∙ ap (λ (t : RowState). Some t) rests) (ap (state_at s.rows) (sym is) ∙ e) stopped

      not_running : (i k : ℕ)
          → (i ≡ id) ⊎ (WaitsAmong gone (state_at s.rows i) ⊎ (state_at s.rows i ≡ None))
          → state_at s.rows i ≡ Some (Running k) → ⊥
      not_running i k (inl is) runs =
          not_first i (Running k) is runs (λ f. cc) (λ f. cc) evicts.rests
      not_running i k (inr (inl with_it)) runs =
          two-states (state_at s.rows i) (Running k) (Waiting with_it.callee) runs with_it.waits
          (λ f. cc)
      not_running i k (inr (inr none)) runs = no-state (state_at s.rows i) (Running k) none runs

      up : (i c : ℕ) → (is_among gone (suc c) ≡ true) ⊎ (row_of s.rows (suc c) ≡ None)
          → caller_at s.rows i ≡ suc c → is_among gone (suc c) ≡ true
      up i c (inl there) calls = there
      up i c (inr none) calls =
          no-state (state_at s.rows (suc c)) (Waiting (record { 0 = i })) (ap state_if_some none)
          (st.called i c calls)

      down : (i : ℕ) (callee : ModId)
          → (i ≡ id) ⊎ (WaitsAmong gone (state_at s.rows i) ⊎ (state_at s.rows i ≡ None))
          → state_at s.rows i ≡ Some (Waiting callee)
          → is_among gone callee.0 ≡ true
      down i callee (inl is) waits =
          not_first i (Waiting callee) is waits (λ f. cc) (λ f. cc) evicts.rests
      down i callee (inr (inl with_it)) waits =
          ap (is_among gone)
          (waits-same (state_at s.rows i) with_it.callee callee with_it.waits waits) ∙ with_it.among
      down i callee (inr (inr none)) waits =
          no-state (state_at s.rows i) (Waiting callee) none waits

  -- another hart is started, which runs the untrusted world before and after
  start-states : (new other : Hart) (target : ℕ) → new.current.0 ≡ hart.current.0
      → target < length s.harts → other.current.0 ≡ module_of s.harts target
      → AreStates (set (set s.harts h new) target other) s.rows
  start-states new other target same there as_before =
      let harts : List Hart = set s.harts h new in
      let inside : target < length harts =
      subst (λ (n : ℕ). target < n) (sym (length-set s.harts h new)) there in
      unswitched (module_of s.harts) (state_at s.rows) (caller_at s.rows) st
      (module_of (set harts target other)) (state_at s.rows) (caller_at s.rows)
      (λ k. module-same harts target other inside
      (as_before ∙ sym (module-same s.harts h new within (same ∙ mine) target)) k
      ∙ module-same s.harts h new within (same ∙ mine) k)
      (λ id. refl) (λ id. refl)

  send-states : (new : Hart) (mask : ℕ) → new.current.0 ≡ hart.current.0
      → AreStates (each (hart_by_mask mask) 0 (set s.harts h new)) s.rows
  send-states new mask same =
      unswitched (module_of s.harts) (state_at s.rows) (caller_at s.rows) st
      (module_of (each (hart_by_mask mask) 0 (set s.harts h new))) (state_at s.rows)
      (caller_at s.rows)
      (λ k. module-each (hart_by_mask mask) (λ i x. by_name (is_set mask i) x) 0 (set s.harts h new)
      k ∙ module-same s.harts h new within (same ∙ mine) k)
      (λ id. refl) (λ id. refl)
    where
      by_name : (b : Bool) (x : Hart) → (hart_if_named b x).current.0 ≡ x.current.0
      by_name true x = refl
      by_name false x = refl

  -- ---- a turn

  pub turn-states : HasIds (enclaves s.rows) s.next → AreAsleep s.harts → (d : Decision)
      → Holds s h hart d
      → AreStates (after_turn s h hart d).harts (after_turn s h hart d).rows
  unfolding Holds
  turn-states ids asleep Rest e = st
  turn-states ids asleep (Trap cause value) e = trap-states cause value hart.current.0 refl
  turn-states ids asleep (Deny kind va) e = trap-states (access_fault kind) va hart.current.0 refl
  turn-states ids asleep (Start target pc opaque) e =
      start-states (hart_after_answer hart 0) (started_hart target pc opaque) target refl e.within
      (sym (ap (λ (m : ModId). m.0) (asleep target resting_hart e.within e.asleep)))
  turn-states ids asleep (Send mask) e = send-states (hart_after_answer hart 0) mask refl
  turn-states ids asleep (Launch rd judged) e =
      launch-states (hart_after_set hart rd s.next) judged refl ids
  turn-states ids asleep (Call rd callee entry) e =
      call-states rd callee entry e (frame_of_call hart rd) hart.current.0 refl
  turn-states ids asleep (Return caller pc) e =
      return-states caller pc (frame_of_caller caller.0 s.rows hart.current.0) e caller.0 refl
  turn-states ids asleep (Resume id) e = resume-states id (saved_of (row_of s.rows id.0)) ids e
  turn-states ids asleep (Evict rd id count) e =
      evict-states (hart_after_set hart rd 0) id count refl e
  turn-states ids asleep Next e = alone _ refl
  turn-states ids asleep (Set rd value) e = alone _ refl
  turn-states ids asleep (Jump target rd link) e = alone _ refl
  turn-states ids asleep (Store place width value) e = alone _ refl
  turn-states ids asleep (Csr rd old csrs) e = alone _ refl
  turn-states ids asleep ReturnFromTrap e = alone _ refl
  turn-states ids asleep (Put byte) e = alone _ refl
  turn-states ids asleep (Answer error) e = alone _ refl
  turn-states ids asleep ShutDown e = alone _ refl
  turn-states ids asleep (SetTimer timer) e = alone _ refl
  turn-states ids asleep (TakeKey key rest) e = alone _ refl
  turn-states ids asleep NoKey e = alone _ refl
  turn-states ids asleep (Refuse rd request code) e = alone _ refl
  turn-states ids asleep (Tell rd value) e = alone _ refl
  turn-states ids asleep (SetWord rd index records) e = alone _ refl
