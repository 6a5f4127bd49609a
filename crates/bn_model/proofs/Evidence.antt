-- What is known of what a turn comes to, by one walk down what leads to it.
use Rattle.std.proofs.Common.{◌≡◌, ℕ, zero, suc, ◌%◌, ◌<◌, ◌==◌, ◌⊎◌, Bool, true, false, not}
use Rattle.std.proofs.Common.{nat_lt, find, length, List, [], ◌∷◌, map, get_or, slice_index, Option}
use Rattle.std.proofs.Common.{Some, None, Result, Ok, Err, inl, inr, refl, sym, ◌∙◌, eqb-true}
use Rattle.std.proofs.Common.{ltb-true}
use Rattle.std.proofs.lemmas.Bool.{not-true}
use Rattle.std.specs.List.{list_any}
use Rattle.bn_types.specs.declared.act.Act.{Act}
use Rattle.bn_types.specs.declared.act.Act.TheVariants as act
use Rattle.bn_types.specs.declared.cause.Cause.{Cause}
use Rattle.bn_types.specs.declared.csr_op.CsrOp.{CsrOp}
use Rattle.bn_types.specs.declared.fault.Fault.{Fault}
use Rattle.bn_types.specs.declared.gpn.Gpn.{Gpn}
use Rattle.bn_types.specs.declared.insn.Insn.{Insn}
use Rattle.bn_types.specs.declared.insn.Insn.TheVariants.{Jal, Jalr, Branch}
use Rattle.bn_types.specs.declared.judged.Judged.{Judged}
use Rattle.bn_types.specs.declared.kind.Kind.{Kind}
use Rattle.bn_types.specs.declared.kind.Kind.TheVariants as kind
use Rattle.bn_types.specs.declared.launch_refused.LaunchRefused.{LaunchRefused}
use Rattle.bn_types.specs.declared.mod_id.ModId.{ModId}
use Rattle.bn_types.specs.declared.mode.Mode.{Mode}
use Rattle.bn_types.specs.declared.mode.Mode.TheVariants.{U, S}
use Rattle.bn_types.specs.declared.record.Record.{Record}
use Rattle.bn_types.specs.declared.reg.Reg.{Reg}
use Rattle.bn_types.specs.declared.regs.Regs.{Regs}
use Rattle.bn_types.specs.declared.row.Row.{Row}
use Rattle.bn_types.specs.declared.row_state.RowState.{RowState}
use Rattle.bn_types.specs.declared.row_state.RowState.TheVariants.{Idle, Running, Waiting, Stopped}
use Rattle.bn_types.specs.declared.sbi_ask.SbiAsk.{SbiAsk}
use Rattle.bn_types.specs.declared.sbi_ask.SbiAsk.TheVariants as ask
use Rattle.bn_types.specs.declared.secure.Secure.{Secure}
use Rattle.bn_types.specs.declared.secure.Secure.TheVariants as secure
use Rattle.bn_types.specs.declared.set_refused.SetRefused.{SetRefused}
use Rattle.bn_types.specs.declared.width.Width.{Width}
use Rattle.bn_types.specs.declared.width.Width.TheVariants.{B4}
use Rattle.bn_model.specs.declared.place.Place.{Place}
use Rattle.bn_model.specs.declared.wires.Wires.{Wires}
use Rattle.bn_model.specs.Accessing.{access, answer_of_load}
use Rattle.bn_model.specs.Acting.{act_of, branch_if, holds as test_holds, jump_if, plus_immediate}
use Rattle.bn_model.specs.Acting.{register, sum_64, without_bit_0}
use Rattle.bn_model.specs.CsrFile.{Counters, CsrDone, CsrFile, csr_done}
use Rattle.bn_model.specs.Deciding.{asked_if_started, asked_of, asked_of_denial, asked_of_fault}
use Rattle.bn_model.specs.Deciding.{asked_of_fetch, asked_of_insn, asked_of_interrupt}
use Rattle.bn_model.specs.Deciding.{asked_of_stopped, caller_of, csr_decision, decision_by_state}
use Rattle.bn_model.specs.Deciding.{decision_of_act, decision_of_asked, decision_of_ask}
use Rattle.bn_model.specs.Deciding.{decision_of_call, decision_of_denial}
use Rattle.bn_model.specs.Deciding.{decision_of_ecall, decision_of_evict}
use Rattle.bn_model.specs.Deciding.{decision_of_get, decision_of_hart, decision_of_launch}
use Rattle.bn_model.specs.Deciding.{decision_of_load, decision_of_secure, decision_of_set}
use Rattle.bn_model.specs.Deciding.{decision_of_store, identity_of, is_entry, is_idle, is_started}
use Rattle.bn_model.specs.Deciding.{refused_unless}
use Rattle.bn_model.specs.Decision.{Asked, Nothing, Interrupted, Unfetched, Resuming, Unknown}
use Rattle.bn_model.specs.Decision.{Acting, Decision, Jump, Store, Csr, ReturnFromTrap, TakeKey}
use Rattle.bn_model.specs.Decision.{Start, Launch, Call, Return, Resume, Evict, SetWord}
use Rattle.bn_model.specs.Decoding.{insn_of}
use Rattle.bn_model.specs.Evicting.{evicted_rows}
use Rattle.bn_model.specs.Hypervisor.{ConsoleGetchar, ConsolePutchar, HartStart, HyperCall, NoCall}
use Rattle.bn_model.specs.Hypervisor.{SendIpi, SetTimer, Shutdown, all_harts, are_harts, ask_by}
use Rattle.bn_model.specs.Hypervisor.{ask_of, ask_of_ipi_if, ask_of_start, call_of, refuse_unless}
use Rattle.bn_model.specs.Interrupts.{interrupt_of}
use Rattle.bn_model.specs.Launching.{judgement}
use Rattle.bn_model.specs.Legality.{illegal, inside_only, kernel_only, outside_only}
use Rattle.bn_model.specs.Legality.{supervisor_only}
use Rattle.bn_model.specs.Memory.{visible}
use Rattle.bn_model.specs.Records.{set_refusal, set_word}
use Rattle.bn_model.specs.Rows.{enclaves, row_of}
use Rattle.bn_model.specs.Soundness.{Has}
use Rattle.bn_model.specs.State.{Hart, State, asker, hart_at, memory, resting_hart, value_of}
use Rattle.bn_model.specs.Switching.{frame_of_caller, id_of_row, is_mode, is_stopped_at, stopped_at}
use Rattle.bn_model.specs.Walking.{vpn_of}
use Rattle.bn_model.proofs.MembershipLemmas.{has-find}
use Rattle.bn_model.proofs.TestLemmas.{find-passes}

-- ---- the facts

-- a store reaches this place
pub record StoresAt (s : State) (h : ℕ) (hart : Hart) (place : Place) (width : Width) : Type 0 where
  pub va : ℕ
  pub value : ℕ
  pub asked : asked_of s h hart ≡ Acting (act.StoreAt va width value)
  pub reached : access (memory s) (asker h hart) kind.Store va width ≡ Ok place

-- a CSR instruction leaves these CSRs
pub record ComesOfCsr (hart : Hart) (old : ℕ) (csrs : CsrFile) : Type 0 where
  pub op : CsrOp
  pub number : ℕ
  pub operand : ℕ
  pub reads : Bool
  pub writes : Bool
  pub wires : Wires
  pub counters : Counters
  pub done : csr_done hart.csrs op number operand reads writes hart.mode wires counters ≡
      Some (record { value = old; csrs = csrs })

-- a hart that isn't started is started at a multiple of 4
pub record StartsHart (s : State) (hart : Hart) (target pc opaque : ℕ) : Type 0 where
  pub outside : hart.current.0 ≡ zero
  pub within : target < length s.harts
  pub aligned : pc % 4 ≡ 0
  pub asleep : (hart_at s target).started ≡ false
  pub target_is : target ≡ slice_index hart.regs.x 10
  pub pc_is : pc ≡ slice_index hart.regs.x 11
  pub opaque_is : opaque ≡ slice_index hart.regs.x 12

-- the untrusted world launches what a text says
pub record Launches (s : State) (hart : Hart) (judged : Judged) : Type 0 where
  pub outside : hart.current.0 ≡ zero
  pub at : ℕ
  pub is : judgement (enclaves s.rows) s.next (visible (memory s)) hart.csrs.satp at ≡ Ok judged

-- an idle module is called at an entry and in its mode
pub record Calls (s : State) (hart : Hart) (callee entry : ℕ) : Type 0 where
  pub row : Row
  pub found : row_of s.rows callee ≡ Some row
  pub entries : list_any (is_entry entry) row.judged.entries.items ≡ true
  pub mode : is_mode hart.mode row.judged.mode ≡ true
  pub idle : is_idle row.state ≡ true

-- a module returns to its caller
pub record Returns (s : State) (hart : Hart) (caller : ModId) (pc : ℕ) : Type 0 where
  pub m : ℕ
  pub inside : hart.current.0 ≡ suc m
  pub is : caller ≡ caller_of (row_of s.rows hart.current.0)
  pub at : pc ≡ (frame_of_caller caller.0 s.rows hart.current.0).pc

-- the untrusted world goes on with a stopped module, at a page of its code
pub record Resumes (s : State) (hart : Hart) (id : ModId) : Type 0 where
  pub outside : hart.current.0 ≡ zero
  pub page : ℕ
  pub row : Row
  pub has : Has row s.rows
  pub whose : row.id ≡ id
  pub stopped : is_stopped_at page (vpn_of hart.pc) hart.pc hart.mode row ≡ true

-- the untrusted world evicts a module that is idle or stopped
pub record Evicts (s : State) (hart : Hart) (id count : ℕ) : Type 0 where
  pub outside : hart.current.0 ≡ zero
  pub row : Row
  pub found : row_of s.rows id ≡ Some row
  pub rests : (row.state ≡ Idle) ⊎ (row.state ≡ Stopped)
  pub counted : count ≡ length (evicted_rows s.rows id)

-- a module sets a word of its identity
pub record SetsWord (s : State) (hart : Hart) (index : ℕ) (records : List Record) : Type 0 where
  pub m : ℕ
  pub inside : hart.current.0 ≡ suc m
  pub from : Reg
  pub free : set_refusal s.records (identity_of (enclaves s.rows) hart.current.0) index ≡ None
  pub is : records ≡ set_word s.records (identity_of (enclaves s.rows) hart.current.0) index
      (value_of hart from)

-- what is known of what a turn of hart h comes to
unfoldable pub Holds : State → ℕ → Hart → Decision → Type 0
Holds s h hart (Jump target rd link) = target % 4 ≡ 0
Holds s h hart (Store place width value) = StoresAt s h hart place width
Holds s h hart (Csr rd old csrs) = ComesOfCsr hart old csrs
Holds s h hart ReturnFromTrap = hart.current.0 ≡ zero
Holds s h hart (TakeKey key rest) = s.keys ≡ key ∷ rest
Holds s h hart (Start target pc opaque) = StartsHart s hart target pc opaque
Holds s h hart (Launch rd judged) = Launches s hart judged
Holds s h hart (Call rd callee entry) = Calls s hart callee entry
Holds s h hart (Return caller pc) = Returns s hart caller pc
Holds s h hart (Resume id) = Resumes s hart id
Holds s h hart (Evict rd id count) = Evicts s hart id count
Holds s h hart (SetWord rd index records) = SetsWord s hart index records
Holds s h hart decision = Unit {0}

-- ---- where an instruction may be executed

pub outside : (P : Decision → Type 0) (current : ℕ) (d : Decision) → P illegal
    → (current ≡ zero → P d) → P (outside_only current d)
outside P zero d bad good = good refl
outside P (suc m) d bad good = bad

pub inside : (P : Decision → Type 0) (current : ℕ) (d : Decision) → P illegal
    → ((m : ℕ) → current ≡ suc m → P d) → P (inside_only current d)
inside P zero d bad good = bad
inside P (suc m) d bad good = good m refl

pub supervisor : (P : Decision → Type 0) (mode : Mode) (d : Decision) → P illegal → P d
    → P (supervisor_only mode d)
supervisor P U d bad good = bad
supervisor P S d bad good = good

pub kernel : (P : Decision → Type 0) (current : ℕ) (mode : Mode) (d : Decision) → P illegal
    → (current ≡ zero → P d) → P (kernel_only current mode d)
kernel P zero mode d bad good = supervisor P mode d bad (good refl)
kernel P (suc m) mode d bad good = bad

module _ (s : State) (h : ℕ) (hart : Hart) where
  -- ---- accesses

  denial-holds : (k : Kind) (cause : Cause) (va : ℕ) (denied : Option Gpn)
      → Holds s h hart (decision_of_denial k cause va denied)
  unfolding Holds
  denial-holds k cause va None = tt
  denial-holds k cause va (Some page) = tt

  load-holds : (width : Width) (signed : Bool) (rd : Reg) (r : Result ℕ Fault)
      → Holds s h hart (decision_of_load width signed rd r)
  unfolding Holds
  load-holds width signed rd (Err fault) = denial-holds kind.Load fault.cause fault.va fault.denied
  load-holds width signed rd (Ok number) = tt

  store-holds : (va : ℕ) (width : Width) (value : ℕ)
      → asked_of s h hart ≡ Acting (act.StoreAt va width value) → (r : Result Place Fault)
      → access (memory s) (asker h hart) kind.Store va width ≡ r
      → Holds s h hart (decision_of_store width value r)
  unfolding Holds
  store-holds va width value is (Err fault) e =
      denial-holds kind.Store fault.cause fault.va fault.denied
  store-holds va width value is (Ok place) e =
      record { va = va; value = value; asked = is; reached = e }

  -- ---- CSRs

  csr-holds : (op : CsrOp) (number operand : ℕ) (reads writes : Bool) (rd : Reg) (wires : Wires)
      (counters : Counters) (done : Option CsrDone)
      → csr_done hart.csrs op number operand reads writes hart.mode wires counters ≡ done
      → Holds s h hart (csr_decision rd done)
  unfolding Holds
  csr-holds op number operand reads writes rd wires counters None e = tt
  csr-holds op number operand reads writes rd wires counters (Some done) e = record {
    op = op;
    number = number;
    operand = operand;
    reads = reads;
    writes = writes;
    wires = wires;
    counters = counters;
    done = e;
  }

  -- ---- calls to the hypervisor

  get-holds : (keys : List ℕ) → s.keys ≡ keys → Holds s h hart (decision_of_get keys)
  unfolding Holds
  get-holds [] e = tt
  get-holds (key ∷ keys) e = e

  unfoldable pub AskHolds : SbiAsk → Type 0
  AskHolds (ask.Start target pc opaque) = StartsHart s hart target pc opaque
  AskHolds asked = Unit {0}

  ask-holds : (asked : SbiAsk) → AskHolds asked → Holds s h hart (decision_of_ask asked s.keys)
  unfolding Holds AskHolds
  ask-holds (ask.SetTimer timer) e = tt
  ask-holds (ask.Put byte) e = tt
  ask-holds ask.Get e = get-holds s.keys refl
  ask-holds ask.Shutdown e = tt
  ask-holds (ask.Start target pc opaque) e = e
  ask-holds (ask.Ipi harts) e = tt
  ask-holds (ask.Refuse error) e = tt

  started-at : (harts : List Hart) (target : ℕ)
      → get_or (map is_started harts) target false ≡ (get_or harts target resting_hart).started
  started-at [] target = refl
  started-at (first ∷ rest) zero = refl
  started-at (first ∷ rest) (suc target) = started-at rest target

  refuse-holds : (b : Bool) (error : ℕ) (next : SbiAsk) → (b ≡ true → AskHolds next)
      → AskHolds (refuse_unless b error next)
  unfolding AskHolds
  refuse-holds true error next good = good refl
  refuse-holds false error next good = tt

  ipi-holds : (b : Bool) (harts mask base : ℕ) → AskHolds (ask_of_ipi_if b harts mask base)
  unfolding AskHolds
  ipi-holds true harts mask base = tt
  ipi-holds false harts mask base = refuse-holds (are_harts harts mask base) _ _ (λ e. tt)

  start-holds : hart.current.0 ≡ zero → (target pc opaque : ℕ) → target ≡ slice_index hart.regs.x 10
      → pc ≡ slice_index hart.regs.x 11 → opaque ≡ slice_index hart.regs.x 12
      → AskHolds (ask_of_start (length s.harts) (map is_started s.harts) target pc opaque)
  unfolding AskHolds
  start-holds out target pc opaque one two three =
      refuse-holds (nat_lt target (length s.harts)) _ _
      (λ within. refuse-holds (pc % 4 == 0) _ _
      (λ aligned. refuse-holds (not (get_or (map is_started s.harts) target false)) _ _
      (λ asleep. record {
        outside = out;
        within = ltb-true target (length s.harts) within;
        aligned = eqb-true (pc % 4) 0 aligned;
        asleep = sym (started-at s.harts target)
            ∙ not-true (get_or (map is_started s.harts) target false) asleep;
        target_is = one;
        pc_is = two;
        opaque_is = three;
      })))

  asked-call : hart.current.0 ≡ zero → (call : HyperCall)
      → AskHolds (ask_by call (length s.harts) (map is_started s.harts)
      (slice_index hart.regs.x 10) (slice_index hart.regs.x 11) (slice_index hart.regs.x 12))
  unfolding AskHolds
  asked-call out SetTimer = tt
  asked-call out ConsolePutchar = tt
  asked-call out ConsoleGetchar = tt
  asked-call out Shutdown = tt
  asked-call out HartStart =
      start-holds out (slice_index hart.regs.x 10) (slice_index hart.regs.x 11)
      (slice_index hart.regs.x 12) refl refl refl
  asked-call out SendIpi =
      ipi-holds (slice_index hart.regs.x 11 == all_harts) (length s.harts)
      (slice_index hart.regs.x 10) (slice_index hart.regs.x 11)
  asked-call out NoCall = tt

  pub asked-holds : hart.current.0 ≡ zero
      → AskHolds (ask_of hart.regs (length s.harts) (map is_started s.harts))
  unfolding ask_of
  asked-holds out = asked-call out
      (call_of (slice_index hart.regs.x 17) (slice_index hart.regs.x 16))

  ecall-holds : hart.current.0 ≡ zero → (mode : Mode)
      → Holds s h hart (decision_of_ecall s hart mode)
  unfolding Holds
  ecall-holds out U = tt
  ecall-holds out S = ask-holds (ask_of hart.regs (length s.harts) (map is_started s.harts))
      (asked-holds out)

  -- ---- the secure instructions

  launch-holds : (rd : Reg) (at : ℕ) → hart.current.0 ≡ zero → (r : Result Judged LaunchRefused)
      → judgement (enclaves s.rows) s.next (visible (memory s)) hart.csrs.satp at ≡ r
      → Holds s h hart (decision_of_launch rd r)
  unfolding Holds
  launch-holds rd at out (Err refusal) e = tt
  launch-holds rd at out (Ok judged) e = record { outside = out; at = at; is = e }

  refused-holds : (b : Bool) (rd : Reg) (code : ℕ) (d : Decision) → (b ≡ true → Holds s h hart d)
      → Holds s h hart (refused_unless b rd code d)
  unfolding Holds
  refused-holds true rd code d good = good refl
  refused-holds false rd code d good = tt

  call-holds : (rd : Reg) (id entry : ℕ) (row : Option Row) → row_of s.rows id ≡ row
      → Holds s h hart (decision_of_call hart.mode rd id entry row)
  unfolding Holds
  call-holds rd id entry None e = tt
  call-holds rd id entry (Some row) e =
      refused-holds (list_any (is_entry entry) row.judged.entries.items) rd 2 _
      (λ entries. refused-holds (is_mode hart.mode row.judged.mode) rd 3 _
      (λ mode. refused-holds (is_idle row.state) rd 4 _
      (λ idle. record { row = row; found = e; entries = entries; mode = mode; idle = idle })))

  evict-state : (rd : Reg) (id count : ℕ) (row : Row) → hart.current.0 ≡ zero
      → row_of s.rows id ≡ Some row → count ≡ length (evicted_rows s.rows id)
      → (state : RowState) → row.state ≡ state
      → Holds s h hart (decision_by_state rd id count state)
  unfolding Holds
  evict-state rd id count row out found counted Idle e =
      record { outside = out; row = row; found = found; rests = inl e; counted = counted }
  evict-state rd id count row out found counted Stopped e =
      record { outside = out; row = row; found = found; rests = inr e; counted = counted }
  evict-state rd id count row out found counted (Running on) e = tt
  evict-state rd id count row out found counted (Waiting callee) e = tt

  evict-holds : (rd : Reg) (id : ℕ) → hart.current.0 ≡ zero → (row : Option Row)
      → row_of s.rows id ≡ row
      → Holds s h hart (decision_of_evict rd id (length (evicted_rows s.rows id)) row)
  unfolding Holds
  evict-holds rd id out None e = tt
  evict-holds rd id out (Some row) e =
      evict-state rd id (length (evicted_rows s.rows id)) row out e refl row.state refl

  set-holds : (rd : Reg) (index : ℕ) (from : Reg) (m : ℕ) → hart.current.0 ≡ suc m
      → (refusal : Option SetRefused)
      → set_refusal s.records (identity_of (enclaves s.rows) hart.current.0) index ≡ refusal
      → Holds s h hart (decision_of_set rd s.records (identity_of (enclaves s.rows) hart.current.0)
      index (value_of hart from) refusal)
  unfolding Holds
  set-holds rd index from m in_it (Some refusal) e = tt
  set-holds rd index from m in_it None e =
      record { m = m; inside = in_it; from = from; free = e; is = refl }

  secure-holds : (i : Secure) → Holds s h hart (decision_of_secure s hart i)
  unfolding Holds
  secure-holds (secure.Launch rd at) =
      kernel (Holds s h hart) hart.current.0 hart.mode _ tt
      (λ out. launch-holds rd (value_of hart at) out
      (judgement (enclaves s.rows) s.next (visible (memory s)) hart.csrs.satp (value_of hart at))
      refl)
  secure-holds (secure.Call rd id entry) =
      call-holds rd (value_of hart id) (value_of hart entry) (row_of s.rows (value_of hart id)) refl
  secure-holds secure.Ret =
      inside (Holds s h hart) hart.current.0 _ tt
      (λ m e. record { m = m; inside = e; is = refl; at = refl })
  secure-holds (secure.Evict rd id) =
      kernel (Holds s h hart) hart.current.0 hart.mode _ tt
      (λ out. evict-holds rd (value_of hart id) out (row_of s.rows (value_of hart id)) refl)
  secure-holds (secure.Ident rd id word) = tt
  secure-holds (secure.Caller rd) = inside (Holds s h hart) hart.current.0 _ tt (λ m e. tt)
  secure-holds (secure.Offerer rd at) = inside (Holds s h hart) hart.current.0 _ tt (λ m e. tt)
  secure-holds (secure.Sget rd index) = inside (Holds s h hart) hart.current.0 _ tt (λ m e. tt)
  secure-holds (secure.Sset rd index value) =
      inside (Holds s h hart) hart.current.0 _ tt
      (λ m e. set-holds rd (value_of hart index) value m e
      (set_refusal s.records (identity_of (enclaves s.rows) hart.current.0) (value_of hart index))
      refl)

  -- ---- acts

  ActHolds : Act → Type 0
  ActHolds (act.Jump target rd link) = target % 4 ≡ 0
  ActHolds other = Unit {0}

  jump-holds : (b : Bool) (target : ℕ) (rd : Reg) (link : ℕ) → (target % 4 == 0) ≡ b
      → ActHolds (jump_if b target rd link)
  unfolding ActHolds
  jump-holds true target rd link e = eqb-true (target % 4) 0 e
  jump-holds false target rd link e = tt

  branch-holds : (b : Bool) (target pc : ℕ) → ActHolds (branch_if b target pc)
  unfolding ActHolds
  branch-holds true target pc =
      jump-holds (target % 4 == 0) target (record { 0 = 0 }) (sum_64 pc 4) refl
  branch-holds false target pc = tt

  insn-holds : (i : Insn) (regs : Regs) (pc : ℕ) → ActHolds (act_of i regs pc)
  unfolding ActHolds act_of
  insn-holds (Jal rd offset) regs pc =
      jump-holds (plus_immediate pc offset % 4 == 0) (plus_immediate pc offset) rd (sum_64 pc 4)
      refl
  insn-holds (Jalr rd base offset) regs pc =
      let target : ℕ = without_bit_0 (plus_immediate (register regs base) offset) in
      jump-holds (target % 4 == 0) target rd (sum_64 pc 4) refl
  insn-holds (Branch test left right offset) regs pc =
      branch-holds (test_holds test (register regs left) (register regs right))
      (plus_immediate pc offset) pc
  insn-holds i regs pc = tt

  act-holds : (asked : Act) → asked_of s h hart ≡ Acting asked → ActHolds asked
      → Holds s h hart (decision_of_act s h hart asked)
  unfolding Holds ActHolds
  act-holds (act.Set rd value) is e = tt
  act-holds (act.Jump target rd link) is e = e
  act-holds act.Next is e = tt
  act-holds (act.LoadAt va width signed rd) is e =
      load-holds width signed rd
      (answer_of_load s.pages width (access (memory s) (asker h hart) kind.Load va width))
  act-holds (act.StoreAt va width value) is e =
      store-holds va width value is (access (memory s) (asker h hart) kind.Store va width) refl
  act-holds (act.Csr op number operand reads writes rd) is e =
      outside (Holds s h hart) hart.current.0 _ tt
      (λ out. csr-holds op number operand reads writes rd _ _ _ refl)
  act-holds act.Ecall is e =
      outside (Holds s h hart) hart.current.0 _ tt (λ out. ecall-holds out hart.mode)
  act-holds act.Ebreak is e = outside (Holds s h hart) hart.current.0 _ tt (λ out. tt)
  act-holds act.Sret is e =
      outside (Holds s h hart) hart.current.0 _ tt
      (λ out. supervisor (Holds s h hart) hart.mode _ tt out)
  act-holds act.Wfi is e =
      outside (Holds s h hart) hart.current.0 _ tt
      (λ out. supervisor (Holds s h hart) hart.mode _ tt tt)
  act-holds act.SfenceVma is e =
      outside (Holds s h hart) hart.current.0 _ tt
      (λ out. supervisor (Holds s h hart) hart.mode _ tt tt)
  act-holds (act.Bastion i) is e = secure-holds i
  act-holds (act.Trap cause value) is e = tt

  -- ---- what is asked

  AskedHolds : Asked → Type 0
  AskedHolds (Resuming id) = Resumes s hart id
  AskedHolds (Acting asked) = ActHolds asked
  AskedHolds asked = Unit {0}

  found-stopped : hart.current.0 ≡ zero → (fault : Fault) (page : ℕ) (row : Option Row)
      → find (is_stopped_at page (vpn_of hart.pc) hart.pc hart.mode) s.rows ≡ row
      → AskedHolds (asked_of_stopped fault (id_of_row row))
  unfolding AskedHolds
  found-stopped out fault page None e = tt
  found-stopped out fault page (Some row) e = record {
    outside = out;
    page = page;
    row = row;
    has = has-find (is_stopped_at page (vpn_of hart.pc) hart.pc hart.mode) s.rows row e;
    whose = refl;
    stopped = find-passes (is_stopped_at page (vpn_of hart.pc) hart.pc hart.mode) s.rows row e;
  }

  asked-denial : hart.current.0 ≡ zero → (fault : Fault) (denied : Option Gpn)
      → AskedHolds (asked_of_denial s.rows hart fault denied)
  unfolding AskedHolds stopped_at
  asked-denial out fault None = tt
  asked-denial out fault (Some page) =
      found-stopped out fault page.0
      (find (is_stopped_at page.0 (vpn_of hart.pc) hart.pc hart.mode) s.rows) refl

  asked-fault : (current : ℕ) → hart.current.0 ≡ current → (fault : Fault)
      → AskedHolds (asked_of_fault current s.rows hart fault)
  unfolding AskedHolds
  asked-fault zero e fault = asked-denial e fault fault.denied
  asked-fault (suc m) e fault = tt

  asked-insn : (i : Option Insn) → AskedHolds (asked_of_insn hart i)
  unfolding AskedHolds
  asked-insn None = tt
  asked-insn (Some i) = insn-holds i hart.regs hart.pc

  asked-fetch : (r : Result ℕ Fault) → AskedHolds (asked_of_fetch s.rows hart r)
  asked-fetch (Err fault) = asked-fault hart.current.0 refl fault
  asked-fetch (Ok word) = asked-insn (insn_of word)

  asked-interrupt : (cause : Option Cause) → AskedHolds (asked_of_interrupt s h hart cause)
  unfolding AskedHolds
  asked-interrupt (Some cause) = tt
  asked-interrupt None = asked-fetch
      (answer_of_load s.pages B4 (access (memory s) (asker h hart) kind.Fetch hart.pc B4))

  asked-started : (started : Bool) → AskedHolds (asked_if_started started s h hart)
  unfolding AskedHolds
  asked-started false = tt
  asked-started true = asked-interrupt (interrupt_of s h hart)

  -- ---- the whole

  asked-decision : (asked : Asked) → asked_of s h hart ≡ asked → AskedHolds asked
      → Holds s h hart (decision_of_asked s h hart asked)
  unfolding Holds AskedHolds
  asked-decision Nothing is e = tt
  asked-decision (Interrupted cause) is e = tt
  asked-decision (Unfetched fault) is e = denial-holds kind.Fetch fault.cause fault.va fault.denied
  asked-decision (Resuming id) is e = e
  asked-decision Unknown is e = tt
  asked-decision (Acting asked) is e = act-holds asked is e

  pub holds : Holds s h hart (decision_of_hart s h hart)
  holds = asked-decision (asked_of s h hart) refl (asked-started hart.started)
