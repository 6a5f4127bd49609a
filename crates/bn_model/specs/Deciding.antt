-- What a turn of a hart comes to: first what is asked of the hart, then what comes of that.
use Rattle.std.specs.Prelude.{ℕ, zero, suc, ◌*◌, ◌==◌, Bool, true, false, nat_lt, find, length}
use Rattle.std.specs.Prelude.{List, [], ◌∷◌, map, Option, Some, None, Result, Ok, Err}
use Rattle.std.specs.List.{list_any}
use Rattle.bn_types.specs.Numbers.{number_at}
use Rattle.bn_types.specs.declared.act.Act.{Act}
use Rattle.bn_types.specs.declared.act.Act.TheVariants as act
use Rattle.bn_types.specs.declared.cause.Cause.{Cause}
use Rattle.bn_types.specs.declared.csr_op.CsrOp.{CsrOp}
use Rattle.bn_types.specs.declared.decl.Decl.{Decl}
use Rattle.bn_types.specs.declared.digest.Digest.{Digest}
use Rattle.bn_types.specs.declared.fault.Fault.{Fault}
use Rattle.bn_types.specs.declared.gpn.Gpn.{Gpn}
use Rattle.bn_types.specs.declared.insn.Insn.{Insn}
use Rattle.bn_types.specs.declared.judged.Judged.{Judged}
use Rattle.bn_types.specs.declared.kind.Kind.{Kind}
use Rattle.bn_types.specs.declared.kind.Kind.TheVariants as kind
use Rattle.bn_types.specs.declared.launch_refused.LaunchRefused.{LaunchRefused}
use Rattle.bn_types.specs.declared.mod_id.ModId.{ModId}
use Rattle.bn_types.specs.declared.mode.Mode.{Mode}
use Rattle.bn_types.specs.declared.mode.Mode.TheVariants.{U, S}
use Rattle.bn_types.specs.declared.record.Record.{Record}
use Rattle.bn_types.specs.declared.reg.Reg.{Reg}
use Rattle.bn_types.specs.declared.request.Request.TheVariants as request
use Rattle.bn_types.specs.declared.row.Row.{Row}
use Rattle.bn_types.specs.declared.row_state.RowState.{RowState}
use Rattle.bn_types.specs.declared.row_state.RowState.TheVariants.{Idle, Running, Waiting, Stopped}
use Rattle.bn_types.specs.declared.sbi_ask.SbiAsk.{SbiAsk}
use Rattle.bn_types.specs.declared.sbi_ask.SbiAsk.TheVariants as ask
use Rattle.bn_types.specs.declared.secure.Secure.{Secure}
use Rattle.bn_types.specs.declared.secure.Secure.TheVariants as secure
use Rattle.bn_types.specs.declared.set_refused.SetRefused.{SetRefused}
use Rattle.bn_types.specs.declared.set_refused.SetRefused.TheVariants.{BadIndex, Full}
use Rattle.bn_types.specs.declared.sort.Sort.{Sort}
use Rattle.bn_types.specs.declared.sort.Sort.TheVariants.{Private, Offer, Accept}
use Rattle.bn_types.specs.declared.width.Width.{Width}
use Rattle.bn_types.specs.declared.width.Width.TheVariants.{B4, B8}
use Rattle.bn_model.specs.declared.owner.Owner.{Owner}
use Rattle.bn_model.specs.declared.place.Place.{Place}
use Rattle.bn_model.specs.Accessing.{access, answer_of_load}
use Rattle.bn_model.specs.Acting.{act_of, load_value}
use Rattle.bn_model.specs.Admission.{declaration}
use Rattle.bn_model.specs.Causes.{breakpoint, environment_call_from_u}
use Rattle.bn_model.specs.CsrFile.{Counters, CsrDone, csr_done}
use Rattle.bn_model.specs.Decision.{Asked, Nothing, Interrupted, Unfetched, Resuming, Unknown}
use Rattle.bn_model.specs.Decision.{Acting, Decision, Rest, Trap, Deny, Next, Set, Jump, Store, Csr}
use Rattle.bn_model.specs.Decision.{ReturnFromTrap, Put, Answer, ShutDown, SetTimer, TakeKey, NoKey}
use Rattle.bn_model.specs.Decision.{Start, Send, Refuse, Launch, Call, Return, Resume, Evict, Tell}
use Rattle.bn_model.specs.Decision.{SetWord}
use Rattle.bn_model.specs.Decoding.{insn_of}
use Rattle.bn_model.specs.Evicting.{evicted_rows}
use Rattle.bn_model.specs.Hypervisor.{ask_of}
use Rattle.bn_model.specs.Interrupts.{interrupt_of, wires_of}
use Rattle.bn_model.specs.Launching.{judgement, zero_digest}
use Rattle.bn_model.specs.Legality.{illegal, inside_only, kernel_only, outside_only}
use Rattle.bn_model.specs.Legality.{supervisor_only}
use Rattle.bn_model.specs.Memory.{visible}
use Rattle.bn_model.specs.Owners.{is_live}
use Rattle.bn_model.specs.Records.{get_word, set_refusal, set_word}
use Rattle.bn_model.specs.Refusals.{launch_code, no_module}
use Rattle.bn_model.specs.Rows.{Enclave, enclaves, owners, row_of}
use Rattle.bn_model.specs.State.{Hart, State, asker, hart_at, memory, value_of}
use Rattle.bn_model.specs.Switching.{frame_of_caller, is_mode, stopped_at}
use Rattle.bn_model.specs.Walking.{vpn_of}

-- ---- accesses to memory

-- an access that fails traps; where the rule of admission denies it, the trace says so
abbrev pub decision_of_denial : Kind → Cause → ℕ → Option Gpn → Decision
decision_of_denial kind cause va None = Trap cause va
decision_of_denial kind cause va (Some page) = Deny kind va

abbrev pub decision_of_fault : Kind → Fault → Decision
decision_of_fault kind fault = decision_of_denial kind fault.cause fault.va fault.denied

-- what a load sets rd to
abbrev pub decision_of_load : Width → Bool → Reg → Result ℕ Fault → Decision
decision_of_load width signed rd (Err fault) = decision_of_fault kind.Load fault
decision_of_load width signed rd (Ok number) = Set rd (load_value width signed number)

abbrev pub decision_of_store : Width → ℕ → Result Place Fault → Decision
decision_of_store width value (Err fault) = decision_of_fault kind.Store fault
decision_of_store width value (Ok place) = Store place width value

-- ---- CSR instructions (Unprivileged ISA, "Zicsr")

-- an illegal read or write is an illegal instruction, and then nothing is written
abbrev pub csr_decision : Reg → Option CsrDone → Decision
csr_decision rd None = illegal
csr_decision rd (Some done) = Csr rd done.value done.csrs

-- `cycle` and `time` read the clock, `instret` the instructions before this one
abbrev pub counters_of : State → Hart → Counters
counters_of s hart = record { clock = s.clock; retired = hart.retired }

abbrev pub decision_of_csr : State → ℕ → Hart → CsrOp → (number operand : ℕ) →
    (reads writes : Bool) → Reg → Decision
decision_of_csr s h hart op number operand reads writes rd =
    csr_decision rd
    (csr_done hart.csrs op number operand reads writes hart.mode (wires_of s h hart)
    (counters_of s hart))

-- ---- calls to the hypervisor

abbrev pub decision_of_get : List ℕ → Decision
decision_of_get [] = NoKey
decision_of_get (key ∷ keys) = TakeKey key keys

abbrev pub decision_of_ask : SbiAsk → List ℕ → Decision
decision_of_ask (ask.SetTimer timer) keys = SetTimer timer
decision_of_ask (ask.Put byte) keys = Put byte
decision_of_ask ask.Get keys = decision_of_get keys
decision_of_ask ask.Shutdown keys = ShutDown
decision_of_ask (ask.Start target pc opaque) keys = Start target pc opaque
decision_of_ask (ask.Ipi harts) keys = Send harts
decision_of_ask (ask.Refuse error) keys = Answer error

abbrev pub is_started : Hart → Bool
is_started hart = hart.started

-- ECALL: a trap in mode U, with 0 for `stval`; in mode S a call to the hypervisor
abbrev pub decision_of_ecall : State → Hart → Mode → Decision
decision_of_ecall s hart U = Trap environment_call_from_u 0
decision_of_ecall s hart S =
    decision_of_ask (ask_of hart.regs (length s.harts) (map is_started s.harts)) s.keys

-- ---- launch

abbrev pub decision_of_launch : Reg → Result Judged LaunchRefused → Decision
decision_of_launch rd (Err refusal) = Refuse rd request.Launch (launch_code refusal)
decision_of_launch rd (Ok judged) = Launch rd judged

-- ---- calls and returns

abbrev pub refused_unless : Bool → Reg → (code : ℕ) → Decision → Decision
refused_unless true rd code decision = decision
refused_unless false rd code decision = Refuse rd request.Call code

abbrev pub is_idle : RowState → Bool
is_idle Idle = true
is_idle (Running hart) = false
is_idle (Waiting callee) = false
is_idle Stopped = false

abbrev pub is_entry : ℕ → ℕ → Bool
is_entry entry other = other == entry

-- a call names an entry, in the row's own mode, of a row that is idle
abbrev pub decision_of_call : Mode → Reg → (id entry : ℕ) → Option Row → Decision
decision_of_call mode rd id entry None = Refuse rd request.Call no_module
decision_of_call mode rd id entry (Some row) =
    refused_unless (list_any (is_entry entry) row.judged.entries.items) rd 2 (
    refused_unless (is_mode mode row.judged.mode) rd 3 (
    refused_unless (is_idle row.state) rd 4 (Call rd id entry)))

abbrev pub caller_of : Option Row → ModId
caller_of None = record { 0 = 0 }
caller_of (Some row) = row.caller

-- module m returns to its caller
abbrev pub decision_of_return : List Row → (m : ℕ) → ModId → Decision
decision_of_return rows m caller = Return caller (frame_of_caller caller.0 rows m).pc

-- ---- eviction

abbrev pub decision_by_state : Reg → (id count : ℕ) → RowState → Decision
decision_by_state rd id count Idle = Evict rd id count
decision_by_state rd id count Stopped = Evict rd id count
decision_by_state rd id count (Running hart) = Refuse rd request.Evict 2
decision_by_state rd id count (Waiting callee) = Refuse rd request.Evict 2

-- an idle row goes alone, a stopped one with those that wait for it
abbrev pub decision_of_evict : Reg → (id count : ℕ) → Option Row → Decision
decision_of_evict rd id count None = Refuse rd request.Evict no_module
decision_of_evict rd id count (Some row) = decision_by_state rd id count row.state

-- ---- what a module asks

abbrev pub is_enclave : ℕ → Enclave → Bool
is_enclave id enclave = enclave.id.0 == id

abbrev pub enclave_at : List Enclave → ℕ → Option Enclave
enclave_at enclaves id = find (is_enclave id) enclaves

abbrev pub word_if : Bool → Digest → ℕ → ℕ
word_if true who word = number_at B8 who.0 (8 * word)
word_if false who word = 0

-- one of the four words of an identity, little endian
abbrev pub identity_word : Option Enclave → ℕ → ℕ
identity_word None word = 0
identity_word (Some enclave) word = word_if (nat_lt word 4) enclave.judged.digest word

abbrev pub identity_if_some : Option Enclave → Digest
identity_if_some None = zero_digest
identity_if_some (Some enclave) = enclave.judged.digest

-- the identity of a live module
abbrev pub identity_of : List Enclave → ℕ → Digest
identity_of enclaves id = identity_if_some (enclave_at enclaves id)

abbrev pub id_if_live : Bool → ModId → ℕ
id_if_live true source = source.0
id_if_live false source = 0

abbrev pub source_of : List Owner → Sort → ModId → ℕ
source_of owners Private source = 0
source_of owners Offer source = 0
source_of owners Accept source = id_if_live (is_live owners source.0) source

-- the live module behind an acceptance
abbrev pub offerer_of : List Owner → Option Decl → ℕ
offerer_of owners None = 0
offerer_of owners (Some decl) = source_of owners decl.sort decl.source

-- ---- stored words

abbrev pub set_code : SetRefused → ℕ
set_code BadIndex = 1
set_code Full = 2

abbrev pub decision_of_set : Reg → List Record → Digest → (index value : ℕ) → Option SetRefused →
    Decision
decision_of_set rd records who index value (Some refusal) = Refuse rd request.Sset
    (set_code refusal)
decision_of_set rd records who index value None = SetWord rd index
    (set_word records who index value)

-- ---- the secure instructions

abbrev pub decision_of_secure : State → Hart → Secure → Decision
decision_of_secure s hart (secure.Launch rd at) =
    kernel_only hart.current.0 hart.mode
    (decision_of_launch rd
    (judgement (enclaves s.rows) s.next (visible (memory s)) hart.csrs.satp (value_of hart at)))
decision_of_secure s hart (secure.Call rd id entry) =
    decision_of_call hart.mode rd (value_of hart id) (value_of hart entry)
    (row_of s.rows (value_of hart id))
decision_of_secure s hart secure.Ret =
    inside_only hart.current.0
    (decision_of_return s.rows hart.current.0 (caller_of (row_of s.rows hart.current.0)))
decision_of_secure s hart (secure.Evict rd id) =
    kernel_only hart.current.0 hart.mode
    (decision_of_evict rd (value_of hart id) (length (evicted_rows s.rows (value_of hart id)))
    (row_of s.rows (value_of hart id)))
decision_of_secure s hart (secure.Ident rd id word) =
    Tell rd (identity_word (enclave_at (enclaves s.rows) (value_of hart id)) (value_of hart word))
decision_of_secure s hart (secure.Caller rd) =
    inside_only hart.current.0 (Tell rd (caller_of (row_of s.rows hart.current.0)).0)
decision_of_secure s hart (secure.Offerer rd at) =
    inside_only hart.current.0
    (Tell rd (offerer_of (owners s.rows)
    (declaration (owners s.rows) hart.current.0 (vpn_of (value_of hart at)))))
decision_of_secure s hart (secure.Sget rd index) =
    inside_only hart.current.0
    (Tell rd (get_word s.records (identity_of (enclaves s.rows) hart.current.0)
    (value_of hart index)))
decision_of_secure s hart (secure.Sset rd index value) =
    let who = identity_of (enclaves s.rows) hart.current.0 in
    inside_only hart.current.0
    (decision_of_set rd s.records who (value_of hart index) (value_of hart value)
    (set_refusal s.records who (value_of hart index)))

-- ---- instructions

-- what an instruction asks for, carried out or trapped
abbrev pub decision_of_act : State → ℕ → Hart → Act → Decision
decision_of_act s h hart (act.Set rd value) = Set rd value
decision_of_act s h hart (act.Jump target rd link) = Jump target rd link
decision_of_act s h hart act.Next = Next
decision_of_act s h hart (act.LoadAt va width signed rd) =
    decision_of_load width signed rd
    (answer_of_load s.pages width (access (memory s) (asker h hart) kind.Load va width))
decision_of_act s h hart (act.StoreAt va width value) =
    decision_of_store width value (access (memory s) (asker h hart) kind.Store va width)
decision_of_act s h hart (act.Csr op number operand reads writes rd) =
    outside_only hart.current.0 (decision_of_csr s h hart op number operand reads writes rd)
decision_of_act s h hart act.Ecall = outside_only hart.current.0
    (decision_of_ecall s hart hart.mode)
decision_of_act s h hart act.Ebreak = outside_only hart.current.0 (Trap breakpoint 0)
decision_of_act s h hart act.Sret = outside_only hart.current.0
    (supervisor_only hart.mode ReturnFromTrap)
decision_of_act s h hart act.Wfi = outside_only hart.current.0 (supervisor_only hart.mode Next)
decision_of_act s h hart act.SfenceVma = outside_only hart.current.0
    (supervisor_only hart.mode Next)
decision_of_act s h hart (act.Bastion secure) = decision_of_secure s hart secure
decision_of_act s h hart (act.Trap cause value) = Trap cause value

-- what comes of what is asked
abbrev pub decision_of_asked : State → ℕ → Hart → Asked → Decision
decision_of_asked s h hart Nothing = Rest
decision_of_asked s h hart (Interrupted cause) = Trap cause 0
decision_of_asked s h hart (Unfetched fault) = decision_of_fault kind.Fetch fault
decision_of_asked s h hart (Resuming id) = Resume id
decision_of_asked s h hart Unknown = illegal
decision_of_asked s h hart (Acting act) = decision_of_act s h hart act

-- ---- what is asked

-- a word that is no instruction is illegal
abbrev pub asked_of_insn : Hart → Option Insn → Asked
asked_of_insn hart None = Unknown
asked_of_insn hart (Some i) = Acting (act_of i hart.regs hart.pc)

abbrev pub asked_of_stopped : Fault → Option ModId → Asked
asked_of_stopped fault None = Unfetched fault
asked_of_stopped fault (Some id) = Resuming id

abbrev pub asked_of_denial : List Row → Hart → Fault → Option Gpn → Asked
asked_of_denial rows hart fault None = Unfetched fault
asked_of_denial rows hart fault (Some page) =
    asked_of_stopped fault (stopped_at rows page.0 (vpn_of hart.pc) hart.pc hart.mode)

-- only the untrusted world resumes a module
abbrev pub asked_of_fault : (current : ℕ) → List Row → Hart → Fault → Asked
asked_of_fault zero rows hart fault = asked_of_denial rows hart fault fault.denied
asked_of_fault (suc m) rows hart fault = Unfetched fault

-- the word at pc, where it can be fetched
abbrev pub asked_of_fetch : List Row → Hart → Result ℕ Fault → Asked
asked_of_fetch rows hart (Err fault) = asked_of_fault hart.current.0 rows hart fault
asked_of_fetch rows hart (Ok word) = asked_of_insn hart (insn_of word)

-- an interrupt goes before the instruction
abbrev pub asked_of_interrupt : State → ℕ → Hart → Option Cause → Asked
asked_of_interrupt s h hart (Some cause) = Interrupted cause
asked_of_interrupt s h hart None =
    asked_of_fetch s.rows hart (answer_of_load s.pages B4
    (access (memory s) (asker h hart) kind.Fetch hart.pc B4))

abbrev pub asked_if_started : Bool → State → ℕ → Hart → Asked
asked_if_started false s h hart = Nothing
asked_if_started true s h hart = asked_of_interrupt s h hart (interrupt_of s h hart)

abbrev pub asked_of : State → ℕ → Hart → Asked
asked_of s h hart = asked_if_started hart.started s h hart

-- ---- the whole turn

abbrev pub decision_of_hart : State → ℕ → Hart → Decision
decision_of_hart s h hart = decision_of_asked s h hart (asked_of s h hart)

-- what a turn of hart h comes to
unfoldable pub decision_of : State → ℕ → Decision
decision_of s h = decision_of_hart s h (hart_at s h)
