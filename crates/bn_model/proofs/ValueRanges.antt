-- The numbers of what a turn comes to have 64 bits.
use Rattle.std.proofs.Common.{◌≡◌, ℕ, zero, suc, ◌*◌, ◌%◌, ◌^◌, ◌<◌, ◌≤◌, ◌==◌, ◌&&◌, ◌⊎◌}
use Rattle.std.proofs.Common.{Bool, true, false, not, nat_lt, get_or, length, List, [], ◌∷◌}
use Rattle.std.proofs.Common.{map, Option, Some, None, is_some, option_map, Result, Ok, Err, inl}
use Rattle.std.proofs.Common.{inr, refl, sym, ap, subst, ◌∙◌, arith}
use Rattle.std.proofs.lemmas.Bool.{cases_lt}
use Rattle.std.proofs.lemmas.List.{get_or_past}
use Rattle.std.proofs.lemmas.List.Elements.{All-get_or, All-head, All-tail}
use Rattle.std.proofs.lemmas.Option.{none-some}
use Rattle.std.specs.List.{All, list_any}
use Rattle.std.specs.Prelude.{IfSome}
use Rattle.std.specs.declared.cmp.Ordering.{Ordering}
use Rattle.std.specs.declared.cmp.Ordering.TheVariants.{Less, Equal, Greater}
use Rattle.bn_types.specs.declared.act.Act.{Act}
use Rattle.bn_types.specs.declared.act.Act.TheVariants as act
use Rattle.bn_types.specs.declared.asker.Asker.{Asker}
use Rattle.bn_types.specs.declared.cause.Cause.{Cause}
use Rattle.bn_types.specs.declared.decl.Decl.{Decl}
use Rattle.bn_types.specs.declared.digest.Digest.{Digest}
use Rattle.bn_types.specs.declared.fault.Fault.{Fault}
use Rattle.bn_types.specs.declared.gpn.Gpn.{Gpn}
use Rattle.bn_types.specs.declared.insn.Insn.{Insn}
use Rattle.bn_types.specs.declared.judged.Judged.{Judged}
use Rattle.bn_types.specs.declared.kind.Kind.{Kind}
use Rattle.bn_types.specs.declared.kind.Kind.TheVariants as kind
use Rattle.bn_types.specs.declared.launch_refused.LaunchRefused.{LaunchRefused}
use Rattle.bn_types.specs.declared.launch_refused.LaunchRefused.TheVariants as refused
use Rattle.bn_types.specs.declared.mod_id.ModId.{ModId}
use Rattle.bn_types.specs.declared.mode.Mode.{Mode}
use Rattle.bn_types.specs.declared.mode.Mode.TheVariants.{U, S}
use Rattle.bn_types.specs.declared.record.Record.{Record}
use Rattle.bn_types.specs.declared.reg.Reg.{Reg}
use Rattle.bn_types.specs.declared.row.Row.{Row}
use Rattle.bn_types.specs.declared.row_state.RowState.{RowState}
use Rattle.bn_types.specs.declared.row_state.RowState.TheVariants.{Idle, Running, Waiting, Stopped}
use Rattle.bn_types.specs.declared.sbi_ask.SbiAsk.{SbiAsk}
use Rattle.bn_types.specs.declared.sbi_ask.SbiAsk.TheVariants as ask
use Rattle.bn_types.specs.declared.secure.Secure.{Secure}
use Rattle.bn_types.specs.declared.secure.Secure.TheVariants as secure
use Rattle.bn_types.specs.declared.set_refused.SetRefused.{SetRefused}
use Rattle.bn_types.specs.declared.set_refused.SetRefused.TheVariants.{BadIndex, Full}
use Rattle.bn_types.specs.declared.sort.Sort.{Sort}
use Rattle.bn_types.specs.declared.sort.Sort.TheVariants.{Private, Offer, Accept}
use Rattle.bn_types.specs.declared.width.Width.{Width}
use Rattle.bn_types.specs.declared.width.Width.TheVariants.{B4}
use Rattle.bn_model.specs.declared.place.Place.{Place}
use Rattle.bn_model.specs.Accessing.{access, answer_of_load, is_aligned, misaligned}
use Rattle.bn_model.specs.Accessing.{place_by_walk, place_if_admitted, place_if_aligned}
use Rattle.bn_model.specs.Accessing.{place_if_in_ram, place_on, walk_by}
use Rattle.bn_model.specs.Admission.{admits, declaration}
use Rattle.bn_model.specs.CsrFile.{CsrDone, CsrFile, csr_done}
use Rattle.bn_model.specs.Deciding.{asked_if_started, asked_of, asked_of_denial, asked_of_fault}
use Rattle.bn_model.specs.Deciding.{asked_of_fetch, asked_of_insn, asked_of_interrupt}
use Rattle.bn_model.specs.Deciding.{asked_of_stopped, caller_of, csr_decision, decision_by_state}
use Rattle.bn_model.specs.Deciding.{decision_of_act, decision_of_asked, decision_of_ask}
use Rattle.bn_model.specs.Deciding.{decision_of_call, decision_of_denial, decision_of_ecall}
use Rattle.bn_model.specs.Deciding.{decision_of_evict, decision_of_get, decision_of_hart}
use Rattle.bn_model.specs.Deciding.{decision_of_launch, decision_of_load, decision_of_secure}
use Rattle.bn_model.specs.Deciding.{decision_of_set, decision_of_store, enclave_at, id_if_live}
use Rattle.bn_model.specs.Deciding.{identity_of, identity_word, is_enclave, is_entry, is_idle}
use Rattle.bn_model.specs.Deciding.{is_started, offerer_of, refused_unless, source_of, word_if}
use Rattle.bn_model.specs.Deciding.{counters_of}
use Rattle.bn_model.specs.Decision.{Asked, Nothing, Interrupted, Unfetched, Resuming, Unknown}
use Rattle.bn_model.specs.Decision.{Acting, Decision, Trap, Deny, Set, Jump, Csr, Answer, SetTimer}
use Rattle.bn_model.specs.Decision.{Refuse, Call, Tell}
use Rattle.bn_model.specs.Decoding.{insn_of}
use Rattle.bn_model.specs.Evicting.{evicted_rows}
use Rattle.bn_model.specs.Hypervisor.{ConsoleGetchar, ConsolePutchar, HartStart, HyperCall, NoCall}
use Rattle.bn_model.specs.Hypervisor.{SendIpi, SetTimer as CallTimer, Shutdown, all_harts}
use Rattle.bn_model.specs.Hypervisor.{are_harts, ask_by, ask_of, ask_of_ipi_if, ask_of_start}
use Rattle.bn_model.specs.Hypervisor.{call_of, refuse_unless}
use Rattle.bn_model.specs.InsnRanges.{IsInRange}
use Rattle.bn_model.specs.Interrupts.{interrupt_of, wires_of}
use Rattle.bn_model.specs.Legality.{illegal}
use Rattle.bn_model.specs.Memory.{Memory, visible}
use Rattle.bn_model.specs.Owners.{is_live}
use Rattle.bn_model.specs.Records.{AreRecords, IsWhole, identity_order, set_refusal}
use Rattle.bn_model.specs.Records.{word_in, words_by, words_of}
use Rattle.bn_model.specs.declared.wires.Wires.{Wires}
use Rattle.bn_model.specs.Refusals.{launch_code}
use Rattle.bn_model.specs.Rows.{Enclave, enclave_of, enclaves, has_id, owners, row_of}
use Rattle.bn_model.specs.Soundness.{AreCsrs, AreStates, HasIds, IsHart, IsRow, caller_at}
use Rattle.bn_model.specs.Soundness.{state_if_some}
use Rattle.bn_model.specs.State.{Hart, State, asker, memory, value_of}
use Rattle.bn_model.specs.Switching.{is_mode, stopped_at}
use Rattle.bn_model.specs.Trapping.{first_interrupt, interrupt_if}
use Rattle.bn_model.specs.Trapping.{takes_interrupts}
use Rattle.bn_model.specs.Walking.{Landing, WalkFault, NoLeaf, Refused, access_fault, guest_page}
use Rattle.bn_model.specs.Walking.{landing_if, landing_or_cause, leaf_of, page_fault, permits}
use Rattle.bn_model.specs.Walking.{vpn_of}
use Rattle.bn_model.proofs.ActRanges.{HasSmallNumbers, insn-small, load-small}
use Rattle.bn_model.proofs.CsrRanges.{DoneIfSome, csr_done-good}
use Rattle.bn_model.proofs.Evidence.{inside, kernel, outside, supervisor}
use Rattle.bn_model.proofs.IdLemmas.{live-between}
use Rattle.bn_model.proofs.MembershipLemmas.{has-find}
use Rattle.bn_model.proofs.ModesKept.{all-of}
use Rattle.bn_model.proofs.RegisterLemmas.{any-register}
use Rattle.bn_model.proofs.RowLemmas.{is_live-row_of}
use Rattle.bn_model.proofs.SegmentFacts.{number-fits}
use Rattle.bn_model.proofs.StatesKept.{caller-is}
use Rattle.bn_model.proofs.TestLemmas.{find-map}
use Rattle.bn_model.proofs.WordLemmas.{IsInRange-insn_of}

-- what a turn comes to has small numbers
unfoldable pub HasSmallValues : Decision → Type 0
HasSmallValues (Trap cause value) = (cause.0 < 2 ^ 64) × (value < 2 ^ 64)
HasSmallValues (Deny kind va) = va < 2 ^ 64
HasSmallValues (Set rd value) = value < 2 ^ 64
HasSmallValues (Jump target rd link) = (target < 2 ^ 64) × (link < 2 ^ 64)
HasSmallValues (Csr rd old csrs) = (old < 2 ^ 64) × AreCsrs csrs
HasSmallValues (Answer error) = error < 2 ^ 64
HasSmallValues (SetTimer timer) = timer < 2 ^ 64
HasSmallValues (Refuse rd request code) = 1 ≤ code
HasSmallValues (Tell rd value) = value < 2 ^ 64
HasSmallValues decision = Unit {0}

-- ---- faults

IsSmallFault : Fault → Type 0
IsSmallFault f = (f.cause.0 < 2 ^ 64) × (f.va < 2 ^ 64)

SmallIfErr : {A : Type 0} → Result A Fault → Type 0
SmallIfErr (Ok x) = Unit {0}
SmallIfErr (Err f) = IsSmallFault f

misaligned-small : (k : Kind) → (misaligned k).0 < 2 ^ 64
misaligned-small kind.Fetch = omega arith
misaligned-small kind.Load = omega arith
misaligned-small kind.Store = omega arith

pub access-small : (k : Kind) → (access_fault k).0 < 2 ^ 64
access-small kind.Fetch = omega arith
access-small kind.Load = omega arith
access-small kind.Store = omega arith

page-small : (k : Kind) → (page_fault k).0 < 2 ^ 64
page-small kind.Fetch = omega arith
page-small kind.Load = omega arith
page-small kind.Store = omega arith

CauseIfErr : Result Landing Cause → Type 0
CauseIfErr (Ok landing) = Unit {0}
CauseIfErr (Err cause) = cause.0 < 2 ^ 64

permission-small : (landing : Landing) (k : Kind) (b : Bool) → CauseIfErr (landing_if b landing k)
unfolding CauseIfErr
permission-small landing k true = tt
permission-small landing k false = page-small k

walk-small : (k : Kind) (mode : Mode) (sum mxr : Bool) (leaf : Result Landing WalkFault)
    → CauseIfErr (landing_or_cause k mode sum mxr leaf)
unfolding CauseIfErr
walk-small k mode sum mxr (Err NoLeaf) = page-small k
walk-small k mode sum mxr (Err Refused) = access-small k
walk-small k mode sum mxr (Ok landing) = permission-small landing k (permits landing k mode sum mxr)

module _ (m : Memory) (who : Asker) (k : Kind) (va : ℕ) (small : va < 2 ^ 64) where
  admitted-small : (b : Bool) (page : ℕ) → SmallIfErr (place_if_admitted b k va page)
  unfolding SmallIfErr IsSmallFault
  admitted-small false page = (access-small k, small)
  admitted-small true page = tt

  ram-small : (b : Bool) (page : ℕ) → SmallIfErr (place_if_in_ram b m who k va page)
  unfolding SmallIfErr IsSmallFault
  ram-small false page = (access-small k, small)
  ram-small true page = admitted-small (admits m.owners who.«module».0 (vpn_of va) page k) page

  on-small : (page : Option ℕ) → SmallIfErr (place_on m who k va page)
  unfolding SmallIfErr IsSmallFault
  on-small None = (access-small k, small)
  on-small (Some page) = ram-small (nat_lt page (length m.pages)) page

  by-walk-small : (walk : Result Landing Cause) → CauseIfErr walk
      → SmallIfErr (place_by_walk m who k va walk)
  unfolding SmallIfErr IsSmallFault CauseIfErr
  by-walk-small (Err cause) e = (e, small)
  by-walk-small (Ok landing) e = on-small (guest_page landing.ppn)

  aligned-small : (b : Bool) → SmallIfErr (place_if_aligned b m who k va)
  unfolding SmallIfErr IsSmallFault
  aligned-small false = (misaligned-small k, small)
  aligned-small true = by-walk-small (walk_by m who k va)
      (walk-small k who.mode who.sum who.mxr (leaf_of (visible m) who.satp va))

  reached-small : (width : Width) → SmallIfErr (access m who k va width)
  unfolding access
  reached-small width = aligned-small (is_aligned k va width)

answer-small : (pages : List (List ℕ)) (width : Width) (r : Result Place Fault) → SmallIfErr r
    → SmallIfErr (answer_of_load pages width r)
unfolding SmallIfErr
answer-small pages width (Err f) e = e
answer-small pages width (Ok place) e = tt

denial-small : (k : Kind) (cause : Cause) (va : ℕ) (denied : Option Gpn) → cause.0 < 2 ^ 64
    → va < 2 ^ 64 → HasSmallValues (decision_of_denial k cause va denied)
unfolding HasSmallValues
denial-small k cause va None f g = (f, g)
denial-small k cause va (Some page) f g = g

load-decision : (width : Width) (signed : Bool) (rd : Reg) (r : Result ℕ Fault) → SmallIfErr r
    → HasSmallValues (decision_of_load width signed rd r)
unfolding HasSmallValues SmallIfErr IsSmallFault
load-decision width signed rd (Err f) e = denial-small kind.Load f.cause f.va f.denied e.0 e.1
load-decision width signed rd (Ok number) e = load-small width signed number

store-decision : (width : Width) (value : ℕ) (r : Result Place Fault) → SmallIfErr r
    → HasSmallValues (decision_of_store width value r)
unfolding HasSmallValues SmallIfErr IsSmallFault
store-decision width value (Err f) e = denial-small kind.Store f.cause f.va f.denied e.0 e.1
store-decision width value (Ok place) e = tt

csr-small : (rd : Reg) (done : Option CsrDone) → DoneIfSome done
    → HasSmallValues (csr_decision rd done)
unfolding HasSmallValues DoneIfSome
csr-small rd None e = (omega arith, omega arith)
csr-small rd (Some done) e = e

-- ---- calls to the hypervisor

get-small : (keys : List ℕ) → HasSmallValues (decision_of_get keys)
unfolding HasSmallValues
get-small [] = tt
get-small (key ∷ keys) = tt

AskIsSmall : SbiAsk → Type 0
AskIsSmall (ask.SetTimer timer) = timer < 2 ^ 64
AskIsSmall (ask.Refuse error) = error < 2 ^ 64
AskIsSmall other = Unit {0}

ask-small : (asked : SbiAsk) (keys : List ℕ) → AskIsSmall asked
    → HasSmallValues (decision_of_ask asked keys)
unfolding HasSmallValues AskIsSmall
ask-small (ask.SetTimer timer) keys e = e
ask-small (ask.Put byte) keys e = tt
ask-small ask.Get keys e = get-small keys
ask-small ask.Shutdown keys e = tt
ask-small (ask.Start target pc opaque) keys e = tt
ask-small (ask.Ipi harts) keys e = tt
ask-small (ask.Refuse error) keys e = e

refuse-small : (b : Bool) (error : ℕ) (next : SbiAsk) → error < 2 ^ 64 → AskIsSmall next
    → AskIsSmall (refuse_unless b error next)
unfolding AskIsSmall
refuse-small true error next f e = e
refuse-small false error next f e = f

start-small : (harts : ℕ) (started : List Bool) (target pc opaque : ℕ)
    → AskIsSmall (ask_of_start harts started target pc opaque)
unfolding AskIsSmall
start-small harts started target pc opaque =
    refuse-small (nat_lt target harts) _ _ (omega arith)
    (refuse-small (pc % 4 == 0) _ _ (omega arith)
    (refuse-small (not (get_or started target false)) _ (ask.Start target pc opaque) (omega arith)
    tt))

ipi-small : (b : Bool) (harts mask base : ℕ) → AskIsSmall (ask_of_ipi_if b harts mask base)
unfolding AskIsSmall
ipi-small true harts mask base = tt
ipi-small false harts mask base =
    refuse-small (are_harts harts mask base) _ (ask.Ipi _) (omega arith) tt

asked-small : (call : HyperCall) (harts : ℕ) (started : List Bool) (a b c : ℕ) → a < 2 ^ 64
    → AskIsSmall (ask_by call harts started a b c)
unfolding AskIsSmall
asked-small CallTimer harts started a b c small = small
asked-small ConsolePutchar harts started a b c small = tt
asked-small ConsoleGetchar harts started a b c small = tt
asked-small Shutdown harts started a b c small = tt
asked-small HartStart harts started a b c small = start-small harts started a b c
asked-small SendIpi harts started a b c small = ipi-small (b == all_harts) harts a b
asked-small NoCall harts started a b c small = omega arith

-- ---- codes

code-least : (refusal : LaunchRefused) → 1 ≤ launch_code refusal
code-least refused.Address = omega arith
code-least refused.Unmapped = omega arith
code-least refused.NoPage = omega arith
code-least refused.Owned = omega arith
code-least refused.Alias = omega arith
code-least refused.NotOffered = omega arith
code-least refused.Duplicate = omega arith
code-least refused.TableFull = omega arith
code-least refused.IdsSpent = omega arith
code-least (refused.Segment seg_fault) = omega arith

launch-small : (rd : Reg) (r : Result Judged LaunchRefused)
    → HasSmallValues (decision_of_launch rd r)
unfolding HasSmallValues
launch-small rd (Err refusal) = code-least refusal
launch-small rd (Ok judged) = tt

refused-small : (b : Bool) (rd : Reg) (code : ℕ) (d : Decision) → 1 ≤ code → HasSmallValues d
    → HasSmallValues (refused_unless b rd code d)
unfolding HasSmallValues
refused-small true rd code d f e = e
refused-small false rd code d f e = f

call-small : (mode : Mode) (rd : Reg) (id entry : ℕ) (row : Option Row)
    → HasSmallValues (decision_of_call mode rd id entry row)
unfolding HasSmallValues
call-small mode rd id entry None = omega arith
call-small mode rd id entry (Some row) =
    refused-small (list_any (is_entry entry) row.judged.entries.items) rd 2
    (refused_unless (is_mode mode row.judged.mode) rd 3
    (refused_unless (is_idle row.state) rd 4 (Call rd id entry))) (omega arith)
    (refused-small (is_mode mode row.judged.mode) rd 3
    (refused_unless (is_idle row.state) rd 4 (Call rd id entry)) (omega arith)
    (refused-small (is_idle row.state) rd 4 (Call rd id entry) (omega arith) tt))

state-small : (rd : Reg) (id count : ℕ) (state : RowState)
    → HasSmallValues (decision_by_state rd id count state)
unfolding HasSmallValues
state-small rd id count Idle = tt
state-small rd id count Stopped = tt
state-small rd id count (Running h) = omega arith
state-small rd id count (Waiting callee) = omega arith

evict-small : (rd : Reg) (id count : ℕ) (row : Option Row)
    → HasSmallValues (decision_of_evict rd id count row)
unfolding HasSmallValues
evict-small rd id count None = omega arith
evict-small rd id count (Some row) = state-small rd id count row.state

set-small : (rd : Reg) (records : List Record) (who : Digest) (index value : ℕ)
    (refusal : Option SetRefused)
    → HasSmallValues (decision_of_set rd records who index value refusal)
unfolding HasSmallValues
set-small rd records who index value None = tt
set-small rd records who index value (Some BadIndex) = omega arith
set-small rd records who index value (Some Full) = omega arith

-- ---- what a module is told

word-small : (b : Bool) (who : Digest) (word : ℕ) → All (λ byte. byte < 256) who.0
    → word_if b who word < 2 ^ 64
word-small true who word bytes = number-fits who.0 (8 * word) bytes
word-small false who word bytes = omega arith

identity-small : (rows : List Row) (id word : ℕ) → All IsRow rows
    → identity_word (enclave_at (enclaves rows) id) word < 2 ^ 64
unfolding enclaves
identity-small rows id word all =
    subst (λ (o : Option Enclave). identity_word o word < 2 ^ 64)
    (sym (find-map (is_enclave id) (has_id id) enclave_of (λ row. refl) rows))
    (by_row (row_of rows id) refl)
  where
    by_row : (o : Option Row) → row_of rows id ≡ o
        → identity_word (option_map enclave_of o) word < 2 ^ 64
    by_row None e = omega arith
    by_row (Some row) e =
        word-small (nat_lt word 4) row.judged.digest word
        (all-of IsRow rows row all (has-find (has_id id) rows row e)).digest

found-word : (records : List Record) (who : Digest) (index : ℕ) → All IsWhole records
    → word_in (words_of records who) index < 2 ^ 64
unfolding words_of
found-word [] who index all = omega arith
found-word (first ∷ rest) who index all =
    by_order (identity_order who first.who)
    (found-word rest who index (All-tail IsWhole first rest all))
  where
    in_words : (words : List ℕ) → All (λ word. word < 2 ^ 64) words
        → (index < length words) ⊎ (length words ≤ index) → get_or words index 0 < 2 ^ 64
    in_words words small (inl within) =
        All-get_or (λ word. word < 2 ^ 64) words index 0 within small
    in_words words small (inr past) =
        subst (λ (n : ℕ). n < 2 ^ 64) (sym (get_or_past words index 0 past)) (omega arith)

    by_order : (o : Ordering) → word_in (words_of rest who) index < 2 ^ 64
        → word_in (words_by o first (words_of rest who)) index < 2 ^ 64
    by_order Less deeper = omega arith
    by_order Equal deeper =
        in_words first.words (All-head IsWhole first rest all).small
        (cases_lt index (length first.words))
    by_order Greater deeper = deeper

-- ---- a turn

InterruptIsSmall : Option Cause → Type 0
InterruptIsSmall None = Unit {0}
InterruptIsSmall (Some cause) = cause.0 < 2 ^ 64

interrupt-small : (external software timer : Bool)
    → InterruptIsSmall (first_interrupt external software timer)
unfolding InterruptIsSmall
interrupt-small true software timer = omega arith
interrupt-small false true timer = omega arith
interrupt-small false false true = omega arith
interrupt-small false false false = tt

interrupt-if : (b : Bool) (c : CsrFile) (wires : Wires) → InterruptIsSmall (interrupt_if b c wires)
unfolding InterruptIsSmall
interrupt-if false c wires = tt
interrupt-if true c wires =
    interrupt-small (wires.external && c.seie) (c.ssip && c.ssie) (wires.timer && c.stie)

module _ (s : State) (h : ℕ) (hart : Hart) (clock : ℕ) (is : IsHart clock hart)
    (ids : HasIds (enclaves s.rows) s.next) (st : AreStates s.harts s.rows)
    (rows : All IsRow s.rows) (records : AreRecords s.records) where
  id-small : (id : ℕ) → is_live (owners s.rows) id ≡ true → id < 2 ^ 64
  id-small id live =
      let below : id < s.next = (live-between zero id s.rows s.next ids.ascend live).1 in
      let last : s.next ≤ 65536 = ids.last in
      omega arith

  live-if : (id : ℕ) (row : Option Row) → row_of s.rows id ≡ row → (state : RowState)
      → state_if_some row ≡ Some state → is_live (owners s.rows) id ≡ true
  live-if id None e state is = absurd (none-some state is)
  live-if id (Some row) e state is = is_live-row_of id s.rows ∙ ap (λ (o : Option Row). is_some o) e

  caller-value : (m n : ℕ) → caller_at s.rows m ≡ n → n < 2 ^ 64
  caller-value m zero e = omega arith
  caller-value m (suc c) e =
      id-small (suc c) (live-if (suc c) (row_of s.rows (suc c)) refl (Waiting (record { 0 = m }))
      (st.called m c e))

  caller-small : (m : ℕ) → (caller_of (row_of s.rows m)).0 < 2 ^ 64
  caller-small m = subst (λ (n : ℕ). n < 2 ^ 64) (sym (caller-is (row_of s.rows m)))
      (caller-value m (caller_at s.rows m) refl)

  live-small : (b : Bool) (source : ModId) → is_live (owners s.rows) source.0 ≡ b
      → id_if_live b source < 2 ^ 64
  live-small true source e = id-small source.0 e
  live-small false source e = omega arith

  source-small : (sort : Sort) (source : ModId) → source_of (owners s.rows) sort source < 2 ^ 64
  source-small Private source = omega arith
  source-small Offer source = omega arith
  source-small Accept source = live-small (is_live (owners s.rows) source.0) source refl

  offerer-small : (decl : Option Decl) → offerer_of (owners s.rows) decl < 2 ^ 64
  offerer-small None = omega arith
  offerer-small (Some decl) = source-small decl.sort decl.source

  illegal-small : HasSmallValues illegal
  unfolding HasSmallValues
  illegal-small = (omega arith, omega arith)

  ecall-small : (mode : Mode) → HasSmallValues (decision_of_ecall s hart mode)
  unfolding HasSmallValues ask_of
  ecall-small U = (omega arith, omega arith)
  ecall-small S =
      ask-small (ask_of hart.regs (length s.harts) (map is_started s.harts)) s.keys
      (asked-small (call_of (get_or hart.regs.x 17 0) (get_or hart.regs.x 16 0)) (length s.harts)
      (map is_started s.harts)
      (get_or hart.regs.x 10 0) (get_or hart.regs.x 11 0) (get_or hart.regs.x 12 0)
      (any-register hart.regs is.regs 10))

  secure-small : (i : Secure) → HasSmallValues (decision_of_secure s hart i)
  unfolding HasSmallValues
  secure-small (secure.Launch rd at) =
      kernel HasSmallValues hart.current.0 hart.mode _ illegal-small (λ out. launch-small rd _)
  secure-small (secure.Call rd id entry) =
      call-small hart.mode rd (value_of hart id) (value_of hart entry)
      (row_of s.rows (value_of hart id))
  secure-small secure.Ret = inside HasSmallValues hart.current.0 _ illegal-small (λ m e. tt)
  secure-small (secure.Evict rd id) =
      kernel HasSmallValues hart.current.0 hart.mode _ illegal-small
      (λ out. evict-small rd (value_of hart id) (length (evicted_rows s.rows (value_of hart id)))
      (row_of s.rows (value_of hart id)))
  secure-small (secure.Ident rd id word) =
      identity-small s.rows (value_of hart id) (value_of hart word) rows
  secure-small (secure.Caller rd) =
      inside HasSmallValues hart.current.0 _ illegal-small (λ m e. caller-small hart.current.0)
  secure-small (secure.Offerer rd at) =
      inside HasSmallValues hart.current.0 _ illegal-small
      (λ m e. offerer-small
      (declaration (owners s.rows) hart.current.0 (vpn_of (value_of hart at))))
  secure-small (secure.Sget rd index) =
      inside HasSmallValues hart.current.0 _ illegal-small
      (λ m e. found-word s.records (identity_of (enclaves s.rows) hart.current.0)
      (value_of hart index) records.whole)
  secure-small (secure.Sset rd index value) =
      inside HasSmallValues hart.current.0 _ illegal-small
      (λ m e. set-small rd s.records (identity_of (enclaves s.rows) hart.current.0)
      (value_of hart index) (value_of hart value)
      (set_refusal s.records (identity_of (enclaves s.rows) hart.current.0) (value_of hart index)))

  act-small : (asked : Act) → HasSmallNumbers asked
      → HasSmallValues (decision_of_act s h hart asked)
  unfolding HasSmallValues HasSmallNumbers
  act-small (act.Set rd value) e = e
  act-small (act.Jump target rd link) e = e
  act-small act.Next e = tt
  act-small (act.LoadAt va width signed rd) e =
      load-decision width signed rd
      (answer_of_load s.pages width (access (memory s) (asker h hart) kind.Load va width))
      (answer-small s.pages width (access (memory s) (asker h hart) kind.Load va width)
      (reached-small (memory s) (asker h hart) kind.Load va e width))
  act-small (act.StoreAt va width value) e =
      store-decision width value (access (memory s) (asker h hart) kind.Store va width)
      (reached-small (memory s) (asker h hart) kind.Store va e width)
  act-small (act.Csr o number operand reads writes rd) e =
      outside HasSmallValues hart.current.0 _ illegal-small
      (λ out. csr-small rd
      (csr_done hart.csrs o number operand reads writes hart.mode (wires_of s h hart)
      (counters_of s hart))
      (csr_done-good hart.csrs o number operand reads writes hart.mode (wires_of s h hart)
      (counters_of s hart) e is.csrs))
  act-small act.Ecall e =
      outside HasSmallValues hart.current.0 _ illegal-small (λ out. ecall-small hart.mode)
  act-small act.Ebreak e =
      outside HasSmallValues hart.current.0 _ illegal-small (λ out. (omega arith, omega arith))
  act-small act.Sret e = outside HasSmallValues hart.current.0 _ illegal-small
      (λ out. supervisor HasSmallValues hart.mode _ illegal-small tt)
  act-small act.Wfi e = outside HasSmallValues hart.current.0 _ illegal-small
      (λ out. supervisor HasSmallValues hart.mode _ illegal-small tt)
  act-small act.SfenceVma e =
      outside HasSmallValues hart.current.0 _ illegal-small
      (λ out. supervisor HasSmallValues hart.mode _ illegal-small tt)
  act-small (act.Bastion i) e = secure-small i
  act-small (act.Trap cause value) e = e

  AskedIsSmall : Asked → Type 0
  AskedIsSmall (Interrupted cause) = cause.0 < 2 ^ 64
  AskedIsSmall (Unfetched f) = IsSmallFault f
  AskedIsSmall (Acting asked) = HasSmallNumbers asked
  AskedIsSmall other = Unit {0}

  stopped-small : (f : Fault) (id : Option ModId) → IsSmallFault f
      → AskedIsSmall (asked_of_stopped f id)
  unfolding AskedIsSmall
  stopped-small f None e = e
  stopped-small f (Some id) e = tt

  denied-small : (f : Fault) (denied : Option Gpn) → IsSmallFault f
      → AskedIsSmall (asked_of_denial s.rows hart f denied)
  unfolding AskedIsSmall
  denied-small f None e = e
  denied-small f (Some page) e =
      stopped-small f (stopped_at s.rows page.0 (vpn_of hart.pc) hart.pc hart.mode) e

  fault-small : (current : ℕ) (f : Fault) → IsSmallFault f
      → AskedIsSmall (asked_of_fault current s.rows hart f)
  unfolding AskedIsSmall
  fault-small zero f e = denied-small f f.denied e
  fault-small (suc m) f e = e

  word-asked : (i : Option Insn) → IfSome i IsInRange → AskedIsSmall (asked_of_insn hart i)
  unfolding AskedIsSmall
  word-asked None e = tt
  word-asked (Some i) e = insn-small i hart.regs hart.pc e is.regs

  fetch-small : (r : Result ℕ Fault) → SmallIfErr r → AskedIsSmall (asked_of_fetch s.rows hart r)
  unfolding SmallIfErr
  fetch-small (Err f) e = fault-small hart.current.0 f e
  fetch-small (Ok word) e = word-asked (insn_of word) (IsInRange-insn_of word)

  interrupted-small : (cause : Option Cause) → InterruptIsSmall cause
      → AskedIsSmall (asked_of_interrupt s h hart cause)
  unfolding AskedIsSmall InterruptIsSmall
  interrupted-small (Some cause) e = e
  interrupted-small None e =
      fetch-small (answer_of_load s.pages B4
      (access (memory s) (asker h hart) kind.Fetch hart.pc B4))
      (answer-small s.pages B4 (access (memory s) (asker h hart) kind.Fetch hart.pc B4)
      (reached-small (memory s) (asker h hart) kind.Fetch hart.pc is.pc.small B4))

  started-small : (started : Bool) → AskedIsSmall (asked_if_started started s h hart)
  unfolding AskedIsSmall
  started-small false = tt
  started-small true = interrupted-small (interrupt_of s h hart)
      (interrupt-if (takes_interrupts hart.mode hart.csrs.sie) hart.csrs (wires_of s h hart))

  decided-small : (asked : Asked) → AskedIsSmall asked
      → HasSmallValues (decision_of_asked s h hart asked)
  unfolding HasSmallValues AskedIsSmall IsSmallFault
  decided-small Nothing e = tt
  decided-small (Interrupted cause) e = (e, omega arith)
  decided-small (Unfetched f) e = denial-small kind.Fetch f.cause f.va f.denied e.0 e.1
  decided-small (Resuming id) e = tt
  decided-small Unknown e = illegal-small
  decided-small (Acting asked) e = act-small asked e

  pub small-values : HasSmallValues (decision_of_hart s h hart)
  small-values = decided-small (asked_of s h hart) (started-small hart.started)
