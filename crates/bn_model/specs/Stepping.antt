-- One step of the flat machine, and its lines.
use Rattle.std.specs.Prelude.{ℕ, zero, suc, ◌+◌, ◌-◌, ◌%◌, ◌<◌, Bool, true, false, nat_lt}
use Rattle.std.specs.Prelude.{length, List, [], ◌∷◌, ◌++◌, Option, Some, None, slice_get, slice_set}
use Rattle.std.specs.Prelude.{◌^◌}
use Rattle.bn_types.specs.Numbers.{number_at, with_number}
use Rattle.bn_types.specs.declared.cause.Cause.{Cause}
use Rattle.bn_types.specs.declared.event.Event.{Event}
use Rattle.bn_types.specs.declared.event.Event.TheVariants.{Turn, Key, Poke, Peek}
use Rattle.bn_types.specs.declared.gpn.Gpn.{Gpn}
use Rattle.bn_types.specs.declared.judged.Judged.{Judged}
use Rattle.bn_types.specs.declared.kind.Kind.{Kind}
use Rattle.bn_types.specs.declared.line.Line.{Line}
use Rattle.bn_types.specs.declared.line.Line.TheVariants as line
use Rattle.bn_types.specs.declared.mod_id.ModId.{ModId}
use Rattle.bn_types.specs.declared.reg.Reg.{Reg}
use Rattle.bn_types.specs.declared.saved_frame.SavedFrame.{SavedFrame}
use Rattle.bn_types.specs.declared.width.Width.{Width}
use Rattle.bn_types.specs.declared.width.Width.TheVariants.{B1}
use Rattle.bn_model.specs.declared.place.Place.{Place}
use Rattle.bn_model.specs.Accessing.{pages_with}
use Rattle.bn_model.specs.Deciding.{decision_of}
use Rattle.bn_model.specs.Decision.{Decision, Rest, Trap, Deny, Next, Set, Jump, Store, Csr}
use Rattle.bn_model.specs.Decision.{ReturnFromTrap, Put, Answer, ShutDown, SetTimer, TakeKey, NoKey}
use Rattle.bn_model.specs.Decision.{Start, Send, Refuse, Launch, Call, Return, Resume, Evict, Tell}
use Rattle.bn_model.specs.Decision.{SetWord}
use Rattle.bn_model.specs.Each.{each}
use Rattle.bn_model.specs.Bits.{is_set}
use Rattle.bn_model.specs.Evicting.{evicted_rows, pages_left, rows_left}
use Rattle.bn_model.specs.Memory.{visible}
use Rattle.bn_model.specs.Refusals.{minus, minus_in_64_bits}
use Rattle.bn_model.specs.Rows.{new_row, owners, row_of, saved_of, with_row}
use Rattle.bn_model.specs.State.{Hart, State, a0, frame_of, hart_after_answer, hart_after_call}
use Rattle.bn_model.specs.State.{hart_after_csr, hart_after_jump, hart_after_next}
use Rattle.bn_model.specs.State.{hart_after_resume, hart_after_return, hart_after_set}
use Rattle.bn_model.specs.State.{hart_after_software, hart_after_sret, hart_after_stop}
use Rattle.bn_model.specs.State.{hart_after_timer, hart_after_trap, hart_at, memory, next_pc}
use Rattle.bn_model.specs.State.{started_hart, with_hart, with_register}
use Rattle.bn_model.specs.Switching.{frame_of_caller, row_after_resume, row_after_stop}
use Rattle.bn_model.specs.Switching.{rows_after_call, rows_after_return}
use Rattle.bn_model.specs.Walking.{access_fault, vpn_of}

-- one event more was made
abbrev pub after_tick : State → State
after_tick s = record s { clock = s.clock + 1 }

-- ---- traps

-- the kernel isn't told where in its page a module's access failed
abbrev pub page_address : ℕ → ℕ
page_address va = va - va % 4096

-- the state after a trap: where a module runs, it is stopped first
abbrev pub after_trap_in : (current : ℕ) → State → ℕ → Hart → Cause → ℕ → State
after_trap_in zero s h hart cause value = with_hart s h (hart_after_trap hart cause value)
after_trap_in (suc m) s h hart cause value =
    with_hart (record s { rows = with_row (suc m) (row_after_stop (frame_of hart)) s.rows }) h
    (hart_after_trap (hart_after_stop hart) cause (page_address value))

abbrev pub stop_lines : (n h : ℕ) → Hart → (current : ℕ) → List Line
stop_lines n h hart zero = []
stop_lines n h hart (suc m) = line.Stop n h (record { 0 = suc m }) hart.pc ∷ []

abbrev pub trap_lines : (n h : ℕ) → Hart → Cause → List Line
trap_lines n h hart cause =
    stop_lines n h hart hart.current.0 ++ (line.Trap n h cause.0 hart.pc ∷ [])

abbrev pub deny_line : (n h : ℕ) → Hart → Kind → ℕ → Line
deny_line n h hart kind va = line.Deny n h hart.current kind (record { 0 = vpn_of va })

-- ---- what else a turn does to the state

-- the low bytes of a value are stored at a place
abbrev pub after_store : State → Place → Width → ℕ → State
after_store s place width value = record s { pages = pages_with s.pages width value place }

abbrev pub hart_if_named : Bool → Hart → Hart
hart_if_named true hart = hart_after_software hart
hart_if_named false hart = hart

abbrev pub hart_by_mask : (mask : ℕ) → ℕ → Hart → Hart
hart_by_mask mask h hart = hart_if_named (is_set mask h) hart

-- a software interrupt comes to each hart of the mask
abbrev pub after_send : State → (mask : ℕ) → State
after_send s mask = record s { harts = each (hart_by_mask mask) 0 s.harts }

-- a new row at the end of the list
abbrev pub after_launch : State → Judged → State
after_launch s judged =
    record s { rows = s.rows ++ new_row s.next judged ∷ []; next = s.next + 1 }

-- what is kept of a caller: rd is 0 until the call comes back
abbrev pub frame_of_call : Hart → Reg → SavedFrame
frame_of_call hart rd =
    record { regs = with_register hart.regs rd 0; pc = next_pc hart.pc; mode = hart.mode }

abbrev pub after_call : State → ℕ → Hart → Reg → (callee entry : ℕ) → State
after_call s h hart rd callee entry =
    with_hart
    (record s { rows = rows_after_call hart.current.0 h callee (frame_of_call hart rd) s.rows }) h
    (hart_after_call hart callee entry)

abbrev pub after_return : State → ℕ → Hart → ModId → State
after_return s h hart caller =
    with_hart (record s { rows = rows_after_return caller.0 h hart.current.0 s.rows }) h
    (hart_after_return hart caller (frame_of_caller caller.0 s.rows hart.current.0))

abbrev pub after_resume : State → ℕ → Hart → ModId → State
after_resume s h hart id =
    with_hart (record s { rows = with_row id.0 (row_after_resume h) s.rows }) h
    (hart_after_resume hart id (saved_of (row_of s.rows id.0)))

-- the rows go first, then their pages are zeroed
abbrev pub after_evict : State → (id : ℕ) → State
after_evict s id =
    let gone = evicted_rows s.rows id in
    record s { rows = rows_left gone s.rows; pages = pages_left gone (owners s.rows) s.pages }

-- ---- a turn

-- the state after a turn of hart h that comes to this
abbrev pub after_turn : State → ℕ → Hart → Decision → State
after_turn s h hart Rest = after_tick s
after_turn s h hart (Trap cause value) = after_tick
    (after_trap_in hart.current.0 s h hart cause value)
after_turn s h hart (Deny kind va) =
    after_tick (after_trap_in hart.current.0 s h hart (access_fault kind) va)
after_turn s h hart Next = after_tick (with_hart s h (hart_after_next hart))
after_turn s h hart (Set rd value) = after_tick (with_hart s h (hart_after_set hart rd value))
after_turn s h hart (Jump target rd link) = after_tick
    (with_hart s h (hart_after_jump hart target rd link))
after_turn s h hart (Store place width value) =
    after_tick (with_hart (after_store s place width value) h (hart_after_next hart))
after_turn s h hart (Csr rd old csrs) = after_tick (with_hart s h (hart_after_csr hart rd old csrs))
after_turn s h hart ReturnFromTrap = after_tick (with_hart s h (hart_after_sret hart))
after_turn s h hart (Put byte) = after_tick (with_hart s h (hart_after_set hart a0 0))
after_turn s h hart (Answer error) = after_tick (with_hart s h (hart_after_answer hart error))
after_turn s h hart ShutDown = after_tick
    (with_hart (record s { off = true }) h (hart_after_next hart))
after_turn s h hart (SetTimer timer) = after_tick (with_hart s h (hart_after_timer hart timer))
after_turn s h hart (TakeKey key rest) =
    after_tick (with_hart (record s { keys = rest }) h (hart_after_set hart a0 key))
after_turn s h hart NoKey = after_tick (with_hart s h (hart_after_set hart a0 (minus_in_64_bits 1)))
after_turn s h hart (Start target pc opaque) =
    after_tick (with_hart (with_hart s h (hart_after_answer hart 0)) target
    (started_hart target pc opaque))
after_turn s h hart (Send mask) = after_tick
    (after_send (with_hart s h (hart_after_answer hart 0)) mask)
after_turn s h hart (Refuse rd request code) =
    after_tick (with_hart s h (hart_after_set hart rd (minus_in_64_bits code)))
after_turn s h hart (Launch rd judged) =
    after_tick (with_hart (after_launch s judged) h (hart_after_set hart rd s.next))
after_turn s h hart (Call rd callee entry) = after_tick (after_call s h hart rd callee entry)
after_turn s h hart (Return caller pc) = after_tick (after_return s h hart caller)
after_turn s h hart (Resume id) = after_tick (after_resume s h hart id)
after_turn s h hart (Evict rd id count) =
    after_tick (with_hart (after_evict s id) h (hart_after_set hart rd 0))
after_turn s h hart (Tell rd value) = after_tick (with_hart s h (hart_after_set hart rd value))
after_turn s h hart (SetWord rd index records) =
    after_tick (with_hart (record s { records = records }) h (hart_after_set hart rd 0))

-- its lines, where n is its number and `next` the id that a launch gives
abbrev pub lines_of_turn : (n next : ℕ) → ℕ → Hart → Decision → List Line
lines_of_turn n next h hart (Trap cause value) = trap_lines n h hart cause
lines_of_turn n next h hart (Deny kind va) =
    deny_line n h hart kind va ∷ trap_lines n h hart (access_fault kind)
lines_of_turn n next h hart (Put byte) = line.Out n h byte ∷ []
lines_of_turn n next h hart (Start target pc opaque) = line.Start n h target pc ∷ []
lines_of_turn n next h hart (Refuse rd request code) = line.Refuse n h request (minus code) ∷ []
lines_of_turn n next h hart (Launch rd judged) =
    line.Launch n h (record { 0 = next }) judged.digest ∷ []
lines_of_turn n next h hart (Call rd callee entry) =
    line.Call n h hart.current (record { 0 = callee }) entry ∷ []
lines_of_turn n next h hart (Return caller pc) = line.Ret n h hart.current caller pc ∷ []
lines_of_turn n next h hart (Resume id) = line.Resume n h id hart.pc ∷ []
lines_of_turn n next h hart (Evict rd id count) = line.Evict n h (record { 0 = id }) count ∷ []
lines_of_turn n next h hart (SetWord rd index records) = line.Sset n h hart.current index ∷ []
lines_of_turn n next h hart decision = []

-- ---- devices

-- 256 keys wait at most
abbrev pub has_room : List ℕ → Bool
has_room keys = nat_lt (length keys) 256

abbrev pub keys_after : Bool → List ℕ → (key : ℕ) → List ℕ
keys_after true keys key = keys ++ key ∷ []
keys_after false keys key = keys

abbrev pub key_line : Bool → (n key : ℕ) → Line
key_line true n key = line.Key n key
key_line false n key = line.Nokey n key

-- a device reaches pages of RAM without owners alone
abbrev pub pages_after_poke :
    Option (Option (List ℕ)) → List (List ℕ) → (page offset byte : ℕ) → List (List ℕ)
pages_after_poke None pages page offset byte = pages
pages_after_poke (Some None) pages page offset byte = pages
pages_after_poke (Some (Some bytes)) pages page offset byte =
    slice_set pages page (with_number B1 bytes offset byte)

abbrev pub poke_line : Option (Option (List ℕ)) → ℕ → Gpn → (offset byte : ℕ) → Line
poke_line None n page offset byte = line.Nopoke n page offset
poke_line (Some None) n page offset byte = line.Nopoke n page offset
poke_line (Some (Some bytes)) n page offset byte = line.Poke n page offset byte

abbrev pub peek_line : Option (Option (List ℕ)) → ℕ → Gpn → (offset : ℕ) → Line
peek_line None n page offset = line.Nopeek n page offset
peek_line (Some None) n page offset = line.Nopeek n page offset
peek_line (Some (Some bytes)) n page offset = line.Peek n page offset (number_at B1 bytes offset)

abbrev pub seen_page : State → Gpn → Option (Option (List ℕ))
seen_page s page = slice_get (visible (memory s)) page.0

-- ---- an event

-- the state after an event
unfoldable pub step : State → Event → State
step s (Turn h) = after_turn s h (hart_at s h) (decision_of s h)
step s (Key byte) = after_tick (record s { keys = keys_after (has_room s.keys) s.keys byte })
step s (Poke page offset byte) =
    after_tick (record s { pages = pages_after_poke (seen_page s page) s.pages page.0 offset byte })
step s (Peek page offset) = after_tick s

-- its lines
unfoldable pub lines : State → Event → List Line
lines s (Turn h) = lines_of_turn s.clock s.next h (hart_at s h) (decision_of s h)
lines s (Key byte) = key_line (has_room s.keys) s.clock byte ∷ []
lines s (Poke page offset byte) = poke_line (seen_page s page) s.clock page offset byte ∷ []
lines s (Peek page offset) = peek_line (seen_page s page) s.clock page offset ∷ []

-- an event fits a machine of so many harts: its hart is one of them, its offset lies in a page, and
-- a key is a byte
abbrev pub FitsHarts : (harts : ℕ) → Event → Type 0
FitsHarts harts (Turn h) = h < harts
FitsHarts harts (Key byte) = byte < 2 ^ 8
FitsHarts harts (Poke page offset byte) = offset < 4096
FitsHarts harts (Peek page offset) = offset < 4096

-- it fits a state of so many
abbrev pub Fits : State → Event → Type 0
Fits s event = FitsHarts (length s.harts) event
