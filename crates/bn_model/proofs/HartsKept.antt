-- Harts keep their shapes and ranges, after each turn.
use Rattle.std.proofs.Common.{◌≡◌, ℕ, zero, suc, ◌+◌, ◌^◌, ◌<◌, ◌≤◌, Bool, true}
use Rattle.std.proofs.Common.{false, length, List, ◌∷◌, set, Option, Some, None, refl}
use Rattle.std.proofs.Common.{sym, subst, arith, eqb-true}
use Rattle.std.proofs.lemmas.List.Elements.{All-head, All-set, All-weaker}
use Rattle.std.specs.List.{All}
use Rattle.bn_types.specs.declared.cause.Cause.{Cause}
use Rattle.bn_types.specs.declared.mod_id.ModId.{ModId}
use Rattle.bn_types.specs.declared.reg.Reg.{Reg}
use Rattle.bn_types.specs.declared.row.Row.{Row}
use Rattle.bn_types.specs.declared.saved_frame.SavedFrame.{SavedFrame}
use Rattle.bn_model.specs.CsrFile.{CsrFile}
use Rattle.bn_model.specs.Deciding.{is_entry}
use Rattle.bn_model.specs.Decision.{Decision, Rest, Trap, Deny, Next, Set, Jump, Store, Csr}
use Rattle.bn_model.specs.Decision.{ReturnFromTrap, Put, Answer, ShutDown, SetTimer, TakeKey, NoKey}
use Rattle.bn_model.specs.Decision.{Start, Send, Refuse, Launch, Call, Return, Resume, Evict, Tell}
use Rattle.bn_model.specs.Decision.{SetWord}
use Rattle.bn_model.specs.Bits.{is_set}
use Rattle.bn_model.specs.Refusals.{minus_in_64_bits}
use Rattle.bn_model.specs.Rows.{back_of, enclaves, has_id, row_of, saved_of}
use Rattle.bn_model.specs.Soundness.{AreCsrs, HasIds, IsFrame, IsHart, IsPc, IsRow}
use Rattle.bn_model.specs.State.{Hart, State, a0, a1, hart_after_answer, hart_after_call}
use Rattle.bn_model.specs.State.{hart_after_csr, hart_after_jump, hart_after_next}
use Rattle.bn_model.specs.State.{hart_after_resume, hart_after_return, hart_after_set}
use Rattle.bn_model.specs.State.{hart_after_software, hart_after_sret, hart_after_stop}
use Rattle.bn_model.specs.State.{hart_after_timer, hart_after_trap, started_hart}
use Rattle.bn_model.specs.State.{with_register}
use Rattle.bn_model.specs.Stepping.{after_trap_in, after_turn, hart_by_mask, hart_if_named}
use Rattle.bn_model.specs.Stepping.{page_address}
use Rattle.bn_model.specs.Switching.{frame_of_caller}
use Rattle.bn_model.specs.Walking.{access_fault}
use Rattle.bn_model.proofs.AsleepKept.{All-each}
use Rattle.bn_model.proofs.Evidence.{Calls, Holds, StartsHart}
use Rattle.bn_model.proofs.MembershipLemmas.{any-has, has-find}
use Rattle.bn_model.proofs.ModesKept.{all-of}
use Rattle.bn_model.proofs.PagesKept.{AreKeys}
use Rattle.bn_model.proofs.RegisterLemmas.{AreCsrs-reset, AreCsrs-software, AreCsrs-sret}
use Rattle.bn_model.proofs.RegisterLemmas.{AreCsrs-trap, AreRegisters-answer, AreRegisters-argument}
use Rattle.bn_model.proofs.RegisterLemmas.{AreRegisters-set, AreRegisters-zero, IsFrame-zero}
use Rattle.bn_model.proofs.RegisterLemmas.{IsPc-next, IsPc-trap, any-register, one_more-least}
use Rattle.bn_model.proofs.RegisterLemmas.{one_more-small}
use Rattle.bn_model.proofs.ValueRanges.{HasSmallValues, access-small}

-- one event later
pub hart-later : (clock : ℕ) (hart : Hart) → IsHart clock hart → IsHart (clock + 1) hart
hart-later clock hart is =
    let most : hart.retired ≤ clock = is.retired in
    record {
      regs = is.regs;
      pc = is.pc;
      csrs = is.csrs;
      timer = is.timer;
      retired = omega arith;
      small = is.small;
    }

software-is : (clock : ℕ) (hart : Hart) → IsHart clock hart
    → IsHart clock (hart_after_software hart)
software-is clock hart is = record {
  regs = is.regs;
  pc = is.pc;
  csrs = AreCsrs-software hart.csrs is.csrs;
  timer = is.timer;
  retired = is.retired;
  small = is.small;
}

started-is : (clock h pc opaque : ℕ) → IsPc pc → h < 2 ^ 64 → opaque < 2 ^ 64
    → IsHart clock (started_hart h pc opaque)
started-is clock h pc opaque p small value = record {
  regs = AreRegisters-set _ a1 opaque value (AreRegisters-set _ a0 h small AreRegisters-zero);
  pc = p;
  csrs = AreCsrs-reset;
  timer = omega arith;
  retired = omega arith;
  small = omega arith;
}

named-is : (clock : ℕ) (b : Bool) (hart : Hart) → IsHart clock hart
    → IsHart clock (hart_if_named b hart)
named-is clock true hart is = software-is clock hart is
named-is clock false hart is = is

saved-is : (rows : List Row) (id : ℕ) → All IsRow rows → IsFrame (saved_of (row_of rows id))
saved-is rows id all = by_row (row_of rows id) refl
  where
    by_row : (o : Option Row) → row_of rows id ≡ o → IsFrame (saved_of o)
    by_row None e = IsFrame-zero
    by_row (Some row) e = (all-of IsRow rows row all (has-find (has_id id) rows row e)).saved

back-is : (rows : List Row) (id : ℕ) → All IsRow rows → IsFrame (back_of (row_of rows id))
back-is rows id all = by_row (row_of rows id) refl
  where
    by_row : (o : Option Row) → row_of rows id ≡ o → IsFrame (back_of o)
    by_row None e = IsFrame-zero
    by_row (Some row) e = (all-of IsRow rows row all (has-find (has_id id) rows row e)).back

caller-frame : (caller : ℕ) (rows : List Row) (m : ℕ) → All IsRow rows
    → IsFrame (frame_of_caller caller rows m)
caller-frame zero rows m all = back-is rows m all
caller-frame (suc c) rows m all = saved-is rows (suc c) all

entry-is : (s : State) (hart : Hart) (callee entry : ℕ) → All IsRow s.rows
    → Calls s hart callee entry → IsPc entry
entry-is s hart callee entry all calls =
    let found = any-has (is_entry entry) calls.row.judged.entries.items calls.entries in
    subst IsPc (eqb-true found.0 entry found.2)
    (all-of IsPc calls.row.judged.entries.items found.0
    (all-of IsRow s.rows calls.row all
    (has-find (has_id callee) s.rows calls.row calls.found)).entries found.1)

module _ (clock : ℕ) (hart : Hart) (is : IsHart clock hart) where
  next-is : IsHart (clock + 1) (hart_after_next hart)
  next-is = record {
    regs = is.regs;
    pc = IsPc-next hart.pc is.pc;
    csrs = is.csrs;
    timer = is.timer;
    retired = one_more-least hart.retired clock is.retired;
    small = one_more-small hart.retired;
  }

  set-is : (rd : Reg) (value : ℕ) → value < 2 ^ 64
      → IsHart (clock + 1) (hart_after_set hart rd value)
  set-is rd value small = record {
    regs = AreRegisters-set hart.regs rd value small is.regs;
    pc = IsPc-next hart.pc is.pc;
    csrs = is.csrs;
    timer = is.timer;
    retired = one_more-least hart.retired clock is.retired;
    small = one_more-small hart.retired;
  }

  jump-is : (target : ℕ) (rd : Reg) (link : ℕ) → IsPc target → link < 2 ^ 64
      → IsHart (clock + 1) (hart_after_jump hart target rd link)
  jump-is target rd link p small = record {
    regs = AreRegisters-set hart.regs rd link small is.regs;
    pc = p;
    csrs = is.csrs;
    timer = is.timer;
    retired = one_more-least hart.retired clock is.retired;
    small = one_more-small hart.retired;
  }

  csr-is : (rd : Reg) (old : ℕ) (csrs : CsrFile) → old < 2 ^ 64 → AreCsrs csrs
      → IsHart (clock + 1) (hart_after_csr hart rd old csrs)
  csr-is rd old csrs small a = record {
    regs = AreRegisters-set hart.regs rd old small is.regs;
    pc = IsPc-next hart.pc is.pc;
    csrs = a;
    timer = is.timer;
    retired = one_more-least hart.retired clock is.retired;
    small = one_more-small hart.retired;
  }

  sret-is : IsHart (clock + 1) (hart_after_sret hart)
  sret-is = record {
    regs = is.regs;
    pc = record { aligned = is.csrs.forms.sepc_aligned; small = is.csrs.sepc };
    csrs = AreCsrs-sret hart.csrs is.csrs;
    timer = is.timer;
    retired = one_more-least hart.retired clock is.retired;
    small = one_more-small hart.retired;
  }

  answer-is : (error : ℕ) → error < 2 ^ 64 → IsHart (clock + 1) (hart_after_answer hart error)
  answer-is error small = record {
    regs = AreRegisters-set (with_register hart.regs a0 error) a1 0 (omega arith)
        (AreRegisters-set hart.regs a0 error small is.regs);
    pc = IsPc-next hart.pc is.pc;
    csrs = is.csrs;
    timer = is.timer;
    retired = one_more-least hart.retired clock is.retired;
    small = one_more-small hart.retired;
  }

  timer-is : (timer : ℕ) → timer < 2 ^ 64 → IsHart (clock + 1) (hart_after_timer hart timer)
  timer-is timer small = record {
    regs = AreRegisters-set hart.regs a0 0 (omega arith) is.regs;
    pc = IsPc-next hart.pc is.pc;
    csrs = is.csrs;
    timer = small;
    retired = one_more-least hart.retired clock is.retired;
    small = one_more-small hart.retired;
  }

  trap-is : (cause : Cause) (value : ℕ) → cause.0 < 2 ^ 64 → value < 2 ^ 64
      → IsHart (clock + 1) (hart_after_trap hart cause value)
  trap-is cause value code small =
      let most : hart.retired ≤ clock = is.retired in
      record {
        regs = is.regs;
        pc = IsPc-trap hart.csrs cause is.csrs;
        csrs = AreCsrs-trap hart.csrs cause hart.pc value hart.mode is.csrs is.pc code small;
        timer = is.timer;
        retired = omega arith;
        small = is.small;
      }

  stop-is : IsHart clock (hart_after_stop hart)
  stop-is = record {
    regs = AreRegisters-zero;
    pc = is.pc;
    csrs = is.csrs;
    timer = is.timer;
    retired = is.retired;
    small = is.small;
  }

  call-is : (callee entry : ℕ) → IsPc entry → IsHart (clock + 1) (hart_after_call hart callee entry)
  call-is callee entry p = record {
    regs = AreRegisters-argument hart.regs is.regs;
    pc = p;
    csrs = is.csrs;
    timer = is.timer;
    retired = one_more-least hart.retired clock is.retired;
    small = one_more-small hart.retired;
  }

  return-is : (caller : ModId) (frame : SavedFrame) → IsFrame frame
      → IsHart (clock + 1) (hart_after_return hart caller frame)
  return-is caller frame f = record {
    regs = AreRegisters-answer frame.regs hart.regs f.regs is.regs;
    pc = f.pc;
    csrs = is.csrs;
    timer = is.timer;
    retired = one_more-least hart.retired clock is.retired;
    small = one_more-small hart.retired;
  }

  resume-is : (id : ModId) (frame : SavedFrame) → IsFrame frame
      → IsHart (clock + 1) (hart_after_resume hart id frame)
  resume-is id frame f =
      let most : hart.retired ≤ clock = is.retired in
      record {
        regs = f.regs;
        pc = f.pc;
        csrs = is.csrs;
        timer = is.timer;
        retired = omega arith;
        small = is.small;
      }

module _ (s : State) (h : ℕ) (hart : Hart) (is : IsHart s.clock hart)
    (harts : All (IsHart s.clock) s.harts) (few : length s.harts ≤ 4)
    (ids : HasIds (enclaves s.rows) s.next) (rows : All IsRow s.rows) (keys : AreKeys s.keys) where
  later : All (IsHart (s.clock + 1)) s.harts
  later = All-weaker (IsHart s.clock) (IsHart (s.clock + 1)) (λ x e. hart-later s.clock x e) s.harts
      harts

  one : (new : Hart) → IsHart (s.clock + 1) new → All (IsHart (s.clock + 1)) (set s.harts h new)
  one new e = All-set (IsHart (s.clock + 1)) s.harts h new e later

  trap-harts : (cause : Cause) (value current : ℕ) → cause.0 < 2 ^ 64 → value < 2 ^ 64
      → All (IsHart (s.clock + 1)) (after_trap_in current s h hart cause value).harts
  trap-harts cause value zero code small =
      one (hart_after_trap hart cause value) (trap-is s.clock hart is cause value code small)
  trap-harts cause value (suc m) code small =
      one (hart_after_trap (hart_after_stop hart) cause (page_address value))
      (trap-is s.clock (hart_after_stop hart) (stop-is s.clock hart is) cause (page_address value)
      code (omega arith))

  key-small : (key : ℕ) (rest : List ℕ) → s.keys ≡ key ∷ rest → key < 2 ^ 64
  key-small key rest e =
      let small : key < 2 ^ 8 =
      All-head (λ k. k < 2 ^ 8) key rest (subst (All (λ k. k < 2 ^ 8)) e keys.small) in
      omega arith

  next-small : s.next < 2 ^ 64
  next-small = let last : s.next ≤ 65536 = ids.last in omega arith

  start-harts : (target pc opaque : ℕ) → StartsHart s hart target pc opaque
      → All (IsHart (s.clock + 1)) (after_turn s h hart (Start target pc opaque)).harts
  start-harts target pc opaque e =
      let below : target < length s.harts = e.within in
      let at : pc < 2 ^ 64 =
      subst (λ (n : ℕ). n < 2 ^ 64) (sym e.pc_is) (any-register hart.regs is.regs 11) in
      let given : opaque < 2 ^ 64 =
      subst (λ (n : ℕ). n < 2 ^ 64) (sym e.opaque_is) (any-register hart.regs is.regs 12) in
      All-set (IsHart (s.clock + 1)) (set s.harts h (hart_after_answer hart 0)) target
      (started_hart target pc opaque)
      (started-is (s.clock + 1) target pc opaque (record { aligned = e.aligned; small = at })
      (omega arith) given)
      (one (hart_after_answer hart 0) (answer-is s.clock hart is 0 (omega arith)))

  pub turn-harts : (d : Decision) → Holds s h hart d → HasSmallValues d
      → All (IsHart (s.clock + 1)) (after_turn s h hart d).harts
  unfolding Holds HasSmallValues
  turn-harts Rest e v = later
  turn-harts (Trap cause value) e v = trap-harts cause value hart.current.0 v.0 v.1
  turn-harts (Deny kind va) e v =
      trap-harts (access_fault kind) va hart.current.0 (access-small kind) v
  turn-harts Next e v = one (hart_after_next hart) (next-is s.clock hart is)
  turn-harts (Set rd value) e v =
      one (hart_after_set hart rd value) (set-is s.clock hart is rd value v)
  turn-harts (Jump target rd link) e v =
      one (hart_after_jump hart target rd link)
      (jump-is s.clock hart is target rd link (record { aligned = e; small = v.0 }) v.1)
  turn-harts (Store place width value) e v = one (hart_after_next hart) (next-is s.clock hart is)
  turn-harts (Csr rd old csrs) e v =
      one (hart_after_csr hart rd old csrs) (csr-is s.clock hart is rd old csrs v.0 v.1)
  turn-harts ReturnFromTrap e v = one (hart_after_sret hart) (sret-is s.clock hart is)
  turn-harts (Put byte) e v =
      one (hart_after_set hart a0 0) (set-is s.clock hart is a0 0 (omega arith))
  turn-harts (Answer error) e v =
      one (hart_after_answer hart error) (answer-is s.clock hart is error v)
  turn-harts ShutDown e v = one (hart_after_next hart) (next-is s.clock hart is)
  turn-harts (SetTimer timer) e v =
      one (hart_after_timer hart timer) (timer-is s.clock hart is timer v)
  turn-harts (TakeKey key rest) e v =
      one (hart_after_set hart a0 key) (set-is s.clock hart is a0 key (key-small key rest e))
  turn-harts NoKey e v = one (hart_after_set hart a0 (minus_in_64_bits 1))
      (set-is s.clock hart is a0 (minus_in_64_bits 1) (omega arith))
  turn-harts (Start target pc opaque) e v = start-harts target pc opaque e
  turn-harts (Send mask) e v =
      All-each (IsHart (s.clock + 1)) (hart_by_mask mask)
      (λ k x f. named-is (s.clock + 1) (is_set mask k) x f) 0
      (set s.harts h (hart_after_answer hart 0))
      (one (hart_after_answer hart 0) (answer-is s.clock hart is 0 (omega arith)))
  turn-harts (Refuse rd request code) e v =
      one (hart_after_set hart rd (minus_in_64_bits code))
      (set-is s.clock hart is rd (minus_in_64_bits code) (omega (arith, v)))
  turn-harts (Launch rd judged) e v =
      one (hart_after_set hart rd s.next) (set-is s.clock hart is rd s.next next-small)
  turn-harts (Call rd callee entry) e v =
      one (hart_after_call hart callee entry)
      (call-is s.clock hart is callee entry (entry-is s hart callee entry rows e))
  turn-harts (Return caller pc) e v =
      one (hart_after_return hart caller (frame_of_caller caller.0 s.rows hart.current.0))
      (return-is s.clock hart is caller (frame_of_caller caller.0 s.rows hart.current.0)
      (caller-frame caller.0 s.rows hart.current.0 rows))
  turn-harts (Resume id) e v =
      one (hart_after_resume hart id (saved_of (row_of s.rows id.0)))
      (resume-is s.clock hart is id (saved_of (row_of s.rows id.0)) (saved-is s.rows id.0 rows))
  turn-harts (Evict rd id count) e v =
      one (hart_after_set hart rd 0) (set-is s.clock hart is rd 0 (omega arith))
  turn-harts (Tell rd value) e v =
      one (hart_after_set hart rd value) (set-is s.clock hart is rd value v)
  turn-harts (SetWord rd index records) e v =
      one (hart_after_set hart rd 0) (set-is s.clock hart is rd 0 (omega arith))
