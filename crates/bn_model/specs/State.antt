-- The state of the flat machine: guest memory without nested tables or cached translations.
use Rattle.std.specs.Prelude.{ℕ, ◌+◌, ◌-◌, ◌%◌, ◌^◌, ◌==◌, Bool, true, false, List, ◌++◌, drop}
use Rattle.std.specs.Prelude.{replicate, slice_index, slice_index_or, slice_set, take}
use Rattle.bn_types.specs.declared.asker.Asker.{Asker}
use Rattle.bn_types.specs.Registers.{zero_registers}
use Rattle.bn_types.specs.declared.cause.Cause.{Cause}
use Rattle.bn_types.specs.declared.mod_id.ModId.{ModId}
use Rattle.bn_types.specs.declared.mode.Mode.{Mode}
use Rattle.bn_types.specs.declared.mode.Mode.TheVariants.{U, S}
use Rattle.bn_types.specs.declared.record.Record.{Record}
use Rattle.bn_types.specs.declared.reg.Reg.{Reg}
use Rattle.bn_types.specs.declared.regs.Regs.{Regs}
use Rattle.bn_types.specs.declared.row.Row.{Row}
use Rattle.bn_types.specs.declared.saved_frame.SavedFrame.{SavedFrame}
use Rattle.bn_model.specs.CsrFile.{CsrFile, reset_csrs}
use Rattle.bn_model.specs.Memory.{Memory}
use Rattle.bn_model.specs.Rows.{owners}
use Rattle.bn_model.specs.Trapping.{after_software, after_sret, after_trap, trap_target}

-- a hart (Unprivileged ISA, "RISC-V Software Execution Environments and Harts")
pub record Hart : Type 0 where
  pub regs : Regs
  pub pc : ℕ
  pub mode : Mode
  pub csrs : CsrFile
  -- its timer is pending from this clock on
  pub timer : ℕ
  -- how many instructions it has completed without a trap, modulo 2^64 (Unprivileged ISA, "Zicntr")
  pub retired : ℕ
  pub started : Bool
  -- the module that it runs, 0 for the untrusted world
  pub current : ModId

pub record State : Type 0 where
  -- the guest pages in order, of 4,096 bytes each
  pub pages : List (List ℕ)
  pub harts : List Hart
  -- the live modules, by ascending id
  pub rows : List Row
  -- the words that modules keep beyond their lives
  pub records : List Record
  -- the keys that wait, the oldest first
  pub keys : List ℕ
  -- the id that the next launch gives
  pub next : ℕ
  -- how many events were made
  pub clock : ℕ
  -- the guest has shut the machine down
  pub off : Bool

-- what accesses to memory depend on
abbrev pub memory : State → Memory
memory s = record { pages = s.pages; owners = owners s.rows }

-- the clock never comes so far
abbrev pub never : ℕ
never = 2 ^ 64 - 1

abbrev pub untrusted : ModId
untrusted = record { 0 = 0 }

-- a hart that isn't started
abbrev pub resting_hart : Hart
resting_hart = record {
  regs = zero_registers;
  pc = 0;
  mode = U;
  csrs = reset_csrs;
  timer = never;
  retired = 0;
  started = false;
  current = untrusted;
}

-- a hart that is started at a pc in mode S, with all registers and CSRs as at reset
abbrev pub opening_hart : ℕ → Hart
opening_hart pc = record resting_hart { pc = pc; mode = S; started = true }

abbrev pub hart_in : List Hart → ℕ → Hart
hart_in harts h = slice_index_or harts h resting_hart

abbrev pub hart_at : State → ℕ → Hart
hart_at s h = hart_in s.harts h

-- hart h as it accesses memory
abbrev pub asker : ℕ → Hart → Asker
asker h hart = record {
  hart = h;
  «module» = hart.current;
  mode = hart.mode;
  satp = hart.csrs.satp;
  sum = hart.csrs.sum;
  mxr = hart.csrs.mxr;
}

-- the registers of a call's first two arguments and of its answer (RISC-V calling conventions,
-- "Integer Register Convention")
abbrev pub a0 : Reg
a0 = record { 0 = 10 }

abbrev pub a1 : Reg
a1 = record { 0 = 11 }

abbrev pub with_hart : State → ℕ → Hart → State
with_hart s h hart = record s { harts = slice_set s.harts h hart }

-- ---- registers and frames

abbrev pub value_of : Hart → Reg → ℕ
value_of hart register = slice_index hart.regs.x register.0

-- x0 keeps 0 (Unprivileged ISA, "Programmers' Model for Base Integer ISA")
abbrev pub register_set_if : Bool → Regs → Reg → ℕ → Regs
register_set_if true regs rd value = regs
register_set_if false regs rd value = record { x = slice_set regs.x rd.0 value }

abbrev pub with_register : Regs → Reg → ℕ → Regs
with_register regs rd value = register_set_if (rd.0 == 0) regs rd value

-- a0 to a7 as they are, all other registers 0
unfoldable pub argument_registers : Regs → Regs
argument_registers regs = record { x = replicate 10 0 ++ take 8 (drop 10 regs.x) ++ replicate 14 0 }

-- some registers with a0 and a1 of others
unfoldable pub answer_registers : Regs → Regs → Regs
answer_registers regs answer =
    record {
      x = slice_set (slice_set regs.x 10 (slice_index answer.x 10)) 11
          (slice_index answer.x 11);
    }

-- what is kept of a hart while other code runs on it
abbrev pub frame_of : Hart → SavedFrame
frame_of hart = record { regs = hart.regs; pc = hart.pc; mode = hart.mode }

-- ---- what a hart does

-- the address of the next instruction
abbrev pub next_pc : ℕ → ℕ
next_pc pc = (pc + 4) % 2 ^ 64

-- one instruction more is completed
abbrev pub one_more : ℕ → ℕ
one_more retired = (retired + 1) % 2 ^ 64

-- it goes on to the next instruction
abbrev pub hart_after_next : Hart → Hart
hart_after_next hart = record hart { pc = next_pc hart.pc; retired = one_more hart.retired }

-- it sets rd and goes on
abbrev pub hart_after_set : Hart → Reg → ℕ → Hart
hart_after_set hart rd value =
    record hart {
      regs = with_register hart.regs rd value;
      pc = next_pc hart.pc;
      retired = one_more
          hart.retired;
    }

-- it sets rd to the link and goes to the target
abbrev pub hart_after_jump : Hart → ℕ → Reg → ℕ → Hart
hart_after_jump hart target rd link =
    record hart {
      regs = with_register hart.regs rd link;
      pc = target;
      retired = one_more
          hart.retired;
    }

-- it takes a trap: the instruction isn't completed
abbrev pub hart_after_trap : Hart → Cause → ℕ → Hart
hart_after_trap hart cause value = record hart {
  pc = trap_target hart.csrs cause;
  mode = S;
  csrs = after_trap hart.csrs cause hart.pc value hart.mode;
}

-- it returns from a trap
abbrev pub hart_after_sret : Hart → Hart
hart_after_sret hart = record hart {
  pc = hart.csrs.sepc;
  mode = hart.csrs.spp;
  csrs = after_sret hart.csrs;
  retired = one_more hart.retired;
}

-- it sets rd to what a CSR held, has these CSRs, which `instret` doesn't see, and goes on
abbrev pub hart_after_csr : Hart → Reg → ℕ → CsrFile → Hart
hart_after_csr hart rd old csrs = record hart {
  regs = with_register hart.regs rd old;
  pc = next_pc hart.pc;
  csrs = csrs;
  retired = one_more hart.retired;
}

-- it sets a0 to an error and a1 to 0 and goes on
abbrev pub hart_after_answer : Hart → ℕ → Hart
hart_after_answer hart error =
    hart_after_set (record hart { regs = with_register hart.regs a0 error }) a1 0

-- its timer is set
abbrev pub hart_after_timer : Hart → ℕ → Hart
hart_after_timer hart timer = hart_after_set (record hart { timer = timer }) a0 0

-- a software interrupt comes to it
abbrev pub hart_after_software : Hart → Hart
hart_after_software hart = record hart { csrs = after_software hart.csrs }

-- it is started by a call: a0 has its number, a1 what the caller gave
abbrev pub started_hart : ℕ → (pc opaque : ℕ) → Hart
started_hart h pc opaque =
    let hart = opening_hart pc in
    record hart { regs = with_register (with_register hart.regs a0 h) a1 opaque }

-- its module is stopped: it runs the untrusted world, with nothing in its registers
abbrev pub hart_after_stop : Hart → Hart
hart_after_stop hart = record hart { regs = zero_registers; current = untrusted }

-- it enters a module, with the arguments of the call alone
abbrev pub hart_after_call : Hart → (callee entry : ℕ) → Hart
hart_after_call hart callee entry = record hart {
  regs = argument_registers hart.regs;
  pc = entry;
  retired = one_more hart.retired;
  current = record { 0 = callee };
}

-- it goes back to a caller where that waits, with the answer of the module that it leaves
abbrev pub hart_after_return : Hart → ModId → SavedFrame → Hart
hart_after_return hart caller frame = record hart {
  regs = answer_registers frame.regs hart.regs;
  pc = frame.pc;
  mode = frame.mode;
  retired = one_more hart.retired;
  current = caller;
}

-- it goes on with a stopped module; no instruction is executed
abbrev pub hart_after_resume : Hart → ModId → SavedFrame → Hart
hart_after_resume hart resumed frame =
    record hart { regs = frame.regs; pc = frame.pc; mode = frame.mode; current = resumed }
