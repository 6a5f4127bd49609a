-- Laws of what an instruction asks for.
use Rattle.std.proofs.Common.{ℕ, Bool, true, false, arith}
use Rattle.bn_types.specs.declared.insn.Insn.{Insn}
use Rattle.bn_types.specs.declared.insn.Insn.TheVariants.{Lui, Auipc, Jal, Jalr, Branch, Load}
use Rattle.bn_types.specs.declared.insn.Insn.TheVariants.{Store, Imm, Shift, Reg2, AddiW, ShiftW}
use Rattle.bn_types.specs.declared.insn.Insn.TheVariants.{Reg2W, Fence, Csr, Ecall, Ebreak, Sret}
use Rattle.bn_types.specs.declared.insn.Insn.TheVariants.{Wfi, SfenceVma, Bastion}
use Rattle.bn_types.specs.declared.reg.Reg.{Reg}
use Rattle.bn_types.specs.declared.regs.Regs.{Regs}
use Rattle.bn_model.specs.Acting.{act_of, branch_if, holds, jump_if, plus_immediate, register}
use Rattle.bn_model.specs.InsnRanges.{IsActInRange, IsInRange, IsRegister}

jump_in_range : (b : Bool) (target : ℕ) (rd : Reg) (link : ℕ) → IsRegister rd
    → IsActInRange (jump_if b target rd link)
jump_in_range true target rd link register = register
jump_in_range false target rd link register = tt

branch_in_range : (b : Bool) (target pc : ℕ) → IsActInRange (branch_if b target pc)
branch_in_range true target pc = jump_in_range _ _ _ _ (omega arith)
branch_in_range false target pc = tt

-- an instruction in range asks for something in range
pub act_in_range : (i : Insn) (regs : Regs) (pc : ℕ) → IsInRange i → IsActInRange (act_of i regs pc)
unfolding act_of
act_in_range (Lui rd imm) regs pc range = range.0
act_in_range (Auipc rd imm) regs pc range = range.0
act_in_range (Jal rd offset) regs pc range = jump_in_range _ _ _ _ range.0
act_in_range (Jalr rd base offset) regs pc range = jump_in_range _ _ _ _ range.0
act_in_range (Branch test left right offset) regs pc range =
    branch_in_range (holds test (register regs left) (register regs right))
    (plus_immediate pc offset) pc
act_in_range (Load width signed rd base offset) regs pc range = range.1
act_in_range (Store width base value offset) regs pc range = tt
act_in_range (Imm op rd left imm) regs pc range = range.0
act_in_range (Shift op rd left amount) regs pc range = range.0
act_in_range (Reg2 op rd left right) regs pc range = range.0
act_in_range (AddiW rd left imm) regs pc range = range.0
act_in_range (ShiftW op rd left amount) regs pc range = range.0
act_in_range (Reg2W op rd left right) regs pc range = range.0
act_in_range (Fence high rs1 rd) regs pc range = tt
act_in_range (Csr op number from rd) regs pc range = (range.0, range.2)
act_in_range Ecall regs pc range = tt
act_in_range Ebreak regs pc range = tt
act_in_range Sret regs pc range = tt
act_in_range Wfi regs pc range = tt
act_in_range (SfenceVma rs1 rs2) regs pc range = tt
act_in_range (Bastion secure) regs pc range = range
