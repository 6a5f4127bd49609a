-- The table and the definition by opcodes say the same.
use Rattle.std.proofs.Common.{◌≡◌, ℕ, Some, refl, true, false}
use Rattle.bn_types.specs.declared.csr_from.CsrFrom.TheVariants.{Register, Number}
use Rattle.bn_types.specs.declared.csr_op.CsrOp.TheVariants as csr_op
use Rattle.bn_types.specs.declared.imm_op.ImmOp.TheVariants as imm_op
use Rattle.bn_types.specs.declared.insn.Insn.{Insn}
use Rattle.bn_types.specs.declared.insn.Insn.TheVariants.{Lui, Auipc, Jal, Jalr, Branch, Load}
use Rattle.bn_types.specs.declared.insn.Insn.TheVariants.{Store, Imm, Shift, Reg2, AddiW, ShiftW}
use Rattle.bn_types.specs.declared.insn.Insn.TheVariants.{Reg2W, Fence, Csr, Ecall, Ebreak, Sret}
use Rattle.bn_types.specs.declared.insn.Insn.TheVariants.{Wfi, SfenceVma, Bastion}
use Rattle.bn_types.specs.declared.op.Op.TheVariants as op
use Rattle.bn_types.specs.declared.secure.Secure.TheVariants.{Launch, Call, Ret, Evict, Ident}
use Rattle.bn_types.specs.declared.secure.Secure.TheVariants.{Caller, Offerer, Sget, Sset}
use Rattle.bn_types.specs.declared.shift_op.ShiftOp.TheVariants.{Left, Right, RightSigned}
use Rattle.bn_types.specs.declared.test.Test.TheVariants.{Eq, Ne, Lt, Ge, Ltu, Geu}
use Rattle.bn_types.specs.declared.width.Width.TheVariants.{B1, B2, B4, B8}
use Rattle.bn_types.specs.declared.word_op.WordOp.TheVariants as word_op
use Rattle.bn_model.specs.Encoding.{Encodes}
use Rattle.bn_model.specs.Decoding.{insn_of, jalr, branch, load, store, op_imm, op_reg, op_imm_32}
use Rattle.bn_model.specs.Decoding.{op_reg_32, fence, system, environment, secure_of}
use Rattle.bn_model.specs.Fields.{opcode, rd, funct3, rs1, rs2, funct7}

ecall : insn_of 0x00000073 ≡ Some Ecall
unfolding insn_of system environment opcode funct3 funct7
ecall = refl

ebreak : insn_of 0x00100073 ≡ Some Ebreak
unfolding insn_of system environment opcode funct3 funct7
ebreak = refl

sret : insn_of 0x10200073 ≡ Some Sret
unfolding insn_of system environment opcode funct3 funct7
sret = refl

wfi : insn_of 0x10500073 ≡ Some Wfi
unfolding insn_of system environment opcode funct3 funct7
wfi = refl

-- the instruction that the table relates to a word is that of the definition by opcodes
pub insn_of-Encodes : (w : ℕ) (i : Insn) → Encodes w i → insn_of w ≡ Some i
unfolding insn_of jalr branch load store op_imm op_reg op_imm_32 op_reg_32 fence system environment
    secure_of
insn_of-Encodes w (Lui rd imm) h = rw (h.opcode, h.rd, h.immediate)
insn_of-Encodes w (Auipc rd imm) h = rw (h.opcode, h.rd, h.immediate)
insn_of-Encodes w (Jal rd offset) h = rw (h.opcode, h.rd, h.immediate)
insn_of-Encodes w (Jalr rd base offset) h = rw (h.opcode, h.funct3, h.rd, h.rs1, h.immediate)
insn_of-Encodes w (Branch Eq left right offset) h =
    rw (h.opcode, h.funct3, h.rs1, h.rs2, h.immediate)
insn_of-Encodes w (Branch Ne left right offset) h =
    rw (h.opcode, h.funct3, h.rs1, h.rs2, h.immediate)
insn_of-Encodes w (Branch Lt left right offset) h =
    rw (h.opcode, h.funct3, h.rs1, h.rs2, h.immediate)
insn_of-Encodes w (Branch Ge left right offset) h =
    rw (h.opcode, h.funct3, h.rs1, h.rs2, h.immediate)
insn_of-Encodes w (Branch Ltu left right offset) h =
    rw (h.opcode, h.funct3, h.rs1, h.rs2, h.immediate)
insn_of-Encodes w (Branch Geu left right offset) h =
    rw (h.opcode, h.funct3, h.rs1, h.rs2, h.immediate)
insn_of-Encodes w (Load B1 true rd base offset) h =
    rw (h.opcode, h.funct3, h.rd, h.rs1, h.immediate)
insn_of-Encodes w (Load B2 true rd base offset) h =
    rw (h.opcode, h.funct3, h.rd, h.rs1, h.immediate)
insn_of-Encodes w (Load B4 true rd base offset) h =
    rw (h.opcode, h.funct3, h.rd, h.rs1, h.immediate)
insn_of-Encodes w (Load B8 true rd base offset) h =
    rw (h.opcode, h.funct3, h.rd, h.rs1, h.immediate)
insn_of-Encodes w (Load B1 false rd base offset) h =
    rw (h.opcode, h.funct3, h.rd, h.rs1, h.immediate)
insn_of-Encodes w (Load B2 false rd base offset) h =
    rw (h.opcode, h.funct3, h.rd, h.rs1, h.immediate)
insn_of-Encodes w (Load B4 false rd base offset) h =
    rw (h.opcode, h.funct3, h.rd, h.rs1, h.immediate)
insn_of-Encodes w (Load B8 false rd base offset) h = absurd h
insn_of-Encodes w (Store B1 base value offset) h =
    rw (h.opcode, h.funct3, h.rs1, h.rs2, h.immediate)
insn_of-Encodes w (Store B2 base value offset) h =
    rw (h.opcode, h.funct3, h.rs1, h.rs2, h.immediate)
insn_of-Encodes w (Store B4 base value offset) h =
    rw (h.opcode, h.funct3, h.rs1, h.rs2, h.immediate)
insn_of-Encodes w (Store B8 base value offset) h =
    rw (h.opcode, h.funct3, h.rs1, h.rs2, h.immediate)
insn_of-Encodes w (Imm imm_op.Add rd left imm) h = rw (h.opcode, h.funct3, h.rd, h.rs1, h.immediate)
insn_of-Encodes w (Imm imm_op.Slt rd left imm) h = rw (h.opcode, h.funct3, h.rd, h.rs1, h.immediate)
insn_of-Encodes w (Imm imm_op.Sltu rd left imm) h =
    rw (h.opcode, h.funct3, h.rd, h.rs1, h.immediate)
insn_of-Encodes w (Imm imm_op.Xor rd left imm) h = rw (h.opcode, h.funct3, h.rd, h.rs1, h.immediate)
insn_of-Encodes w (Imm imm_op.Or rd left imm) h = rw (h.opcode, h.funct3, h.rd, h.rs1, h.immediate)
insn_of-Encodes w (Imm imm_op.And rd left imm) h = rw (h.opcode, h.funct3, h.rd, h.rs1, h.immediate)
insn_of-Encodes w (Shift Left rd left amount) h =
    rw (h.opcode, h.funct3, h.funct6, h.rd, h.rs1, h.amount)
insn_of-Encodes w (Shift Right rd left amount) h =
    rw (h.opcode, h.funct3, h.funct6, h.rd, h.rs1, h.amount)
insn_of-Encodes w (Shift RightSigned rd left amount) h =
    rw (h.opcode, h.funct3, h.funct6, h.rd, h.rs1, h.amount)
insn_of-Encodes w (Reg2 op.Add rd left right) h =
    rw (h.opcode, h.funct3, h.funct7, h.rd, h.rs1, h.rs2)
insn_of-Encodes w (Reg2 op.Sub rd left right) h =
    rw (h.opcode, h.funct3, h.funct7, h.rd, h.rs1, h.rs2)
insn_of-Encodes w (Reg2 op.Sll rd left right) h =
    rw (h.opcode, h.funct3, h.funct7, h.rd, h.rs1, h.rs2)
insn_of-Encodes w (Reg2 op.Slt rd left right) h =
    rw (h.opcode, h.funct3, h.funct7, h.rd, h.rs1, h.rs2)
insn_of-Encodes w (Reg2 op.Sltu rd left right) h =
    rw (h.opcode, h.funct3, h.funct7, h.rd, h.rs1, h.rs2)
insn_of-Encodes w (Reg2 op.Xor rd left right) h =
    rw (h.opcode, h.funct3, h.funct7, h.rd, h.rs1, h.rs2)
insn_of-Encodes w (Reg2 op.Srl rd left right) h =
    rw (h.opcode, h.funct3, h.funct7, h.rd, h.rs1, h.rs2)
insn_of-Encodes w (Reg2 op.Sra rd left right) h =
    rw (h.opcode, h.funct3, h.funct7, h.rd, h.rs1, h.rs2)
insn_of-Encodes w (Reg2 op.Or rd left right) h =
    rw (h.opcode, h.funct3, h.funct7, h.rd, h.rs1, h.rs2)
insn_of-Encodes w (Reg2 op.And rd left right) h =
    rw (h.opcode, h.funct3, h.funct7, h.rd, h.rs1, h.rs2)
insn_of-Encodes w (AddiW rd left imm) h = rw (h.opcode, h.funct3, h.rd, h.rs1, h.immediate)
insn_of-Encodes w (ShiftW Left rd left amount) h =
    rw (h.opcode, h.funct3, h.funct7, h.rd, h.rs1, h.amount)
insn_of-Encodes w (ShiftW Right rd left amount) h =
    rw (h.opcode, h.funct3, h.funct7, h.rd, h.rs1, h.amount)
insn_of-Encodes w (ShiftW RightSigned rd left amount) h =
    rw (h.opcode, h.funct3, h.funct7, h.rd, h.rs1, h.amount)
insn_of-Encodes w (Reg2W word_op.Add rd left right) h =
    rw (h.opcode, h.funct3, h.funct7, h.rd, h.rs1, h.rs2)
insn_of-Encodes w (Reg2W word_op.Sub rd left right) h =
    rw (h.opcode, h.funct3, h.funct7, h.rd, h.rs1, h.rs2)
insn_of-Encodes w (Reg2W word_op.Sll rd left right) h =
    rw (h.opcode, h.funct3, h.funct7, h.rd, h.rs1, h.rs2)
insn_of-Encodes w (Reg2W word_op.Srl rd left right) h =
    rw (h.opcode, h.funct3, h.funct7, h.rd, h.rs1, h.rs2)
insn_of-Encodes w (Reg2W word_op.Sra rd left right) h =
    rw (h.opcode, h.funct3, h.funct7, h.rd, h.rs1, h.rs2)
insn_of-Encodes w (Fence high rs1 rd) h = rw (h.opcode, h.funct3, h.rd, h.rs1, h.number)
insn_of-Encodes w (Csr csr_op.Write number (Register rs1) rd) h =
    rw (h.opcode, h.funct3, h.rd, h.rs1, h.number)
insn_of-Encodes w (Csr csr_op.Set number (Register rs1) rd) h =
    rw (h.opcode, h.funct3, h.rd, h.rs1, h.number)
insn_of-Encodes w (Csr csr_op.Clear number (Register rs1) rd) h =
    rw (h.opcode, h.funct3, h.rd, h.rs1, h.number)
insn_of-Encodes w (Csr csr_op.Write number (Number n) rd) h =
    rw (h.opcode, h.funct3, h.rd, h.rs1, h.number)
insn_of-Encodes w (Csr csr_op.Set number (Number n) rd) h =
    rw (h.opcode, h.funct3, h.rd, h.rs1, h.number)
insn_of-Encodes w (Csr csr_op.Clear number (Number n) rd) h =
    rw (h.opcode, h.funct3, h.rd, h.rs1, h.number)
insn_of-Encodes w Ecall h = rw h ecall
insn_of-Encodes w Ebreak h = rw h ebreak
insn_of-Encodes w Sret h = rw h sret
insn_of-Encodes w Wfi h = rw h wfi
insn_of-Encodes w (SfenceVma rs1 rs2) h = rw (h.opcode, h.funct3, h.funct7, h.rd, h.rs1, h.rs2)
insn_of-Encodes w (Bastion (Launch rd at)) h = rw (h.opcode, h.funct3, h.funct7, h.rd, h.rs1, h.rs2)
insn_of-Encodes w (Bastion (Call rd id entry)) h =
    rw (h.opcode, h.funct3, h.funct7, h.rd, h.rs1, h.rs2)
insn_of-Encodes w (Bastion Ret) h = rw (h.opcode, h.funct3, h.funct7, h.rd, h.rs1, h.rs2)
insn_of-Encodes w (Bastion (Evict rd id)) h = rw (h.opcode, h.funct3, h.funct7, h.rd, h.rs1, h.rs2)
insn_of-Encodes w (Bastion (Ident rd id word)) h =
    rw (h.opcode, h.funct3, h.funct7, h.rd, h.rs1, h.rs2)
insn_of-Encodes w (Bastion (Caller rd)) h = rw (h.opcode, h.funct3, h.funct7, h.rd, h.rs1, h.rs2)
insn_of-Encodes w (Bastion (Offerer rd at)) h =
    rw (h.opcode, h.funct3, h.funct7, h.rd, h.rs1, h.rs2)
insn_of-Encodes w (Bastion (Sget rd index)) h =
    rw (h.opcode, h.funct3, h.funct7, h.rd, h.rs1, h.rs2)
insn_of-Encodes w (Bastion (Sset rd index value)) h =
    rw (h.opcode, h.funct3, h.funct7, h.rd, h.rs1, h.rs2)
