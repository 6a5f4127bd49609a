-- The instruction table, as a relation between a word and an instruction: one line for each line of
-- the listings (Unprivileged ISA, "RV32/64G Instruction Set Listings"; Privileged ISA, "RISC-V
-- Privileged Instruction Set Listings"), then the secure instructions of opcode custom-0.
use Rattle.std.specs.Prelude.{◌≡◌, ℕ, ℤ, true, false}
use Rattle.bn_types.specs.declared.csr_from.CsrFrom.TheVariants.{Register, Number}
use Rattle.bn_types.specs.declared.csr_op.CsrOp.TheVariants as csr_op
use Rattle.bn_types.specs.declared.imm_op.ImmOp.TheVariants as imm_op
use Rattle.bn_types.specs.declared.insn.Insn.{Insn}
use Rattle.bn_types.specs.declared.insn.Insn.TheVariants.{
  Lui,
  Auipc,
  Jal,
  Jalr,
  Branch,
  Load,
  Store,
  Imm,
  Shift,
  Reg2,
  AddiW,
  ShiftW,
  Reg2W,
  Fence,
  Csr,
  Ecall,
  Ebreak,
  Sret,
  Wfi,
  SfenceVma,
  Bastion,
}
use Rattle.bn_types.specs.declared.op.Op.TheVariants as op
use Rattle.bn_types.specs.declared.reg.Reg.{Reg}
use Rattle.bn_types.specs.declared.secure.Secure.TheVariants.{
  Launch,
  Call,
  Ret,
  Evict,
  Ident,
  Caller,
  Offerer,
  Sget,
  Sset,
}
use Rattle.bn_types.specs.declared.shift_op.ShiftOp.TheVariants.{Left, Right, RightSigned}
use Rattle.bn_types.specs.declared.test.Test.TheVariants.{Eq, Ne, Lt, Ge, Ltu, Geu}
use Rattle.bn_types.specs.declared.width.Width.TheVariants.{B1, B2, B4, B8}
use Rattle.bn_types.specs.declared.word_op.WordOp.TheVariants as word_op
use Rattle.bn_model.specs.Fields as field

-- A word w of each format: its opcode o, its function fields f and g, its registers d, a and b, and
-- its immediate or number n.
pub record FormatR (w o f g : ℕ) (d a b : Reg) : Type 0 where
  pub opcode : field.opcode w ≡ o
  pub funct3 : field.funct3 w ≡ f
  pub funct7 : field.funct7 w ≡ g
  pub rd : field.rd w ≡ d
  pub rs1 : field.rs1 w ≡ a
  pub rs2 : field.rs2 w ≡ b

pub record FormatI (w o f : ℕ) (d a : Reg) (n : ℤ) : Type 0 where
  pub opcode : field.opcode w ≡ o
  pub funct3 : field.funct3 w ≡ f
  pub rd : field.rd w ≡ d
  pub rs1 : field.rs1 w ≡ a
  pub immediate : field.i_immediate w ≡ n

pub record FormatS (w o f : ℕ) (a b : Reg) (n : ℤ) : Type 0 where
  pub opcode : field.opcode w ≡ o
  pub funct3 : field.funct3 w ≡ f
  pub rs1 : field.rs1 w ≡ a
  pub rs2 : field.rs2 w ≡ b
  pub immediate : field.s_immediate w ≡ n

pub record FormatB (w o f : ℕ) (a b : Reg) (n : ℤ) : Type 0 where
  pub opcode : field.opcode w ≡ o
  pub funct3 : field.funct3 w ≡ f
  pub rs1 : field.rs1 w ≡ a
  pub rs2 : field.rs2 w ≡ b
  pub immediate : field.b_immediate w ≡ n

pub record FormatU (w o : ℕ) (d : Reg) (n : ℤ) : Type 0 where
  pub opcode : field.opcode w ≡ o
  pub rd : field.rd w ≡ d
  pub immediate : field.u_immediate w ≡ n

pub record FormatJ (w o : ℕ) (d : Reg) (n : ℤ) : Type 0 where
  pub opcode : field.opcode w ≡ o
  pub rd : field.rd w ≡ d
  pub immediate : field.j_immediate w ≡ n

-- format I, of a shift of 64 bits
pub record FormatShift (w o f g : ℕ) (d a : Reg) (n : ℕ) : Type 0 where
  pub opcode : field.opcode w ≡ o
  pub funct3 : field.funct3 w ≡ f
  pub funct6 : field.funct6 w ≡ g
  pub rd : field.rd w ≡ d
  pub rs1 : field.rs1 w ≡ a
  pub amount : field.shamt6 w ≡ n

-- format I, of a shift of 32 bits
pub record FormatShiftW (w o f g : ℕ) (d a : Reg) (n : ℕ) : Type 0 where
  pub opcode : field.opcode w ≡ o
  pub funct3 : field.funct3 w ≡ f
  pub funct7 : field.funct7 w ≡ g
  pub rd : field.rd w ≡ d
  pub rs1 : field.rs1 w ≡ a
  pub amount : field.shamt5 w ≡ n

-- format I, with a number without sign in bits 31:20
pub record FormatNumber (w o f : ℕ) (d a : Reg) (n : ℕ) : Type 0 where
  pub opcode : field.opcode w ≡ o
  pub funct3 : field.funct3 w ≡ f
  pub rd : field.rd w ≡ d
  pub rs1 : field.rs1 w ≡ a
  pub number : field.funct12 w ≡ n

abbrev pub x0 : Reg
x0 = record { 0 = 0 }

abbrev pub Encodes : ℕ → Insn → Type 0
-- LUI, AUIPC, JAL, JALR
Encodes w (Lui rd imm) = FormatU w 0b0110111 rd imm
Encodes w (Auipc rd imm) = FormatU w 0b0010111 rd imm
Encodes w (Jal rd offset) = FormatJ w 0b1101111 rd offset
Encodes w (Jalr rd base offset) = FormatI w 0b1100111 0b000 rd base offset
-- BEQ, BNE, BLT, BGE, BLTU, BGEU
Encodes w (Branch Eq left right offset) = FormatB w 0b1100011 0b000 left right offset
Encodes w (Branch Ne left right offset) = FormatB w 0b1100011 0b001 left right offset
Encodes w (Branch Lt left right offset) = FormatB w 0b1100011 0b100 left right offset
Encodes w (Branch Ge left right offset) = FormatB w 0b1100011 0b101 left right offset
Encodes w (Branch Ltu left right offset) = FormatB w 0b1100011 0b110 left right offset
Encodes w (Branch Geu left right offset) = FormatB w 0b1100011 0b111 left right offset
-- LB, LH, LW, LD, LBU, LHU, LWU; there is no load of 8 bytes without sign
Encodes w (Load B1 true rd base offset) = FormatI w 0b0000011 0b000 rd base offset
Encodes w (Load B2 true rd base offset) = FormatI w 0b0000011 0b001 rd base offset
Encodes w (Load B4 true rd base offset) = FormatI w 0b0000011 0b010 rd base offset
Encodes w (Load B8 true rd base offset) = FormatI w 0b0000011 0b011 rd base offset
Encodes w (Load B1 false rd base offset) = FormatI w 0b0000011 0b100 rd base offset
Encodes w (Load B2 false rd base offset) = FormatI w 0b0000011 0b101 rd base offset
Encodes w (Load B4 false rd base offset) = FormatI w 0b0000011 0b110 rd base offset
Encodes w (Load B8 false rd base offset) = ⊥
-- SB, SH, SW, SD
Encodes w (Store B1 base value offset) = FormatS w 0b0100011 0b000 base value offset
Encodes w (Store B2 base value offset) = FormatS w 0b0100011 0b001 base value offset
Encodes w (Store B4 base value offset) = FormatS w 0b0100011 0b010 base value offset
Encodes w (Store B8 base value offset) = FormatS w 0b0100011 0b011 base value offset
-- ADDI, SLTI, SLTIU, XORI, ORI, ANDI
Encodes w (Imm imm_op.Add rd left imm) = FormatI w 0b0010011 0b000 rd left imm
Encodes w (Imm imm_op.Slt rd left imm) = FormatI w 0b0010011 0b010 rd left imm
Encodes w (Imm imm_op.Sltu rd left imm) = FormatI w 0b0010011 0b011 rd left imm
Encodes w (Imm imm_op.Xor rd left imm) = FormatI w 0b0010011 0b100 rd left imm
Encodes w (Imm imm_op.Or rd left imm) = FormatI w 0b0010011 0b110 rd left imm
Encodes w (Imm imm_op.And rd left imm) = FormatI w 0b0010011 0b111 rd left imm
-- SLLI, SRLI, SRAI
Encodes w (Shift Left rd left amount) = FormatShift w 0b0010011 0b001 0b000000 rd left amount
Encodes w (Shift Right rd left amount) = FormatShift w 0b0010011 0b101 0b000000 rd left amount
Encodes w (Shift RightSigned rd left amount) = FormatShift w 0b0010011 0b101 0b010000 rd left amount
-- ADD, SUB, SLL, SLT, SLTU, XOR, SRL, SRA, OR, AND
Encodes w (Reg2 op.Add rd left right) = FormatR w 0b0110011 0b000 0b0000000 rd left right
Encodes w (Reg2 op.Sub rd left right) = FormatR w 0b0110011 0b000 0b0100000 rd left right
Encodes w (Reg2 op.Sll rd left right) = FormatR w 0b0110011 0b001 0b0000000 rd left right
Encodes w (Reg2 op.Slt rd left right) = FormatR w 0b0110011 0b010 0b0000000 rd left right
Encodes w (Reg2 op.Sltu rd left right) = FormatR w 0b0110011 0b011 0b0000000 rd left right
Encodes w (Reg2 op.Xor rd left right) = FormatR w 0b0110011 0b100 0b0000000 rd left right
Encodes w (Reg2 op.Srl rd left right) = FormatR w 0b0110011 0b101 0b0000000 rd left right
Encodes w (Reg2 op.Sra rd left right) = FormatR w 0b0110011 0b101 0b0100000 rd left right
Encodes w (Reg2 op.Or rd left right) = FormatR w 0b0110011 0b110 0b0000000 rd left right
Encodes w (Reg2 op.And rd left right) = FormatR w 0b0110011 0b111 0b0000000 rd left right
-- ADDIW, SLLIW, SRLIW, SRAIW
Encodes w (AddiW rd left imm) = FormatI w 0b0011011 0b000 rd left imm
Encodes w (ShiftW Left rd left amount) = FormatShiftW w 0b0011011 0b001 0b0000000 rd left amount
Encodes w (ShiftW Right rd left amount) = FormatShiftW w 0b0011011 0b101 0b0000000 rd left amount
Encodes w (ShiftW RightSigned rd left amount) =
    FormatShiftW w 0b0011011 0b101 0b0100000 rd left amount
-- ADDW, SUBW, SLLW, SRLW, SRAW
Encodes w (Reg2W word_op.Add rd left right) = FormatR w 0b0111011 0b000 0b0000000 rd left right
Encodes w (Reg2W word_op.Sub rd left right) = FormatR w 0b0111011 0b000 0b0100000 rd left right
Encodes w (Reg2W word_op.Sll rd left right) = FormatR w 0b0111011 0b001 0b0000000 rd left right
Encodes w (Reg2W word_op.Srl rd left right) = FormatR w 0b0111011 0b101 0b0000000 rd left right
Encodes w (Reg2W word_op.Sra rd left right) = FormatR w 0b0111011 0b101 0b0100000 rd left right
-- FENCE, whatever its other bits
Encodes w (Fence high rs1 rd) = FormatNumber w 0b0001111 0b000 rd rs1 high
-- CSRRW, CSRRS, CSRRC, CSRRWI, CSRRSI, CSRRCI
Encodes w (Csr csr_op.Write number (Register rs1) rd) = FormatNumber w 0b1110011 0b001 rd rs1 number
Encodes w (Csr csr_op.Set number (Register rs1) rd) = FormatNumber w 0b1110011 0b010 rd rs1 number
Encodes w (Csr csr_op.Clear number (Register rs1) rd) = FormatNumber w 0b1110011 0b011 rd rs1 number
Encodes w (Csr csr_op.Write number (Number n) rd) =
    FormatNumber w 0b1110011 0b101 rd (record { 0 = n }) number
Encodes w (Csr csr_op.Set number (Number n) rd) =
    FormatNumber w 0b1110011 0b110 rd (record { 0 = n }) number
Encodes w (Csr csr_op.Clear number (Number n) rd) =
    FormatNumber w 0b1110011 0b111 rd (record { 0 = n }) number
-- ECALL, EBREAK, SRET, WFI, SFENCE.VMA
Encodes w Ecall = w ≡ 0x00000073
Encodes w Ebreak = w ≡ 0x00100073
Encodes w Sret = w ≡ 0x10200073
Encodes w Wfi = w ≡ 0x10500073
Encodes w (SfenceVma rs1 rs2) = FormatR w 0b1110011 0b000 0b0001001 x0 rs1 rs2
-- the secure instructions, which all have format R; a field that isn't named is zero
Encodes w (Bastion (Launch rd at)) = FormatR w 0b0001011 0b000 0 rd at x0
Encodes w (Bastion (Call rd id entry)) = FormatR w 0b0001011 0b001 0 rd id entry
Encodes w (Bastion Ret) = FormatR w 0b0001011 0b010 0 x0 x0 x0
Encodes w (Bastion (Evict rd id)) = FormatR w 0b0001011 0b011 0 rd id x0
Encodes w (Bastion (Ident rd id word)) = FormatR w 0b0001011 0b100 0 rd id word
Encodes w (Bastion (Caller rd)) = FormatR w 0b0001011 0b101 0 rd x0 x0
Encodes w (Bastion (Offerer rd at)) = FormatR w 0b0001011 0b110 0 rd at x0
Encodes w (Bastion (Sget rd index)) = FormatR w 0b0001011 0b111 0 rd index x0
Encodes w (Bastion (Sset rd index value)) = FormatR w 0b0001011 0b000 1 rd index value
