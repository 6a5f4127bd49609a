-- The word of an instruction: the instruction table, from an instruction to its word, format by
-- format. An instruction in range has one word of 32 bits by the table; this is that one.
use Rattle.std.specs.Prelude.{ℕ, suc, ◌+◌, ◌-◌, ◌*◌, ◌/◌, ◌%◌, ◌^◌, true, false, ℤ, pos, negsuc}
use Rattle.bn_types.specs.declared.csr_from.CsrFrom.TheVariants.{Register, Number}
use Rattle.bn_types.specs.declared.csr_op.CsrOp.TheVariants as csr_op
use Rattle.bn_types.specs.declared.imm_op.ImmOp.TheVariants as imm_op
use Rattle.bn_types.specs.declared.insn.Insn.{Insn}
use Rattle.bn_types.specs.declared.insn.Insn.TheVariants.{
  Lui,
  Auipc,
  Jal,
  Jalr,
  Branch,
  Load,
  Store,
  Imm,
  Shift,
  Reg2,
  AddiW,
  ShiftW,
  Reg2W,
  Fence,
  Csr,
  Ecall,
  Ebreak,
  Sret,
  Wfi,
  SfenceVma,
  Bastion,
}
use Rattle.bn_types.specs.declared.op.Op.TheVariants as op
use Rattle.bn_types.specs.declared.reg.Reg.{Reg}
use Rattle.bn_types.specs.declared.secure.Secure.TheVariants.{
  Launch,
  Call,
  Ret,
  Evict,
  Ident,
  Caller,
  Offerer,
  Sget,
  Sset,
}
use Rattle.bn_types.specs.declared.shift_op.ShiftOp.TheVariants.{Left, Right, RightSigned}
use Rattle.bn_types.specs.declared.test.Test.TheVariants.{Eq, Ne, Lt, Ge, Ltu, Geu}
use Rattle.bn_types.specs.declared.width.Width.TheVariants.{B1, B2, B4, B8}
use Rattle.bn_types.specs.declared.word_op.WordOp.TheVariants as word_op
use Rattle.bn_model.specs.Encoding.{x0}

-- a signed number from -half to half - 1, in two's complement
abbrev pub complement : (half : ℕ) → ℤ → ℕ
complement half (pos n) = n
complement half (negsuc n) = 2 * half - suc n

-- ---- the formats (Unprivileged ISA, "Base Instruction Formats"), as sums of their fields: the
-- opcode o, the function fields f and g, the registers d, a and b, and the immediate or number n

abbrev pub word_r : (o f g : ℕ) (d a b : Reg) → ℕ
word_r o f g d a b =
    o + f * 2 ^ 12 + g * 2 ^ 25 + d.0 * 2 ^ 7 + a.0 * 2 ^ 15 + b.0 * 2 ^ 20

-- with the bits of the immediate
abbrev pub bits_i : (o f : ℕ) (d a : Reg) (x : ℕ) → ℕ
bits_i o f d a x = o + f * 2 ^ 12 + d.0 * 2 ^ 7 + a.0 * 2 ^ 15 + x * 2 ^ 20

abbrev pub word_i : (o f : ℕ) (d a : Reg) → ℤ → ℕ
word_i o f d a n = bits_i o f d a (complement 2048 n)

abbrev pub bits_s : (o f : ℕ) (a b : Reg) (x : ℕ) → ℕ
bits_s o f a b x =
    o + f * 2 ^ 12 + a.0 * 2 ^ 15 + b.0 * 2 ^ 20 + x % 32 * 2 ^ 7 + x / 32 * 2 ^ 25

abbrev pub word_s : (o f : ℕ) (a b : Reg) → ℤ → ℕ
word_s o f a b n = bits_s o f a b (complement 2048 n)

abbrev pub bits_b : (o f : ℕ) (a b : Reg) (x : ℕ) → ℕ
bits_b o f a b x =
    o + f * 2 ^ 12 + a.0 * 2 ^ 15 + b.0 * 2 ^ 20 + x / 2048 % 2 * 2 ^ 7 + x / 2 % 16 * 2 ^ 8 +
    x / 32 % 64 * 2 ^ 25 + x / 4096 * 2 ^ 31

abbrev pub word_b : (o f : ℕ) (a b : Reg) → ℤ → ℕ
word_b o f a b n = bits_b o f a b (complement 4096 n)

abbrev pub word_u : (o : ℕ) (d : Reg) → ℤ → ℕ
word_u o d n = o + d.0 * 2 ^ 7 + complement (2 ^ 31) n

abbrev pub bits_j : (o : ℕ) (d : Reg) (x : ℕ) → ℕ
bits_j o d x =
    o + d.0 * 2 ^ 7 + x / 4096 % 256 * 2 ^ 12 + x / 2048 % 2 * 2 ^ 20 + x / 2 % 1024 * 2 ^ 21 +
    x / 2 ^ 20 * 2 ^ 31

abbrev pub word_j : (o : ℕ) (d : Reg) → ℤ → ℕ
word_j o d n = bits_j o d (complement (2 ^ 20) n)

abbrev pub word_shift : (o f g : ℕ) (d a : Reg) (n : ℕ) → ℕ
word_shift o f g d a n =
    o + f * 2 ^ 12 + g * 2 ^ 26 + d.0 * 2 ^ 7 + a.0 * 2 ^ 15 + n * 2 ^ 20

abbrev pub word_shift_w : (o f g : ℕ) (d a : Reg) (n : ℕ) → ℕ
word_shift_w o f g d a n =
    o + f * 2 ^ 12 + g * 2 ^ 25 + d.0 * 2 ^ 7 + a.0 * 2 ^ 15 + n * 2 ^ 20

abbrev pub word_number : (o f : ℕ) (d a : Reg) (n : ℕ) → ℕ
word_number o f d a n = o + f * 2 ^ 12 + d.0 * 2 ^ 7 + a.0 * 2 ^ 15 + n * 2 ^ 20

-- ---- the table

unfoldable pub word_of : Insn → ℕ
-- LUI, AUIPC, JAL, JALR
word_of (Lui rd imm) = word_u 0b0110111 rd imm
word_of (Auipc rd imm) = word_u 0b0010111 rd imm
word_of (Jal rd offset) = word_j 0b1101111 rd offset
word_of (Jalr rd base offset) = word_i 0b1100111 0b000 rd base offset
-- BEQ, BNE, BLT, BGE, BLTU, BGEU
word_of (Branch Eq left right offset) = word_b 0b1100011 0b000 left right offset
word_of (Branch Ne left right offset) = word_b 0b1100011 0b001 left right offset
word_of (Branch Lt left right offset) = word_b 0b1100011 0b100 left right offset
word_of (Branch Ge left right offset) = word_b 0b1100011 0b101 left right offset
word_of (Branch Ltu left right offset) = word_b 0b1100011 0b110 left right offset
word_of (Branch Geu left right offset) = word_b 0b1100011 0b111 left right offset
-- LB, LH, LW, LD, LBU, LHU, LWU; a load of 8 bytes without sign has no word
word_of (Load B1 true rd base offset) = word_i 0b0000011 0b000 rd base offset
word_of (Load B2 true rd base offset) = word_i 0b0000011 0b001 rd base offset
word_of (Load B4 true rd base offset) = word_i 0b0000011 0b010 rd base offset
word_of (Load B8 true rd base offset) = word_i 0b0000011 0b011 rd base offset
word_of (Load B1 false rd base offset) = word_i 0b0000011 0b100 rd base offset
word_of (Load B2 false rd base offset) = word_i 0b0000011 0b101 rd base offset
word_of (Load B4 false rd base offset) = word_i 0b0000011 0b110 rd base offset
word_of (Load B8 false rd base offset) = 0
-- SB, SH, SW, SD
word_of (Store B1 base value offset) = word_s 0b0100011 0b000 base value offset
word_of (Store B2 base value offset) = word_s 0b0100011 0b001 base value offset
word_of (Store B4 base value offset) = word_s 0b0100011 0b010 base value offset
word_of (Store B8 base value offset) = word_s 0b0100011 0b011 base value offset
-- ADDI, SLTI, SLTIU, XORI, ORI, ANDI
word_of (Imm imm_op.Add rd left imm) = word_i 0b0010011 0b000 rd left imm
word_of (Imm imm_op.Slt rd left imm) = word_i 0b0010011 0b010 rd left imm
word_of (Imm imm_op.Sltu rd left imm) = word_i 0b0010011 0b011 rd left imm
word_of (Imm imm_op.Xor rd left imm) = word_i 0b0010011 0b100 rd left imm
word_of (Imm imm_op.Or rd left imm) = word_i 0b0010011 0b110 rd left imm
word_of (Imm imm_op.And rd left imm) = word_i 0b0010011 0b111 rd left imm
-- SLLI, SRLI, SRAI
word_of (Shift Left rd left amount) = word_shift 0b0010011 0b001 0b000000 rd left amount
word_of (Shift Right rd left amount) = word_shift 0b0010011 0b101 0b000000 rd left amount
word_of (Shift RightSigned rd left amount) = word_shift 0b0010011 0b101 0b010000 rd left amount
-- ADD, SUB, SLL, SLT, SLTU, XOR, SRL, SRA, OR, AND
word_of (Reg2 op.Add rd left right) = word_r 0b0110011 0b000 0b0000000 rd left right
word_of (Reg2 op.Sub rd left right) = word_r 0b0110011 0b000 0b0100000 rd left right
word_of (Reg2 op.Sll rd left right) = word_r 0b0110011 0b001 0b0000000 rd left right
word_of (Reg2 op.Slt rd left right) = word_r 0b0110011 0b010 0b0000000 rd left right
word_of (Reg2 op.Sltu rd left right) = word_r 0b0110011 0b011 0b0000000 rd left right
word_of (Reg2 op.Xor rd left right) = word_r 0b0110011 0b100 0b0000000 rd left right
word_of (Reg2 op.Srl rd left right) = word_r 0b0110011 0b101 0b0000000 rd left right
word_of (Reg2 op.Sra rd left right) = word_r 0b0110011 0b101 0b0100000 rd left right
word_of (Reg2 op.Or rd left right) = word_r 0b0110011 0b110 0b0000000 rd left right
word_of (Reg2 op.And rd left right) = word_r 0b0110011 0b111 0b0000000 rd left right
-- ADDIW, SLLIW, SRLIW, SRAIW
word_of (AddiW rd left imm) = word_i 0b0011011 0b000 rd left imm
word_of (ShiftW Left rd left amount) = word_shift_w 0b0011011 0b001 0b0000000 rd left amount
word_of (ShiftW Right rd left amount) = word_shift_w 0b0011011 0b101 0b0000000 rd left amount
word_of (ShiftW RightSigned rd left amount) = word_shift_w 0b0011011 0b101 0b0100000 rd left amount
-- ADDW, SUBW, SLLW, SRLW, SRAW
word_of (Reg2W word_op.Add rd left right) = word_r 0b0111011 0b000 0b0000000 rd left right
word_of (Reg2W word_op.Sub rd left right) = word_r 0b0111011 0b000 0b0100000 rd left right
word_of (Reg2W word_op.Sll rd left right) = word_r 0b0111011 0b001 0b0000000 rd left right
word_of (Reg2W word_op.Srl rd left right) = word_r 0b0111011 0b101 0b0000000 rd left right
word_of (Reg2W word_op.Sra rd left right) = word_r 0b0111011 0b101 0b0100000 rd left right
-- FENCE, whatever its other bits
word_of (Fence high rs1 rd) = word_number 0b0001111 0b000 rd rs1 high
-- CSRRW, CSRRS, CSRRC, CSRRWI, CSRRSI, CSRRCI
word_of (Csr csr_op.Write number (Register rs1) rd) = word_number 0b1110011 0b001 rd rs1 number
word_of (Csr csr_op.Set number (Register rs1) rd) = word_number 0b1110011 0b010 rd rs1 number
word_of (Csr csr_op.Clear number (Register rs1) rd) = word_number 0b1110011 0b011 rd rs1 number
word_of (Csr csr_op.Write number (Number n) rd) =
    word_number 0b1110011 0b101 rd (record { 0 = n }) number
word_of (Csr csr_op.Set number (Number n) rd) =
    word_number 0b1110011 0b110 rd (record { 0 = n }) number
word_of (Csr csr_op.Clear number (Number n) rd) =
    word_number 0b1110011 0b111 rd (record { 0 = n }) number
-- ECALL, EBREAK, SRET, WFI, SFENCE.VMA
word_of Ecall = 0x00000073
word_of Ebreak = 0x00100073
word_of Sret = 0x10200073
word_of Wfi = 0x10500073
word_of (SfenceVma rs1 rs2) = word_r 0b1110011 0b000 0b0001001 x0 rs1 rs2
-- the secure instructions, which all have format R; a field that isn't named is zero
word_of (Bastion (Launch rd at)) = word_r 0b0001011 0b000 0 rd at x0
word_of (Bastion (Call rd id entry)) = word_r 0b0001011 0b001 0 rd id entry
word_of (Bastion Ret) = word_r 0b0001011 0b010 0 x0 x0 x0
word_of (Bastion (Evict rd id)) = word_r 0b0001011 0b011 0 rd id x0
word_of (Bastion (Ident rd id word)) = word_r 0b0001011 0b100 0 rd id word
word_of (Bastion (Caller rd)) = word_r 0b0001011 0b101 0 rd x0 x0
word_of (Bastion (Offerer rd at)) = word_r 0b0001011 0b110 0 rd at x0
word_of (Bastion (Sget rd index)) = word_r 0b0001011 0b111 0 rd index x0
word_of (Bastion (Sset rd index value)) = word_r 0b0001011 0b000 1 rd index value
