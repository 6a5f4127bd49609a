-- The table in `Encoding` is the definition of what a word means, and this file need not be read:
-- it computes the instruction of a word, opcode by opcode, as a decoder does, and is proved to give
-- it exactly where the table relates the two (`FollowsTable` of `TableLaws`).
use Rattle.std.specs.Prelude.{ℕ, Bool, true, false, ◌==◌, ◌&&◌, if◌then◌else◌, Option, Some, None}
use Rattle.bn_types.specs.declared.csr_from.CsrFrom.TheVariants.{Register, Number}
use Rattle.bn_types.specs.declared.csr_op.CsrOp.{CsrOp}
use Rattle.bn_types.specs.declared.csr_op.CsrOp.TheVariants as csr_op
use Rattle.bn_types.specs.declared.imm_op.ImmOp.{ImmOp}
use Rattle.bn_types.specs.declared.imm_op.ImmOp.TheVariants as imm_op
use Rattle.bn_types.specs.declared.insn.Insn.{Insn}
use Rattle.bn_types.specs.declared.insn.Insn.TheVariants as insn
use Rattle.bn_types.specs.declared.op.Op.{Op}
use Rattle.bn_types.specs.declared.op.Op.TheVariants as op
use Rattle.bn_types.specs.declared.reg.Reg.{Reg}
use Rattle.bn_types.specs.declared.secure.Secure.{Secure}
use Rattle.bn_types.specs.declared.secure.Secure.TheVariants as secure
use Rattle.bn_types.specs.declared.shift_op.ShiftOp.{ShiftOp}
use Rattle.bn_types.specs.declared.shift_op.ShiftOp.TheVariants as shift_op
use Rattle.bn_types.specs.declared.test.Test.{Test}
use Rattle.bn_types.specs.declared.test.Test.TheVariants as test
use Rattle.bn_types.specs.declared.width.Width.{Width}
use Rattle.bn_types.specs.declared.width.Width.TheVariants.{B1, B2, B4, B8}
use Rattle.bn_types.specs.declared.word_op.WordOp.{WordOp}
use Rattle.bn_types.specs.declared.word_op.WordOp.TheVariants as word_op
use Rattle.bn_model.specs.Fields.{
  opcode,
  rd,
  funct3,
  rs1,
  rs2,
  funct7,
  funct6,
  shamt6,
  shamt5,
  funct12,
  i_immediate,
  s_immediate,
  b_immediate,
  u_immediate,
  j_immediate,
}

-- the register is x0
abbrev pub is_x0 : Reg → Bool
is_x0 register = register.0 == 0

-- JALR
unfoldable pub jalr : ℕ → Option Insn
jalr w = if funct3 w == 0b000 then Some (insn.Jalr (rd w) (rs1 w) (i_immediate w)) else None

-- BRANCH
abbrev pub test_of : ℕ → Option Test
test_of f =
    if f == 0b000 then Some test.Eq else
    if f == 0b001 then Some test.Ne else
    if f == 0b100 then Some test.Lt else
    if f == 0b101 then Some test.Ge else
    if f == 0b110 then Some test.Ltu else
    if f == 0b111 then Some test.Geu else
    None

abbrev pub branch_by : Option Test → ℕ → Option Insn
branch_by None w = None
branch_by (Some t) w = Some (insn.Branch t (rs1 w) (rs2 w) (b_immediate w))

unfoldable pub branch : ℕ → Option Insn
branch w = branch_by (test_of (funct3 w)) w

-- LOAD
abbrev pub load_of : Width → Bool → ℕ → Insn
load_of width signed w = insn.Load width signed (rd w) (rs1 w) (i_immediate w)

unfoldable pub load : ℕ → Option Insn
load w =
    if funct3 w == 0b000 then Some (load_of B1 true w) else
    if funct3 w == 0b001 then Some (load_of B2 true w) else
    if funct3 w == 0b010 then Some (load_of B4 true w) else
    if funct3 w == 0b011 then Some (load_of B8 true w) else
    if funct3 w == 0b100 then Some (load_of B1 false w) else
    if funct3 w == 0b101 then Some (load_of B2 false w) else
    if funct3 w == 0b110 then Some (load_of B4 false w) else
    None

-- STORE
abbrev pub store_width_of : ℕ → Option Width
store_width_of f =
    if f == 0b000 then Some B1 else
    if f == 0b001 then Some B2 else
    if f == 0b010 then Some B4 else
    if f == 0b011 then Some B8 else
    None

abbrev pub store_by : Option Width → ℕ → Option Insn
store_by None w = None
store_by (Some width) w = Some (insn.Store width (rs1 w) (rs2 w) (s_immediate w))

unfoldable pub store : ℕ → Option Insn
store w = store_by (store_width_of (funct3 w)) w

-- OP-IMM
abbrev pub shift_of : ShiftOp → ℕ → Insn
shift_of s w = insn.Shift s (rd w) (rs1 w) (shamt6 w)

abbrev pub imm_of : ImmOp → ℕ → Insn
imm_of o w = insn.Imm o (rd w) (rs1 w) (i_immediate w)

abbrev pub shift_left : ℕ → Option Insn
shift_left w = if funct6 w == 0b000000 then Some (shift_of shift_op.Left w) else None

abbrev pub shift_right : ℕ → Option Insn
shift_right w =
    if funct6 w == 0b000000 then Some (shift_of shift_op.Right w) else
    if funct6 w == 0b010000 then Some (shift_of shift_op.RightSigned w) else
    None

unfoldable pub op_imm : ℕ → Option Insn
op_imm w =
    if funct3 w == 0b000 then Some (imm_of imm_op.Add w) else
    if funct3 w == 0b001 then shift_left w else
    if funct3 w == 0b010 then Some (imm_of imm_op.Slt w) else
    if funct3 w == 0b011 then Some (imm_of imm_op.Sltu w) else
    if funct3 w == 0b100 then Some (imm_of imm_op.Xor w) else
    if funct3 w == 0b101 then shift_right w else
    if funct3 w == 0b110 then Some (imm_of imm_op.Or w) else
    if funct3 w == 0b111 then Some (imm_of imm_op.And w) else
    None

-- OP: by funct3 where funct7 is 0000000, and where it is 0100000
abbrev pub plain_op_of : ℕ → Option Op
plain_op_of f =
    if f == 0b000 then Some op.Add else
    if f == 0b001 then Some op.Sll else
    if f == 0b010 then Some op.Slt else
    if f == 0b011 then Some op.Sltu else
    if f == 0b100 then Some op.Xor else
    if f == 0b101 then Some op.Srl else
    if f == 0b110 then Some op.Or else
    if f == 0b111 then Some op.And else
    None

abbrev pub other_op_of : ℕ → Option Op
other_op_of f =
    if f == 0b000 then Some op.Sub else
    if f == 0b101 then Some op.Sra else
    None

abbrev pub op_of : ℕ → ℕ → Option Op
op_of g f =
    if g == 0b0000000 then plain_op_of f else
    if g == 0b0100000 then other_op_of f else
    None

abbrev pub op_reg_by : Option Op → ℕ → Option Insn
op_reg_by None w = None
op_reg_by (Some o) w = Some (insn.Reg2 o (rd w) (rs1 w) (rs2 w))

unfoldable pub op_reg : ℕ → Option Insn
op_reg w = op_reg_by (op_of (funct7 w) (funct3 w)) w

-- OP-IMM-32
abbrev pub shift_word_of : ShiftOp → ℕ → Insn
shift_word_of s w = insn.ShiftW s (rd w) (rs1 w) (shamt5 w)

abbrev pub shift_word_left : ℕ → Option Insn
shift_word_left w = if funct7 w == 0b0000000 then Some (shift_word_of shift_op.Left w) else None

abbrev pub shift_word_right : ℕ → Option Insn
shift_word_right w =
    if funct7 w == 0b0000000 then Some (shift_word_of shift_op.Right w) else
    if funct7 w == 0b0100000 then Some (shift_word_of shift_op.RightSigned w) else
    None

unfoldable pub op_imm_32 : ℕ → Option Insn
op_imm_32 w =
    if funct3 w == 0b000 then Some (insn.AddiW (rd w) (rs1 w) (i_immediate w)) else
    if funct3 w == 0b001 then shift_word_left w else
    if funct3 w == 0b101 then shift_word_right w else
    None

-- OP-32: by funct3 where funct7 is 0000000, and where it is 0100000
abbrev pub plain_word_op_of : ℕ → Option WordOp
plain_word_op_of f =
    if f == 0b000 then Some word_op.Add else
    if f == 0b001 then Some word_op.Sll else
    if f == 0b101 then Some word_op.Srl else
    None

abbrev pub other_word_op_of : ℕ → Option WordOp
other_word_op_of f =
    if f == 0b000 then Some word_op.Sub else
    if f == 0b101 then Some word_op.Sra else
    None

abbrev pub word_op_of : ℕ → ℕ → Option WordOp
word_op_of g f =
    if g == 0b0000000 then plain_word_op_of f else
    if g == 0b0100000 then other_word_op_of f else
    None

abbrev pub op_reg_32_by : Option WordOp → ℕ → Option Insn
op_reg_32_by None w = None
op_reg_32_by (Some o) w = Some (insn.Reg2W o (rd w) (rs1 w) (rs2 w))

unfoldable pub op_reg_32 : ℕ → Option Insn
op_reg_32 w = op_reg_32_by (word_op_of (funct7 w) (funct3 w)) w

-- MISC-MEM
unfoldable pub fence : ℕ → Option Insn
fence w = if funct3 w == 0b000 then Some (insn.Fence (funct12 w) (rs1 w) (rd w)) else None

-- SYSTEM
abbrev pub csr_by_register : CsrOp → ℕ → Insn
csr_by_register o w = insn.Csr o (funct12 w) (Register (rs1 w)) (rd w)

-- the field of rs1 holds the operand itself
abbrev pub csr_by_number : CsrOp → ℕ → Insn
csr_by_number o w = insn.Csr o (funct12 w) (Number (rs1 w).0) (rd w)

-- SFENCE.VMA
abbrev pub fence_of_tables : ℕ → Option Insn
fence_of_tables w = if is_x0 (rd w) then Some (insn.SfenceVma (rs1 w) (rs2 w)) else None

abbrev pub whole_word : ℕ → Option Insn
whole_word w =
    if w == 0x00000073 then Some insn.Ecall else
    if w == 0x00100073 then Some insn.Ebreak else
    if w == 0x10200073 then Some insn.Sret else
    if w == 0x10500073 then Some insn.Wfi else
    None

unfoldable pub environment : ℕ → Option Insn
environment w = if funct7 w == 0b0001001 then fence_of_tables w else whole_word w

unfoldable pub system : ℕ → Option Insn
system w =
    if funct3 w == 0b000 then environment w else
    if funct3 w == 0b001 then Some (csr_by_register csr_op.Write w) else
    if funct3 w == 0b010 then Some (csr_by_register csr_op.Set w) else
    if funct3 w == 0b011 then Some (csr_by_register csr_op.Clear w) else
    if funct3 w == 0b101 then Some (csr_by_number csr_op.Write w) else
    if funct3 w == 0b110 then Some (csr_by_number csr_op.Set w) else
    if funct3 w == 0b111 then Some (csr_by_number csr_op.Clear w) else
    None

-- custom-0: by funct3 where funct7 is 0000000; a field that isn't named is zero
abbrev pub launch : ℕ → Option Secure
launch w = if is_x0 (rs2 w) then Some (secure.Launch (rd w) (rs1 w)) else None

abbrev pub ret : ℕ → Option Secure
ret w = if is_x0 (rd w) && is_x0 (rs1 w) && is_x0 (rs2 w) then Some secure.Ret else None

abbrev pub evict : ℕ → Option Secure
evict w = if is_x0 (rs2 w) then Some (secure.Evict (rd w) (rs1 w)) else None

abbrev pub caller : ℕ → Option Secure
caller w = if is_x0 (rs1 w) && is_x0 (rs2 w) then Some (secure.Caller (rd w)) else None

abbrev pub offerer : ℕ → Option Secure
offerer w = if is_x0 (rs2 w) then Some (secure.Offerer (rd w) (rs1 w)) else None

abbrev pub sget : ℕ → Option Secure
sget w = if is_x0 (rs2 w) then Some (secure.Sget (rd w) (rs1 w)) else None

abbrev pub first_secure_of : ℕ → Option Secure
first_secure_of w =
    if funct3 w == 0b000 then launch w else
    if funct3 w == 0b001 then Some (secure.Call (rd w) (rs1 w) (rs2 w)) else
    if funct3 w == 0b010 then ret w else
    if funct3 w == 0b011 then evict w else
    if funct3 w == 0b100 then Some (secure.Ident (rd w) (rs1 w) (rs2 w)) else
    if funct3 w == 0b101 then caller w else
    if funct3 w == 0b110 then offerer w else
    if funct3 w == 0b111 then sget w else
    None

abbrev pub sset : ℕ → Option Secure
sset w = if funct3 w == 0b000 then Some (secure.Sset (rd w) (rs1 w) (rs2 w)) else None

unfoldable pub secure_of : ℕ → Option Secure
secure_of w =
    if funct7 w == 0b0000000 then first_secure_of w else
    if funct7 w == 0b0000001 then sset w else
    None

abbrev pub secure_by : Option Secure → Option Insn
secure_by None = None
secure_by (Some s) = Some (insn.Bastion s)

-- the instruction of a word of 32 bits, or None where it has none
unfoldable pub insn_of : ℕ → Option Insn
insn_of w =
    if opcode w == 0b0110111 then Some (insn.Lui (rd w) (u_immediate w)) else
    if opcode w == 0b0010111 then Some (insn.Auipc (rd w) (u_immediate w)) else
    if opcode w == 0b1101111 then Some (insn.Jal (rd w) (j_immediate w)) else
    if opcode w == 0b1100111 then jalr w else
    if opcode w == 0b1100011 then branch w else
    if opcode w == 0b0000011 then load w else
    if opcode w == 0b0100011 then store w else
    if opcode w == 0b0010011 then op_imm w else
    if opcode w == 0b0110011 then op_reg w else
    if opcode w == 0b0011011 then op_imm_32 w else
    if opcode w == 0b0111011 then op_reg_32 w else
    if opcode w == 0b0001111 then fence w else
    if opcode w == 0b1110011 then system w else
    if opcode w == 0b0001011 then secure_by (secure_of w) else
    None
