-- What an instruction asks of the machine (Unprivileged ISA, "RV32I Base Integer Instruction Set",
-- "RV64I Base Integer Instruction Set" and "Zicsr"). Sums and differences are of whole numbers,
-- modulo 2^64.
use Rattle.std.specs.Prelude.{
  ℕ,
  ℤ,
  ◌+◌,
  ◌-◌,
  ◌*◌,
  ◌/◌,
  ◌%◌,
  ◌^◌,
  Bool,
  true,
  false,
  not,
  ◌==◌,
  nat_lt,
  int_lt,
  slice_index,
  bit_and,
  bit_or,
  bit_xor,
}
use Rattle.std.specs.Int.{from_bool, int_shr}
use mir.Val.{bits}
use Rattle.bn_types.specs.Numbers.{int_width}
use Rattle.bn_types.specs.declared.act.Act.{Act}
use Rattle.bn_types.specs.declared.act.Act.TheVariants as act
use Rattle.bn_types.specs.declared.csr_from.CsrFrom.{CsrFrom}
use Rattle.bn_types.specs.declared.csr_from.CsrFrom.TheVariants.{Register, Number}
use Rattle.bn_types.specs.declared.csr_op.CsrOp.{CsrOp}
use Rattle.bn_types.specs.declared.csr_op.CsrOp.TheVariants.{Write, Set, Clear}
use Rattle.bn_types.specs.declared.imm_op.ImmOp.{ImmOp}
use Rattle.bn_types.specs.declared.imm_op.ImmOp.TheVariants as imm_op
use Rattle.bn_types.specs.declared.insn.Insn.{Insn}
use Rattle.bn_types.specs.declared.insn.Insn.TheVariants.{
  Lui,
  Auipc,
  Jal,
  Jalr,
  Branch,
  Load,
  Store,
  Imm,
  Shift,
  Reg2,
  AddiW,
  ShiftW,
  Reg2W,
  Fence,
  Csr,
  Ecall,
  Ebreak,
  Sret,
  Wfi,
  SfenceVma,
  Bastion,
}
use Rattle.bn_types.specs.declared.op.Op.{Op}
use Rattle.bn_types.specs.declared.op.Op.TheVariants as op
use Rattle.bn_types.specs.declared.reg.Reg.{Reg}
use Rattle.bn_types.specs.declared.regs.Regs.{Regs}
use Rattle.bn_types.specs.declared.shift_op.ShiftOp.{ShiftOp}
use Rattle.bn_types.specs.declared.shift_op.ShiftOp.TheVariants.{Left, Right, RightSigned}
use Rattle.bn_types.specs.declared.test.Test.{Test}
use Rattle.bn_types.specs.declared.test.Test.TheVariants.{Eq, Ne, Lt, Ge, Ltu, Geu}
use Rattle.bn_types.specs.declared.width.Width.{Width}
use Rattle.bn_types.specs.declared.word_op.WordOp.{WordOp}
use Rattle.bn_types.specs.declared.word_op.WordOp.TheVariants as word_op
use Rattle.bn_model.specs.Causes.{instruction_address_misaligned}
use Rattle.bn_model.specs.State.{next_pc}
use Rattle.bn_model.specs.TwosComplement.{in_64_bits, sign_extension, signed_of}

-- what stands in a register; the machine keeps 0 in x0
abbrev pub register : Regs → Reg → ℕ
register regs r = slice_index regs.x r.0

-- ---- arithmetic

abbrev pub sum_64 : ℕ → ℕ → ℕ
sum_64 a b = (a + b) % 2 ^ 64

abbrev pub difference_64 : ℕ → ℕ → ℕ
difference_64 a b = (a + (2 ^ 64 - b)) % 2 ^ 64

-- a plus an immediate, extended by its sign
abbrev pub plus_immediate : ℕ → ℤ → ℕ
plus_immediate a imm = sum_64 a (in_64_bits imm)

-- SLT and SLTU: 1 where a is below b
abbrev pub one_if_less : ℕ → ℕ → ℕ
one_if_less a b = from_bool (int_lt (signed_of 64 a) (signed_of 64 b))

abbrev pub one_if_less_unsigned : ℕ → ℕ → ℕ
one_if_less_unsigned a b = from_bool (nat_lt a b)

-- SLLI, SRLI and SRAI
abbrev pub shift_value : ShiftOp → ℕ → ℕ → ℕ
shift_value Left a amount = (a * 2 ^ amount) % 2 ^ 64
shift_value Right a amount = a / 2 ^ amount
shift_value RightSigned a amount = in_64_bits (int_shr (signed_of 64 a) amount)

-- SLLIW, SRLIW and SRAIW: shifts of the low 32 bits; the result of 32 bits is extended by its sign
abbrev pub word_shift_value : ShiftOp → ℕ → ℕ → ℕ
word_shift_value Left a amount = sign_extension 32 (a * 2 ^ amount)
word_shift_value Right a amount = sign_extension 32 (a % 2 ^ 32 / 2 ^ amount)
word_shift_value RightSigned a amount = in_64_bits (int_shr (signed_of 32 (a % 2 ^ 32)) amount)

-- ADDI, SLTI, SLTIU, XORI, ORI and ANDI; b is the immediate in 64 bits
abbrev pub immediate_value : ImmOp → ℕ → ℕ → ℕ
immediate_value imm_op.Add a b = sum_64 a b
immediate_value imm_op.Slt a b = one_if_less a b
immediate_value imm_op.Sltu a b = one_if_less_unsigned a b
immediate_value imm_op.Xor a b = bit_xor a b
immediate_value imm_op.Or a b = bit_or a b
immediate_value imm_op.And a b = bit_and a b

-- the instructions of two registers; a shift's amount is the low 6 bits of the second
abbrev pub register_value : Op → ℕ → ℕ → ℕ
register_value op.Add a b = sum_64 a b
register_value op.Sub a b = difference_64 a b
register_value op.Sll a b = shift_value Left a (b % 2 ^ 6)
register_value op.Slt a b = one_if_less a b
register_value op.Sltu a b = one_if_less_unsigned a b
register_value op.Xor a b = bit_xor a b
register_value op.Srl a b = shift_value Right a (b % 2 ^ 6)
register_value op.Sra a b = shift_value RightSigned a (b % 2 ^ 6)
register_value op.Or a b = bit_or a b
register_value op.And a b = bit_and a b

-- ADDW, SUBW, SLLW, SRLW and SRAW; a shift's amount is the low 5 bits of the second
abbrev pub word_value : WordOp → ℕ → ℕ → ℕ
word_value word_op.Add a b = sign_extension 32 (sum_64 a b)
word_value word_op.Sub a b = sign_extension 32 (difference_64 a b)
word_value word_op.Sll a b = word_shift_value Left a (b % 2 ^ 5)
word_value word_op.Srl a b = word_shift_value Right a (b % 2 ^ 5)
word_value word_op.Sra a b = word_shift_value RightSigned a (b % 2 ^ 5)

-- LB, LH, LW, LD (signed) and LBU, LHU, LWU: what a load sets, from the number that memory has
abbrev pub load_value : Width → (signed : Bool) → (raw : ℕ) → ℕ
load_value width true raw = sign_extension (bits (int_width width)) raw
load_value width false raw = raw % 2 ^ bits (int_width width)

-- ---- jumps and branches

abbrev pub jump_if : (is_aligned : Bool) → (target : ℕ) → (rd : Reg) → (link : ℕ) → Act
jump_if true target rd link = act.Jump target rd link
jump_if false target rd link = act.Trap instruction_address_misaligned target

-- a target that isn't a multiple of 4 is a misaligned instruction address, on the jump
abbrev pub jump : (target : ℕ) → (rd : Reg) → (pc : ℕ) → Act
jump target rd pc = jump_if (target % 4 == 0) target rd (next_pc pc)

-- JALR clears bit 0 of its target
abbrev pub without_bit_0 : ℕ → ℕ
without_bit_0 n = n - n % 2

abbrev pub holds : Test → ℕ → ℕ → Bool
holds Eq a b = a == b
holds Ne a b = not (a == b)
holds Lt a b = int_lt (signed_of 64 a) (signed_of 64 b)
holds Ge a b = not (int_lt (signed_of 64 a) (signed_of 64 b))
holds Ltu a b = nat_lt a b
holds Geu a b = not (nat_lt a b)

-- a branch that isn't taken goes on; a taken one keeps its link in x0, which stays 0
abbrev pub branch_if : (is_taken : Bool) → (target pc : ℕ) → Act
branch_if true target pc = jump target (record { 0 = 0 }) pc
branch_if false target pc = act.Next

-- ---- CSR instructions

abbrev pub operand : CsrFrom → Regs → ℕ
operand (Register r) regs = register regs r
operand (Number n) regs = n

-- CSRRW and CSRRWI don't read where rd is x0
abbrev pub reads : CsrOp → Reg → Bool
reads Write rd = not (rd.0 == 0)
reads Set rd = true
reads Clear rd = true

-- the field of rs1: a register's number or the immediate
abbrev pub source_field : CsrFrom → ℕ
source_field (Register r) = r.0
source_field (Number n) = n

-- CSRRS, CSRRC and their immediate forms don't write where the field of rs1 is 0
abbrev pub writes : CsrOp → CsrFrom → Bool
writes Write from = true
writes Set from = not (source_field from == 0)
writes Clear from = not (source_field from == 0)

-- ---- the instructions

-- what an instruction at pc asks for
unfoldable pub act_of : Insn → Regs → ℕ → Act
act_of (Lui rd imm) regs pc = act.Set rd (in_64_bits imm)
act_of (Auipc rd imm) regs pc = act.Set rd (plus_immediate pc imm)
act_of (Jal rd offset) regs pc = jump (plus_immediate pc offset) rd pc
act_of (Jalr rd base offset) regs pc =
    jump (without_bit_0 (plus_immediate (register regs base) offset)) rd pc
act_of (Branch test left right offset) regs pc =
    branch_if (holds test (register regs left) (register regs right)) (plus_immediate pc offset) pc
act_of (Load width signed rd base offset) regs pc =
    act.LoadAt (plus_immediate (register regs base) offset) width signed rd
act_of (Store width base value offset) regs pc =
    act.StoreAt (plus_immediate (register regs base) offset) width (register regs value)
act_of (Imm op rd left imm) regs pc =
    act.Set rd (immediate_value op (register regs left) (in_64_bits imm))
act_of (Shift op rd left amount) regs pc = act.Set rd (shift_value op (register regs left) amount)
act_of (Reg2 op rd left right) regs pc =
    act.Set rd (register_value op (register regs left) (register regs right))
act_of (AddiW rd left imm) regs pc =
    act.Set rd (sign_extension 32 (plus_immediate (register regs left) imm))
act_of (ShiftW op rd left amount) regs pc =
    act.Set rd (word_shift_value op (register regs left) amount)
act_of (Reg2W op rd left right) regs pc =
    act.Set rd (word_value op (register regs left) (register regs right))
act_of (Fence high rs1 rd) regs pc = act.Next
act_of (Csr op number from rd) regs pc =
    act.Csr op number (operand from regs) (reads op rd) (writes op from) rd
act_of Ecall regs pc = act.Ecall
act_of Ebreak regs pc = act.Ebreak
act_of Sret regs pc = act.Sret
act_of Wfi regs pc = act.Wfi
act_of (SfenceVma rs1 rs2) regs pc = act.SfenceVma
act_of (Bastion secure) regs pc = act.Bastion secure
