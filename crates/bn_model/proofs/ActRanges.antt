-- The numbers that an instruction asks for have 64 bits.
use Rattle.std.proofs.Common.{ℕ, suc, ◌+◌, ◌-◌, ◌*◌, ◌/◌, ◌%◌, ◌^◌, ◌<◌, ◌==◌, Bool}
use Rattle.std.proofs.Common.{true, false, nat_lt, arith}
use Rattle.std.proofs.Common.{◌-ℤ◌, cond}
use Rattle.std.proofs.lemmas.Int.{ints}
use Rattle.std.proofs.lemmas.Nat.{and_le_r, mod_below, or_lt, shr_le, xor_lt}
use Rattle.std.specs.Int.{from_bool, int_shr}
use Rattle.std.specs.Prelude.{int_lt, ℤ, pos, negsuc, ◌<ℤ◌}
use mir.Val.{sel}
use Rattle.bn_types.specs.declared.act.Act.{Act}
use Rattle.bn_types.specs.declared.act.Act.TheVariants as act
use Rattle.bn_types.specs.declared.csr_from.CsrFrom.{CsrFrom}
use Rattle.bn_types.specs.declared.csr_from.CsrFrom.TheVariants.{Register, Number}
use Rattle.bn_types.specs.declared.imm_op.ImmOp.{ImmOp}
use Rattle.bn_types.specs.declared.imm_op.ImmOp.TheVariants as imm_op
use Rattle.bn_types.specs.declared.insn.Insn.{Insn}
use Rattle.bn_types.specs.declared.insn.Insn.TheVariants.{Lui, Auipc, Jal, Jalr, Branch, Load}
use Rattle.bn_types.specs.declared.insn.Insn.TheVariants.{Store, Imm, Shift, Reg2, AddiW, ShiftW}
use Rattle.bn_types.specs.declared.insn.Insn.TheVariants.{Reg2W, Fence, Csr, Ecall, Ebreak, Sret}
use Rattle.bn_types.specs.declared.insn.Insn.TheVariants.{Wfi, SfenceVma, Bastion}
use Rattle.bn_types.specs.declared.op.Op.{Op}
use Rattle.bn_types.specs.declared.op.Op.TheVariants as op
use Rattle.bn_types.specs.declared.reg.Reg.{Reg}
use Rattle.bn_types.specs.declared.regs.Regs.{Regs}
use Rattle.bn_types.specs.declared.shift_op.ShiftOp.{ShiftOp}
use Rattle.bn_types.specs.declared.shift_op.ShiftOp.TheVariants.{Left, Right, RightSigned}
use Rattle.bn_types.specs.declared.width.Width.{Width}
use Rattle.bn_types.specs.declared.width.Width.TheVariants.{B1, B2, B4, B8}
use Rattle.bn_types.specs.declared.word_op.WordOp.{WordOp}
use Rattle.bn_types.specs.declared.word_op.WordOp.TheVariants as word_op
use Rattle.bn_model.specs.Acting.{act_of, branch_if, difference_64, holds, immediate_value}
use Rattle.bn_model.specs.Acting.{jump_if, load_value, operand, plus_immediate, register}
use Rattle.bn_model.specs.Acting.{register_value, shift_value, sum_64, without_bit_0}
use Rattle.bn_model.specs.Acting.{word_shift_value, word_value}
use Rattle.bn_model.specs.InsnRanges.{IsInRange, IsOperand}
use Rattle.bn_model.specs.Soundness.{AreRegisters}
use Rattle.bn_model.specs.TwosComplement.{in_64_bits, sign_extension, signed_of}
use Rattle.bn_model.proofs.RegisterLemmas.{any-register}

-- ---- signed numbers in 64 bits

small-negative : (k : ℕ) → 2 ^ 64 - suc k < 2 ^ 64
small-negative k = omega arith

small-sel : (b : Bool) (n k : ℕ) → n < 2 ^ 64 → in_64_bits (sel b (pos n) (negsuc k)) < 2 ^ 64
small-sel true n k small = small
small-sel false n k small = small-negative k

small-shr : (z : ℤ) (k : ℕ) → in_64_bits z < 2 ^ 64 → in_64_bits (int_shr z k) < 2 ^ 64
small-shr (pos n) k small = let less = shr_le n k in omega arith
small-shr (negsuc n) k small = small-negative (n / 2 ^ k)

-- an immediate below 2^64
small-imm : (m : ℕ) → m < 2 ^ 64 → (z : ℤ) → z <ℤ pos m → in_64_bits z < 2 ^ 64
small-imm m most (pos n) below = omega (arith, ints)
small-imm m most (negsuc n) below = small-negative n

small-pick : (b : Bool) (k n : ℕ) → n < 2 ^ 64 → in_64_bits (sel b (negsuc k) (pos n)) < 2 ^ 64
small-pick true k n small = small-negative k
small-pick false k n small = small

-- a number of so many bits, as a signed one
small-two : (b : Bool) (n k : ℕ) → n < 2 ^ 64
    → in_64_bits (cond b (pos n) (pos n -ℤ pos (suc k))) < 2 ^ 64
small-two true n k small = small
small-two false n k small = small-pick (nat_lt n (suc k)) (suc k - suc n) (n - suc k) (omega arith)

small-signed : (n : ℕ) → n < 2 ^ 64 → in_64_bits (signed_of 64 n) < 2 ^ 64
small-signed n small = small-two (nat_lt n (2 ^ 63)) n (2 ^ 64 - 1) small

small-low-32 : (n : ℕ) → sign_extension 32 n < 2 ^ 64
small-low-32 n = small-two (nat_lt (n % 2 ^ 32) (2 ^ 31)) (n % 2 ^ 32) (2 ^ 32 - 1) (omega arith)

small-extended : (width : Width) (signed : Bool) (n : ℕ) → load_value width signed n < 2 ^ 64
small-extended B1 true n =
    small-two (nat_lt (n % 2 ^ 8) (2 ^ 7)) (n % 2 ^ 8) (2 ^ 8 - 1) (omega arith)
small-extended B2 true n =
    small-two (nat_lt (n % 2 ^ 16) (2 ^ 15)) (n % 2 ^ 16) (2 ^ 16 - 1) (omega arith)
small-extended B4 true n = small-low-32 n
small-extended B8 true n =
    small-two (nat_lt (n % 2 ^ 64) (2 ^ 63)) (n % 2 ^ 64) (2 ^ 64 - 1) (omega arith)
small-extended B1 false n = omega arith
small-extended B2 false n = omega arith
small-extended B4 false n = omega arith
small-extended B8 false n = omega arith

pub load-small : (width : Width) (signed : Bool) (n : ℕ) → load_value width signed n < 2 ^ 64
load-small = small-extended

-- ---- arithmetic

sum-small : (a b : ℕ) → sum_64 a b < 2 ^ 64
sum-small a b = omega arith

one-small : (b : Bool) → from_bool b < 2 ^ 64
one-small true = omega arith
one-small false = omega arith

shifted-small : (o : ShiftOp) (a k : ℕ) → a < 2 ^ 64 → shift_value o a k < 2 ^ 64
shifted-small Left a k small = mod_below (a * 2 ^ k) (2 ^ 64) (omega arith)
shifted-small Right a k small = let less = shr_le a k in omega arith
shifted-small RightSigned a k small = small-shr (signed_of 64 a) k (small-signed a small)

word-shifted-small : (o : ShiftOp) (a k : ℕ) → word_shift_value o a k < 2 ^ 64
word-shifted-small Left a k = small-low-32 (a * 2 ^ k)
word-shifted-small Right a k = small-low-32 (a % 2 ^ 32 / 2 ^ k)
word-shifted-small RightSigned a k = small-shr (signed_of 32 (a % 2 ^ 32)) k (small-low-32 a)

immediate-small : (o : ImmOp) (a b : ℕ) → a < 2 ^ 64 → b < 2 ^ 64 → immediate_value o a b < 2 ^ 64
immediate-small imm_op.Add a b f g = sum-small a b
immediate-small imm_op.Slt a b f g = one-small (int_lt (signed_of 64 a) (signed_of 64 b))
immediate-small imm_op.Sltu a b f g = one-small (nat_lt a b)
immediate-small imm_op.Xor a b f g = xor_lt 64 a b f g
immediate-small imm_op.Or a b f g = or_lt 64 a b f g
immediate-small imm_op.And a b f g = let less = and_le_r a b in omega arith

register-value-small : (o : Op) (a b : ℕ) → a < 2 ^ 64 → b < 2 ^ 64 → register_value o a b < 2 ^ 64
register-value-small op.Add a b f g = sum-small a b
register-value-small op.Sub a b f g = mod_below (a + (2 ^ 64 - b)) (2 ^ 64) (omega arith)
register-value-small op.Sll a b f g = shifted-small Left a (b % 2 ^ 6) f
register-value-small op.Slt a b f g = one-small (int_lt (signed_of 64 a) (signed_of 64 b))
register-value-small op.Sltu a b f g = one-small (nat_lt a b)
register-value-small op.Xor a b f g = xor_lt 64 a b f g
register-value-small op.Srl a b f g = shifted-small Right a (b % 2 ^ 6) f
register-value-small op.Sra a b f g = shifted-small RightSigned a (b % 2 ^ 6) f
register-value-small op.Or a b f g = or_lt 64 a b f g
register-value-small op.And a b f g = let less = and_le_r a b in omega arith

word-small : (o : WordOp) (a b : ℕ) → word_value o a b < 2 ^ 64
word-small word_op.Add a b = small-low-32 (sum_64 a b)
word-small word_op.Sub a b = small-low-32 (difference_64 a b)
word-small word_op.Sll a b = word-shifted-small Left a (b % 2 ^ 5)
word-small word_op.Srl a b = word-shifted-small Right a (b % 2 ^ 5)
word-small word_op.Sra a b = word-shifted-small RightSigned a (b % 2 ^ 5)

-- ---- acts

unfoldable pub HasSmallNumbers : Act → Type 0
HasSmallNumbers (act.Set rd value) = value < 2 ^ 64
HasSmallNumbers (act.Jump target rd link) = (target < 2 ^ 64) × (link < 2 ^ 64)
HasSmallNumbers (act.LoadAt va width signed rd) = va < 2 ^ 64
HasSmallNumbers (act.StoreAt va width value) = va < 2 ^ 64
HasSmallNumbers (act.Csr o number operand reads writes rd) = operand < 2 ^ 64
HasSmallNumbers (act.Trap cause value) = (cause.0 < 2 ^ 64) × (value < 2 ^ 64)
HasSmallNumbers other = Unit {0}

jump-small : (b : Bool) (target : ℕ) (rd : Reg) (link : ℕ) → target < 2 ^ 64 → link < 2 ^ 64
    → HasSmallNumbers (jump_if b target rd link)
unfolding HasSmallNumbers
jump-small true target rd link f g = (f, g)
jump-small false target rd link f g = (omega arith, f)

branch-small : (b : Bool) (target pc : ℕ) → target < 2 ^ 64
    → HasSmallNumbers (branch_if b target pc)
unfolding HasSmallNumbers
branch-small true target pc f =
    jump-small (target % 4 == 0) target (record { 0 = 0 }) (sum_64 pc 4) f (sum-small pc 4)
branch-small false target pc f = tt

operand-small : (from : CsrFrom) (regs : Regs) → AreRegisters regs → IsOperand from
    → operand from regs < 2 ^ 64
operand-small (Register r) regs a range = any-register regs a r.0
operand-small (Number n) regs a range = omega (arith, range)

pub insn-small : (i : Insn) (regs : Regs) (pc : ℕ) → IsInRange i → AreRegisters regs
    → HasSmallNumbers (act_of i regs pc)
unfolding HasSmallNumbers act_of
insn-small (Lui rd imm) regs pc range a = small-imm (2 ^ 31) (omega arith) imm range.1.1
insn-small (Auipc rd imm) regs pc range a = sum-small pc (in_64_bits imm)
insn-small (Jal rd offset) regs pc range a =
    jump-small (plus_immediate pc offset % 4 == 0) (plus_immediate pc offset) rd (sum_64 pc 4)
    (sum-small pc (in_64_bits offset)) (sum-small pc 4)
insn-small (Jalr rd base offset) regs pc range a =
    let sum : ℕ = plus_immediate (register regs base) offset in
    let small : sum < 2 ^ 64 = sum-small (register regs base) (in_64_bits offset) in
    jump-small (without_bit_0 sum % 4 == 0) (without_bit_0 sum) rd (sum_64 pc 4) (omega arith)
    (sum-small pc 4)
insn-small (Branch test left right offset) regs pc range a =
    branch-small (holds test (register regs left) (register regs right)) (plus_immediate pc offset)
    pc (sum-small pc (in_64_bits offset))
insn-small (Load width signed rd base offset) regs pc range a =
    sum-small (register regs base) (in_64_bits offset)
insn-small (Store width base value offset) regs pc range a =
    sum-small (register regs base) (in_64_bits offset)
insn-small (Imm o rd left imm) regs pc range a =
    immediate-small o (register regs left) (in_64_bits imm) (any-register regs a left.0)
    (small-imm (2 ^ 11) (omega arith) imm range.2.1)
insn-small (Shift o rd left amount) regs pc range a =
    shifted-small o (register regs left) amount (any-register regs a left.0)
insn-small (Reg2 o rd left right) regs pc range a =
    register-value-small o (register regs left) (register regs right) (any-register regs a left.0)
    (any-register regs a right.0)
insn-small (AddiW rd left imm) regs pc range a =
    small-low-32 (plus_immediate (register regs left) imm)
insn-small (ShiftW o rd left amount) regs pc range a =
    word-shifted-small o (register regs left) amount
insn-small (Reg2W o rd left right) regs pc range a =
    word-small o (register regs left) (register regs right)
insn-small (Csr o number from rd) regs pc range a = operand-small from regs a range.1
insn-small (Fence high rs1 rd) regs pc range a = tt
insn-small Ecall regs pc range a = tt
insn-small Ebreak regs pc range a = tt
insn-small Sret regs pc range a = tt
insn-small Wfi regs pc range a = tt
insn-small (SfenceVma rs1 rs2) regs pc range a = tt
insn-small (Bastion secure) regs pc range a = tt
