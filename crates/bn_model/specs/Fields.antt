-- The fields of an instruction word and its five immediates (Unprivileged ISA, "Base Instruction
-- Formats" and "Immediate Encoding Variants").
use Rattle.std.specs.Prelude.{ℕ, ◌+◌, ◌-◌, ◌*◌, ◌/◌, ◌%◌, ◌^◌, ℤ}
use Rattle.bn_types.specs.declared.reg.Reg.{Reg}
use Rattle.bn_model.specs.TwosComplement.{signed_of}

-- bits high to low of a word, as a number
abbrev pub bits : ℕ → ℕ → ℕ → ℕ
bits high low word = word / 2 ^ low % 2 ^ (high - low + 1)

-- the register whose number stands in the five bits from low on
abbrev pub register : ℕ → ℕ → Reg
register low word = record { 0 = bits (low + 4) low word }

unfoldable pub opcode : ℕ → ℕ
opcode word = bits 6 0 word

unfoldable pub rd : ℕ → Reg
rd word = register 7 word

unfoldable pub funct3 : ℕ → ℕ
funct3 word = bits 14 12 word

unfoldable pub rs1 : ℕ → Reg
rs1 word = register 15 word

unfoldable pub rs2 : ℕ → Reg
rs2 word = register 20 word

unfoldable pub funct7 : ℕ → ℕ
funct7 word = bits 31 25 word

-- bits 31:26, which tell the shifts of 64 bits apart (RV64I, "Integer Register-Immediate
-- Instructions")
unfoldable pub funct6 : ℕ → ℕ
funct6 word = bits 31 26 word

-- how far a shift by an immediate goes, in 64 and in 32 bits
unfoldable pub shamt6 : ℕ → ℕ
shamt6 word = bits 25 20 word

unfoldable pub shamt5 : ℕ → ℕ
shamt5 word = bits 24 20 word

-- bits 31:20 as a number without sign: the CSR's (Zicsr), or fm, pred and succ of FENCE
unfoldable pub funct12 : ℕ → ℕ
funct12 word = bits 31 20 word

-- imm[11:0]
unfoldable pub i_immediate : ℕ → ℤ
i_immediate word = signed_of 12 (bits 31 20 word)

-- imm[11:5], imm[4:0]
unfoldable pub s_immediate : ℕ → ℤ
s_immediate word = signed_of 12 (bits 31 25 word * 2 ^ 5 + bits 11 7 word)

-- imm[12], imm[11], imm[10:5], imm[4:1], where imm[0] is 0
unfoldable pub b_immediate : ℕ → ℤ
b_immediate word =
    signed_of 13
    (bits 31 31 word * 2 ^ 12 +
    bits 7 7 word * 2 ^ 11 +
    bits 30 25 word * 2 ^ 5 +
    bits 11 8 word * 2 ^ 1)

-- imm[31:12], where imm[11:0] are 0
unfoldable pub u_immediate : ℕ → ℤ
u_immediate word = signed_of 32 (bits 31 12 word * 2 ^ 12)

-- imm[20], imm[19:12], imm[11], imm[10:1], where imm[0] is 0
unfoldable pub j_immediate : ℕ → ℤ
j_immediate word =
    signed_of 21
    (bits 31 31 word * 2 ^ 20 +
    bits 19 12 word * 2 ^ 12 +
    bits 20 20 word * 2 ^ 11 +
    bits 30 21 word * 2 ^ 1)
