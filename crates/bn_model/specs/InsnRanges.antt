-- The ranges of an instruction's fields.
use Rattle.std.specs.Prelude.{
  ◌≡◌,
  ℕ,
  ◌-◌,
  ◌%◌,
  ◌^◌,
  ◌<◌,
  Bool,
  true,
  ℤ,
  pos,
  neg_ℤ,
  ◌≤ℤ◌,
  ◌<ℤ◌,
  unsigned_abs,
}
use Rattle.bn_types.specs.declared.act.Act.{Act}
use Rattle.bn_types.specs.declared.act.Act.TheVariants as act
use Rattle.bn_types.specs.declared.csr_from.CsrFrom.{CsrFrom}
use Rattle.bn_types.specs.declared.csr_from.CsrFrom.TheVariants.{Register, Number}
use Rattle.bn_types.specs.declared.insn.Insn.{Insn}
use Rattle.bn_types.specs.declared.insn.Insn.TheVariants.{
  Lui,
  Auipc,
  Jal,
  Jalr,
  Branch,
  Load,
  Store,
  Imm,
  Shift,
  Reg2,
  AddiW,
  ShiftW,
  Reg2W,
  Fence,
  Csr,
  Ecall,
  Ebreak,
  Sret,
  Wfi,
  SfenceVma,
  Bastion,
}
use Rattle.bn_types.specs.declared.reg.Reg.{Reg}
use Rattle.bn_types.specs.declared.secure.Secure.{Secure}
use Rattle.bn_types.specs.declared.secure.Secure.TheVariants.{
  Launch,
  Call,
  Ret,
  Evict,
  Ident,
  Caller,
  Offerer,
  Sget,
  Sset,
}
use Rattle.bn_types.specs.declared.width.Width.{Width}
use Rattle.bn_types.specs.declared.width.Width.TheVariants.{B1, B2, B4, B8}

-- one of x0 to x31
abbrev pub IsRegister : Reg → Type 0
IsRegister register = register.0 < 32

-- z has a two's complement of that many bits
abbrev pub FitsBits : ℕ → ℤ → Type 0
FitsBits count z = (neg_ℤ (pos (2 ^ (count - 1))) ≤ℤ z) × (z <ℤ pos (2 ^ (count - 1)))

abbrev pub IsMultipleOf : ℕ → ℤ → Type 0
IsMultipleOf n z = unsigned_abs z % n ≡ 0

-- there is no load of 8 bytes without sign
abbrev pub IsLoad : Width → Bool → Type 0
IsLoad B1 signed = Unit {0}
IsLoad B2 signed = Unit {0}
IsLoad B4 signed = Unit {0}
IsLoad B8 signed = signed ≡ true

abbrev pub IsOperand : CsrFrom → Type 0
IsOperand (Register register) = IsRegister register
IsOperand (Number n) = n < 32

abbrev pub IsSecureInRange : Secure → Type 0
IsSecureInRange (Launch rd at) = IsRegister rd × IsRegister at
IsSecureInRange (Call rd id entry) = IsRegister rd × IsRegister id × IsRegister entry
IsSecureInRange Ret = Unit {0}
IsSecureInRange (Evict rd id) = IsRegister rd × IsRegister id
IsSecureInRange (Ident rd id word) = IsRegister rd × IsRegister id × IsRegister word
IsSecureInRange (Caller rd) = IsRegister rd
IsSecureInRange (Offerer rd at) = IsRegister rd × IsRegister at
IsSecureInRange (Sget rd index) = IsRegister rd × IsRegister index
IsSecureInRange (Sset rd index value) = IsRegister rd × IsRegister index × IsRegister value

-- each field can stand in a word
abbrev pub IsInRange : Insn → Type 0
IsInRange (Lui rd imm) = IsRegister rd × FitsBits 32 imm × IsMultipleOf 4096 imm
IsInRange (Auipc rd imm) = IsRegister rd × FitsBits 32 imm × IsMultipleOf 4096 imm
IsInRange (Jal rd offset) = IsRegister rd × FitsBits 21 offset × IsMultipleOf 2 offset
IsInRange (Jalr rd base offset) = IsRegister rd × IsRegister base × FitsBits 12 offset
IsInRange (Branch test left right offset) =
    IsRegister left × IsRegister right × FitsBits 13 offset × IsMultipleOf 2 offset
IsInRange (Load width signed rd base offset) =
    IsLoad width signed × IsRegister rd × IsRegister base × FitsBits 12 offset
IsInRange (Store width base value offset) = IsRegister base × IsRegister value × FitsBits 12 offset
IsInRange (Imm op rd left imm) = IsRegister rd × IsRegister left × FitsBits 12 imm
IsInRange (Shift op rd left amount) = IsRegister rd × IsRegister left × (amount < 64)
IsInRange (Reg2 op rd left right) = IsRegister rd × IsRegister left × IsRegister right
IsInRange (AddiW rd left imm) = IsRegister rd × IsRegister left × FitsBits 12 imm
IsInRange (ShiftW op rd left amount) = IsRegister rd × IsRegister left × (amount < 32)
IsInRange (Reg2W op rd left right) = IsRegister rd × IsRegister left × IsRegister right
IsInRange (Fence high rs1 rd) = (high < 4096) × IsRegister rs1 × IsRegister rd
IsInRange (Csr op number from rd) = (number < 4096) × IsOperand from × IsRegister rd
IsInRange Ecall = Unit {0}
IsInRange Ebreak = Unit {0}
IsInRange Sret = Unit {0}
IsInRange Wfi = Unit {0}
IsInRange (SfenceVma rs1 rs2) = IsRegister rs1 × IsRegister rs2
IsInRange (Bastion secure) = IsSecureInRange secure

-- the registers and numbers of what an instruction asks for
abbrev pub IsActInRange : Act → Type 0
IsActInRange (act.Set rd value) = IsRegister rd
IsActInRange (act.Jump target rd link) = IsRegister rd
IsActInRange act.Next = Unit {0}
IsActInRange (act.LoadAt va width signed rd) = IsRegister rd
IsActInRange (act.StoreAt va width value) = Unit {0}
IsActInRange (act.Csr op number operand reads writes rd) = (number < 4096) × IsRegister rd
IsActInRange act.Ecall = Unit {0}
IsActInRange act.Ebreak = Unit {0}
IsActInRange act.Sret = Unit {0}
IsActInRange act.Wfi = Unit {0}
IsActInRange act.SfenceVma = Unit {0}
IsActInRange (act.Bastion secure) = IsSecureInRange secure
IsActInRange (act.Trap cause value) = Unit {0}
