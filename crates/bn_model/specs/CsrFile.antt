-- The control and status registers of a hart, their reads and writes (Privileged ISA,
-- "Supervisor-Level ISA"; Unprivileged ISA, "Zicsr" and "Zicntr").
use Rattle.std.specs.Prelude.{
  ◌≡◌,
  ℕ,
  ◌+◌,
  ◌-◌,
  ◌*◌,
  ◌/◌,
  ◌%◌,
  ◌^◌,
  Bool,
  true,
  false,
  if◌then◌else◌,
  ◌==◌,
  ◌||◌,
  Option,
  Some,
  None,
  bit_and,
  bit_or,
}
use Rattle.std.specs.Int.{bit_not, w64}
use Rattle.bn_types.specs.declared.csr_op.CsrOp.{CsrOp}
use Rattle.bn_types.specs.declared.csr_op.CsrOp.TheVariants.{Write, Set, Clear}
use Rattle.bn_types.specs.declared.mode.Mode.{Mode}
use Rattle.bn_types.specs.declared.mode.Mode.TheVariants.{U, S}
use Rattle.bn_model.specs.declared.wires.Wires.{Wires}
use Rattle.bn_model.specs.Bits.{flag, is_set}

-- what a hart's CSRs keep, each field by its name in the manual
pub record CsrFile : Type 0 where
  -- of `sstatus`
  pub sie : Bool
  pub spie : Bool
  pub spp : Mode
  pub sum : Bool
  pub mxr : Bool
  -- of `sie`
  pub ssie : Bool
  pub stie : Bool
  pub seie : Bool
  -- of `stvec`: BASE as an address, and whether MODE is 1
  pub stvec_base : ℕ
  pub stvec_vectored : Bool
  pub sscratch : ℕ
  pub sepc : ℕ
  pub scause : ℕ
  pub stval : ℕ
  -- of `sip`; the other two interrupts are wires
  pub ssip : Bool
  pub satp : ℕ

-- MODE of `satp`, bits 63:60
abbrev pub satp_mode : ℕ → ℕ
satp_mode satp = satp / 2 ^ 60

-- Bare or Sv39
abbrev pub is_satp_mode : ℕ → Bool
is_satp_mode mode = (mode == 0) || (mode == 8)

abbrev pub HasMode : ℕ → Type 0
HasMode satp = is_satp_mode (satp_mode satp) ≡ true

-- `sepc` and the base of `stvec` are multiples of 4, and the MODE of `satp` is one that is built
pub record HasCsrForms (c : CsrFile) : Type 0 where
  pub sepc_aligned : c.sepc % 4 ≡ 0
  pub base_aligned : c.stvec_base % 4 ≡ 0
  pub known_mode : HasMode c.satp

-- all CSRs at reset
abbrev pub reset_csrs : CsrFile
reset_csrs = record {
  sie = false;
  spie = false;
  spp = U;
  sum = false;
  mxr = false;
  ssie = false;
  stie = false;
  seie = false;
  stvec_base = 0;
  stvec_vectored = false;
  sscratch = 0;
  sepc = 0;
  scause = 0;
  stval = 0;
  ssip = false;
  satp = 0;
}

-- ---- the numbers of the CSRs

pub data Csr : Type 0 where
  Sstatus : Csr
  Sie : Csr
  Stvec : Csr
  Sscratch : Csr
  Sepc : Csr
  Scause : Csr
  Stval : Csr
  Sip : Csr
  Satp : Csr
  Cycle : Csr
  Time : Csr
  Instret : Csr

-- the CSR of a number; there are no others
abbrev pub csr_of : ℕ → Option Csr
csr_of n =
    if n == 0x100
    then Some Sstatus
    else if n == 0x104
    then Some Sie
    else if n == 0x105
    then Some Stvec
    else if n == 0x140
    then Some Sscratch
    else if n == 0x141
    then Some Sepc
    else if n == 0x142
    then Some Scause
    else if n == 0x143
    then Some Stval
    else if n == 0x144
    then Some Sip
    else if n == 0x180
    then Some Satp
    else if n == 0xC00
    then Some Cycle
    else if n == 0xC01
    then Some Time
    else if n == 0xC02
    then Some Instret
    else None

-- ---- reads

-- the counters count the clock and the instructions that were completed
pub record Counters : Type 0 where
  pub clock : ℕ
  pub retired : ℕ

-- the mode as a bit, as SPP of `sstatus` has it
abbrev pub is_supervisor : Mode → Bool
is_supervisor U = false
is_supervisor S = true

abbrev pub mode_of : (is_supervisor : Bool) → Mode
mode_of false = U
mode_of true = S

-- `sstatus`; UXL, bits 33:32, is 2 for 64 bits
abbrev pub sstatus_value : CsrFile → ℕ
sstatus_value c =
    flag 1 c.sie +
    flag 5 c.spie +
    flag 8 (is_supervisor c.spp) +
    flag 18 c.sum +
    flag 19 c.mxr +
    2 * 2 ^ 32

-- three interrupts in their places: software 1, timer 5, external 9
abbrev pub interrupt_bits : (software timer external : Bool) → ℕ
interrupt_bits software timer external = flag 1 software + flag 5 timer + flag 9 external

-- what a CSR reads, where `sip` shows the wires; counters read modulo 2^64
abbrev pub csr_value : Csr → CsrFile → Wires → Counters → ℕ
csr_value Sstatus c wires counters = sstatus_value c
csr_value Sie c wires counters = interrupt_bits c.ssie c.stie c.seie
csr_value Stvec c wires counters = c.stvec_base + flag 0 c.stvec_vectored
csr_value Sscratch c wires counters = c.sscratch
csr_value Sepc c wires counters = c.sepc
csr_value Scause c wires counters = c.scause
csr_value Stval c wires counters = c.stval
csr_value Sip c wires counters = interrupt_bits c.ssip wires.timer wires.external
csr_value Satp c wires counters = c.satp
csr_value Cycle c wires counters = counters.clock % 2 ^ 64
csr_value Time c wires counters = counters.clock % 2 ^ 64
csr_value Instret c wires counters = counters.retired % 2 ^ 64

abbrev pub value_if_known : Option Csr → CsrFile → Wires → Counters → Option ℕ
value_if_known None c wires counters = None
value_if_known (Some csr) c wires counters = Some (csr_value csr c wires counters)

-- what the CSR of a number reads; None where it is illegal, as all CSRs are in mode U
abbrev pub csr_read : CsrFile → (number : ℕ) → Mode → Wires → Counters → Option ℕ
csr_read c number U wires counters = None
csr_read c number S wires counters = value_if_known (csr_of number) c wires counters

-- ---- writes

-- an address whose bits 1:0 read 0
abbrev pub without_low_bits : ℕ → ℕ
without_low_bits value = value - value % 4

-- a write of a MODE that isn't built has no effect on `satp` at all
abbrev pub with_satp_if : (is_mode : Bool) → ℕ → CsrFile → CsrFile
with_satp_if true value c = record c { satp = value }
with_satp_if false value c = c

-- the CSRs after a write to one; None for a counter
abbrev pub with_csr : Csr → ℕ → CsrFile → Option CsrFile
with_csr Sstatus value c = Some (
    record c {
      sie = is_set value 1;
      spie = is_set value 5;
      spp = mode_of (is_set value 8);
      sum = is_set value 18;
      mxr = is_set value 19;
    }
    )
with_csr Sie value c = Some (
    record c { ssie = is_set value 1; stie = is_set value 5; seie = is_set value 9 }
    )
with_csr Stvec value c = Some (
    record c { stvec_base = without_low_bits value; stvec_vectored = is_set value 0 }
    )
with_csr Sscratch value c = Some (record c { sscratch = value })
with_csr Sepc value c = Some (record c { sepc = without_low_bits value })
with_csr Scause value c = Some (record c { scause = value })
with_csr Stval value c = Some (record c { stval = value })
with_csr Sip value c = Some (record c { ssip = is_set value 1 })
with_csr Satp value c = Some (with_satp_if (is_satp_mode (satp_mode value)) value c)
with_csr Cycle value c = None
with_csr Time value c = None
with_csr Instret value c = None

abbrev pub with_csr_if_known : Option Csr → ℕ → CsrFile → Option CsrFile
with_csr_if_known None value c = None
with_csr_if_known (Some csr) value c = with_csr csr value c

-- the CSRs after a write to the CSR of a number; None where it is illegal
abbrev pub csr_write : CsrFile → (number value : ℕ) → Mode → Option CsrFile
csr_write c number value U = None
csr_write c number value S = with_csr_if_known (csr_of number) value c

-- ---- CSR instructions

-- what CSRRW, CSRRS and CSRRC write over the old value
abbrev pub new_value : CsrOp → (old operand : ℕ) → ℕ
new_value Write old operand = operand
new_value Set old operand = bit_or old operand
new_value Clear old operand = bit_and old (bit_not w64 operand)

-- what a CSR instruction leaves: the value for rd, and the CSRs
pub record CsrDone : Type 0 where
  pub value : ℕ
  pub csrs : CsrFile

-- the old value, where it is read; an instruction that doesn't read has rd x0, and gives 0
abbrev pub old_value : (reads : Bool) → CsrFile → (number : ℕ) → Mode → Wires → Counters → Option ℕ
old_value true c number mode wires counters = csr_read c number mode wires counters
old_value false c number mode wires counters = Some 0

abbrev pub done_if_legal : (old : ℕ) → Option CsrFile → Option CsrDone
done_if_legal old None = None
done_if_legal old (Some csrs) = Some (record { value = old; csrs = csrs })

abbrev pub done_by_write :
    (writes : Bool) → CsrOp → (number operand : ℕ) → Mode → CsrFile → (old : ℕ) → Option CsrDone
done_by_write false op number operand mode c old = Some (record { value = old; csrs = c })
done_by_write true op number operand mode c old =
    done_if_legal old (csr_write c number (new_value op old operand) mode)

abbrev pub done_if_read :
    Option ℕ → (writes : Bool) → CsrOp → (number operand : ℕ) → Mode → CsrFile → Option CsrDone
done_if_read None writes op number operand mode c = None
done_if_read (Some old) writes op number operand mode c =
    done_by_write writes op number operand mode c old

-- a CSR instruction; None, and nothing is changed, where its read or its write is illegal
abbrev pub csr_done :
    CsrFile →
    CsrOp →
    (number operand : ℕ) →
    (reads writes : Bool) →
    Mode →
    Wires →
    Counters →
    Option CsrDone
csr_done c op number operand reads writes mode wires counters =
    done_if_read (old_value reads c number mode wires counters) writes op number operand mode c
