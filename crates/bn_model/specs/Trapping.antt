-- Traps and interrupts of a hart (Privileged ISA, "Supervisor CSRs" and "Trap-Return
-- Instructions").
use Rattle.std.specs.Prelude.{
  ℕ,
  ◌+◌,
  ◌*◌,
  ◌/◌,
  ◌%◌,
  ◌^◌,
  Bool,
  true,
  false,
  ◌==◌,
  ◌&&◌,
  Option,
  Some,
  None,
}
use Rattle.bn_types.specs.declared.cause.Cause.{Cause}
use Rattle.bn_types.specs.declared.mode.Mode.{Mode}
use Rattle.bn_types.specs.declared.mode.Mode.TheVariants.{U, S}
use Rattle.bn_model.specs.declared.wires.Wires.{Wires}
use Rattle.bn_model.specs.Causes.{
  supervisor_external_interrupt,
  supervisor_software_interrupt,
  supervisor_timer_interrupt,
}
use Rattle.bn_model.specs.CsrFile.{CsrFile}

-- ---- the supervisor's trap entry

-- bit 63 of a cause tells an interrupt; the rest is its code
abbrev pub is_interrupt : Cause → Bool
is_interrupt cause = cause.0 / 2 ^ 63 == 1

abbrev pub code_of : Cause → ℕ
code_of cause = cause.0 % 2 ^ 63

-- an interrupt goes to its place in a vector, an exception to the base in both modes of `stvec`
abbrev pub vector : (vectored interrupt : Bool) → (base code : ℕ) → ℕ
vector true true base code = (base + 4 * code) % 2 ^ 64
vector true false base code = base
vector false interrupt base code = base

-- where a trap goes on
abbrev pub trap_target : CsrFile → Cause → ℕ
trap_target c cause = vector c.stvec_vectored (is_interrupt cause) c.stvec_base (code_of cause)

-- the CSRs after a trap from a mode at pc; the hart is then in mode S
abbrev pub after_trap : CsrFile → Cause → (pc value : ℕ) → Mode → CsrFile
after_trap c cause pc value mode = record c {
  spie = c.sie;
  sie = false;
  spp = mode;
  sepc = pc;
  scause = cause.0;
  stval = value;
}

-- the CSRs after SRET, which goes on at `sepc` in the mode of SPP
abbrev pub after_sret : CsrFile → CsrFile
after_sret c = record c { sie = c.spie; spie = true; spp = U }

-- ---- interrupts

-- external before software, software before timer
abbrev pub first_interrupt : (external software timer : Bool) → Option Cause
first_interrupt true software timer = Some supervisor_external_interrupt
first_interrupt false true timer = Some supervisor_software_interrupt
first_interrupt false false true = Some supervisor_timer_interrupt
first_interrupt false false false = None

-- interrupts are taken in mode U always, in mode S where SIE is set
abbrev pub takes_interrupts : Mode → (sie : Bool) → Bool
takes_interrupts U sie = true
takes_interrupts S sie = sie

abbrev pub interrupt_if : (takes : Bool) → CsrFile → Wires → Option Cause
interrupt_if false c wires = None
interrupt_if true c wires =
    first_interrupt (wires.external && c.seie) (c.ssip && c.ssie) (wires.timer && c.stie)

-- the interrupt that a hart in this mode takes, of those that are pending and enabled
abbrev pub interrupt_taken : CsrFile → Mode → Wires → Option Cause
interrupt_taken c mode wires = interrupt_if (takes_interrupts mode c.sie) c wires

-- a software interrupt comes
abbrev pub after_software : CsrFile → CsrFile
after_software c = record c { ssip = true }
