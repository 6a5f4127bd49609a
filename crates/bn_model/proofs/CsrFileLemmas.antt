-- What changes a hart's CSRs keeps their forms: `sepc` and the base of `stvec` are multiples of 4,
-- and the MODE of `satp` is one that is built. A trap goes to a multiple of 4.
use Rattle.std.proofs.Common.{◌≡◌, ℕ, ◌%◌, Bool, true, false, Option, Some, None, arith, refl}
use Rattle.std.specs.Prelude.{IfSome}
use Rattle.bn_types.specs.declared.cause.Cause.{Cause}
use Rattle.bn_types.specs.declared.mode.Mode.{Mode}
use Rattle.bn_types.specs.declared.mode.Mode.TheVariants.{U, S}
use Rattle.bn_model.specs.CsrFile.{
  Csr,
  CsrFile,
  HasCsrForms,
  Sstatus,
  Sie,
  Stvec,
  Sscratch,
  Sepc,
  Scause,
  Stval,
  Sip,
  Satp,
  Cycle,
  Time,
  Instret,
  csr_of,
  csr_write,
  is_satp_mode,
  reset_csrs,
  satp_mode,
  with_csr,
  with_csr_if_known,
  with_satp_if,
  without_low_bits,
}
use Rattle.bn_model.specs.Trapping.{after_software, after_sret, after_trap, code_of, is_interrupt}
use Rattle.bn_model.specs.Trapping.{trap_target, vector}

without_low_bits-mod : (value : ℕ) → without_low_bits value % 4 ≡ 0
without_low_bits-mod value = omega arith

pub HasCsrForms-reset : HasCsrForms reset_csrs
HasCsrForms-reset = record { sepc_aligned = refl; base_aligned = refl; known_mode = refl }

pub HasCsrForms-trap :
    (c : CsrFile) (cause : Cause) (pc value : ℕ) (mode : Mode) →
    HasCsrForms c →
    pc % 4 ≡ 0 →
    HasCsrForms (after_trap c cause pc value mode)
HasCsrForms-trap c cause pc value mode h p = record {
  sepc_aligned = p;
  base_aligned = h.base_aligned;
  known_mode = h.known_mode;
}

pub HasCsrForms-sret : (c : CsrFile) → HasCsrForms c → HasCsrForms (after_sret c)
HasCsrForms-sret c h = record {
  sepc_aligned = h.sepc_aligned;
  base_aligned = h.base_aligned;
  known_mode = h.known_mode;
}

pub HasCsrForms-software : (c : CsrFile) → HasCsrForms c → HasCsrForms (after_software c)
HasCsrForms-software c h = record {
  sepc_aligned = h.sepc_aligned;
  base_aligned = h.base_aligned;
  known_mode = h.known_mode;
}

pub with_satp-forms :
    (b : Bool) (value : ℕ) (c : CsrFile) →
    is_satp_mode (satp_mode value) ≡ b →
    HasCsrForms c →
    HasCsrForms (with_satp_if b value c)
with_satp-forms true value c e h = record {
  sepc_aligned = h.sepc_aligned;
  base_aligned = h.base_aligned;
  known_mode = e;
}
with_satp-forms false value c e h = h

pub with_csr-forms :
    (csr : Csr) (value : ℕ) (c : CsrFile) → HasCsrForms c
    → IfSome (with_csr csr value c) HasCsrForms
with_csr-forms Sstatus value c h = record {
  sepc_aligned = h.sepc_aligned;
  base_aligned = h.base_aligned;
  known_mode = h.known_mode;
}
with_csr-forms Sie value c h = record {
  sepc_aligned = h.sepc_aligned;
  base_aligned = h.base_aligned;
  known_mode = h.known_mode;
}
with_csr-forms Stvec value c h = record {
  sepc_aligned = h.sepc_aligned;
  base_aligned = without_low_bits-mod value;
  known_mode = h.known_mode;
}
with_csr-forms Sscratch value c h = record {
  sepc_aligned = h.sepc_aligned;
  base_aligned = h.base_aligned;
  known_mode = h.known_mode;
}
with_csr-forms Sepc value c h = record {
  sepc_aligned = without_low_bits-mod value;
  base_aligned = h.base_aligned;
  known_mode = h.known_mode;
}
with_csr-forms Scause value c h = record {
  sepc_aligned = h.sepc_aligned;
  base_aligned = h.base_aligned;
  known_mode = h.known_mode;
}
with_csr-forms Stval value c h = record {
  sepc_aligned = h.sepc_aligned;
  base_aligned = h.base_aligned;
  known_mode = h.known_mode;
}
with_csr-forms Sip value c h = record {
  sepc_aligned = h.sepc_aligned;
  base_aligned = h.base_aligned;
  known_mode = h.known_mode;
}
with_csr-forms Satp value c h = with_satp-forms (is_satp_mode (satp_mode value)) value c refl h
with_csr-forms Cycle value c h = tt
with_csr-forms Time value c h = tt
with_csr-forms Instret value c h = tt

known-forms :
    (csr : Option Csr) (value : ℕ) (c : CsrFile) →
    HasCsrForms c →
    IfSome (with_csr_if_known csr value c) HasCsrForms
known-forms None value c h = tt
known-forms (Some csr) value c h = with_csr-forms csr value c h

pub HasCsrForms-write :
    (c : CsrFile) (number value : ℕ) (mode : Mode) →
    HasCsrForms c →
    IfSome (csr_write c number value mode) HasCsrForms
HasCsrForms-write c number value U h = tt
HasCsrForms-write c number value S h = known-forms (csr_of number) value c h

vector-aligned :
    (vectored interrupt : Bool) (base code : ℕ) → base % 4 ≡ 0
    → vector vectored interrupt base code % 4 ≡ 0
vector-aligned true true base code h = omega arith
vector-aligned true false base code h = h
vector-aligned false interrupt base code h = h

pub trap_target-aligned : (c : CsrFile) (cause : Cause) → HasCsrForms c
    → trap_target c cause % 4 ≡ 0
trap_target-aligned c cause h =
    vector-aligned c.stvec_vectored (is_interrupt cause) c.stvec_base (code_of cause) h.base_aligned
