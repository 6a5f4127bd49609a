-- Registers, addresses and CSRs keep their shapes and ranges.
use Rattle.std.proofs.Common.{◌≡◌, ℕ, ◌+◌, ◌-◌, ◌%◌, ◌^◌, ◌<◌, ◌≤◌, ◌==◌, ◌⊎◌, Bool}
use Rattle.std.proofs.Common.{true, false, length, List, ◌++◌, drop, get_or, replicate}
use Rattle.std.proofs.Common.{set, take, inl, inr, refl, sym, subst, ◌∙◌, arith, length-append}
use Rattle.std.proofs.Common.{length-drop, length-set}
use Rattle.std.proofs.lemmas.Bool.{cases_lt, eqb-false}
use Rattle.std.proofs.lemmas.List.{get_or-set_other, get_or_past, length-replicate, length-take-le}
use Rattle.std.proofs.lemmas.List.Elements.{All-append, All-drop, All-get_or, All-replicate}
use Rattle.std.proofs.lemmas.List.Elements.{All-set, All-take}
use Rattle.bn_types.specs.Registers.{zero_frame, zero_registers}
use Rattle.bn_types.specs.declared.cause.Cause.{Cause}
use Rattle.bn_types.specs.declared.mode.Mode.{Mode}
use Rattle.bn_types.specs.declared.reg.Reg.{Reg}
use Rattle.bn_types.specs.declared.regs.Regs.{Regs}
use Rattle.bn_model.specs.CsrFile.{CsrFile, reset_csrs}
use Rattle.bn_model.specs.Soundness.{AreCsrs, AreRegisters, IsFrame, IsPc}
use Rattle.bn_model.specs.State.{answer_registers, argument_registers, next_pc, one_more}
use Rattle.bn_model.specs.State.{register_set_if, with_register}
use Rattle.bn_model.specs.Trapping.{after_software, after_sret, after_trap, code_of, is_interrupt}
use Rattle.bn_model.specs.Trapping.{trap_target, vector}
use Rattle.bn_model.proofs.CsrFileLemmas.{HasCsrForms-reset, HasCsrForms-software, HasCsrForms-sret}
use Rattle.bn_model.proofs.CsrFileLemmas.{HasCsrForms-trap, trap_target-aligned}

abbrev pub IsWord : ℕ → Type 0
IsWord value = value < 2 ^ 64

-- ---- registers

set-if : (b : Bool) (regs : Regs) (rd : Reg) (value : ℕ) → (rd.0 == 0) ≡ b → value < 2 ^ 64
    → AreRegisters regs → AreRegisters (register_set_if b regs rd value)
set-if true regs rd value e small r = r
set-if false regs rd value e small r = record {
  count = length-set regs.x rd.0 value ∙ r.count;
  zero = get_or-set_other regs.x rd.0 0 value 0 (λ is. eqb-false rd.0 0 e (sym is)) ∙ r.zero;
  small = All-set IsWord regs.x rd.0 value small r.small;
}

pub AreRegisters-set : (regs : Regs) (rd : Reg) (value : ℕ) → value < 2 ^ 64 → AreRegisters regs
    → AreRegisters (with_register regs rd value)
AreRegisters-set regs rd value small r = set-if (rd.0 == 0) regs rd value refl small r

pub AreRegisters-zero : AreRegisters zero_registers
AreRegisters-zero = record {
  count = length-replicate {A = ℕ} 32 0;
  zero = refl;
  small = All-replicate IsWord 32 0 (omega arith);
}

argument-count : (xs ys zs : List ℕ) → length xs ≡ 10 → length ys ≡ 32 → length zs ≡ 14
    → length (xs ++ take 8 (drop 10 ys) ++ zs) ≡ 32
argument-count xs ys zs e f g =
    let one : length (xs ++ take 8 (drop 10 ys) ++ zs) ≡
    length (xs ++ take 8 (drop 10 ys)) + length zs = length-append (xs ++ take 8 (drop 10 ys)) zs in
    let two : length (xs ++ take 8 (drop 10 ys)) ≡ length xs + length (take 8 (drop 10 ys)) =
    length-append xs (take 8 (drop 10 ys)) in
    let three : length (drop 10 ys) ≡ length ys - 10 = length-drop 10 ys in
    let four : length (take 8 (drop 10 ys)) ≡ 8 = length-take-le 8 (drop 10 ys) (omega arith) in
    omega arith

pub AreRegisters-argument : (regs : Regs) → AreRegisters regs
    → AreRegisters (argument_registers regs)
unfolding argument_registers
AreRegisters-argument regs r = record {
  count = argument-count (replicate 10 0) regs.x (replicate 14 0) (length-replicate {A = ℕ} 10 0)
      r.count (length-replicate {A = ℕ} 14 0);
  zero = refl;
  small = All-append IsWord (replicate 10 0 ++ take 8 (drop 10 regs.x)) (replicate 14 0)
      (All-append IsWord (replicate 10 0) (take 8 (drop 10 regs.x))
      (All-replicate IsWord 10 0 (omega arith))
      (All-take IsWord 8 (drop 10 regs.x) (All-drop IsWord 10 regs.x r.small)))
      (All-replicate IsWord 14 0 (omega arith));
}

-- a register holds 64 bits
pub register-small : (regs : Regs) → AreRegisters regs → (i : ℕ) → i < 32
    → get_or regs.x i 0 < 2 ^ 64
register-small regs r i below =
    let count : length regs.x ≡ 32 = r.count in
    All-get_or IsWord regs.x i 0 (omega arith) r.small

-- past the last register nothing is read
pub any-register : (regs : Regs) → AreRegisters regs → (i : ℕ) → get_or regs.x i 0 < 2 ^ 64
any-register regs r i = by_place (cases_lt i (length regs.x))
  where
    by_place : (i < length regs.x) ⊎ (length regs.x ≤ i) → get_or regs.x i 0 < 2 ^ 64
    by_place (inl within) = All-get_or IsWord regs.x i 0 within r.small
    by_place (inr past) = subst IsWord (sym (get_or_past regs.x i 0 past)) (omega arith)

pub AreRegisters-answer : (regs answer : Regs) → AreRegisters regs → AreRegisters answer
    → AreRegisters (answer_registers regs answer)
unfolding answer_registers
AreRegisters-answer regs answer r a =
    let one : ℕ = get_or answer.x 10 0 in
    let two : ℕ = get_or answer.x 11 0 in
    record {
      count = length-set (set regs.x 10 one) 11 two ∙ length-set regs.x 10 one ∙ r.count;
      zero = get_or-set_other (set regs.x 10 one) 11 0 two 0 (λ (e : 0 ≡ 11). absurd (omega arith))
          ∙ get_or-set_other regs.x 10 0 one 0 (λ (e : 0 ≡ 10). absurd (omega arith)) ∙ r.zero;
      small = All-set IsWord (set regs.x 10 one) 11 two (register-small answer a 11 (omega arith))
          (All-set IsWord regs.x 10 one (register-small answer a 10 (omega arith)) r.small);
    }

-- ---- addresses

pub IsPc-next : (pc : ℕ) → IsPc pc → IsPc (next_pc pc)
IsPc-next pc p =
    let aligned : pc % 4 ≡ 0 = p.aligned in
    record { aligned = omega arith; small = omega arith }

pub IsPc-zero : IsPc 0
IsPc-zero = record { aligned = refl; small = omega arith }

vector-small : (vectored interrupt : Bool) (base code : ℕ) → base < 2 ^ 64
    → vector vectored interrupt base code < 2 ^ 64
vector-small true true base code small = omega arith
vector-small true false base code small = small
vector-small false interrupt base code small = small

pub IsPc-trap : (c : CsrFile) (cause : Cause) → AreCsrs c → IsPc (trap_target c cause)
IsPc-trap c cause a = record {
  aligned = trap_target-aligned c cause a.forms;
  small = vector-small c.stvec_vectored (is_interrupt cause) c.stvec_base (code_of cause) a.base;
}

-- ---- frames

pub IsFrame-zero : IsFrame zero_frame
IsFrame-zero = record { regs = AreRegisters-zero; pc = IsPc-zero }

-- ---- CSRs

pub AreCsrs-reset : AreCsrs reset_csrs
AreCsrs-reset = record {
  forms = HasCsrForms-reset;
  base = omega arith;
  scratch = omega arith;
  sepc = omega arith;
  cause = omega arith;
  value = omega arith;
  satp = omega arith;
}

pub AreCsrs-trap : (c : CsrFile) (cause : Cause) (pc value : ℕ) (mode : Mode) → AreCsrs c → IsPc pc
    → cause.0 < 2 ^ 64 → value < 2 ^ 64
    → AreCsrs (after_trap c cause pc value mode)
AreCsrs-trap c cause pc value mode a p code small = record {
  forms = HasCsrForms-trap c cause pc value mode a.forms p.aligned;
  base = a.base;
  scratch = a.scratch;
  sepc = p.small;
  cause = code;
  value = small;
  satp = a.satp;
}

pub AreCsrs-sret : (c : CsrFile) → AreCsrs c → AreCsrs (after_sret c)
AreCsrs-sret c a = record {
  forms = HasCsrForms-sret c a.forms;
  base = a.base;
  scratch = a.scratch;
  sepc = a.sepc;
  cause = a.cause;
  value = a.value;
  satp = a.satp;
}

pub AreCsrs-software : (c : CsrFile) → AreCsrs c → AreCsrs (after_software c)
AreCsrs-software c a = record {
  forms = HasCsrForms-software c a.forms;
  base = a.base;
  scratch = a.scratch;
  sepc = a.sepc;
  cause = a.cause;
  value = a.value;
  satp = a.satp;
}

pub one_more-least : (retired clock : ℕ) → retired ≤ clock → one_more retired ≤ clock + 1
one_more-least retired clock most =
    let small : (retired + 1) % 2 ^ 64 ≤ retired + 1 = omega arith in
    omega arith

pub one_more-small : (retired : ℕ) → one_more retired < 2 ^ 64
one_more-small retired = omega arith
