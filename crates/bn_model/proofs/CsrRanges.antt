-- The numbers of a CSR instruction have 64 bits.
use Rattle.std.proofs.Common.{◌≡◌, ℕ, ◌+◌, ◌*◌, ◌%◌, ◌^◌, ◌<◌, ◌≤◌, Bool, true, false, Option}
use Rattle.std.proofs.Common.{Some, None, refl, arith}
use Rattle.std.proofs.lemmas.Nat.{and_le_l, or_lt}
use Rattle.std.specs.Int.{bit_not, w64}
use Rattle.bn_types.specs.declared.csr_op.CsrOp.{CsrOp}
use Rattle.bn_types.specs.declared.csr_op.CsrOp.TheVariants.{Write, Set, Clear}
use Rattle.bn_types.specs.declared.mode.Mode.{Mode}
use Rattle.bn_types.specs.declared.mode.Mode.TheVariants.{U, S}
use Rattle.bn_model.specs.declared.wires.Wires.{Wires}
use Rattle.bn_model.specs.Bits.{flag}
use Rattle.bn_model.specs.CsrFile.{Csr, CsrDone, CsrFile, Sstatus, Sie, Stvec, Sscratch, Sepc}
use Rattle.bn_model.specs.CsrFile.{Scause, Stval, Sip, Satp, Cycle, Time, Instret, Counters}
use Rattle.bn_model.specs.CsrFile.{csr_done, csr_of, csr_read, csr_value, csr_write, done_by_write}
use Rattle.bn_model.specs.CsrFile.{done_if_legal, done_if_read, interrupt_bits, is_satp_mode}
use Rattle.bn_model.specs.CsrFile.{is_supervisor, new_value, old_value, satp_mode, value_if_known}
use Rattle.bn_model.specs.CsrFile.{with_csr, with_csr_if_known, with_satp_if, without_low_bits}
use Rattle.bn_model.specs.Soundness.{AreCsrs}
use Rattle.bn_model.proofs.CsrFileLemmas.{with_csr-forms, with_satp-forms}

-- a value that there may be
SmallIfSome : Option ℕ → Type 0
SmallIfSome None = Unit {0}
SmallIfSome (Some value) = value < 2 ^ 64

GoodIfSome : Option CsrFile → Type 0
GoodIfSome None = Unit {0}
GoodIfSome (Some c) = AreCsrs c

unfoldable pub DoneIfSome : Option CsrDone → Type 0
DoneIfSome None = Unit {0}
DoneIfSome (Some done) = (done.value < 2 ^ 64) × AreCsrs done.csrs

flag-0 : (b : Bool) → flag 0 b ≤ 1
flag-0 true = omega arith
flag-0 false = omega arith

flag-1 : (b : Bool) → flag 1 b ≤ 2
flag-1 true = omega arith
flag-1 false = omega arith

flag-5 : (b : Bool) → flag 5 b ≤ 32
flag-5 true = omega arith
flag-5 false = omega arith

flag-8 : (b : Bool) → flag 8 b ≤ 256
flag-8 true = omega arith
flag-8 false = omega arith

flag-9 : (b : Bool) → flag 9 b ≤ 512
flag-9 true = omega arith
flag-9 false = omega arith

flag-18 : (b : Bool) → flag 18 b ≤ 262144
flag-18 true = omega arith
flag-18 false = omega arith

flag-19 : (b : Bool) → flag 19 b ≤ 524288
flag-19 true = omega arith
flag-19 false = omega arith

sum-five : (a b c d e : ℕ) → a ≤ 2 → b ≤ 32 → c ≤ 256 → d ≤ 262144 → e ≤ 524288
    → a + b + c + d + e + 2 * 2 ^ 32 < 2 ^ 64
sum-five a b c d e f g h i j = omega arith

sum-three : (a b c : ℕ) → a ≤ 2 → b ≤ 32 → c ≤ 512 → a + b + c < 2 ^ 64
sum-three a b c f g h = omega arith

bits-small : (software timer external : Bool) → interrupt_bits software timer external < 2 ^ 64
bits-small software timer external =
    sum-three (flag 1 software) (flag 5 timer) (flag 9 external) (flag-1 software) (flag-5 timer)
    (flag-9 external)

base-small : (base low : ℕ) → base % 4 ≡ 0 → base < 2 ^ 64 → low ≤ 1 → base + low < 2 ^ 64
base-small base low e small f = omega arith

value-small : (csr : Csr) (c : CsrFile) (wires : Wires) (counters : Counters) → AreCsrs c
    → csr_value csr c wires counters < 2 ^ 64
value-small Sstatus c wires counters a =
    sum-five (flag 1 c.sie) (flag 5 c.spie) (flag 8 (is_supervisor c.spp)) (flag 18 c.sum)
    (flag 19 c.mxr) (flag-1 c.sie) (flag-5 c.spie) (flag-8 (is_supervisor c.spp)) (flag-18 c.sum)
    (flag-19 c.mxr)
value-small Sie c wires counters a = bits-small c.ssie c.stie c.seie
value-small Stvec c wires counters a =
    base-small c.stvec_base (flag 0 c.stvec_vectored) a.forms.base_aligned a.base
    (flag-0 c.stvec_vectored)
value-small Sscratch c wires counters a = a.scratch
value-small Sepc c wires counters a = a.sepc
value-small Scause c wires counters a = a.cause
value-small Stval c wires counters a = a.value
value-small Sip c wires counters a = bits-small c.ssip wires.timer wires.external
value-small Satp c wires counters a = a.satp
value-small Cycle c wires counters a = omega arith
value-small Time c wires counters a = omega arith
value-small Instret c wires counters a = omega arith

known-small : (csr : Option Csr) (c : CsrFile) (wires : Wires) (counters : Counters) → AreCsrs c
    → SmallIfSome (value_if_known csr c wires counters)
unfolding SmallIfSome
known-small None c wires counters a = tt
known-small (Some csr) c wires counters a = value-small csr c wires counters a

read-small : (c : CsrFile) (number : ℕ) (mode : Mode) (wires : Wires) (counters : Counters)
    → AreCsrs c → SmallIfSome (csr_read c number mode wires counters)
unfolding SmallIfSome
read-small c number U wires counters a = tt
read-small c number S wires counters a = known-small (csr_of number) c wires counters a

old-small : (reads : Bool) (c : CsrFile) (number : ℕ) (mode : Mode) (wires : Wires)
    (counters : Counters) → AreCsrs c → SmallIfSome (old_value reads c number mode wires counters)
unfolding SmallIfSome
old-small true c number mode wires counters a = read-small c number mode wires counters a
old-small false c number mode wires counters a = omega arith

-- ---- writes

aligned-small : (value : ℕ) → value < 2 ^ 64 → without_low_bits value < 2 ^ 64
aligned-small value small = omega arith

satp-good : (b : Bool) (value : ℕ) (c : CsrFile) → is_satp_mode (satp_mode value) ≡ b
    → value < 2 ^ 64 → AreCsrs c → AreCsrs (with_satp_if b value c)
satp-good true value c e small a = record {
  forms = with_satp-forms true value c e a.forms;
  base = a.base;
  scratch = a.scratch;
  sepc = a.sepc;
  cause = a.cause;
  value = a.value;
  satp = small;
}
satp-good false value c e small a = a

written-good : (csr : Csr) (value : ℕ) (c : CsrFile) → value < 2 ^ 64 → AreCsrs c
    → GoodIfSome (with_csr csr value c)
unfolding GoodIfSome
written-good Sstatus value c small a = record {
  forms = with_csr-forms Sstatus value c a.forms;
  base = a.base;
  scratch = a.scratch;
  sepc = a.sepc;
  cause = a.cause;
  value = a.value;
  satp = a.satp;
}
written-good Sie value c small a = record {
  forms = with_csr-forms Sie value c a.forms;
  base = a.base;
  scratch = a.scratch;
  sepc = a.sepc;
  cause = a.cause;
  value = a.value;
  satp = a.satp;
}
written-good Stvec value c small a = record {
  forms = with_csr-forms Stvec value c a.forms;
  base = aligned-small value small;
  scratch = a.scratch;
  sepc = a.sepc;
  cause = a.cause;
  value = a.value;
  satp = a.satp;
}
written-good Sscratch value c small a = record {
  forms = with_csr-forms Sscratch value c a.forms;
  base = a.base;
  scratch = small;
  sepc = a.sepc;
  cause = a.cause;
  value = a.value;
  satp = a.satp;
}
written-good Sepc value c small a = record {
  forms = with_csr-forms Sepc value c a.forms;
  base = a.base;
  scratch = a.scratch;
  sepc = aligned-small value small;
  cause = a.cause;
  value = a.value;
  satp = a.satp;
}
written-good Scause value c small a = record {
  forms = with_csr-forms Scause value c a.forms;
  base = a.base;
  scratch = a.scratch;
  sepc = a.sepc;
  cause = small;
  value = a.value;
  satp = a.satp;
}
written-good Stval value c small a = record {
  forms = with_csr-forms Stval value c a.forms;
  base = a.base;
  scratch = a.scratch;
  sepc = a.sepc;
  cause = a.cause;
  value = small;
  satp = a.satp;
}
written-good Sip value c small a = record {
  forms = with_csr-forms Sip value c a.forms;
  base = a.base;
  scratch = a.scratch;
  sepc = a.sepc;
  cause = a.cause;
  value = a.value;
  satp = a.satp;
}
written-good Satp value c small a = satp-good (is_satp_mode (satp_mode value)) value c refl small a
written-good Cycle value c small a = tt
written-good Time value c small a = tt
written-good Instret value c small a = tt

known-good : (csr : Option Csr) (value : ℕ) (c : CsrFile) → value < 2 ^ 64 → AreCsrs c
    → GoodIfSome (with_csr_if_known csr value c)
unfolding GoodIfSome
known-good None value c small a = tt
known-good (Some csr) value c small a = written-good csr value c small a

write-good : (c : CsrFile) (number value : ℕ) (mode : Mode) → value < 2 ^ 64 → AreCsrs c
    → GoodIfSome (csr_write c number value mode)
unfolding GoodIfSome
write-good c number value U small a = tt
write-good c number value S small a = known-good (csr_of number) value c small a

operated-small : (o : CsrOp) (old operand : ℕ) → old < 2 ^ 64 → operand < 2 ^ 64
    → new_value o old operand < 2 ^ 64
operated-small Write old operand f g = g
operated-small Set old operand f g = or_lt 64 old operand f g
operated-small Clear old operand f g = let less = and_le_l old (bit_not w64 operand) in omega arith

done-good : (old : ℕ) (written : Option CsrFile) → old < 2 ^ 64 → GoodIfSome written
    → DoneIfSome (done_if_legal old written)
unfolding DoneIfSome GoodIfSome
done-good old None small good = tt
done-good old (Some written) small good = (small, good)

replaced-good : (writes : Bool) (o : CsrOp) (number operand : ℕ) (mode : Mode) (c : CsrFile)
    (old : ℕ) → operand < 2 ^ 64 → old < 2 ^ 64 → AreCsrs c
    → DoneIfSome (done_by_write writes o number operand mode c old)
unfolding DoneIfSome
replaced-good false o number operand mode c old f g a = (g, a)
replaced-good true o number operand mode c old f g a =
    done-good old (csr_write c number (new_value o old operand) mode) g
    (write-good c number (new_value o old operand) mode (operated-small o old operand g f) a)

read-good : (old : Option ℕ) (writes : Bool) (o : CsrOp) (number operand : ℕ) (mode : Mode)
    (c : CsrFile) → operand < 2 ^ 64 → SmallIfSome old → AreCsrs c
    → DoneIfSome (done_if_read old writes o number operand mode c)
unfolding DoneIfSome SmallIfSome
read-good None writes o number operand mode c f g a = tt
read-good (Some old) writes o number operand mode c f g a =
    replaced-good writes o number operand mode c old f g a

pub csr_done-good : (c : CsrFile) (o : CsrOp) (number operand : ℕ) (reads writes : Bool)
    (mode : Mode) (wires : Wires) (counters : Counters) → operand < 2 ^ 64 → AreCsrs c
    → DoneIfSome (csr_done c o number operand reads writes mode wires counters)
csr_done-good c o number operand reads writes mode wires counters f a =
    read-good (old_value reads c number mode wires counters) writes o number operand mode c f
    (old-small reads c number mode wires counters a) a
