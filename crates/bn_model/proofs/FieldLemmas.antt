-- What the fields of a word are: their ranges, that they make the word, and that a sum of fields
-- has them.
use Rattle.std.proofs.Common.{◌≡◌, ℕ, ◌+◌, ◌*◌, ◌/◌, ◌%◌, ◌<◌, ◌^◌, refl, ap, subst, arith, sym}
use Rattle.std.proofs.Common.{◌∙◌}
use Rattle.std.specs.Prelude.{ℤ, pos, neg_ℤ, ◌-ℤ◌, ◌≤ℤ◌, ◌<ℤ◌, nat_lt, if◌then◌else◌}
use Rattle.std.proofs.lemmas.Int.{ints}
use Rattle.std.proofs.lemmas.Bool.Decides.{nat_tests}
use Rattle.bn_types.specs.declared.reg.Reg.{Reg}
use Rattle.bn_model.specs.TwosComplement.{signed_of}
use Rattle.bn_model.specs.Fields.{opcode, rd, funct3, rs1, rs2, funct7, funct6, shamt6, shamt5}
use Rattle.bn_model.specs.Fields.{funct12, i_immediate, s_immediate, b_immediate, u_immediate}
use Rattle.bn_model.specs.Fields.{j_immediate}
use Rattle.bn_model.specs.InsnRanges.{FitsBits, IsMultipleOf, IsRegister}
use Rattle.bn_model.specs.Encoding.{FormatR, FormatI, FormatS, FormatB, FormatU, FormatJ}
use Rattle.bn_model.specs.Encoding.{FormatShift, FormatShiftW, FormatNumber}

-- ---- a number below 2 * half, read as a two's complement

abbrev pub two : ℕ → ℕ → ℤ
two half n = if nat_lt n half then pos n else pos n -ℤ pos (2 * half)

two-same : (half x y : ℕ) → x < 2 * half → y < 2 * half → two half x ≡ two half y → x ≡ y
two-same half x y p q e = grind (arith, ints, nat_tests)

two-low : (half x : ℕ) → x < 2 * half → neg_ℤ (pos half) ≤ℤ two half x
two-low half x p = grind (arith, ints, nat_tests)

two-high : (half x : ℕ) → x < 2 * half → two half x <ℤ pos half
two-high half x p = grind (arith, ints, nat_tests)

-- ---- ranges

rd-range : (w : ℕ) → IsRegister (rd w)
unfolding rd
rd-range w = omega arith

rs1-range : (w : ℕ) → IsRegister (rs1 w)
unfolding rs1
rs1-range w = omega arith

rs2-range : (w : ℕ) → IsRegister (rs2 w)
unfolding rs2
rs2-range w = omega arith

i_immediate-range : (w : ℕ) → FitsBits 12 (i_immediate w)
unfolding i_immediate
i_immediate-range w =
    let h : w / 2 ^ 20 % 4096 < 2 * 2048 = omega arith in
    (two-low 2048 (w / 2 ^ 20 % 4096) h, two-high 2048 (w / 2 ^ 20 % 4096) h)

s_immediate-range : (w : ℕ) → FitsBits 12 (s_immediate w)
unfolding s_immediate
s_immediate-range w =
    let h : w / 2 ^ 25 % 128 * 32 + w / 2 ^ 7 % 32 < 2 * 2048 = omega arith in
    (two-low 2048 _ h, two-high 2048 _ h)

even : (half x : ℕ) → half % 2 ≡ 0 → x % 2 ≡ 0 → x < 2 * half → IsMultipleOf 2 (two half x)
even half x e h p = grind (arith, ints, nat_tests)

upper : (x : ℕ) → x % 4096 ≡ 0 → x < 2 ^ 32 → IsMultipleOf 4096 (two (2 ^ 31) x)
upper x h p = grind (arith, ints, nat_tests)

b_immediate-range : (w : ℕ) → FitsBits 13 (b_immediate w) × IsMultipleOf 2 (b_immediate w)
unfolding b_immediate
b_immediate-range w =
    let x : ℕ = w / 2 ^ 31 % 2 * 4096 + w / 2 ^ 7 % 2 * 2048 + w / 2 ^ 25 % 64 * 32 +
    w / 2 ^ 8 % 16 * 2 in
    let h : x < 2 * 4096 = omega arith in
    let e : x % 2 ≡ 0 = omega arith in
    ((two-low 4096 x h, two-high 4096 x h), even 4096 x refl e h)

u_immediate-range : (w : ℕ) → FitsBits 32 (u_immediate w) × IsMultipleOf 4096 (u_immediate w)
unfolding u_immediate
u_immediate-range w =
    let x : ℕ = w / 2 ^ 12 % 2 ^ 20 * 4096 in
    let h : x < 2 * 2 ^ 31 = omega arith in
    let e : x % 4096 ≡ 0 = omega arith in
    ((two-low (2 ^ 31) x h, two-high (2 ^ 31) x h), upper x e h)

j_immediate-range : (w : ℕ) → FitsBits 21 (j_immediate w) × IsMultipleOf 2 (j_immediate w)
unfolding j_immediate
j_immediate-range w =
    let x : ℕ = w / 2 ^ 31 % 2 * 2 ^ 20 + w / 2 ^ 12 % 256 * 4096 + w / 2 ^ 20 % 2 * 2048 +
    w / 2 ^ 21 % 1024 * 2 in
    let h : x < 2 * 2 ^ 20 = omega arith in
    let e : x % 2 ≡ 0 = omega arith in
    ((two-low (2 ^ 20) x h, two-high (2 ^ 20) x h), even (2 ^ 20) x refl e h)

shamt6-range : (w : ℕ) → shamt6 w < 64
unfolding shamt6
shamt6-range w = omega arith

shamt5-range : (w : ℕ) → shamt5 w < 32
unfolding shamt5
shamt5-range w = omega arith

funct12-range : (w : ℕ) → funct12 w < 4096
unfolding funct12
funct12-range w = omega arith

pub FormatR-range : (w o f g : ℕ) (d a b : Reg) → FormatR w o f g d a b
    → IsRegister d × IsRegister a × IsRegister b
FormatR-range w o f g d a b h = (
  subst IsRegister h.rd (rd-range w),
  subst IsRegister h.rs1 (rs1-range w),
  subst IsRegister h.rs2 (rs2-range w),
)

pub FormatI-range : (w o f : ℕ) (d a : Reg) (n : ℤ) → FormatI w o f d a n
    → IsRegister d × IsRegister a × FitsBits 12 n
FormatI-range w o f d a n h = (
  subst IsRegister h.rd (rd-range w),
  subst IsRegister h.rs1 (rs1-range w),
  subst (FitsBits 12) h.immediate (i_immediate-range w),
)

pub FormatS-range : (w o f : ℕ) (a b : Reg) (n : ℤ) → FormatS w o f a b n
    → IsRegister a × IsRegister b × FitsBits 12 n
FormatS-range w o f a b n h = (
  subst IsRegister h.rs1 (rs1-range w),
  subst IsRegister h.rs2 (rs2-range w),
  subst (FitsBits 12) h.immediate (s_immediate-range w),
)

pub FormatB-range : (w o f : ℕ) (a b : Reg) (n : ℤ) → FormatB w o f a b n
    → IsRegister a × IsRegister b × FitsBits 13 n × IsMultipleOf 2 n
FormatB-range w o f a b n h = (
  subst IsRegister h.rs1 (rs1-range w),
  subst IsRegister h.rs2 (rs2-range w),
  subst (FitsBits 13) h.immediate (b_immediate-range w).0,
  subst (IsMultipleOf 2) h.immediate (b_immediate-range w).1,
)

pub FormatU-range : (w o : ℕ) (d : Reg) (n : ℤ) → FormatU w o d n
    → IsRegister d × FitsBits 32 n × IsMultipleOf 4096 n
FormatU-range w o d n h = (
  subst IsRegister h.rd (rd-range w),
  subst (FitsBits 32) h.immediate (u_immediate-range w).0,
  subst (IsMultipleOf 4096) h.immediate (u_immediate-range w).1,
)

pub FormatJ-range : (w o : ℕ) (d : Reg) (n : ℤ) → FormatJ w o d n
    → IsRegister d × FitsBits 21 n × IsMultipleOf 2 n
FormatJ-range w o d n h = (
  subst IsRegister h.rd (rd-range w),
  subst (FitsBits 21) h.immediate (j_immediate-range w).0,
  subst (IsMultipleOf 2) h.immediate (j_immediate-range w).1,
)

pub FormatShift-range : (w o f g : ℕ) (d a : Reg) (n : ℕ) → FormatShift w o f g d a n
    → IsRegister d × IsRegister a × (n < 64)
FormatShift-range w o f g d a n h = (
  subst IsRegister h.rd (rd-range w),
  subst IsRegister h.rs1 (rs1-range w),
  subst (λ (k : ℕ). k < 64) h.amount (shamt6-range w),
)

pub FormatShiftW-range : (w o f g : ℕ) (d a : Reg) (n : ℕ) → FormatShiftW w o f g d a n
    → IsRegister d × IsRegister a × (n < 32)
FormatShiftW-range w o f g d a n h = (
  subst IsRegister h.rd (rd-range w),
  subst IsRegister h.rs1 (rs1-range w),
  subst (λ (k : ℕ). k < 32) h.amount (shamt5-range w),
)

pub FormatNumber-range : (w o f : ℕ) (d a : Reg) (n : ℕ) → FormatNumber w o f d a n
    → (n < 4096) × IsRegister a × IsRegister d
FormatNumber-range w o f d a n h = (
  subst (λ (k : ℕ). k < 4096) h.number (funct12-range w),
  subst IsRegister h.rs1 (rs1-range w),
  subst IsRegister h.rd (rd-range w),
)

-- ---- two words with the same fields are one word

pub FormatR-same : (v w : ℕ) (o f g : ℕ) (d a b : Reg) → v < 2 ^ 32 → w < 2 ^ 32
    → FormatR v o f g d a b → FormatR w o f g d a b → v ≡ w
unfolding opcode funct3 funct7 rd rs1 rs2
FormatR-same v w o f g d a b p q h k =
    let e_rd : v / 2 ^ 7 % 32 ≡ w / 2 ^ 7 % 32 = ap (λ (r : Reg). r.0) (h.rd ∙ sym k.rd) in
    let e_rs1 : v / 2 ^ 15 % 32 ≡ w / 2 ^ 15 % 32 = ap (λ (r : Reg). r.0) (h.rs1 ∙ sym k.rs1) in
    let e_rs2 : v / 2 ^ 20 % 32 ≡ w / 2 ^ 20 % 32 = ap (λ (r : Reg). r.0) (h.rs2 ∙ sym k.rs2) in
    omega arith

pub FormatI-same : (v w : ℕ) (o f : ℕ) (d a : Reg) (n : ℤ) → v < 2 ^ 32 → w < 2 ^ 32
    → FormatI v o f d a n → FormatI w o f d a n → v ≡ w
unfolding opcode funct3 rd rs1 i_immediate
FormatI-same v w o f d a n p q h k =
    let e_rd : v / 2 ^ 7 % 32 ≡ w / 2 ^ 7 % 32 = ap (λ (r : Reg). r.0) (h.rd ∙ sym k.rd) in
    let e_rs1 : v / 2 ^ 15 % 32 ≡ w / 2 ^ 15 % 32 = ap (λ (r : Reg). r.0) (h.rs1 ∙ sym k.rs1) in
    let x : ℕ = v / 2 ^ 20 % 4096 in
    let y : ℕ = w / 2 ^ 20 % 4096 in
    let x_fits : x < 2 * 2048 = omega arith in
    let y_fits : y < 2 * 2048 = omega arith in
    let e_immediate : x ≡ y = two-same 2048 x y x_fits y_fits (h.immediate ∙ sym k.immediate) in
    omega arith

pub FormatS-same : (v w : ℕ) (o f : ℕ) (a b : Reg) (n : ℤ) → v < 2 ^ 32 → w < 2 ^ 32
    → FormatS v o f a b n → FormatS w o f a b n → v ≡ w
unfolding opcode funct3 rs1 rs2 s_immediate
FormatS-same v w o f a b n p q h k =
    let e_rs1 : v / 2 ^ 15 % 32 ≡ w / 2 ^ 15 % 32 = ap (λ (r : Reg). r.0) (h.rs1 ∙ sym k.rs1) in
    let e_rs2 : v / 2 ^ 20 % 32 ≡ w / 2 ^ 20 % 32 = ap (λ (r : Reg). r.0) (h.rs2 ∙ sym k.rs2) in
    let x : ℕ = v / 2 ^ 25 % 128 * 32 + v / 2 ^ 7 % 32 in
    let y : ℕ = w / 2 ^ 25 % 128 * 32 + w / 2 ^ 7 % 32 in
    let x_fits : x < 2 * 2048 = omega arith in
    let y_fits : y < 2 * 2048 = omega arith in
    let e_immediate : x ≡ y = two-same 2048 x y x_fits y_fits (h.immediate ∙ sym k.immediate) in
    omega arith

b-parts :
    (a b c d a' b' c' d' : ℕ) →
    a < 2 → b < 2 → c < 64 → d < 16 → a' < 2 → b' < 2 → c' < 64 → d' < 16 →
    a * 4096 + b * 2048 + c * 32 + d * 2 ≡ a' * 4096 + b' * 2048 + c' * 32 + d' * 2 →
    (a ≡ a') × (b ≡ b') × (c ≡ c') × (d ≡ d')
b-parts a b c d a' b' c' d' ha hb hc hd ha' hb' hc' hd' e =
    (omega arith, omega arith, omega arith, omega arith)

-- the bits of the register field and of funct7, as format B has them
b-places :
    (v w : ℕ) →
    v < 2 ^ 32 → w < 2 ^ 32 →
    v / 2 ^ 31 % 2 ≡ w / 2 ^ 31 % 2 →
    v / 2 ^ 7 % 2 ≡ w / 2 ^ 7 % 2 →
    v / 2 ^ 25 % 64 ≡ w / 2 ^ 25 % 64 →
    v / 2 ^ 8 % 16 ≡ w / 2 ^ 8 % 16 →
    (v / 2 ^ 7 % 32 ≡ w / 2 ^ 7 % 32) × (v / 2 ^ 25 ≡ w / 2 ^ 25)
b-places v w p q a b c d = (omega arith, omega arith)

b-bits :
    (v w : ℕ) → v < 2 ^ 32 → w < 2 ^ 32 → b_immediate v ≡ b_immediate w →
    (v / 2 ^ 7 % 32 ≡ w / 2 ^ 7 % 32) × (v / 2 ^ 25 ≡ w / 2 ^ 25)
unfolding b_immediate
b-bits v w p q e =
    let x : ℕ = v / 2 ^ 31 % 2 * 4096 + v / 2 ^ 7 % 2 * 2048 + v / 2 ^ 25 % 64 * 32 +
    v / 2 ^ 8 % 16 * 2 in
    let y : ℕ = w / 2 ^ 31 % 2 * 4096 + w / 2 ^ 7 % 2 * 2048 + w / 2 ^ 25 % 64 * 32 +
    w / 2 ^ 8 % 16 * 2 in
    let x_fits : x < 2 * 4096 = omega arith in
    let y_fits : y < 2 * 4096 = omega arith in
    let parts = b-parts
    (v / 2 ^ 31 % 2) (v / 2 ^ 7 % 2) (v / 2 ^ 25 % 64) (v / 2 ^ 8 % 16)
    (w / 2 ^ 31 % 2) (w / 2 ^ 7 % 2) (w / 2 ^ 25 % 64) (w / 2 ^ 8 % 16)
    (omega arith) (omega arith) (omega arith) (omega arith)
    (omega arith) (omega arith) (omega arith) (omega arith)
    (two-same 4096 x y x_fits y_fits e) in
    b-places v w p q parts.0 parts.1 parts.2 parts.3

-- format B, from its fields
b-whole :
    (v w : ℕ) → opcode v ≡ opcode w → funct3 v ≡ funct3 w → rs1 v ≡ rs1 w → rs2 v ≡ rs2 w →
    v / 2 ^ 7 % 32 ≡ w / 2 ^ 7 % 32 → v / 2 ^ 25 ≡ w / 2 ^ 25 → v ≡ w
unfolding opcode funct3 rs1 rs2
b-whole v w e_o e_f e_a e_b e_d e_g =
    let a : v / 2 ^ 15 % 32 ≡ w / 2 ^ 15 % 32 = ap (λ (r : Reg). r.0) e_a in
    let b : v / 2 ^ 20 % 32 ≡ w / 2 ^ 20 % 32 = ap (λ (r : Reg). r.0) e_b in
    omega arith

pub FormatB-same : (v w : ℕ) (o f : ℕ) (a b : Reg) (n : ℤ) → v < 2 ^ 32 → w < 2 ^ 32
    → FormatB v o f a b n → FormatB w o f a b n → v ≡ w
FormatB-same v w o f a b n p q h k =
    let places = b-bits v w p q (h.immediate ∙ sym k.immediate) in
    b-whole v w (h.opcode ∙ sym k.opcode) (h.funct3 ∙ sym k.funct3) (h.rs1 ∙ sym k.rs1)
    (h.rs2 ∙ sym k.rs2) places.0 places.1

pub FormatU-same : (v w : ℕ) (o : ℕ) (d : Reg) (n : ℤ) → v < 2 ^ 32 → w < 2 ^ 32 → FormatU v o d n
    → FormatU w o d n → v ≡ w
unfolding opcode rd u_immediate
FormatU-same v w o d n p q h k =
    let e_rd : v / 2 ^ 7 % 32 ≡ w / 2 ^ 7 % 32 = ap (λ (r : Reg). r.0) (h.rd ∙ sym k.rd) in
    let x : ℕ = v / 2 ^ 12 % 2 ^ 20 * 4096 in
    let y : ℕ = w / 2 ^ 12 % 2 ^ 20 * 4096 in
    let x_fits : x < 2 * 2 ^ 31 = omega arith in
    let y_fits : y < 2 * 2 ^ 31 = omega arith in
    let e_immediate : x ≡ y = two-same (2 ^ 31) x y x_fits y_fits (h.immediate ∙ sym k.immediate) in
    omega arith

pub FormatJ-same : (v w : ℕ) (o : ℕ) (d : Reg) (n : ℤ) → v < 2 ^ 32 → w < 2 ^ 32 → FormatJ v o d n
    → FormatJ w o d n → v ≡ w
unfolding opcode rd j_immediate
FormatJ-same v w o d n p q h k =
    let e_rd : v / 2 ^ 7 % 32 ≡ w / 2 ^ 7 % 32 = ap (λ (r : Reg). r.0) (h.rd ∙ sym k.rd) in
    let x : ℕ = v / 2 ^ 31 % 2 * 2 ^ 20 + v / 2 ^ 12 % 256 * 4096 + v / 2 ^ 20 % 2 * 2048 +
    v / 2 ^ 21 % 1024 * 2 in
    let y : ℕ = w / 2 ^ 31 % 2 * 2 ^ 20 + w / 2 ^ 12 % 256 * 4096 + w / 2 ^ 20 % 2 * 2048 +
    w / 2 ^ 21 % 1024 * 2 in
    let x_fits : x < 2 * 2 ^ 20 = omega arith in
    let y_fits : y < 2 * 2 ^ 20 = omega arith in
    let e_immediate : x ≡ y = two-same (2 ^ 20) x y x_fits y_fits (h.immediate ∙ sym k.immediate) in
    omega arith

pub FormatShift-same : (v w : ℕ) (o f g : ℕ) (d a : Reg) (n : ℕ) → v < 2 ^ 32 → w < 2 ^ 32
    → FormatShift v o f g d a n → FormatShift w o f g d a n → v ≡ w
unfolding opcode funct3 funct6 shamt6 rd rs1
FormatShift-same v w o f g d a n p q h k =
    let e_rd : v / 2 ^ 7 % 32 ≡ w / 2 ^ 7 % 32 = ap (λ (r : Reg). r.0) (h.rd ∙ sym k.rd) in
    let e_rs1 : v / 2 ^ 15 % 32 ≡ w / 2 ^ 15 % 32 = ap (λ (r : Reg). r.0) (h.rs1 ∙ sym k.rs1) in
    omega arith

pub FormatShiftW-same : (v w : ℕ) (o f g : ℕ) (d a : Reg) (n : ℕ) → v < 2 ^ 32 → w < 2 ^ 32
    → FormatShiftW v o f g d a n → FormatShiftW w o f g d a n → v ≡ w
unfolding opcode funct3 funct7 shamt5 rd rs1
FormatShiftW-same v w o f g d a n p q h k =
    let e_rd : v / 2 ^ 7 % 32 ≡ w / 2 ^ 7 % 32 = ap (λ (r : Reg). r.0) (h.rd ∙ sym k.rd) in
    let e_rs1 : v / 2 ^ 15 % 32 ≡ w / 2 ^ 15 % 32 = ap (λ (r : Reg). r.0) (h.rs1 ∙ sym k.rs1) in
    omega arith

pub FormatNumber-same : (v w : ℕ) (o f : ℕ) (d a : Reg) (n : ℕ) → v < 2 ^ 32 → w < 2 ^ 32
    → FormatNumber v o f d a n → FormatNumber w o f d a n → v ≡ w
unfolding opcode funct3 funct12 rd rs1
FormatNumber-same v w o f d a n p q h k =
    let e_rd : v / 2 ^ 7 % 32 ≡ w / 2 ^ 7 % 32 = ap (λ (r : Reg). r.0) (h.rd ∙ sym k.rd) in
    let e_rs1 : v / 2 ^ 15 % 32 ≡ w / 2 ^ 15 % 32 = ap (λ (r : Reg). r.0) (h.rs1 ∙ sym k.rs1) in
    omega arith

-- ---- a sum of fields has them

register : (r : Reg) (n : ℕ) → n ≡ r.0 → (let s : Reg = record { 0 = n } in s) ≡ r
register r n e = ap (λ (m : ℕ). let s : Reg = record { 0 = m } in s) e

pub FormatR-sum : (w : ℕ) (o f g : ℕ) (d a b : Reg) → o < 128 → f < 8 → g < 128 → IsRegister d
    → IsRegister a → IsRegister b
    → w ≡ o + f * 2 ^ 12 + g * 2 ^ 25 + d.0 * 2 ^ 7 + a.0 * 2 ^ 15 + b.0 * 2 ^ 20
    → FormatR w o f g d a b
unfolding opcode funct3 funct7 rd rs1 rs2
FormatR-sum w o f g d a b ho hf hg hd ha hb e = record {
  opcode = omega arith;
  funct3 = omega arith;
  funct7 = omega arith;
  rd = register d (w / 2 ^ 7 % 32) (omega arith);
  rs1 = register a (w / 2 ^ 15 % 32) (omega arith);
  rs2 = register b (w / 2 ^ 20 % 32) (omega arith);
}

pub FormatI-sum : (w : ℕ) (o f : ℕ) (d a : Reg) (n : ℤ) (x : ℕ) → o < 128 → f < 8 → IsRegister d
    → IsRegister a → x < 4096 → signed_of 12 x ≡ n
    → w ≡ o + f * 2 ^ 12 + d.0 * 2 ^ 7 + a.0 * 2 ^ 15 + x * 2 ^ 20 → FormatI w o f d a n
unfolding opcode funct3 rd rs1 i_immediate
FormatI-sum w o f d a n x ho hf hd ha hx hn e = record {
  opcode = omega arith;
  funct3 = omega arith;
  rd = register d (w / 2 ^ 7 % 32) (omega arith);
  rs1 = register a (w / 2 ^ 15 % 32) (omega arith);
  immediate = (let q : w / 2 ^ 20 % 4096 ≡ x = omega arith in ap (signed_of 12) q) ∙ hn;
}

pub FormatS-sum : (w : ℕ) (o f : ℕ) (a b : Reg) (n : ℤ) (x : ℕ) → o < 128 → f < 8 → IsRegister a
    → IsRegister b → x < 4096 → signed_of 12 x ≡ n
    → w ≡ o + f * 2 ^ 12 + a.0 * 2 ^ 15 + b.0 * 2 ^ 20 + x % 32 * 2 ^ 7 + x / 32 * 2 ^ 25
    → FormatS w o f a b n
unfolding opcode funct3 rs1 rs2 s_immediate
FormatS-sum w o f a b n x ho hf ha hb hx hn e = record {
  opcode = omega arith;
  funct3 = omega arith;
  rs1 = register a (w / 2 ^ 15 % 32) (omega arith);
  rs2 = register b (w / 2 ^ 20 % 32) (omega arith);
  immediate = (let q : w / 2 ^ 25 % 128 * 32 + w / 2 ^ 7 % 32 ≡ x = omega arith in
      ap (signed_of 12) q) ∙ hn;
}

pub FormatB-sum : (w : ℕ) (o f : ℕ) (a b : Reg) (n : ℤ) (x : ℕ) → o < 128 → f < 8 → IsRegister a
    → IsRegister b → x < 8192 → x % 2 ≡ 0 → signed_of 13 x ≡ n
    → w ≡ o + f * 2 ^ 12 + a.0 * 2 ^ 15 + b.0 * 2 ^ 20 + x / 2048 % 2 * 2 ^ 7 + x / 2 % 16 * 2 ^ 8 +
    x / 32 % 64 * 2 ^ 25 + x / 4096 * 2 ^ 31 → FormatB w o f a b n
unfolding opcode funct3 rs1 rs2 b_immediate
FormatB-sum w o f a b n x ho hf ha hb hx hy hn e = record {
  opcode = omega arith;
  funct3 = omega arith;
  rs1 = register a (w / 2 ^ 15 % 32) (omega arith);
  rs2 = register b (w / 2 ^ 20 % 32) (omega arith);
  immediate = (let q : w / 2 ^ 31 % 2 * 4096 + w / 2 ^ 7 % 2 * 2048 + w / 2 ^ 25 % 64 * 32 +
      w / 2 ^ 8 % 16 * 2 ≡ x = omega arith in ap (signed_of 13) q) ∙ hn;
}

pub FormatU-sum : (w : ℕ) (o : ℕ) (d : Reg) (n : ℤ) (x : ℕ) → o < 128 → IsRegister d → x < 2 ^ 32
    → x % 4096 ≡ 0 → signed_of 32 x ≡ n → w ≡ o + d.0 * 2 ^ 7 + x → FormatU w o d n
unfolding opcode rd u_immediate
FormatU-sum w o d n x ho hd hx hy hn e = record {
  opcode = omega arith;
  rd = register d (w / 2 ^ 7 % 32) (omega arith);
  immediate = (let q : w / 2 ^ 12 % 2 ^ 20 * 4096 ≡ x = omega arith in ap (signed_of 32) q) ∙ hn;
}

pub FormatJ-sum : (w : ℕ) (o : ℕ) (d : Reg) (n : ℤ) (x : ℕ) → o < 128 → IsRegister d → x < 2 ^ 21
    → x % 2 ≡ 0 → signed_of 21 x ≡ n
    → w ≡ o + d.0 * 2 ^ 7 + x / 4096 % 256 * 2 ^ 12 + x / 2048 % 2 * 2 ^ 20 +
    x / 2 % 1024 * 2 ^ 21 + x / 2 ^ 20 * 2 ^ 31 → FormatJ w o d n
unfolding opcode rd j_immediate
FormatJ-sum w o d n x ho hd hx hy hn e = record {
  opcode = omega arith;
  rd = register d (w / 2 ^ 7 % 32) (omega arith);
  immediate = (let q : w / 2 ^ 31 % 2 * 2 ^ 20 + w / 2 ^ 12 % 256 * 4096 + w / 2 ^ 20 % 2 * 2048 +
      w / 2 ^ 21 % 1024 * 2 ≡ x = omega arith in ap (signed_of 21) q) ∙ hn;
}

pub FormatShift-sum : (w : ℕ) (o f g : ℕ) (d a : Reg) (n : ℕ) → o < 128 → f < 8 → g < 64
    → IsRegister d → IsRegister a → n < 64
    → w ≡ o + f * 2 ^ 12 + g * 2 ^ 26 + d.0 * 2 ^ 7 + a.0 * 2 ^ 15 + n * 2 ^ 20
    → FormatShift w o f g d a n
unfolding opcode funct3 funct6 shamt6 rd rs1
FormatShift-sum w o f g d a n ho hf hg hd ha hn e = record {
  opcode = omega arith;
  funct3 = omega arith;
  funct6 = omega arith;
  amount = omega arith;
  rd = register d (w / 2 ^ 7 % 32) (omega arith);
  rs1 = register a (w / 2 ^ 15 % 32) (omega arith);
}

pub FormatShiftW-sum : (w : ℕ) (o f g : ℕ) (d a : Reg) (n : ℕ) → o < 128 → f < 8 → g < 128
    → IsRegister d → IsRegister a → n < 32
    → w ≡ o + f * 2 ^ 12 + g * 2 ^ 25 + d.0 * 2 ^ 7 + a.0 * 2 ^ 15 + n * 2 ^ 20
    → FormatShiftW w o f g d a n
unfolding opcode funct3 funct7 shamt5 rd rs1
FormatShiftW-sum w o f g d a n ho hf hg hd ha hn e = record {
  opcode = omega arith;
  funct3 = omega arith;
  funct7 = omega arith;
  amount = omega arith;
  rd = register d (w / 2 ^ 7 % 32) (omega arith);
  rs1 = register a (w / 2 ^ 15 % 32) (omega arith);
}

pub FormatNumber-sum : (w : ℕ) (o f : ℕ) (d a : Reg) (n : ℕ) → o < 128 → f < 8 → IsRegister d
    → IsRegister a → n < 4096 → w ≡ o + f * 2 ^ 12 + d.0 * 2 ^ 7 + a.0 * 2 ^ 15 + n * 2 ^ 20
    → FormatNumber w o f d a n
unfolding opcode funct3 funct12 rd rs1
FormatNumber-sum w o f d a n ho hf hd ha hn e = record {
  opcode = omega arith;
  funct3 = omega arith;
  number = omega arith;
  rd = register d (w / 2 ^ 7 % 32) (omega arith);
  rs1 = register a (w / 2 ^ 15 % 32) (omega arith);
}
