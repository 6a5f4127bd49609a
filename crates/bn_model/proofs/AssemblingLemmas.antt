-- The word of an instruction in range is the one that the table gives it.
use Rattle.std.proofs.Common.{◌≡◌, ℕ, ◌*◌, ◌%◌, ◌<◌, ◌^◌, lit<, refl, arith, true, false}
use Rattle.std.specs.Prelude.{ℤ, pos, negsuc, neg_ℤ, ◌≤ℤ◌, ◌<ℤ◌}
use Rattle.std.proofs.lemmas.Int.{ints}
use Rattle.std.proofs.lemmas.Bool.Decides.{nat_tests}
use Rattle.bn_types.specs.declared.reg.Reg.{Reg}
use Rattle.bn_model.specs.InsnRanges.{FitsBits, IsMultipleOf, IsRegister}
use Rattle.bn_model.specs.Encoding.{FormatR, FormatI, FormatS, FormatB, FormatU, FormatJ}
use Rattle.bn_model.specs.Encoding.{FormatShift, FormatShiftW, FormatNumber}
use Rattle.bn_model.proofs.FieldLemmas.{two, FormatR-sum, FormatI-sum, FormatS-sum, FormatB-sum}
use Rattle.bn_model.proofs.FieldLemmas.{FormatU-sum, FormatJ-sum, FormatShift-sum, FormatShiftW-sum}
use Rattle.bn_model.proofs.FieldLemmas.{FormatNumber-sum}
use Rattle.bn_types.specs.declared.csr_from.CsrFrom.TheVariants.{Register, Number}
use Rattle.bn_types.specs.declared.csr_op.CsrOp.TheVariants as csr_op
use Rattle.bn_types.specs.declared.imm_op.ImmOp.TheVariants as imm_op
use Rattle.bn_types.specs.declared.insn.Insn.{Insn}
use Rattle.bn_types.specs.declared.insn.Insn.TheVariants.{Lui, Auipc, Jal, Jalr, Branch, Load}
use Rattle.bn_types.specs.declared.insn.Insn.TheVariants.{Store, Imm, Shift, Reg2, AddiW, ShiftW}
use Rattle.bn_types.specs.declared.insn.Insn.TheVariants.{Reg2W, Fence, Csr, Ecall, Ebreak, Sret}
use Rattle.bn_types.specs.declared.insn.Insn.TheVariants.{Wfi, SfenceVma, Bastion}
use Rattle.bn_types.specs.declared.op.Op.TheVariants as op
use Rattle.bn_types.specs.declared.secure.Secure.TheVariants.{Launch, Call, Ret, Evict, Ident}
use Rattle.bn_types.specs.declared.secure.Secure.TheVariants.{Caller, Offerer, Sget, Sset}
use Rattle.bn_types.specs.declared.shift_op.ShiftOp.TheVariants.{Left, Right, RightSigned}
use Rattle.bn_types.specs.declared.test.Test.TheVariants.{Eq, Ne, Lt, Ge, Ltu, Geu}
use Rattle.bn_types.specs.declared.width.Width.TheVariants.{B1, B2, B4, B8}
use Rattle.bn_types.specs.declared.word_op.WordOp.TheVariants as word_op
use Rattle.bn_model.specs.Assembling.{complement, word_of, word_r, word_i, word_s, word_b, word_u}
use Rattle.bn_model.specs.Assembling.{word_j, word_shift, word_shift_w, word_number}
use Rattle.bn_model.specs.Encoding.{Encodes, x0}
use Rattle.bn_model.specs.InsnRanges.{IsInRange}

complement-range : (half : ℕ) (z : ℤ) → neg_ℤ (pos half) ≤ℤ z → z <ℤ pos half
    → complement half z < 2 * half
complement-range half (pos n) l h = grind (arith, ints)
complement-range half (negsuc n) l h = grind (arith, ints)

two-complement : (half : ℕ) (z : ℤ) → neg_ℤ (pos half) ≤ℤ z → z <ℤ pos half
    → two half (complement half z) ≡ z
two-complement half (pos n) l h = grind (arith, ints, nat_tests)
two-complement half (negsuc n) l h = grind (arith, ints, nat_tests)

complement-even : (half : ℕ) (z : ℤ) → half % 2 ≡ 0 → neg_ℤ (pos half) ≤ℤ z → IsMultipleOf 2 z
    → complement half z % 2 ≡ 0
complement-even half (pos n) e l h = h
complement-even half (negsuc n) e l h = grind (arith, ints)

complement-upper : (z : ℤ) → neg_ℤ (pos (2 ^ 31)) ≤ℤ z → IsMultipleOf 4096 z
    → complement (2 ^ 31) z % 4096 ≡ 0
complement-upper (pos n) l h = h
complement-upper (negsuc n) l h = grind (arith, ints)

FormatR-word : (o f g : ℕ) (d a b : Reg) → o < 128 → f < 8 → g < 128 → IsRegister d → IsRegister a
    → IsRegister b → FormatR (word_r o f g d a b) o f g d a b
FormatR-word o f g d a b ho hf hg hd ha hb =
    FormatR-sum _ o f g d a b ho hf hg hd ha hb refl

FormatI-word : (o f : ℕ) (d a : Reg) (n : ℤ) → o < 128 → f < 8 → IsRegister d → IsRegister a
    → FitsBits 12 n → FormatI (word_i o f d a n) o f d a n
FormatI-word o f d a n ho hf hd ha hn =
    let x : ℕ = complement 2048 n in
    let hx : x < 2 * 2048 = complement-range 2048 n hn.0 hn.1 in
    FormatI-sum _ o f d a n x ho hf hd ha hx (two-complement 2048 n hn.0 hn.1) refl

FormatS-word : (o f : ℕ) (a b : Reg) (n : ℤ) → o < 128 → f < 8 → IsRegister a → IsRegister b
    → FitsBits 12 n → FormatS (word_s o f a b n) o f a b n
FormatS-word o f a b n ho hf ha hb hn =
    let x : ℕ = complement 2048 n in
    let hx : x < 2 * 2048 = complement-range 2048 n hn.0 hn.1 in
    FormatS-sum _ o f a b n x ho hf ha hb hx (two-complement 2048 n hn.0 hn.1) refl

FormatB-word : (o f : ℕ) (a b : Reg) (n : ℤ) → o < 128 → f < 8 → IsRegister a → IsRegister b
    → FitsBits 13 n → IsMultipleOf 2 n → FormatB (word_b o f a b n) o f a b n
FormatB-word o f a b n ho hf ha hb hn hm =
    let x : ℕ = complement 4096 n in
    let hx : x < 2 * 4096 = complement-range 4096 n hn.0 hn.1 in
    let hy : x % 2 ≡ 0 = complement-even 4096 n refl hn.0 hm in
    FormatB-sum _ o f a b n x ho hf ha hb hx hy (two-complement 4096 n hn.0 hn.1) refl

FormatU-word : (o : ℕ) (d : Reg) (n : ℤ) → o < 128 → IsRegister d → FitsBits 32 n
    → IsMultipleOf 4096 n → FormatU (word_u o d n) o d n
FormatU-word o d n ho hd hn hm =
    let x : ℕ = complement (2 ^ 31) n in
    let hx : x < 2 * (2 ^ 31) = complement-range (2 ^ 31) n hn.0 hn.1 in
    let hy : x % 4096 ≡ 0 = complement-upper n hn.0 hm in
    FormatU-sum _ o d n x ho hd hx hy (two-complement (2 ^ 31) n hn.0 hn.1) refl

FormatJ-word : (o : ℕ) (d : Reg) (n : ℤ) → o < 128 → IsRegister d → FitsBits 21 n → IsMultipleOf 2 n
    → FormatJ (word_j o d n) o d n
FormatJ-word o d n ho hd hn hm =
    let x : ℕ = complement (2 ^ 20) n in
    let hx : x < 2 * (2 ^ 20) = complement-range (2 ^ 20) n hn.0 hn.1 in
    let hy : x % 2 ≡ 0 = complement-even (2 ^ 20) n refl hn.0 hm in
    FormatJ-sum _ o d n x ho hd hx hy (two-complement (2 ^ 20) n hn.0 hn.1) refl

FormatShift-word : (o f g : ℕ) (d a : Reg) (n : ℕ) → o < 128 → f < 8 → g < 64 → IsRegister d
    → IsRegister a → n < 64 → FormatShift (word_shift o f g d a n) o f g d a n
FormatShift-word o f g d a n ho hf hg hd ha hn =
    FormatShift-sum _ o f g d a n ho hf hg hd ha hn refl

FormatShiftW-word : (o f g : ℕ) (d a : Reg) (n : ℕ) → o < 128 → f < 8 → g < 128 → IsRegister d
    → IsRegister a → n < 32 → FormatShiftW (word_shift_w o f g d a n) o f g d a n
FormatShiftW-word o f g d a n ho hf hg hd ha hn =
    FormatShiftW-sum _ o f g d a n ho hf hg hd ha hn refl

FormatNumber-word : (o f : ℕ) (d a : Reg) (n : ℕ) → o < 128 → f < 8 → IsRegister d → IsRegister a
    → n < 4096 → FormatNumber (word_number o f d a n) o f d a n
FormatNumber-word o f d a n ho hf hd ha hn =
    FormatNumber-sum _ o f d a n ho hf hd ha hn refl

-- the table relates an instruction in range to its word
pub Encodes-word_of : (i : Insn) → IsInRange i → Encodes (word_of i) i
unfolding word_of
Encodes-word_of (Lui rd imm) r = FormatU-word 0b0110111 rd imm (lit< tt) r.0 r.1 r.2
Encodes-word_of (Auipc rd imm) r = FormatU-word 0b0010111 rd imm (lit< tt) r.0 r.1 r.2
Encodes-word_of (Jal rd offset) r = FormatJ-word 0b1101111 rd offset (lit< tt) r.0 r.1 r.2
Encodes-word_of (Jalr rd base offset) r =
    FormatI-word 0b1100111 0b000 rd base offset (lit< tt) (lit< tt) r.0 r.1 r.2
Encodes-word_of (Branch Eq left right offset) r =
    FormatB-word 0b1100011 0b000 left right offset (lit< tt) (lit< tt) r.0 r.1 r.2 r.3
Encodes-word_of (Branch Ne left right offset) r =
    FormatB-word 0b1100011 0b001 left right offset (lit< tt) (lit< tt) r.0 r.1 r.2 r.3
Encodes-word_of (Branch Lt left right offset) r =
    FormatB-word 0b1100011 0b100 left right offset (lit< tt) (lit< tt) r.0 r.1 r.2 r.3
Encodes-word_of (Branch Ge left right offset) r =
    FormatB-word 0b1100011 0b101 left right offset (lit< tt) (lit< tt) r.0 r.1 r.2 r.3
Encodes-word_of (Branch Ltu left right offset) r =
    FormatB-word 0b1100011 0b110 left right offset (lit< tt) (lit< tt) r.0 r.1 r.2 r.3
Encodes-word_of (Branch Geu left right offset) r =
    FormatB-word 0b1100011 0b111 left right offset (lit< tt) (lit< tt) r.0 r.1 r.2 r.3
Encodes-word_of (Load B1 true rd base offset) r =
    FormatI-word 0b0000011 0b000 rd base offset (lit< tt) (lit< tt) r.1 r.2 r.3
Encodes-word_of (Load B2 true rd base offset) r =
    FormatI-word 0b0000011 0b001 rd base offset (lit< tt) (lit< tt) r.1 r.2 r.3
Encodes-word_of (Load B4 true rd base offset) r =
    FormatI-word 0b0000011 0b010 rd base offset (lit< tt) (lit< tt) r.1 r.2 r.3
Encodes-word_of (Load B8 true rd base offset) r =
    FormatI-word 0b0000011 0b011 rd base offset (lit< tt) (lit< tt) r.1 r.2 r.3
Encodes-word_of (Load B1 false rd base offset) r =
    FormatI-word 0b0000011 0b100 rd base offset (lit< tt) (lit< tt) r.1 r.2 r.3
Encodes-word_of (Load B2 false rd base offset) r =
    FormatI-word 0b0000011 0b101 rd base offset (lit< tt) (lit< tt) r.1 r.2 r.3
Encodes-word_of (Load B4 false rd base offset) r =
    FormatI-word 0b0000011 0b110 rd base offset (lit< tt) (lit< tt) r.1 r.2 r.3
Encodes-word_of (Load B8 false rd base offset) r = cc
Encodes-word_of (Store B1 base value offset) r =
    FormatS-word 0b0100011 0b000 base value offset (lit< tt) (lit< tt) r.0 r.1 r.2
Encodes-word_of (Store B2 base value offset) r =
    FormatS-word 0b0100011 0b001 base value offset (lit< tt) (lit< tt) r.0 r.1 r.2
Encodes-word_of (Store B4 base value offset) r =
    FormatS-word 0b0100011 0b010 base value offset (lit< tt) (lit< tt) r.0 r.1 r.2
Encodes-word_of (Store B8 base value offset) r =
    FormatS-word 0b0100011 0b011 base value offset (lit< tt) (lit< tt) r.0 r.1 r.2
Encodes-word_of (Imm imm_op.Add rd left imm) r =
    FormatI-word 0b0010011 0b000 rd left imm (lit< tt) (lit< tt) r.0 r.1 r.2
Encodes-word_of (Imm imm_op.Slt rd left imm) r =
    FormatI-word 0b0010011 0b010 rd left imm (lit< tt) (lit< tt) r.0 r.1 r.2
Encodes-word_of (Imm imm_op.Sltu rd left imm) r =
    FormatI-word 0b0010011 0b011 rd left imm (lit< tt) (lit< tt) r.0 r.1 r.2
Encodes-word_of (Imm imm_op.Xor rd left imm) r =
    FormatI-word 0b0010011 0b100 rd left imm (lit< tt) (lit< tt) r.0 r.1 r.2
Encodes-word_of (Imm imm_op.Or rd left imm) r =
    FormatI-word 0b0010011 0b110 rd left imm (lit< tt) (lit< tt) r.0 r.1 r.2
Encodes-word_of (Imm imm_op.And rd left imm) r =
    FormatI-word 0b0010011 0b111 rd left imm (lit< tt) (lit< tt) r.0 r.1 r.2
Encodes-word_of (Shift Left rd left amount) r =
    FormatShift-word 0b0010011 0b001 0b000000 rd left amount (lit< tt) (lit< tt) (lit< tt) r.0
    r.1 r.2
Encodes-word_of (Shift Right rd left amount) r =
    FormatShift-word 0b0010011 0b101 0b000000 rd left amount (lit< tt) (lit< tt) (lit< tt) r.0
    r.1 r.2
Encodes-word_of (Shift RightSigned rd left amount) r =
    FormatShift-word 0b0010011 0b101 0b010000 rd left amount (lit< tt) (lit< tt) (lit< tt) r.0
    r.1 r.2
Encodes-word_of (Reg2 op.Add rd left right) r =
    FormatR-word 0b0110011 0b000 0b0000000 rd left right (lit< tt) (lit< tt) (lit< tt) r.0 r.1 r.2
Encodes-word_of (Reg2 op.Sub rd left right) r =
    FormatR-word 0b0110011 0b000 0b0100000 rd left right (lit< tt) (lit< tt) (lit< tt) r.0 r.1 r.2
Encodes-word_of (Reg2 op.Sll rd left right) r =
    FormatR-word 0b0110011 0b001 0b0000000 rd left right (lit< tt) (lit< tt) (lit< tt) r.0 r.1 r.2
Encodes-word_of (Reg2 op.Slt rd left right) r =
    FormatR-word 0b0110011 0b010 0b0000000 rd left right (lit< tt) (lit< tt) (lit< tt) r.0 r.1 r.2
Encodes-word_of (Reg2 op.Sltu rd left right) r =
    FormatR-word 0b0110011 0b011 0b0000000 rd left right (lit< tt) (lit< tt) (lit< tt) r.0 r.1 r.2
Encodes-word_of (Reg2 op.Xor rd left right) r =
    FormatR-word 0b0110011 0b100 0b0000000 rd left right (lit< tt) (lit< tt) (lit< tt) r.0 r.1 r.2
Encodes-word_of (Reg2 op.Srl rd left right) r =
    FormatR-word 0b0110011 0b101 0b0000000 rd left right (lit< tt) (lit< tt) (lit< tt) r.0 r.1 r.2
Encodes-word_of (Reg2 op.Sra rd left right) r =
    FormatR-word 0b0110011 0b101 0b0100000 rd left right (lit< tt) (lit< tt) (lit< tt) r.0 r.1 r.2
Encodes-word_of (Reg2 op.Or rd left right) r =
    FormatR-word 0b0110011 0b110 0b0000000 rd left right (lit< tt) (lit< tt) (lit< tt) r.0 r.1 r.2
Encodes-word_of (Reg2 op.And rd left right) r =
    FormatR-word 0b0110011 0b111 0b0000000 rd left right (lit< tt) (lit< tt) (lit< tt) r.0 r.1 r.2
Encodes-word_of (AddiW rd left imm) r =
    FormatI-word 0b0011011 0b000 rd left imm (lit< tt) (lit< tt) r.0 r.1 r.2
Encodes-word_of (ShiftW Left rd left amount) r =
    FormatShiftW-word 0b0011011 0b001 0b0000000 rd left amount (lit< tt) (lit< tt) (lit< tt) r.0
    r.1 r.2
Encodes-word_of (ShiftW Right rd left amount) r =
    FormatShiftW-word 0b0011011 0b101 0b0000000 rd left amount (lit< tt) (lit< tt) (lit< tt) r.0
    r.1 r.2
Encodes-word_of (ShiftW RightSigned rd left amount) r =
    FormatShiftW-word 0b0011011 0b101 0b0100000 rd left amount (lit< tt) (lit< tt) (lit< tt) r.0
    r.1 r.2
Encodes-word_of (Reg2W word_op.Add rd left right) r =
    FormatR-word 0b0111011 0b000 0b0000000 rd left right (lit< tt) (lit< tt) (lit< tt) r.0 r.1 r.2
Encodes-word_of (Reg2W word_op.Sub rd left right) r =
    FormatR-word 0b0111011 0b000 0b0100000 rd left right (lit< tt) (lit< tt) (lit< tt) r.0 r.1 r.2
Encodes-word_of (Reg2W word_op.Sll rd left right) r =
    FormatR-word 0b0111011 0b001 0b0000000 rd left right (lit< tt) (lit< tt) (lit< tt) r.0 r.1 r.2
Encodes-word_of (Reg2W word_op.Srl rd left right) r =
    FormatR-word 0b0111011 0b101 0b0000000 rd left right (lit< tt) (lit< tt) (lit< tt) r.0 r.1 r.2
Encodes-word_of (Reg2W word_op.Sra rd left right) r =
    FormatR-word 0b0111011 0b101 0b0100000 rd left right (lit< tt) (lit< tt) (lit< tt) r.0 r.1 r.2
Encodes-word_of (Fence high rs1 rd) r =
    FormatNumber-word 0b0001111 0b000 rd rs1 high (lit< tt) (lit< tt) r.2 r.1 r.0
Encodes-word_of (Csr csr_op.Write number (Register rs1) rd) r =
    FormatNumber-word 0b1110011 0b001 rd rs1 number (lit< tt) (lit< tt) r.2 r.1 r.0
Encodes-word_of (Csr csr_op.Set number (Register rs1) rd) r =
    FormatNumber-word 0b1110011 0b010 rd rs1 number (lit< tt) (lit< tt) r.2 r.1 r.0
Encodes-word_of (Csr csr_op.Clear number (Register rs1) rd) r =
    FormatNumber-word 0b1110011 0b011 rd rs1 number (lit< tt) (lit< tt) r.2 r.1 r.0
Encodes-word_of (Csr csr_op.Write number (Number n) rd) r =
    FormatNumber-word 0b1110011 0b101 rd (record { 0 = n }) number (lit< tt) (lit< tt) r.2 r.1 r.0
Encodes-word_of (Csr csr_op.Set number (Number n) rd) r =
    FormatNumber-word 0b1110011 0b110 rd (record { 0 = n }) number (lit< tt) (lit< tt) r.2 r.1 r.0
Encodes-word_of (Csr csr_op.Clear number (Number n) rd) r =
    FormatNumber-word 0b1110011 0b111 rd (record { 0 = n }) number (lit< tt) (lit< tt) r.2 r.1 r.0
Encodes-word_of Ecall r = refl
Encodes-word_of Ebreak r = refl
Encodes-word_of Sret r = refl
Encodes-word_of Wfi r = refl
Encodes-word_of (SfenceVma rs1 rs2) r =
    FormatR-word 0b1110011 0b000 0b0001001 x0 rs1 rs2 (lit< tt) (lit< tt) (lit< tt) (lit< tt)
    r.0 r.1
Encodes-word_of (Bastion (Launch rd at)) r =
    FormatR-word 0b0001011 0b000 0 rd at x0 (lit< tt) (lit< tt) (lit< tt) r.0 r.1 (lit< tt)
Encodes-word_of (Bastion (Call rd id entry)) r =
    FormatR-word 0b0001011 0b001 0 rd id entry (lit< tt) (lit< tt) (lit< tt) r.0 r.1 r.2
Encodes-word_of (Bastion Ret) r =
    FormatR-word 0b0001011 0b010 0 x0 x0 x0 (lit< tt) (lit< tt) (lit< tt) (lit< tt) (lit< tt)
    (lit< tt)
Encodes-word_of (Bastion (Evict rd id)) r =
    FormatR-word 0b0001011 0b011 0 rd id x0 (lit< tt) (lit< tt) (lit< tt) r.0 r.1 (lit< tt)
Encodes-word_of (Bastion (Ident rd id word)) r =
    FormatR-word 0b0001011 0b100 0 rd id word (lit< tt) (lit< tt) (lit< tt) r.0 r.1 r.2
Encodes-word_of (Bastion (Caller rd)) r =
    FormatR-word 0b0001011 0b101 0 rd x0 x0 (lit< tt) (lit< tt) (lit< tt) r (lit< tt) (lit< tt)
Encodes-word_of (Bastion (Offerer rd at)) r =
    FormatR-word 0b0001011 0b110 0 rd at x0 (lit< tt) (lit< tt) (lit< tt) r.0 r.1 (lit< tt)
Encodes-word_of (Bastion (Sget rd index)) r =
    FormatR-word 0b0001011 0b111 0 rd index x0 (lit< tt) (lit< tt) (lit< tt) r.0 r.1 (lit< tt)
Encodes-word_of (Bastion (Sset rd index value)) r =
    FormatR-word 0b0001011 0b000 1 rd index value (lit< tt) (lit< tt) (lit< tt) r.0 r.1 r.2
