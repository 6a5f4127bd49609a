-- An instruction in range has a word of 32 bits.
use Rattle.std.proofs.Common.{◌≡◌, ℕ, ◌*◌, ◌%◌, ◌<◌, ◌^◌, lit<, arith, true, false}
use Rattle.std.specs.Prelude.{ℤ, pos, negsuc, neg_ℤ, ◌≤ℤ◌, ◌<ℤ◌}
use Rattle.std.proofs.lemmas.Int.{ints}
use Rattle.bn_types.specs.declared.reg.Reg.{Reg}
use Rattle.bn_types.specs.declared.csr_from.CsrFrom.TheVariants.{Register, Number}
use Rattle.bn_types.specs.declared.csr_op.CsrOp.TheVariants as csr_op
use Rattle.bn_types.specs.declared.imm_op.ImmOp.TheVariants as imm_op
use Rattle.bn_types.specs.declared.insn.Insn.{Insn}
use Rattle.bn_types.specs.declared.insn.Insn.TheVariants.{Lui, Auipc, Jal, Jalr, Branch, Load}
use Rattle.bn_types.specs.declared.insn.Insn.TheVariants.{Store, Imm, Shift, Reg2, AddiW, ShiftW}
use Rattle.bn_types.specs.declared.insn.Insn.TheVariants.{Reg2W, Fence, Csr, Ecall, Ebreak, Sret}
use Rattle.bn_types.specs.declared.insn.Insn.TheVariants.{Wfi, SfenceVma, Bastion}
use Rattle.bn_types.specs.declared.op.Op.TheVariants as op
use Rattle.bn_types.specs.declared.secure.Secure.TheVariants.{Launch, Call, Ret, Evict, Ident}
use Rattle.bn_types.specs.declared.secure.Secure.TheVariants.{Caller, Offerer, Sget, Sset}
use Rattle.bn_types.specs.declared.shift_op.ShiftOp.TheVariants.{Left, Right, RightSigned}
use Rattle.bn_types.specs.declared.test.Test.TheVariants.{Eq, Ne, Lt, Ge, Ltu, Geu}
use Rattle.bn_types.specs.declared.width.Width.TheVariants.{B1, B2, B4, B8}
use Rattle.bn_types.specs.declared.word_op.WordOp.TheVariants as word_op
use Rattle.bn_model.specs.Assembling.{bits_b, bits_i, bits_j, bits_s, complement, word_b, word_i}
use Rattle.bn_model.specs.Assembling.{word_j, word_number, word_of, word_r, word_s, word_shift}
use Rattle.bn_model.specs.Assembling.{word_shift_w, word_u}
use Rattle.bn_model.specs.Encoding.{x0}
use Rattle.bn_model.specs.InsnRanges.{FitsBits, IsInRange, IsMultipleOf, IsRegister}

complement-fits : (half : ℕ) (z : ℤ) → neg_ℤ (pos half) ≤ℤ z → z <ℤ pos half
    → complement half z < 2 * half
complement-fits half (pos n) l h = grind (arith, ints)
complement-fits half (negsuc n) l h = grind (arith, ints)

complement-upper : (z : ℤ) → neg_ℤ (pos (2 ^ 31)) ≤ℤ z → IsMultipleOf 4096 z
    → complement (2 ^ 31) z % 4096 ≡ 0
complement-upper (pos n) l h = h
complement-upper (negsuc n) l h = grind (arith, ints)

word_r-fits : (o f g : ℕ) (d a b : Reg) → o < 128 → f < 8 → g < 128 → IsRegister d → IsRegister a
    → IsRegister b → word_r o f g d a b < 2 ^ 32
word_r-fits o f g d a b ho hf hg hd ha hb = omega arith

bits_i-fits : (o f : ℕ) (d a : Reg) (x : ℕ) → o < 128 → f < 8 → IsRegister d → IsRegister a
    → x < 4096 → bits_i o f d a x < 2 ^ 32
bits_i-fits o f d a x ho hf hd ha hx = omega arith

word_i-fits : (o f : ℕ) (d a : Reg) (n : ℤ) → o < 128 → f < 8 → IsRegister d → IsRegister a
    → FitsBits 12 n → word_i o f d a n < 2 ^ 32
word_i-fits o f d a n ho hf hd ha hn =
    bits_i-fits o f d a (complement 2048 n) ho hf hd ha (complement-fits 2048 n hn.0 hn.1)

bits_s-fits : (o f : ℕ) (a b : Reg) (x : ℕ) → o < 128 → f < 8 → IsRegister a → IsRegister b
    → x < 4096 → bits_s o f a b x < 2 ^ 32
bits_s-fits o f a b x ho hf ha hb hx = omega arith

word_s-fits : (o f : ℕ) (a b : Reg) (n : ℤ) → o < 128 → f < 8 → IsRegister a → IsRegister b
    → FitsBits 12 n → word_s o f a b n < 2 ^ 32
word_s-fits o f a b n ho hf ha hb hn =
    bits_s-fits o f a b (complement 2048 n) ho hf ha hb (complement-fits 2048 n hn.0 hn.1)

bits_b-fits : (o f : ℕ) (a b : Reg) (x : ℕ) → o < 128 → f < 8 → IsRegister a → IsRegister b
    → x < 8192 → bits_b o f a b x < 2 ^ 32
bits_b-fits o f a b x ho hf ha hb hx = omega arith

word_b-fits : (o f : ℕ) (a b : Reg) (n : ℤ) → o < 128 → f < 8 → IsRegister a → IsRegister b
    → FitsBits 13 n → IsMultipleOf 2 n → word_b o f a b n < 2 ^ 32
word_b-fits o f a b n ho hf ha hb hn hm =
    bits_b-fits o f a b (complement 4096 n) ho hf ha hb (complement-fits 4096 n hn.0 hn.1)

word_u-fits : (o : ℕ) (d : Reg) (n : ℤ) → o < 128 → IsRegister d → FitsBits 32 n
    → IsMultipleOf 4096 n → word_u o d n < 2 ^ 32
word_u-fits o d n ho hd hn hm =
    let small : complement (2 ^ 31) n < 2 * 2 ^ 31 = complement-fits (2 ^ 31) n hn.0 hn.1 in
    let upper : complement (2 ^ 31) n % 4096 ≡ 0 = complement-upper n hn.0 hm in
    omega arith

bits_j-fits : (o : ℕ) (d : Reg) (x : ℕ) → o < 128 → IsRegister d → x < 2097152
    → bits_j o d x < 2 ^ 32
bits_j-fits o d x ho hd hx = omega arith

word_j-fits : (o : ℕ) (d : Reg) (n : ℤ) → o < 128 → IsRegister d → FitsBits 21 n → IsMultipleOf 2 n
    → word_j o d n < 2 ^ 32
word_j-fits o d n ho hd hn hm =
    bits_j-fits o d (complement (2 ^ 20) n) ho hd (complement-fits (2 ^ 20) n hn.0 hn.1)

word_shift-fits : (o f g : ℕ) (d a : Reg) (n : ℕ) → o < 128 → f < 8 → g < 64 → IsRegister d
    → IsRegister a → n < 64 → word_shift o f g d a n < 2 ^ 32
word_shift-fits o f g d a n ho hf hg hd ha hn = omega arith

word_shift_w-fits : (o f g : ℕ) (d a : Reg) (n : ℕ) → o < 128 → f < 8 → g < 128 → IsRegister d
    → IsRegister a → n < 32 → word_shift_w o f g d a n < 2 ^ 32
word_shift_w-fits o f g d a n ho hf hg hd ha hn = omega arith

word_number-fits : (o f : ℕ) (d a : Reg) (n : ℕ) → o < 128 → f < 8 → IsRegister d → IsRegister a
    → n < 4096 → word_number o f d a n < 2 ^ 32
word_number-fits o f d a n ho hf hd ha hn = omega arith

pub word_of-fits : (i : Insn) → IsInRange i → word_of i < 2 ^ 32
unfolding word_of
word_of-fits (Lui rd imm) r = word_u-fits 0b0110111 rd imm (lit< tt) r.0 r.1 r.2
word_of-fits (Auipc rd imm) r = word_u-fits 0b0010111 rd imm (lit< tt) r.0 r.1 r.2
word_of-fits (Jal rd offset) r = word_j-fits 0b1101111 rd offset (lit< tt) r.0 r.1 r.2
word_of-fits (Jalr rd base offset) r =
    word_i-fits 0b1100111 0b000 rd base offset (lit< tt) (lit< tt) r.0 r.1 r.2
word_of-fits (Branch Eq left right offset) r =
    word_b-fits 0b1100011 0b000 left right offset (lit< tt) (lit< tt) r.0 r.1 r.2 r.3
word_of-fits (Branch Ne left right offset) r =
    word_b-fits 0b1100011 0b001 left right offset (lit< tt) (lit< tt) r.0 r.1 r.2 r.3
word_of-fits (Branch Lt left right offset) r =
    word_b-fits 0b1100011 0b100 left right offset (lit< tt) (lit< tt) r.0 r.1 r.2 r.3
word_of-fits (Branch Ge left right offset) r =
    word_b-fits 0b1100011 0b101 left right offset (lit< tt) (lit< tt) r.0 r.1 r.2 r.3
word_of-fits (Branch Ltu left right offset) r =
    word_b-fits 0b1100011 0b110 left right offset (lit< tt) (lit< tt) r.0 r.1 r.2 r.3
word_of-fits (Branch Geu left right offset) r =
    word_b-fits 0b1100011 0b111 left right offset (lit< tt) (lit< tt) r.0 r.1 r.2 r.3
word_of-fits (Load B1 true rd base offset) r =
    word_i-fits 0b0000011 0b000 rd base offset (lit< tt) (lit< tt) r.1 r.2 r.3
word_of-fits (Load B2 true rd base offset) r =
    word_i-fits 0b0000011 0b001 rd base offset (lit< tt) (lit< tt) r.1 r.2 r.3
word_of-fits (Load B4 true rd base offset) r =
    word_i-fits 0b0000011 0b010 rd base offset (lit< tt) (lit< tt) r.1 r.2 r.3
word_of-fits (Load B8 true rd base offset) r =
    word_i-fits 0b0000011 0b011 rd base offset (lit< tt) (lit< tt) r.1 r.2 r.3
word_of-fits (Load B1 false rd base offset) r =
    word_i-fits 0b0000011 0b100 rd base offset (lit< tt) (lit< tt) r.1 r.2 r.3
word_of-fits (Load B2 false rd base offset) r =
    word_i-fits 0b0000011 0b101 rd base offset (lit< tt) (lit< tt) r.1 r.2 r.3
word_of-fits (Load B4 false rd base offset) r =
    word_i-fits 0b0000011 0b110 rd base offset (lit< tt) (lit< tt) r.1 r.2 r.3
word_of-fits (Load B8 false rd base offset) r = cc
word_of-fits (Store B1 base value offset) r =
    word_s-fits 0b0100011 0b000 base value offset (lit< tt) (lit< tt) r.0 r.1 r.2
word_of-fits (Store B2 base value offset) r =
    word_s-fits 0b0100011 0b001 base value offset (lit< tt) (lit< tt) r.0 r.1 r.2
word_of-fits (Store B4 base value offset) r =
    word_s-fits 0b0100011 0b010 base value offset (lit< tt) (lit< tt) r.0 r.1 r.2
word_of-fits (Store B8 base value offset) r =
    word_s-fits 0b0100011 0b011 base value offset (lit< tt) (lit< tt) r.0 r.1 r.2
word_of-fits (Imm imm_op.Add rd left imm) r =
    word_i-fits 0b0010011 0b000 rd left imm (lit< tt) (lit< tt) r.0 r.1 r.2
word_of-fits (Imm imm_op.Slt rd left imm) r =
    word_i-fits 0b0010011 0b010 rd left imm (lit< tt) (lit< tt) r.0 r.1 r.2
word_of-fits (Imm imm_op.Sltu rd left imm) r =
    word_i-fits 0b0010011 0b011 rd left imm (lit< tt) (lit< tt) r.0 r.1 r.2
word_of-fits (Imm imm_op.Xor rd left imm) r =
    word_i-fits 0b0010011 0b100 rd left imm (lit< tt) (lit< tt) r.0 r.1 r.2
word_of-fits (Imm imm_op.Or rd left imm) r =
    word_i-fits 0b0010011 0b110 rd left imm (lit< tt) (lit< tt) r.0 r.1 r.2
word_of-fits (Imm imm_op.And rd left imm) r =
    word_i-fits 0b0010011 0b111 rd left imm (lit< tt) (lit< tt) r.0 r.1 r.2
word_of-fits (Shift Left rd left amount) r =
    word_shift-fits 0b0010011 0b001 0b000000 rd left amount (lit< tt) (lit< tt) (lit< tt) r.0
    r.1 r.2
word_of-fits (Shift Right rd left amount) r =
    word_shift-fits 0b0010011 0b101 0b000000 rd left amount (lit< tt) (lit< tt) (lit< tt) r.0
    r.1 r.2
word_of-fits (Shift RightSigned rd left amount) r =
    word_shift-fits 0b0010011 0b101 0b010000 rd left amount (lit< tt) (lit< tt) (lit< tt) r.0
    r.1 r.2
word_of-fits (Reg2 op.Add rd left right) r =
    word_r-fits 0b0110011 0b000 0b0000000 rd left right (lit< tt) (lit< tt) (lit< tt) r.0 r.1 r.2
word_of-fits (Reg2 op.Sub rd left right) r =
    word_r-fits 0b0110011 0b000 0b0100000 rd left right (lit< tt) (lit< tt) (lit< tt) r.0 r.1 r.2
word_of-fits (Reg2 op.Sll rd left right) r =
    word_r-fits 0b0110011 0b001 0b0000000 rd left right (lit< tt) (lit< tt) (lit< tt) r.0 r.1 r.2
word_of-fits (Reg2 op.Slt rd left right) r =
    word_r-fits 0b0110011 0b010 0b0000000 rd left right (lit< tt) (lit< tt) (lit< tt) r.0 r.1 r.2
word_of-fits (Reg2 op.Sltu rd left right) r =
    word_r-fits 0b0110011 0b011 0b0000000 rd left right (lit< tt) (lit< tt) (lit< tt) r.0 r.1 r.2
word_of-fits (Reg2 op.Xor rd left right) r =
    word_r-fits 0b0110011 0b100 0b0000000 rd left right (lit< tt) (lit< tt) (lit< tt) r.0 r.1 r.2
word_of-fits (Reg2 op.Srl rd left right) r =
    word_r-fits 0b0110011 0b101 0b0000000 rd left right (lit< tt) (lit< tt) (lit< tt) r.0 r.1 r.2
word_of-fits (Reg2 op.Sra rd left right) r =
    word_r-fits 0b0110011 0b101 0b0100000 rd left right (lit< tt) (lit< tt) (lit< tt) r.0 r.1 r.2
word_of-fits (Reg2 op.Or rd left right) r =
    word_r-fits 0b0110011 0b110 0b0000000 rd left right (lit< tt) (lit< tt) (lit< tt) r.0 r.1 r.2
word_of-fits (Reg2 op.And rd left right) r =
    word_r-fits 0b0110011 0b111 0b0000000 rd left right (lit< tt) (lit< tt) (lit< tt) r.0 r.1 r.2
word_of-fits (AddiW rd left imm) r =
    word_i-fits 0b0011011 0b000 rd left imm (lit< tt) (lit< tt) r.0 r.1 r.2
word_of-fits (ShiftW Left rd left amount) r =
    word_shift_w-fits 0b0011011 0b001 0b0000000 rd left amount (lit< tt) (lit< tt) (lit< tt) r.0
    r.1 r.2
word_of-fits (ShiftW Right rd left amount) r =
    word_shift_w-fits 0b0011011 0b101 0b0000000 rd left amount (lit< tt) (lit< tt) (lit< tt) r.0
    r.1 r.2
word_of-fits (ShiftW RightSigned rd left amount) r =
    word_shift_w-fits 0b0011011 0b101 0b0100000 rd left amount (lit< tt) (lit< tt) (lit< tt) r.0
    r.1 r.2
word_of-fits (Reg2W word_op.Add rd left right) r =
    word_r-fits 0b0111011 0b000 0b0000000 rd left right (lit< tt) (lit< tt) (lit< tt) r.0 r.1 r.2
word_of-fits (Reg2W word_op.Sub rd left right) r =
    word_r-fits 0b0111011 0b000 0b0100000 rd left right (lit< tt) (lit< tt) (lit< tt) r.0 r.1 r.2
word_of-fits (Reg2W word_op.Sll rd left right) r =
    word_r-fits 0b0111011 0b001 0b0000000 rd left right (lit< tt) (lit< tt) (lit< tt) r.0 r.1 r.2
word_of-fits (Reg2W word_op.Srl rd left right) r =
    word_r-fits 0b0111011 0b101 0b0000000 rd left right (lit< tt) (lit< tt) (lit< tt) r.0 r.1 r.2
word_of-fits (Reg2W word_op.Sra rd left right) r =
    word_r-fits 0b0111011 0b101 0b0100000 rd left right (lit< tt) (lit< tt) (lit< tt) r.0 r.1 r.2
word_of-fits (Fence high rs1 rd) r =
    word_number-fits 0b0001111 0b000 rd rs1 high (lit< tt) (lit< tt) r.2 r.1 r.0
word_of-fits (Csr csr_op.Write number (Register rs1) rd) r =
    word_number-fits 0b1110011 0b001 rd rs1 number (lit< tt) (lit< tt) r.2 r.1 r.0
word_of-fits (Csr csr_op.Set number (Register rs1) rd) r =
    word_number-fits 0b1110011 0b010 rd rs1 number (lit< tt) (lit< tt) r.2 r.1 r.0
word_of-fits (Csr csr_op.Clear number (Register rs1) rd) r =
    word_number-fits 0b1110011 0b011 rd rs1 number (lit< tt) (lit< tt) r.2 r.1 r.0
word_of-fits (Csr csr_op.Write number (Number n) rd) r =
    word_number-fits 0b1110011 0b101 rd (record { 0 = n }) number (lit< tt) (lit< tt) r.2 r.1 r.0
word_of-fits (Csr csr_op.Set number (Number n) rd) r =
    word_number-fits 0b1110011 0b110 rd (record { 0 = n }) number (lit< tt) (lit< tt) r.2 r.1 r.0
word_of-fits (Csr csr_op.Clear number (Number n) rd) r =
    word_number-fits 0b1110011 0b111 rd (record { 0 = n }) number (lit< tt) (lit< tt) r.2 r.1 r.0
word_of-fits Ecall r = lit< tt
word_of-fits Ebreak r = lit< tt
word_of-fits Sret r = lit< tt
word_of-fits Wfi r = lit< tt
word_of-fits (SfenceVma rs1 rs2) r =
    word_r-fits 0b1110011 0b000 0b0001001 x0 rs1 rs2 (lit< tt) (lit< tt) (lit< tt) (lit< tt)
    r.0 r.1
word_of-fits (Bastion (Launch rd at)) r =
    word_r-fits 0b0001011 0b000 0 rd at x0 (lit< tt) (lit< tt) (lit< tt) r.0 r.1 (lit< tt)
word_of-fits (Bastion (Call rd id entry)) r =
    word_r-fits 0b0001011 0b001 0 rd id entry (lit< tt) (lit< tt) (lit< tt) r.0 r.1 r.2
word_of-fits (Bastion Ret) r =
    word_r-fits 0b0001011 0b010 0 x0 x0 x0 (lit< tt) (lit< tt) (lit< tt) (lit< tt) (lit< tt)
    (lit< tt)
word_of-fits (Bastion (Evict rd id)) r =
    word_r-fits 0b0001011 0b011 0 rd id x0 (lit< tt) (lit< tt) (lit< tt) r.0 r.1 (lit< tt)
word_of-fits (Bastion (Ident rd id word)) r =
    word_r-fits 0b0001011 0b100 0 rd id word (lit< tt) (lit< tt) (lit< tt) r.0 r.1 r.2
word_of-fits (Bastion (Caller rd)) r =
    word_r-fits 0b0001011 0b101 0 rd x0 x0 (lit< tt) (lit< tt) (lit< tt) r (lit< tt) (lit< tt)
word_of-fits (Bastion (Offerer rd at)) r =
    word_r-fits 0b0001011 0b110 0 rd at x0 (lit< tt) (lit< tt) (lit< tt) r.0 r.1 (lit< tt)
word_of-fits (Bastion (Sget rd index)) r =
    word_r-fits 0b0001011 0b111 0 rd index x0 (lit< tt) (lit< tt) (lit< tt) r.0 r.1 (lit< tt)
word_of-fits (Bastion (Sset rd index value)) r =
    word_r-fits 0b0001011 0b000 1 rd index value (lit< tt) (lit< tt) (lit< tt) r.0 r.1 r.2
