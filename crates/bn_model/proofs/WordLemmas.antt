-- The table gives each word one instruction at most, and each instruction in range exactly one
-- word.
use Rattle.std.proofs.Common.{◌≡◌, ℕ, ◌<◌, ◌^◌, lit<, refl, subst, sym, ◌∙◌, true, false, Option}
use Rattle.std.proofs.Common.{Some, None}
use Rattle.std.specs.Prelude.{IfSome, IsNone, ◌↔◌}
use Rattle.bn_types.specs.declared.csr_from.CsrFrom.TheVariants.{Register, Number}
use Rattle.bn_types.specs.declared.csr_op.CsrOp.TheVariants as csr_op
use Rattle.bn_types.specs.declared.imm_op.ImmOp.TheVariants as imm_op
use Rattle.bn_types.specs.declared.insn.Insn.{Insn}
use Rattle.bn_types.specs.declared.insn.Insn.TheVariants.{Lui, Auipc, Jal, Jalr, Branch, Load}
use Rattle.bn_types.specs.declared.insn.Insn.TheVariants.{Store, Imm, Shift, Reg2, AddiW, ShiftW}
use Rattle.bn_types.specs.declared.insn.Insn.TheVariants.{Reg2W, Fence, Csr, Ecall, Ebreak, Sret}
use Rattle.bn_types.specs.declared.insn.Insn.TheVariants.{Wfi, SfenceVma, Bastion}
use Rattle.bn_types.specs.declared.op.Op.TheVariants as op
use Rattle.bn_types.specs.declared.secure.Secure.TheVariants.{Launch, Call, Ret, Evict, Ident}
use Rattle.bn_types.specs.declared.secure.Secure.TheVariants.{Caller, Offerer, Sget, Sset}
use Rattle.bn_types.specs.declared.shift_op.ShiftOp.TheVariants.{Left, Right, RightSigned}
use Rattle.bn_types.specs.declared.test.Test.TheVariants.{Eq, Ne, Lt, Ge, Ltu, Geu}
use Rattle.bn_types.specs.declared.width.Width.TheVariants.{B1, B2, B4, B8}
use Rattle.bn_types.specs.declared.word_op.WordOp.TheVariants as word_op
use Rattle.bn_model.specs.Encoding.{Encodes, x0}
use Rattle.bn_model.specs.InsnRanges.{IsInRange}
use Rattle.bn_model.specs.Decoding.{insn_of}
use Rattle.bn_model.proofs.EncodingLemmas.{insn_of-Encodes}
use Rattle.bn_model.proofs.ListedLemmas.{Encodes-insn_of}
use Rattle.bn_model.proofs.FieldLemmas.{FormatR-range, FormatI-range, FormatS-range, FormatB-range}
use Rattle.bn_model.proofs.FieldLemmas.{FormatU-range, FormatJ-range, FormatShift-range}
use Rattle.bn_model.proofs.FieldLemmas.{FormatShiftW-range, FormatNumber-range, FormatR-same}
use Rattle.bn_model.proofs.FieldLemmas.{FormatI-same, FormatS-same, FormatB-same, FormatU-same}
use Rattle.bn_model.proofs.FieldLemmas.{FormatJ-same, FormatShift-same, FormatShiftW-same}
use Rattle.bn_model.proofs.FieldLemmas.{FormatNumber-same}
use Rattle.bn_model.proofs.FormatLemmas.{FormatR-some, FormatI-some, FormatS-some, FormatB-some}
use Rattle.bn_model.proofs.FormatLemmas.{FormatU-some, FormatJ-some, FormatShift-some}
use Rattle.bn_model.proofs.FormatLemmas.{FormatShiftW-some, FormatNumber-some}

-- the instruction of a word is in range
pub IsInRange-Encodes : (w : ℕ) (i : Insn) → Encodes w i → IsInRange i
IsInRange-Encodes w (Lui rd imm) h = FormatU-range w 0b0110111 rd imm h
IsInRange-Encodes w (Auipc rd imm) h = FormatU-range w 0b0010111 rd imm h
IsInRange-Encodes w (Jal rd offset) h = FormatJ-range w 0b1101111 rd offset h
IsInRange-Encodes w (Jalr rd base offset) h = FormatI-range w 0b1100111 0b000 rd base offset h
IsInRange-Encodes w (Branch Eq left right offset) h =
    FormatB-range w 0b1100011 0b000 left right offset h
IsInRange-Encodes w (Branch Ne left right offset) h =
    FormatB-range w 0b1100011 0b001 left right offset h
IsInRange-Encodes w (Branch Lt left right offset) h =
    FormatB-range w 0b1100011 0b100 left right offset h
IsInRange-Encodes w (Branch Ge left right offset) h =
    FormatB-range w 0b1100011 0b101 left right offset h
IsInRange-Encodes w (Branch Ltu left right offset) h =
    FormatB-range w 0b1100011 0b110 left right offset h
IsInRange-Encodes w (Branch Geu left right offset) h =
    FormatB-range w 0b1100011 0b111 left right offset h
IsInRange-Encodes w (Load B1 true rd base offset) h =
    let r = FormatI-range w 0b0000011 0b000 rd base offset h in (tt, r.0, r.1, r.2)
IsInRange-Encodes w (Load B2 true rd base offset) h =
    let r = FormatI-range w 0b0000011 0b001 rd base offset h in (tt, r.0, r.1, r.2)
IsInRange-Encodes w (Load B4 true rd base offset) h =
    let r = FormatI-range w 0b0000011 0b010 rd base offset h in (tt, r.0, r.1, r.2)
IsInRange-Encodes w (Load B8 true rd base offset) h =
    let r = FormatI-range w 0b0000011 0b011 rd base offset h in (refl, r.0, r.1, r.2)
IsInRange-Encodes w (Load B1 false rd base offset) h =
    let r = FormatI-range w 0b0000011 0b100 rd base offset h in (tt, r.0, r.1, r.2)
IsInRange-Encodes w (Load B2 false rd base offset) h =
    let r = FormatI-range w 0b0000011 0b101 rd base offset h in (tt, r.0, r.1, r.2)
IsInRange-Encodes w (Load B4 false rd base offset) h =
    let r = FormatI-range w 0b0000011 0b110 rd base offset h in (tt, r.0, r.1, r.2)
IsInRange-Encodes w (Load B8 false rd base offset) h = absurd h
IsInRange-Encodes w (Store B1 base value offset) h =
    FormatS-range w 0b0100011 0b000 base value offset h
IsInRange-Encodes w (Store B2 base value offset) h =
    FormatS-range w 0b0100011 0b001 base value offset h
IsInRange-Encodes w (Store B4 base value offset) h =
    FormatS-range w 0b0100011 0b010 base value offset h
IsInRange-Encodes w (Store B8 base value offset) h =
    FormatS-range w 0b0100011 0b011 base value offset h
IsInRange-Encodes w (Imm imm_op.Add rd left imm) h = FormatI-range w 0b0010011 0b000 rd left imm h
IsInRange-Encodes w (Imm imm_op.Slt rd left imm) h = FormatI-range w 0b0010011 0b010 rd left imm h
IsInRange-Encodes w (Imm imm_op.Sltu rd left imm) h = FormatI-range w 0b0010011 0b011 rd left imm h
IsInRange-Encodes w (Imm imm_op.Xor rd left imm) h = FormatI-range w 0b0010011 0b100 rd left imm h
IsInRange-Encodes w (Imm imm_op.Or rd left imm) h = FormatI-range w 0b0010011 0b110 rd left imm h
IsInRange-Encodes w (Imm imm_op.And rd left imm) h = FormatI-range w 0b0010011 0b111 rd left imm h
IsInRange-Encodes w (Shift Left rd left amount) h =
    FormatShift-range w 0b0010011 0b001 0b000000 rd left amount h
IsInRange-Encodes w (Shift Right rd left amount) h =
    FormatShift-range w 0b0010011 0b101 0b000000 rd left amount h
IsInRange-Encodes w (Shift RightSigned rd left amount) h =
    FormatShift-range w 0b0010011 0b101 0b010000 rd left amount h
IsInRange-Encodes w (Reg2 op.Add rd left right) h =
    FormatR-range w 0b0110011 0b000 0b0000000 rd left right h
IsInRange-Encodes w (Reg2 op.Sub rd left right) h =
    FormatR-range w 0b0110011 0b000 0b0100000 rd left right h
IsInRange-Encodes w (Reg2 op.Sll rd left right) h =
    FormatR-range w 0b0110011 0b001 0b0000000 rd left right h
IsInRange-Encodes w (Reg2 op.Slt rd left right) h =
    FormatR-range w 0b0110011 0b010 0b0000000 rd left right h
IsInRange-Encodes w (Reg2 op.Sltu rd left right) h =
    FormatR-range w 0b0110011 0b011 0b0000000 rd left right h
IsInRange-Encodes w (Reg2 op.Xor rd left right) h =
    FormatR-range w 0b0110011 0b100 0b0000000 rd left right h
IsInRange-Encodes w (Reg2 op.Srl rd left right) h =
    FormatR-range w 0b0110011 0b101 0b0000000 rd left right h
IsInRange-Encodes w (Reg2 op.Sra rd left right) h =
    FormatR-range w 0b0110011 0b101 0b0100000 rd left right h
IsInRange-Encodes w (Reg2 op.Or rd left right) h =
    FormatR-range w 0b0110011 0b110 0b0000000 rd left right h
IsInRange-Encodes w (Reg2 op.And rd left right) h =
    FormatR-range w 0b0110011 0b111 0b0000000 rd left right h
IsInRange-Encodes w (AddiW rd left imm) h = FormatI-range w 0b0011011 0b000 rd left imm h
IsInRange-Encodes w (ShiftW Left rd left amount) h =
    FormatShiftW-range w 0b0011011 0b001 0b0000000 rd left amount h
IsInRange-Encodes w (ShiftW Right rd left amount) h =
    FormatShiftW-range w 0b0011011 0b101 0b0000000 rd left amount h
IsInRange-Encodes w (ShiftW RightSigned rd left amount) h =
    FormatShiftW-range w 0b0011011 0b101 0b0100000 rd left amount h
IsInRange-Encodes w (Reg2W word_op.Add rd left right) h =
    FormatR-range w 0b0111011 0b000 0b0000000 rd left right h
IsInRange-Encodes w (Reg2W word_op.Sub rd left right) h =
    FormatR-range w 0b0111011 0b000 0b0100000 rd left right h
IsInRange-Encodes w (Reg2W word_op.Sll rd left right) h =
    FormatR-range w 0b0111011 0b001 0b0000000 rd left right h
IsInRange-Encodes w (Reg2W word_op.Srl rd left right) h =
    FormatR-range w 0b0111011 0b101 0b0000000 rd left right h
IsInRange-Encodes w (Reg2W word_op.Sra rd left right) h =
    FormatR-range w 0b0111011 0b101 0b0100000 rd left right h
IsInRange-Encodes w (Fence high rs1 rd) h = FormatNumber-range w 0b0001111 0b000 rd rs1 high h
IsInRange-Encodes w (Csr csr_op.Write number (Register rs1) rd) h =
    FormatNumber-range w 0b1110011 0b001 rd rs1 number h
IsInRange-Encodes w (Csr csr_op.Set number (Register rs1) rd) h =
    FormatNumber-range w 0b1110011 0b010 rd rs1 number h
IsInRange-Encodes w (Csr csr_op.Clear number (Register rs1) rd) h =
    FormatNumber-range w 0b1110011 0b011 rd rs1 number h
IsInRange-Encodes w (Csr csr_op.Write number (Number n) rd) h =
    FormatNumber-range w 0b1110011 0b101 rd (record { 0 = n }) number h
IsInRange-Encodes w (Csr csr_op.Set number (Number n) rd) h =
    FormatNumber-range w 0b1110011 0b110 rd (record { 0 = n }) number h
IsInRange-Encodes w (Csr csr_op.Clear number (Number n) rd) h =
    FormatNumber-range w 0b1110011 0b111 rd (record { 0 = n }) number h
IsInRange-Encodes w Ecall h = tt
IsInRange-Encodes w Ebreak h = tt
IsInRange-Encodes w Sret h = tt
IsInRange-Encodes w Wfi h = tt
IsInRange-Encodes w (SfenceVma rs1 rs2) h =
    let r = FormatR-range w 0b1110011 0b000 0b0001001 x0 rs1 rs2 h in (r.1, r.2)
IsInRange-Encodes w (Bastion (Launch rd at)) h =
    let r = FormatR-range w 0b0001011 0b000 0 rd at x0 h in (r.0, r.1)
IsInRange-Encodes w (Bastion (Call rd id entry)) h = FormatR-range w 0b0001011 0b001 0 rd id entry h
IsInRange-Encodes w (Bastion Ret) h = tt
IsInRange-Encodes w (Bastion (Evict rd id)) h =
    let r = FormatR-range w 0b0001011 0b011 0 rd id x0 h in (r.0, r.1)
IsInRange-Encodes w (Bastion (Ident rd id word)) h = FormatR-range w 0b0001011 0b100 0 rd id word h
IsInRange-Encodes w (Bastion (Caller rd)) h = (FormatR-range w 0b0001011 0b101 0 rd x0 x0 h).0
IsInRange-Encodes w (Bastion (Offerer rd at)) h =
    let r = FormatR-range w 0b0001011 0b110 0 rd at x0 h in (r.0, r.1)
IsInRange-Encodes w (Bastion (Sget rd index)) h =
    let r = FormatR-range w 0b0001011 0b111 0 rd index x0 h in (r.0, r.1)
IsInRange-Encodes w (Bastion (Sset rd index value)) h =
    FormatR-range w 0b0001011 0b000 1 rd index value h

-- two words of one instruction are the same
pub Encodes-same : (v w : ℕ) (i : Insn) → v < 2 ^ 32 → w < 2 ^ 32 → Encodes v i → Encodes w i
    → v ≡ w
Encodes-same v w (Lui rd imm) p q h k = FormatU-same v w 0b0110111 rd imm p q h k
Encodes-same v w (Auipc rd imm) p q h k = FormatU-same v w 0b0010111 rd imm p q h k
Encodes-same v w (Jal rd offset) p q h k = FormatJ-same v w 0b1101111 rd offset p q h k
Encodes-same v w (Jalr rd base offset) p q h k =
    FormatI-same v w 0b1100111 0b000 rd base offset p q h k
Encodes-same v w (Branch Eq left right offset) p q h k =
    FormatB-same v w 0b1100011 0b000 left right offset p q h k
Encodes-same v w (Branch Ne left right offset) p q h k =
    FormatB-same v w 0b1100011 0b001 left right offset p q h k
Encodes-same v w (Branch Lt left right offset) p q h k =
    FormatB-same v w 0b1100011 0b100 left right offset p q h k
Encodes-same v w (Branch Ge left right offset) p q h k =
    FormatB-same v w 0b1100011 0b101 left right offset p q h k
Encodes-same v w (Branch Ltu left right offset) p q h k =
    FormatB-same v w 0b1100011 0b110 left right offset p q h k
Encodes-same v w (Branch Geu left right offset) p q h k =
    FormatB-same v w 0b1100011 0b111 left right offset p q h k
Encodes-same v w (Load B1 true rd base offset) p q h k =
    FormatI-same v w 0b0000011 0b000 rd base offset p q h k
Encodes-same v w (Load B2 true rd base offset) p q h k =
    FormatI-same v w 0b0000011 0b001 rd base offset p q h k
Encodes-same v w (Load B4 true rd base offset) p q h k =
    FormatI-same v w 0b0000011 0b010 rd base offset p q h k
Encodes-same v w (Load B8 true rd base offset) p q h k =
    FormatI-same v w 0b0000011 0b011 rd base offset p q h k
Encodes-same v w (Load B1 false rd base offset) p q h k =
    FormatI-same v w 0b0000011 0b100 rd base offset p q h k
Encodes-same v w (Load B2 false rd base offset) p q h k =
    FormatI-same v w 0b0000011 0b101 rd base offset p q h k
Encodes-same v w (Load B4 false rd base offset) p q h k =
    FormatI-same v w 0b0000011 0b110 rd base offset p q h k
Encodes-same v w (Load B8 false rd base offset) p q h k = absurd h
Encodes-same v w (Store B1 base value offset) p q h k =
    FormatS-same v w 0b0100011 0b000 base value offset p q h k
Encodes-same v w (Store B2 base value offset) p q h k =
    FormatS-same v w 0b0100011 0b001 base value offset p q h k
Encodes-same v w (Store B4 base value offset) p q h k =
    FormatS-same v w 0b0100011 0b010 base value offset p q h k
Encodes-same v w (Store B8 base value offset) p q h k =
    FormatS-same v w 0b0100011 0b011 base value offset p q h k
Encodes-same v w (Imm imm_op.Add rd left imm) p q h k =
    FormatI-same v w 0b0010011 0b000 rd left imm p q h k
Encodes-same v w (Imm imm_op.Slt rd left imm) p q h k =
    FormatI-same v w 0b0010011 0b010 rd left imm p q h k
Encodes-same v w (Imm imm_op.Sltu rd left imm) p q h k =
    FormatI-same v w 0b0010011 0b011 rd left imm p q h k
Encodes-same v w (Imm imm_op.Xor rd left imm) p q h k =
    FormatI-same v w 0b0010011 0b100 rd left imm p q h k
Encodes-same v w (Imm imm_op.Or rd left imm) p q h k =
    FormatI-same v w 0b0010011 0b110 rd left imm p q h k
Encodes-same v w (Imm imm_op.And rd left imm) p q h k =
    FormatI-same v w 0b0010011 0b111 rd left imm p q h k
Encodes-same v w (Shift Left rd left amount) p q h k =
    FormatShift-same v w 0b0010011 0b001 0b000000 rd left amount p q h k
Encodes-same v w (Shift Right rd left amount) p q h k =
    FormatShift-same v w 0b0010011 0b101 0b000000 rd left amount p q h k
Encodes-same v w (Shift RightSigned rd left amount) p q h k =
    FormatShift-same v w 0b0010011 0b101 0b010000 rd left amount p q h k
Encodes-same v w (Reg2 op.Add rd left right) p q h k =
    FormatR-same v w 0b0110011 0b000 0b0000000 rd left right p q h k
Encodes-same v w (Reg2 op.Sub rd left right) p q h k =
    FormatR-same v w 0b0110011 0b000 0b0100000 rd left right p q h k
Encodes-same v w (Reg2 op.Sll rd left right) p q h k =
    FormatR-same v w 0b0110011 0b001 0b0000000 rd left right p q h k
Encodes-same v w (Reg2 op.Slt rd left right) p q h k =
    FormatR-same v w 0b0110011 0b010 0b0000000 rd left right p q h k
Encodes-same v w (Reg2 op.Sltu rd left right) p q h k =
    FormatR-same v w 0b0110011 0b011 0b0000000 rd left right p q h k
Encodes-same v w (Reg2 op.Xor rd left right) p q h k =
    FormatR-same v w 0b0110011 0b100 0b0000000 rd left right p q h k
Encodes-same v w (Reg2 op.Srl rd left right) p q h k =
    FormatR-same v w 0b0110011 0b101 0b0000000 rd left right p q h k
Encodes-same v w (Reg2 op.Sra rd left right) p q h k =
    FormatR-same v w 0b0110011 0b101 0b0100000 rd left right p q h k
Encodes-same v w (Reg2 op.Or rd left right) p q h k =
    FormatR-same v w 0b0110011 0b110 0b0000000 rd left right p q h k
Encodes-same v w (Reg2 op.And rd left right) p q h k =
    FormatR-same v w 0b0110011 0b111 0b0000000 rd left right p q h k
Encodes-same v w (AddiW rd left imm) p q h k = FormatI-same v w 0b0011011 0b000 rd left imm p q h k
Encodes-same v w (ShiftW Left rd left amount) p q h k =
    FormatShiftW-same v w 0b0011011 0b001 0b0000000 rd left amount p q h k
Encodes-same v w (ShiftW Right rd left amount) p q h k =
    FormatShiftW-same v w 0b0011011 0b101 0b0000000 rd left amount p q h k
Encodes-same v w (ShiftW RightSigned rd left amount) p q h k =
    FormatShiftW-same v w 0b0011011 0b101 0b0100000 rd left amount p q h k
Encodes-same v w (Reg2W word_op.Add rd left right) p q h k =
    FormatR-same v w 0b0111011 0b000 0b0000000 rd left right p q h k
Encodes-same v w (Reg2W word_op.Sub rd left right) p q h k =
    FormatR-same v w 0b0111011 0b000 0b0100000 rd left right p q h k
Encodes-same v w (Reg2W word_op.Sll rd left right) p q h k =
    FormatR-same v w 0b0111011 0b001 0b0000000 rd left right p q h k
Encodes-same v w (Reg2W word_op.Srl rd left right) p q h k =
    FormatR-same v w 0b0111011 0b101 0b0000000 rd left right p q h k
Encodes-same v w (Reg2W word_op.Sra rd left right) p q h k =
    FormatR-same v w 0b0111011 0b101 0b0100000 rd left right p q h k
Encodes-same v w (Fence high rs1 rd) p q h k =
    FormatNumber-same v w 0b0001111 0b000 rd rs1 high p q h k
Encodes-same v w (Csr csr_op.Write number (Register rs1) rd) p q h k =
    FormatNumber-same v w 0b1110011 0b001 rd rs1 number p q h k
Encodes-same v w (Csr csr_op.Set number (Register rs1) rd) p q h k =
    FormatNumber-same v w 0b1110011 0b010 rd rs1 number p q h k
Encodes-same v w (Csr csr_op.Clear number (Register rs1) rd) p q h k =
    FormatNumber-same v w 0b1110011 0b011 rd rs1 number p q h k
Encodes-same v w (Csr csr_op.Write number (Number n) rd) p q h k =
    FormatNumber-same v w 0b1110011 0b101 rd (record { 0 = n }) number p q h k
Encodes-same v w (Csr csr_op.Set number (Number n) rd) p q h k =
    FormatNumber-same v w 0b1110011 0b110 rd (record { 0 = n }) number p q h k
Encodes-same v w (Csr csr_op.Clear number (Number n) rd) p q h k =
    FormatNumber-same v w 0b1110011 0b111 rd (record { 0 = n }) number p q h k
Encodes-same v w Ecall p q h k = h ∙ sym k
Encodes-same v w Ebreak p q h k = h ∙ sym k
Encodes-same v w Sret p q h k = h ∙ sym k
Encodes-same v w Wfi p q h k = h ∙ sym k
Encodes-same v w (SfenceVma rs1 rs2) p q h k =
    FormatR-same v w 0b1110011 0b000 0b0001001 x0 rs1 rs2 p q h k
Encodes-same v w (Bastion (Launch rd at)) p q h k =
    FormatR-same v w 0b0001011 0b000 0 rd at x0 p q h k
Encodes-same v w (Bastion (Call rd id entry)) p q h k =
    FormatR-same v w 0b0001011 0b001 0 rd id entry p q h k
Encodes-same v w (Bastion Ret) p q h k = FormatR-same v w 0b0001011 0b010 0 x0 x0 x0 p q h k
Encodes-same v w (Bastion (Evict rd id)) p q h k =
    FormatR-same v w 0b0001011 0b011 0 rd id x0 p q h k
Encodes-same v w (Bastion (Ident rd id word)) p q h k =
    FormatR-same v w 0b0001011 0b100 0 rd id word p q h k
Encodes-same v w (Bastion (Caller rd)) p q h k = FormatR-same v w 0b0001011 0b101 0 rd x0 x0 p q h k
Encodes-same v w (Bastion (Offerer rd at)) p q h k =
    FormatR-same v w 0b0001011 0b110 0 rd at x0 p q h k
Encodes-same v w (Bastion (Sget rd index)) p q h k =
    FormatR-same v w 0b0001011 0b111 0 rd index x0 p q h k
Encodes-same v w (Bastion (Sset rd index value)) p q h k =
    FormatR-same v w 0b0001011 0b000 1 rd index value p q h k

-- an instruction in range has a word
pub some_word : (i : Insn) → IsInRange i → (w : ℕ) × (w < 2 ^ 32) × Encodes w i
some_word (Lui rd imm) r = FormatU-some 0b0110111 rd imm (lit< tt) r.0 r.1 r.2
some_word (Auipc rd imm) r = FormatU-some 0b0010111 rd imm (lit< tt) r.0 r.1 r.2
some_word (Jal rd offset) r = FormatJ-some 0b1101111 rd offset (lit< tt) r.0 r.1 r.2
some_word (Jalr rd base offset) r =
    FormatI-some 0b1100111 0b000 rd base offset (lit< tt) (lit< tt) r.0 r.1 r.2
some_word (Branch Eq left right offset) r =
    FormatB-some 0b1100011 0b000 left right offset (lit< tt) (lit< tt) r.0 r.1 r.2 r.3
some_word (Branch Ne left right offset) r =
    FormatB-some 0b1100011 0b001 left right offset (lit< tt) (lit< tt) r.0 r.1 r.2 r.3
some_word (Branch Lt left right offset) r =
    FormatB-some 0b1100011 0b100 left right offset (lit< tt) (lit< tt) r.0 r.1 r.2 r.3
some_word (Branch Ge left right offset) r =
    FormatB-some 0b1100011 0b101 left right offset (lit< tt) (lit< tt) r.0 r.1 r.2 r.3
some_word (Branch Ltu left right offset) r =
    FormatB-some 0b1100011 0b110 left right offset (lit< tt) (lit< tt) r.0 r.1 r.2 r.3
some_word (Branch Geu left right offset) r =
    FormatB-some 0b1100011 0b111 left right offset (lit< tt) (lit< tt) r.0 r.1 r.2 r.3
some_word (Load B1 true rd base offset) r =
    FormatI-some 0b0000011 0b000 rd base offset (lit< tt) (lit< tt) r.1 r.2 r.3
some_word (Load B2 true rd base offset) r =
    FormatI-some 0b0000011 0b001 rd base offset (lit< tt) (lit< tt) r.1 r.2 r.3
some_word (Load B4 true rd base offset) r =
    FormatI-some 0b0000011 0b010 rd base offset (lit< tt) (lit< tt) r.1 r.2 r.3
some_word (Load B8 true rd base offset) r =
    FormatI-some 0b0000011 0b011 rd base offset (lit< tt) (lit< tt) r.1 r.2 r.3
some_word (Load B1 false rd base offset) r =
    FormatI-some 0b0000011 0b100 rd base offset (lit< tt) (lit< tt) r.1 r.2 r.3
some_word (Load B2 false rd base offset) r =
    FormatI-some 0b0000011 0b101 rd base offset (lit< tt) (lit< tt) r.1 r.2 r.3
some_word (Load B4 false rd base offset) r =
    FormatI-some 0b0000011 0b110 rd base offset (lit< tt) (lit< tt) r.1 r.2 r.3
some_word (Load B8 false rd base offset) r = cc
some_word (Store B1 base value offset) r =
    FormatS-some 0b0100011 0b000 base value offset (lit< tt) (lit< tt) r.0 r.1 r.2
some_word (Store B2 base value offset) r =
    FormatS-some 0b0100011 0b001 base value offset (lit< tt) (lit< tt) r.0 r.1 r.2
some_word (Store B4 base value offset) r =
    FormatS-some 0b0100011 0b010 base value offset (lit< tt) (lit< tt) r.0 r.1 r.2
some_word (Store B8 base value offset) r =
    FormatS-some 0b0100011 0b011 base value offset (lit< tt) (lit< tt) r.0 r.1 r.2
some_word (Imm imm_op.Add rd left imm) r =
    FormatI-some 0b0010011 0b000 rd left imm (lit< tt) (lit< tt) r.0 r.1 r.2
some_word (Imm imm_op.Slt rd left imm) r =
    FormatI-some 0b0010011 0b010 rd left imm (lit< tt) (lit< tt) r.0 r.1 r.2
some_word (Imm imm_op.Sltu rd left imm) r =
    FormatI-some 0b0010011 0b011 rd left imm (lit< tt) (lit< tt) r.0 r.1 r.2
some_word (Imm imm_op.Xor rd left imm) r =
    FormatI-some 0b0010011 0b100 rd left imm (lit< tt) (lit< tt) r.0 r.1 r.2
some_word (Imm imm_op.Or rd left imm) r =
    FormatI-some 0b0010011 0b110 rd left imm (lit< tt) (lit< tt) r.0 r.1 r.2
some_word (Imm imm_op.And rd left imm) r =
    FormatI-some 0b0010011 0b111 rd left imm (lit< tt) (lit< tt) r.0 r.1 r.2
some_word (Shift Left rd left amount) r =
    FormatShift-some 0b0010011 0b001 0b000000 rd left amount (lit< tt) (lit< tt) (lit< tt) r.0
    r.1 r.2
some_word (Shift Right rd left amount) r =
    FormatShift-some 0b0010011 0b101 0b000000 rd left amount (lit< tt) (lit< tt) (lit< tt) r.0
    r.1 r.2
some_word (Shift RightSigned rd left amount) r =
    FormatShift-some 0b0010011 0b101 0b010000 rd left amount (lit< tt) (lit< tt) (lit< tt) r.0
    r.1 r.2
some_word (Reg2 op.Add rd left right) r =
    FormatR-some 0b0110011 0b000 0b0000000 rd left right (lit< tt) (lit< tt) (lit< tt) r.0 r.1 r.2
some_word (Reg2 op.Sub rd left right) r =
    FormatR-some 0b0110011 0b000 0b0100000 rd left right (lit< tt) (lit< tt) (lit< tt) r.0 r.1 r.2
some_word (Reg2 op.Sll rd left right) r =
    FormatR-some 0b0110011 0b001 0b0000000 rd left right (lit< tt) (lit< tt) (lit< tt) r.0 r.1 r.2
some_word (Reg2 op.Slt rd left right) r =
    FormatR-some 0b0110011 0b010 0b0000000 rd left right (lit< tt) (lit< tt) (lit< tt) r.0 r.1 r.2
some_word (Reg2 op.Sltu rd left right) r =
    FormatR-some 0b0110011 0b011 0b0000000 rd left right (lit< tt) (lit< tt) (lit< tt) r.0 r.1 r.2
some_word (Reg2 op.Xor rd left right) r =
    FormatR-some 0b0110011 0b100 0b0000000 rd left right (lit< tt) (lit< tt) (lit< tt) r.0 r.1 r.2
some_word (Reg2 op.Srl rd left right) r =
    FormatR-some 0b0110011 0b101 0b0000000 rd left right (lit< tt) (lit< tt) (lit< tt) r.0 r.1 r.2
some_word (Reg2 op.Sra rd left right) r =
    FormatR-some 0b0110011 0b101 0b0100000 rd left right (lit< tt) (lit< tt) (lit< tt) r.0 r.1 r.2
some_word (Reg2 op.Or rd left right) r =
    FormatR-some 0b0110011 0b110 0b0000000 rd left right (lit< tt) (lit< tt) (lit< tt) r.0 r.1 r.2
some_word (Reg2 op.And rd left right) r =
    FormatR-some 0b0110011 0b111 0b0000000 rd left right (lit< tt) (lit< tt) (lit< tt) r.0 r.1 r.2
some_word (AddiW rd left imm) r =
    FormatI-some 0b0011011 0b000 rd left imm (lit< tt) (lit< tt) r.0 r.1 r.2
some_word (ShiftW Left rd left amount) r =
    FormatShiftW-some 0b0011011 0b001 0b0000000 rd left amount (lit< tt) (lit< tt) (lit< tt) r.0
    r.1 r.2
some_word (ShiftW Right rd left amount) r =
    FormatShiftW-some 0b0011011 0b101 0b0000000 rd left amount (lit< tt) (lit< tt) (lit< tt) r.0
    r.1 r.2
some_word (ShiftW RightSigned rd left amount) r =
    FormatShiftW-some 0b0011011 0b101 0b0100000 rd left amount (lit< tt) (lit< tt) (lit< tt) r.0
    r.1 r.2
some_word (Reg2W word_op.Add rd left right) r =
    FormatR-some 0b0111011 0b000 0b0000000 rd left right (lit< tt) (lit< tt) (lit< tt) r.0 r.1 r.2
some_word (Reg2W word_op.Sub rd left right) r =
    FormatR-some 0b0111011 0b000 0b0100000 rd left right (lit< tt) (lit< tt) (lit< tt) r.0 r.1 r.2
some_word (Reg2W word_op.Sll rd left right) r =
    FormatR-some 0b0111011 0b001 0b0000000 rd left right (lit< tt) (lit< tt) (lit< tt) r.0 r.1 r.2
some_word (Reg2W word_op.Srl rd left right) r =
    FormatR-some 0b0111011 0b101 0b0000000 rd left right (lit< tt) (lit< tt) (lit< tt) r.0 r.1 r.2
some_word (Reg2W word_op.Sra rd left right) r =
    FormatR-some 0b0111011 0b101 0b0100000 rd left right (lit< tt) (lit< tt) (lit< tt) r.0 r.1 r.2
some_word (Fence high rs1 rd) r =
    FormatNumber-some 0b0001111 0b000 rd rs1 high (lit< tt) (lit< tt) r.2 r.1 r.0
some_word (Csr csr_op.Write number (Register rs1) rd) r =
    FormatNumber-some 0b1110011 0b001 rd rs1 number (lit< tt) (lit< tt) r.2 r.1 r.0
some_word (Csr csr_op.Set number (Register rs1) rd) r =
    FormatNumber-some 0b1110011 0b010 rd rs1 number (lit< tt) (lit< tt) r.2 r.1 r.0
some_word (Csr csr_op.Clear number (Register rs1) rd) r =
    FormatNumber-some 0b1110011 0b011 rd rs1 number (lit< tt) (lit< tt) r.2 r.1 r.0
some_word (Csr csr_op.Write number (Number n) rd) r =
    FormatNumber-some 0b1110011 0b101 rd (record { 0 = n }) number (lit< tt) (lit< tt) r.2 r.1 r.0
some_word (Csr csr_op.Set number (Number n) rd) r =
    FormatNumber-some 0b1110011 0b110 rd (record { 0 = n }) number (lit< tt) (lit< tt) r.2 r.1 r.0
some_word (Csr csr_op.Clear number (Number n) rd) r =
    FormatNumber-some 0b1110011 0b111 rd (record { 0 = n }) number (lit< tt) (lit< tt) r.2 r.1 r.0
some_word Ecall r = (0x00000073, lit< tt, refl)
some_word Ebreak r = (0x00100073, lit< tt, refl)
some_word Sret r = (0x10200073, lit< tt, refl)
some_word Wfi r = (0x10500073, lit< tt, refl)
some_word (SfenceVma rs1 rs2) r =
    FormatR-some 0b1110011 0b000 0b0001001 x0 rs1 rs2 (lit< tt) (lit< tt) (lit< tt) (lit< tt)
    r.0 r.1
some_word (Bastion (Launch rd at)) r =
    FormatR-some 0b0001011 0b000 0 rd at x0 (lit< tt) (lit< tt) (lit< tt) r.0 r.1 (lit< tt)
some_word (Bastion (Call rd id entry)) r =
    FormatR-some 0b0001011 0b001 0 rd id entry (lit< tt) (lit< tt) (lit< tt) r.0 r.1 r.2
some_word (Bastion Ret) r =
    FormatR-some 0b0001011 0b010 0 x0 x0 x0 (lit< tt) (lit< tt) (lit< tt) (lit< tt) (lit< tt)
    (lit< tt)
some_word (Bastion (Evict rd id)) r =
    FormatR-some 0b0001011 0b011 0 rd id x0 (lit< tt) (lit< tt) (lit< tt) r.0 r.1 (lit< tt)
some_word (Bastion (Ident rd id word)) r =
    FormatR-some 0b0001011 0b100 0 rd id word (lit< tt) (lit< tt) (lit< tt) r.0 r.1 r.2
some_word (Bastion (Caller rd)) r =
    FormatR-some 0b0001011 0b101 0 rd x0 x0 (lit< tt) (lit< tt) (lit< tt) r (lit< tt) (lit< tt)
some_word (Bastion (Offerer rd at)) r =
    FormatR-some 0b0001011 0b110 0 rd at x0 (lit< tt) (lit< tt) (lit< tt) r.0 r.1 (lit< tt)
some_word (Bastion (Sget rd index)) r =
    FormatR-some 0b0001011 0b111 0 rd index x0 (lit< tt) (lit< tt) (lit< tt) r.0 r.1 (lit< tt)
some_word (Bastion (Sset rd index value)) r =
    FormatR-some 0b0001011 0b000 1 rd index value (lit< tt) (lit< tt) (lit< tt) r.0 r.1 r.2

-- what the definition by opcodes gives is in range
pub IsInRange-insn_of : (w : ℕ) → IfSome (insn_of w) IsInRange
IsInRange-insn_of w = by_case (insn_of w) (Encodes-insn_of w)
  where
    by_case : (o : Option Insn) → IfSome o (Encodes w) → IfSome o IsInRange
    by_case None h = tt
    by_case (Some i) h = IsInRange-Encodes w i h

-- a word has no instruction exactly where the table relates none to it
pub IsNone-insn_of : (w : ℕ) → IsNone (insn_of w) ↔ ((i : Insn) → ¬ Encodes w i)
IsNone-insn_of w = (
  λ n i h. by_some n (insn_of-Encodes w i h),
  λ f.
      by_case (insn_of w) (Encodes-insn_of w) f,
)
  where
    by_some : {o : Option Insn} {i : Insn} → IsNone o → o ≡ Some i → ⊥
    by_some n e = (let m = subst IsNone e n in cc)

    by_case : (o : Option Insn) → IfSome o (Encodes w) → ((i : Insn) → ¬ Encodes w i) → IsNone o
    by_case None h f = refl
    by_case (Some i) h f = absurd (f i h)

-- what the definition by opcodes gives is related to the word
pub Encodes-found : (w : ℕ) (i : Insn) → insn_of w ≡ Some i → Encodes w i
Encodes-found w i e = subst (λ (o : Option Insn). IfSome o (Encodes w)) e (Encodes-insn_of w)

-- the table relates a word to one instruction at most
pub one_insn : (w : ℕ) (i j : Insn) → Encodes w i → Encodes w j → i ≡ j
one_insn w i j h k = some_same (sym (insn_of-Encodes w i h) ∙ insn_of-Encodes w j k)
  where
    some_same : {x y : Insn} → Some x ≡ Some y → x ≡ y
    some_same e = cc

-- and an instruction in range to exactly one word
pub one_word :
    (i : Insn) →
    IsInRange i →
    (w : ℕ) × (w < 2 ^ 32) × Encodes w i × ((v : ℕ) → v < 2 ^ 32 → Encodes v i → v ≡ w)
one_word i r =
    let s = some_word i r in
    (s.0, s.1, s.2, λ v p h. Encodes-same v s.0 i p s.1 h s.2)
