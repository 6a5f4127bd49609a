-- The word is the sum of its fields.
use Rattle.std.proofs.Common.{arith, w32, FitsSigned}
use Rattle.std.proofs.lemmas.Grind.{common_steps}
use Rattle.std.proofs.lemmas.Int.{to_z-of_z}
use Rattle.bn_model.proofs.FieldLemmas.{FormatS-sum}
use Rattle.rv_insn.proofs.encoding.formats.word_s.Goals as goal

pub returns : goal.returns
returns c =
    let fits : FitsSigned w32 c.args.immediate = c.ranges.immediate in
    let same = simp to_z-of_z at c.bits12-bits.ensures.same in
    FormatS-sum _ c.args.opcode c.args.funct3 c.args.rs1 c.args.rs2 c.args.immediate
    c.bits12-bits.result
    c.requires.opcode_fits c.requires.funct3_fits c.requires.rs1_fits c.requires.rs2_fits
    c.bits12-bits.ensures.fits same
    (grind (arith, common_steps))
