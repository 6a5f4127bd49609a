-- The word is the sum of its fields.
use Rattle.std.proofs.Common.{arith, w32, FitsSigned}
use Rattle.std.proofs.lemmas.Grind.{common_steps}
use Rattle.std.proofs.lemmas.Int.{to_z-of_z}
use Rattle.bn_model.proofs.FieldLemmas.{FormatJ-sum}
use Rattle.rv_insn.proofs.encoding.formats.word_j.Goals as goal

pub returns : goal.returns
returns c =
    let fits : FitsSigned w32 c.args.immediate = c.ranges.immediate in
    let same = simp to_z-of_z at c.bits21-bits.ensures.same in
    let even = simp to_z-of_z at c.bits21-bits.ensures.even in
    FormatJ-sum _ c.args.opcode c.args.rd c.args.immediate c.bits21-bits.result
    c.requires.opcode_fits c.requires.rd_fits c.bits21-bits.ensures.fits
    (even c.requires.immediate_even) same
    (grind (arith, common_steps))
