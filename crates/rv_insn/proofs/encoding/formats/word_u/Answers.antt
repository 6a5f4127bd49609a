-- The word is the sum of its fields.
use Rattle.std.proofs.Common.{arith, w32, FitsSigned}
use Rattle.std.proofs.lemmas.Int.{to_z-of_z}
use Rattle.bn_model.proofs.FieldLemmas.{FormatU-sum}
use Rattle.rv_insn.proofs.encoding.formats.word_u.Goals as goal

pub returns : goal.returns
returns c =
    let fits : FitsSigned w32 c.args.immediate = c.ranges.immediate in
    let same = simp to_z-of_z at c.bits32-bits.ensures.same in
    let upper = simp to_z-of_z at c.bits32-bits.ensures.upper in
    FormatU-sum _ c.args.opcode c.args.rd c.args.immediate c.bits32-bits.result
    c.requires.opcode_fits c.requires.rd_fits (omega arith) (upper c.requires.immediate_upper) same
    (omega arith)
