-- The word is the sum of its fields.
use Rattle.std.proofs.Common.{arith}
use Rattle.bn_model.proofs.FieldLemmas.{FormatNumber-sum}
use Rattle.rv_insn.proofs.encoding.formats.word_number.Goals as goal

pub returns : goal.returns
returns c =
    FormatNumber-sum _ c.args.opcode c.args.funct3 c.args.rd c.args.rs1 c.args.number
    c.requires.opcode_fits c.requires.funct3_fits c.requires.rd_fits c.requires.rs1_fits
    c.requires.number_fits
    (omega arith)
