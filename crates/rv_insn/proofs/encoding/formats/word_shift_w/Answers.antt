-- The word is the sum of its fields.
use Rattle.std.proofs.Common.{arith}
use Rattle.bn_model.proofs.FieldLemmas.{FormatShiftW-sum}
use Rattle.rv_insn.proofs.encoding.formats.word_shift_w.Goals as goal

pub returns : goal.returns
returns c =
    FormatShiftW-sum _ c.args.opcode c.args.funct3 c.args.funct7 c.args.rd c.args.rs1 c.args.amount
    c.requires.opcode_fits c.requires.funct3_fits c.requires.funct7_fits c.requires.rd_fits
    c.requires.rs1_fits c.requires.amount_fits
    (omega arith)
