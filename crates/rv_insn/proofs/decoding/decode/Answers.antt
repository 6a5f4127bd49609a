-- The clauses on the table follow from the definition by opcodes.
use Rattle.std.proofs.Common.{◌∙◌}
use Rattle.bn_model.proofs.EncodingLemmas.{insn_of-Encodes}
use Rattle.bn_model.proofs.ListedLemmas.{Encodes-insn_of}
use Rattle.bn_model.proofs.WordLemmas.{IsInRange-insn_of, IsNone-insn_of}
use Rattle.rv_insn.proofs.decoding.decode.Goals as goal

pub returns-clause-listed : goal.returns-clause-listed
returns-clause-listed c = rw c.by_opcode.ensures (Encodes-insn_of c.args.word)

pub returns-clause-in_range : goal.returns-clause-in_range
returns-clause-in_range c = rw c.by_opcode.ensures (IsInRange-insn_of c.args.word)

pub returns-clause-complete : goal.returns-clause-complete
returns-clause-complete c = λ insn h. c.by_opcode.ensures ∙ insn_of-Encodes c.args.word insn h

pub returns-clause-unlisted : goal.returns-clause-unlisted
returns-clause-unlisted c = rw c.by_opcode.ensures (IsNone-insn_of c.args.word)
