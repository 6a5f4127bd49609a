-- The clauses on other words follow from the table's having one word for each instruction.
use Rattle.std.proofs.Common.{◌<◌, ◌^◌, rules}
use Rattle.bn_model.proofs.EncodingLemmas.{insn_of-Encodes}
use Rattle.bn_model.proofs.WordLemmas.{Encodes-same, Encodes-found}
use Rattle.rv_insn.proofs.encoding.encode.Goals as goal

pub returns-clause-decoded : goal.returns-clause-decoded
returns-clause-decoded c = insn_of-Encodes c.by_insn.result c.args.insn.now c.by_insn.ensures

pub returns-clause-only : goal.returns-clause-only
returns-clause-only c = λ word p h.
    let fits : c.by_insn.result < 2 ^ 32 = search rules in
    Encodes-same c.by_insn.result word c.args.insn.now fits p c.by_insn.ensures h

pub returns-clause-back : goal.returns-clause-back
returns-clause-back c = λ word p e.
    returns-clause-only c word p (Encodes-found word c.args.insn.now e)
