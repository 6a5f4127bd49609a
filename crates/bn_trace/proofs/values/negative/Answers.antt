use Rattle.std.proofs.Common.{sym, ◌+◌, ◌^◌, ◌<◌, arith}
use Rattle.bn_types.proofs.NumeralLemmas.{numeral_none}
use Rattle.bn_trace.proofs.ValueLemmas.{code_missing, code_refused, code_spelled, number_within}
use Rattle.bn_trace.proofs.values.negative.Goals as goal

pub returns-in-None : goal.returns-in-None
returns-in-None c =
    sym (code_missing c.args.digits.now
    (numeral_none (2 ^ 64) (2 ^ 63 + 1) c.args.digits.now (omega arith) (sym c.in-None.ensures)))

pub returns-then-n : goal.returns-then-n
returns-then-n c =
    sym (code_spelled c.in-Some.n c.args.digits.now (omega arith) (omega arith)
    (number_within (2 ^ 64) (2 ^ 63 + 1) c.in-Some.n c.args.digits.now (sym c.in-Some.ensures)
    (omega arith)))

pub returns-else-n-gt0 : goal.returns-else-n-gt0
returns-else-n-gt0 c =
    sym (code_refused c.in-Some.n c.args.digits.now (sym c.in-Some.ensures)
    (λ (some : 0 < c.in-Some.n). grind arith))
