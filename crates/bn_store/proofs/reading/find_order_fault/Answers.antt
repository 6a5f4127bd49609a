use Rattle.std.proofs.Common.{◌∙◌, sym}
use Rattle.bn_store.proofs.ReadingLemmas.{order_right, order_all}
use Rattle.bn_store.proofs.reading.find_order_fault.Goals as goal

pub loop-number-preserved : goal.loop-number-preserved
loop-number-preserved c = c.loop-number.invariant
    ∙ order_right c.args.records.now c.loop-number.number _ c.loop-number.auto.number
    c.loop-number-test.true (sym c.is_above-above.ensures ∙ c.if-not-above.false)

pub returns : goal.returns
returns c = sym (c.loop-number.invariant
    ∙ order_all c.args.records.now c.loop-number.number c.loop-number.auto.number
    c.loop-number-test.false)
