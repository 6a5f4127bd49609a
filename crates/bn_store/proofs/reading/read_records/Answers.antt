use Rattle.std.proofs.Common.{arith}
use Rattle.bn_store.proofs.ReadingLemmas.{record_read}
use Rattle.bn_store.proofs.reading.read_records.Goals as goal

pub loop-number-preserved : goal.loop-number-preserved
loop-number-preserved c = (
  record_read c.loop-number.records.items c.push.new.self.items c.args.text.now c.loop-number.number
      c.record_at.result c.loop-number.invariant.0 c.record_at.ensures c.in-Ok-push.ensures.items,
  omega (arith, c.loop-number.invariant.1, c.push.ensures.capacity),
  omega (arith, c.loop-number.invariant.2, c.in-Ok-push.ensures.len),
)
