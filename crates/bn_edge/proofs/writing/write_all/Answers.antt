use Rattle.bn_edge.proofs.Wrote.{stays_on, written_more}
use Rattle.bn_edge.proofs.writing.write_all.Goals as goal

pub loop-rest-preserved : goal.loop-rest-preserved
loop-rest-preserved g c = record {
  written = written_more _ _ _ _ _ c.in_ok-count.count c.loop-rest.invariant.written
      c.in_ok-count.ensures.ok;
  quiet = stays_on _ _ _ c.loop-rest.invariant.quiet c.in_ok-count.ensures.failed;
}
