use Rattle.std.proofs.Common.{length}
use Rattle.bn_edge.specs.Counts.{Stays}
use Rattle.bn_edge.proofs.Wrote.{HasWritten}
use Rattle.bn_edge.proofs.writing.write_all.Given as goal

-- a front of the piece is written, and no write failed
abbrev pub invariant-loop-rest : goal.invariant-loop-rest
invariant-loop-rest g l = record {
  written : HasWritten (g.O.Sink.account l.initial.out) (g.O.Sink.account l.out) l.piece l.rest;
  quiet : Stays (g.O.Sink.account l.initial.out).faults (g.O.Sink.account l.out).faults;
}

abbrev pub decreases-loop-rest : goal.decreases-loop-rest
decreases-loop-rest g l = length l.rest
