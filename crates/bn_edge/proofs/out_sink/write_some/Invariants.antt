use Rattle.std.specs.Io.KnownBytes.{Keeps}
use Rattle.bn_edge.proofs.out_sink.write_some.Given as goal

-- no byte was written so far
abbrev pub invariant-loop-attempt : goal.invariant-loop-attempt
invariant-loop-attempt g l = Keeps (g.W.Write.contents l.initial.out) (g.W.Write.contents l.out)
