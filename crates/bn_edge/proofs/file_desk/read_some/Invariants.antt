use Rattle.std.proofs.Common.{◌≡◌, length}
use Rattle.std.specs.Io.KnownBytes.{Keeps}
use Rattle.bn_edge.proofs.file_desk.read_some.Given as goal

-- no byte was read so far
abbrev pub invariant-loop-attempt : goal.invariant-loop-attempt
invariant-loop-attempt g l = Keeps (g.F.Read.remaining l.initial.file) (g.F.Read.remaining l.file) × (length l.room ≡ length l.initial.room)
