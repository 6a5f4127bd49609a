use Rattle.std.proofs.Common.{◌≤◌, vec_len, ◌-◌}
use Rattle.std.specs.Io.KnownBytes.{Consumes}
use Rattle.bn_edge.proofs.file_desk.read_up_to.Given as goal

-- no more than asked for, and what the file had first
abbrev pub invariant-loop-chunk : goal.invariant-loop-chunk
invariant-loop-chunk g l =
    (vec_len l.bytes ≤ l.most) × Consumes (g.F.Read.remaining l.initial.file) (g.F.Read.remaining l.file) l.bytes.items

abbrev pub decreases-loop-chunk : goal.decreases-loop-chunk
decreases-loop-chunk g l = l.most - vec_len l.bytes
