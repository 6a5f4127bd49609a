use Rattle.std.proofs.Common.{◌≡◌, ◌≤◌, length, take}
use Rattle.std.specs.Prelude.{IfSome}
use Rattle.bn_edge.specs.CommandLine.{bytes_of_words}
use Rattle.bn_edge.proofs.gathering.gather_words.Given as goal

-- the words so far are the first that there are
abbrev pub invariant-loop-number : goal.invariant-loop-number
invariant-loop-number g l =
    IfSome (g.W.Words.words l.line) (λ all. (l.number ≤ length all) × (bytes_of_words l.words.items ≡ take l.number all))
