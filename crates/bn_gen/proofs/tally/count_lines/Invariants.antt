use Rattle.std.proofs.Common.{◌≡◌, ◌<◌, ◌^◌, ◌++◌, List, length}
use Rattle.bn_types.specs.declared.line.Line.{Line}
use Rattle.bn_model.specs.Spelling.{text_of}
use Rattle.bn_gen.proofs.TallyLemmas.{Reached}
use Rattle.bn_gen.specs.Tallies.{tally_of}
use Rattle.bn_gen.proofs.tally.count_lines.Given as goal

abbrev pub invariant-lines : goal.invariant-lines
invariant-lines l = record {
  long : length l.counts ≡ 18;
  reached : (told lines : List Line) → length (told ++ lines) < 2 ^ 64
      → l.initial.counts ≡ tally_of told → l.text ≡ text_of lines
      → Reached told lines l.counts l.rest;
}

abbrev pub decreases-lines : goal.decreases-lines
decreases-lines l = length l.rest
