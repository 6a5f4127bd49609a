use Rattle.std.proofs.Common.{◌≡◌, ℕ, ◌-◌, ◌^◌, ◌<◌, ◌≤◌, get_or}
use Rattle.std.specs.Str.{bytes_eq}
use Rattle.bn_model.specs.declared.head.Head.TheVariants.{Out}
use Rattle.bn_model.specs.LineShapes.{word_of}
use Rattle.bn_model.specs.Summaries.{event_heads}
use Rattle.bn_gen.specs.Tallies.{after_one}
use Rattle.bn_gen.proofs.tally.count_word.Given as goal

abbrev pub invariant-loop-i : goal.invariant-loop-i
invariant-loop-i l = record {
  below : (k : ℕ) → k < l.i → get_or l.initial.counts k 0 < 2 ^ 64 - 1 → get_or l.counts k 0 ≡
      after_one (bytes_eq (word_of (get_or event_heads k Out)) l.word)
      (get_or l.initial.counts k 0);
  above : (k : ℕ) → l.i ≤ k → get_or l.counts k 0 ≡ get_or l.initial.counts k 0;
}
