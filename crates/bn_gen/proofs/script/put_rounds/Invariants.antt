use Rattle.std.proofs.Common.{◌≡◌, ◌-◌, ◌++◌}
use Rattle.bn_gen.specs.Parts.{round_lines, rounds}
use Rattle.bn_gen.proofs.script.put_rounds.Given as goal

-- what is made so far and what is left are the whole
abbrev pub invariant-loop-round : goal.invariant-loop-round
invariant-loop-round l = record {
  bytes : l.initial.script.items ++ round_lines (rounds 64 l.initial.stream).value ≡
      l.script.items ++ round_lines (rounds (64 - l._round) l.stream).value;
  state : (rounds 64 l.initial.stream).state ≡ (rounds (64 - l._round) l.stream).state;
}
