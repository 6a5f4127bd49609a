use Rattle.std.proofs.Common.{◌≡◌, ◌+◌, ◌-◌, ◌<◌, [], None, length}
use Rattle.bn_machine.specs.Passing.{AreSilent, state_after_events, turn_number}
use Rattle.bn_machine.proofs.machine.Machine.make_turns.Given as goal

-- the turns so far were silent
abbrev pub invariant-turns : goal.invariant-turns
invariant-turns g l = record {
  below : l.made < l.most;
  silent : AreSilent None (turn_number l.h) l.made l.initial.self.state;
  reached : l.self.state
      ≡ state_after_events None (turn_number l.h) l.made l.initial.self.state;
  harts : length l.self.state.harts ≡ length l.initial.self.state.harts;
  clock : l.self.state.clock ≡ l.initial.self.state.clock + l.made;
  empty : l.lines ≡ [];
  first : l.made ≡ 0 → l.steps ≡ l.initial.steps;
}

abbrev pub decreases-turns : goal.decreases-turns
decreases-turns g l = l.most - l.made
