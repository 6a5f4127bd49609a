use Rattle.std.proofs.Common.{◌≡◌}
use Rattle.bn_model.specs.Scripts.{after_events}
use Rattle.bn_front.proofs.GeneratedRuns.{IsCounted}
use Rattle.bn_front.proofs.generated.make_events.Given as goal

-- the run's events were drawn, and their lines counted
abbrev pub invariant-loop-event : goal.invariant-loop-event
invariant-loop-event g l = record {
  counted : IsCounted l.fn.machine.state l.machine.state l.fn.script 1000000 l._event l.tally;
  drawn : l.script ≡ after_events l._event l.fn.script;
}
