use Rattle.std.proofs.Common.{◌≡◌, ◌-◌, ◌≤◌, []}
use Rattle.bn_edge.specs.Counts.{Stays}
use Rattle.bn_model.specs.Running.{blind_at}
use Rattle.bn_model.specs.Scripts.{after_events}
use Rattle.bn_machine.proofs.Runs.{IsUnderway}
use Rattle.bn_machine.proofs.machine.Machine.run.Given as goal

-- the run is underway, its events were drawn, their lines were written, and no write failed
abbrev pub invariant-loop-made : goal.invariant-loop-made
invariant-loop-made g l = record {
  underway : IsUnderway (blind_at l.blind) l.initial.self.state l.self.state l.initial.script
      l.limit l.made (g.O.Sink.account l.initial.out) (g.O.Sink.account l.out);
  drawn : l.script ≡ after_events l.made l.initial.script;
  most : l.made ≤ l.limit;
  empty : l.lines ≡ [];
  quiet : Stays (g.O.Sink.account l.initial.out).faults (g.O.Sink.account l.out).faults;
}

abbrev pub decreases-loop-made : goal.decreases-loop-made
decreases-loop-made g l = l.limit - l.made
