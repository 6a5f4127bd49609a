use Rattle.bn_model.specs.Running.{blind_at}
use Rattle.bn_machine.proofs.Runs.{hidden_in_run}
use Rattle.bn_machine.proofs.machine.Machine.hide_secrets.Goals as goal

pub returns : goal.returns
returns c =
    let hidden = hidden_in_run (blind_at c.args.blind) c.args.self.now.state c.args.script.now
    c.args.limit (rw (← c.self.view_is) (c.self.invariant)) c.requires.orderly c.requires.harts in
    record { hidden = hidden.0; alike = hidden.1 }
