use Rattle.bn_model.specs.Running.{blind_at}
use Rattle.bn_machine.proofs.Runs.{before_clock, before_fits, before_on}
use Rattle.bn_machine.proofs.machine.Machine.make_event.Goals as goal

pub make_one-requires-clause-on : goal.make_one-requires-clause-on
make_one-requires-clause-on g c = rw c.blank_before_event.ensures.blanked
    (before_on (blind_at c.args.blind) c.args.self.now.state c.requires.on)

pub make_one-requires-clause-fits : goal.make_one-requires-clause-fits
make_one-requires-clause-fits g c =
    rw c.blank_before_event.ensures.blanked
    (before_fits (blind_at c.args.blind) c.args.self.now.state c.args.event c.requires.fits)

pub make_one-requires-clause-clock : goal.make_one-requires-clause-clock
make_one-requires-clause-clock g c =
    rw c.blank_before_event.ensures.blanked
    (before_clock (blind_at c.args.blind) c.args.self.now.state _ c.requires.clock)
