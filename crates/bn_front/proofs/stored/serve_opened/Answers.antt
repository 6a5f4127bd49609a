use Rattle.std.proofs.Common.{subst}
use Rattle.bn_model.specs.Running.{Course}
use Rattle.bn_front.specs.Stored.{store_of}
use Rattle.bn_front.specs.Story.{RunsStored}
use Rattle.bn_front.proofs.Serving.{run_is}
use Rattle.bn_front.proofs.stored.serve_opened.Goals as goal

pub returns-in-Ok-clause-runs : goal.returns-in-Ok-clause-runs
returns-in-Ok-clause-runs g c =
    subst (λ (run : Course). RunsStored run c.run_stored.result
    (store_of (g.V.Vault.account c.args.vault.now) (g.C.Chip.account c.args.chip.now))
    (store_of (g.V.Vault.account c.run_stored.new.vault)
    (g.C.Chip.account c.run_stored.new.chip))
    (g.O.Sink.account c.args.out.now) (g.O.Sink.account c.run_stored.new.out))
    (run_is c.args.order.now c.args.inputs c.args.opened.store c.in-Ok.machine.state
    c.in-Ok.ensures)
    c.run_stored.ensures.runs
