use Rattle.std.proofs.Common.{List, [], ap, subst, ◌∙◌}
use Rattle.bn_types.specs.declared.record.Record.{Record}
use Rattle.bn_model.specs.Opening.{opening}
use Rattle.bn_model.specs.Running.{Course}
use Rattle.bn_front.specs.Reading.{image_meant}
use Rattle.bn_front.specs.Story.{RunsPlainly}
use Rattle.bn_front.proofs.Serving.{run_is}
use Rattle.bn_front.proofs.plain.serve_plain.Goals as goal

pub returns-in-Ok-boot-clause-runs : goal.returns-in-Ok-boot-clause-runs
returns-in-Ok-boot-clause-runs g c =
    let order = c.args.order.now in
    subst (λ (run : Course). RunsPlainly run c.run_plainly.result
    (g.O.Sink.account c.args.out.now) (g.O.Sink.account c.run_plainly.new.out))
    (run_is order c.args.inputs [] c.in-Ok-boot.machine.state
    (c.in-Ok-boot.ensures
    ∙ ap (λ (records : List Record).
    opening order.ram_pages order.harts (image_meant c.args.inputs.image) records)
    c.in-Ok.ensures))
    c.run_plainly.ensures.runs
