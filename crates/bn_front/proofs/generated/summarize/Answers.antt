use Rattle.std.proofs.Common.{◌≡◌, ap, ◌∙◌}
use Rattle.bn_gen.specs.Tallies.{tally_of}
use Rattle.bn_model.specs.Reporting.{public_digest}
use Rattle.bn_model.specs.Running.{Course}
use Rattle.bn_model.specs.State.{State}
use Rattle.bn_model.specs.WholeRuns.{finish_if, finish_of}
use Rattle.bn_front.specs.Due.{generated_run}
use Rattle.bn_front.specs.Reading.{image_meant}
use Rattle.bn_front.proofs.GeneratedRuns.{opens_harts, opens_new, opens_on, run_is}
use Rattle.bn_front.proofs.generated.summarize.Goals as goal

pub make_events-requires-clause-on : goal.make_events-requires-clause-on
make_events-requires-clause-on g c =
    opens_on c.args.number (image_meant c.in_ok-image.field-0.image)
    c.in_ok-image.field-0.script _
    c.in_ok-image.ensures.image c.in_ok-image.ensures.script c.in_ok-machine.ensures

pub make_events-requires-clause-harts : goal.make_events-requires-clause-harts
make_events-requires-clause-harts g c =
    opens_harts c.args.number (image_meant c.in_ok-image.field-0.image)
    c.in_ok-image.field-0.script _
    c.in_ok-image.ensures.image c.in_ok-image.ensures.script c.in_ok-machine.ensures

pub make_events-requires-clause-begins : goal.make_events-requires-clause-begins
make_events-requires-clause-begins g c =
    opens_new c.args.number (image_meant c.in_ok-image.field-0.image)
    c.in_ok-image.field-0.script _
    c.in_ok-image.ensures.image c.in_ok-image.ensures.script c.in_ok-machine.ensures

pub returns-clause-finish : goal.returns-clause-finish
returns-clause-finish g c =
    let is = run_is c.args.number (image_meant c.in_ok-image.field-0.image)
    c.in_ok-image.field-0.script _
    c.in_ok-image.ensures.image c.in_ok-image.ensures.script c.in_ok-machine.ensures in
    c.finish_of-finish.ensures
    ∙ ap (λ (s : State). finish_if s.off) c.make_events.ensures.last
    ∙ ap (λ (run : Course). finish_of run) is

pub returns-clause-text : goal.returns-clause-text
returns-clause-text g c =
    let is = run_is c.args.number (image_meant c.in_ok-image.field-0.image)
    c.in_ok-image.field-0.script _
    c.in_ok-image.ensures.image c.in_ok-image.ensures.script c.in_ok-machine.ensures in
    let last : c.make_events.new.machine.state ≡ (generated_run c.args.number).last =
    c.make_events.ensures.last ∙ ap (λ (run : Course). run.last) is in
    c.in_ok-text.ensures (generated_run c.args.number)
    (c.make_events.ensures.told ∙ ap (λ (run : Course). tally_of run.told) is)
    (c.clock.ensures ∙ ap (λ (s : State). s.clock) last)
    (c.finish_of-finish.ensures ∙ ap (λ (s : State). finish_if s.off) last)
    (c.public_digest-digest.ensures.digest ∙ ap (λ (s : State). public_digest s) last)
