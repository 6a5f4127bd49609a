use Rattle.std.proofs.Common.{◌∙◌, ap, sym, List, slice_get}
use Rattle.bn_model.specs.declared.command.Command.{Command}
use Rattle.bn_script.proofs.DrawingLemmas.{lone_here, lone_past}
use Rattle.bn_script.proofs.script.Script.is_lone.Goals as goal

pub returns-in-Some : goal.returns-in-Some
returns-in-Some c =
    let at = c.self.inside.at in
    let got = sym (ap (λ (commands : List Command). slice_get commands at) c.as_slice.ensures.value)
    ∙ sym c.command_at.ensures ∙ c.in-Some.is in
    rw (← c.self.view_is)
    (sym (lone_here c.self.inside.harts c.self.inside.commands.items at c.self.inside.done _
    c.self.invariant.on got))

pub returns-in-None : goal.returns-in-None
returns-in-None c =
    let at = c.self.inside.at in
    let got = sym (ap (λ (commands : List Command). slice_get commands at) c.as_slice.ensures.value)
    ∙ sym c.command_at.ensures ∙ c.in-None.is in
    rw (← c.self.view_is)
    (sym (lone_past c.self.inside.harts c.self.inside.commands.items at c.self.inside.done got))
