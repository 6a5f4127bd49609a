use Rattle.std.proofs.Common.{sym, ap, ◌∙◌}
use Rattle.std.specs.List.{list_any}
use Rattle.bn_model.specs.Blanking.{runs}
use Rattle.bn_machine.specs.Standing.{Standing}
use Rattle.bn_machine.proofs.ZeroedPages.{blank-running}
use Rattle.bn_machine.proofs.engine.Engine.blank.Goals as goal

pub returns-else-not-is_run : goal.returns-else-not-is_run
returns-else-not-is_run g c =
    let id = c.args.id.0 in
    record {
      blanked = sym (blank-running id c.args.self.now.state
          (ap (λ (v : Standing). list_any (runs id) v.state.harts) (sym c.self.view_is)
          ∙ sym (ap (λ (harts : _). list_any (runs id) harts) c.deref.ensures.value)
          ∙ sym c.is_run.ensures ∙ c.if-not-is_run.false));
    }
