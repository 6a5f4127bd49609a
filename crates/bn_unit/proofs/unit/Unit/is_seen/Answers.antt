use Rattle.std.proofs.Common.{◌∙◌, sym, ap}
use Rattle.bn_unit.specs.Memory.{Seen}
use Rattle.bn_model.proofs.VisiblePages.{is_free}
use Rattle.bn_unit.proofs.Devices.{content-free, free-seen}
use Rattle.bn_unit.proofs.unit.Unit.is_seen.Goals as goal

pub returns-clause-seen : goal.returns-clause-seen
returns-clause-seen c =
    c.is_free.ensures
    ∙ ap (λ (b : Seen). is_free b.nest b.live c.args.page.0) c.view.ensures
    ∙ free-seen c.args.self.now.nest c.args.self.now.live c.args.page.0

pub returns-clause-bytes : goal.returns-clause-bytes
returns-clause-bytes c free =
    content-free c.args.self.now.nest c.args.self.now.live c.args.page.0
    (sym (ap (λ (b : Seen). is_free b.nest b.live c.args.page.0) c.view.ensures)
    ∙ sym c.is_free.ensures ∙ free)
