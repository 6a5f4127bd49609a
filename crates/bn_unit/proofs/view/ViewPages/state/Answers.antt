use Rattle.std.proofs.Common.{sym, arith, ◌∙◌}
use Rattle.bn_model.proofs.VisiblePages.{state-free, state-owned, state-past_ram}
use Rattle.bn_unit.proofs.view.ViewPages.state.Goals as goal

pub returns-then-page-ram_pages : goal.returns-then-page-ram_pages
returns-then-page-ram_pages c =
    rw (← c.self.view_is)
    (sym (state-past_ram c.self.inside.nest.now c.self.inside.shadow.now.live c.args.page.0
    (omega arith)))

pub returns-then-owned : goal.returns-then-owned
returns-then-owned c =
    rw (← c.self.view_is)
    (sym (state-owned c.self.inside.nest.now c.self.inside.shadow.now.live c.args.page.0
    (omega arith) (sym c.owned.ensures ∙ c.if-owned.true)))

pub returns-else-owned : goal.returns-else-owned
returns-else-owned c =
    rw (← c.self.view_is)
    (sym (state-free c.self.inside.nest.now c.self.inside.shadow.now.live c.args.page.0
    (omega arith) (sym c.owned.ensures ∙ c.if-owned.false)))
