use Rattle.std.proofs.Common.{sym, ◌∙◌}
use Rattle.bn_unit.proofs.Releasing.{given-owned}
use Rattle.bn_unit.proofs.unit.Unit.zero_if_given_up.Goals as goal

pub zero_page-requires-clause-owned : goal.zero_page-requires-clause-owned
zero_page-requires-clause-owned g c =
    rw (← c.self.view_is)
    (given-owned c.args.gone.now c.args.page.0 c.self.inside.shadow.live
    (sym c.gives_up.ensures ∙ c.if-gives_up.true))
