use Rattle.std.proofs.Common.{◌<◌, ap, length, subst, sym, ◌∙◌}
use Rattle.std.proofs.lemmas.List.{get_or_default}
use Rattle.bn_model.specs.Rows.{owners}
use Rattle.bn_model.specs.State.{hart_at, resting_hart}
use Rattle.bn_machine.specs.Standing.{Standing}
use Rattle.bn_machine.proofs.Askers.{known-asker}
use Rattle.bn_machine.proofs.engine.Engine.fetch_anyhow.Goals as goal

pub fetch-requires-clause-known : goal.fetch-requires-clause-known
fetch-requires-clause-known g c =
    let below = subst (λ (v : Standing). c.args.h < length v.state.harts) (sym c.self.view_is)
    c.requires.hart in
    known-asker c.args.self.now.state c.args.h c.self.inside.unit.live c.asker-who.result
    c.index-hart.result.now c.requires.sound
    (c.self.invariant.owned ∙ ap (λ (v : Standing). owners v.state.rows) c.self.view_is)
    c.asker-who.ensures.asker
    (c.index-hart.ensures
    ∙ get_or_default c.self.inside.harts.items c.args.h c.index-hart.result.now resting_hart below
    ∙ ap (λ (v : Standing). hart_at v.state c.args.h) c.self.view_is)
