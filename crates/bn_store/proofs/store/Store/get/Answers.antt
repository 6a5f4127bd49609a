use Rattle.std.proofs.Common.{◌∙◌}
use Rattle.bn_store.proofs.PlaceLemmas.{get_found, get_missing}
use Rattle.bn_store.proofs.store.Store.get.Goals as goal

pub returns-in-Ok : goal.returns-in-Ok
returns-in-Ok c = rw (← c.self.view_is)
    (c.word_or_0.ensures ∙ get_found c.self.inside.records.items c.deref.result.now c.args.who.now
    c.in-Ok.at c.args.index c.index.result.now
    c.deref.ensures.value c.self.invariant.0.ascending c.in-Ok.ensures.bound
    c.in-Ok.ensures.position c.index.ensures)

pub returns-in-Err : goal.returns-in-Err
returns-in-Err c = rw (← c.self.view_is)
    (get_missing c.self.inside.records.items c.deref.result.now c.args.who.now c.in-Err.field-0
    c.args.index
    c.deref.ensures.value c.self.invariant.0.ascending c.in-Err.ensures.bound
    c.in-Err.ensures.position)
