use Rattle.bn_shadow.proofs.CountLemmas.{owned-counted}
use Rattle.bn_shadow.proofs.shadow.Shadow.owned.Goals as goal

pub returns : goal.returns
returns c =
    rw (← c.self.view_is, c.is_counted.ensures, c.deref.ensures.value)
    (owned-counted c.self.inside.live.items c.self.inside.counts.items c.args.page.0
    c.self.invariant)
