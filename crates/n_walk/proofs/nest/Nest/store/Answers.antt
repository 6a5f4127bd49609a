use Rattle.bn_model.proofs.PlacingLaws.{placed-past}
use Rattle.bn_model.proofs.NestingLaws.{page-contents}
use Rattle.n_walk.proofs.Keeping.{holds-changed, contents-changed, size-written}
use Rattle.n_walk.specs.contracts.nest.Nest.{the_view}
use Rattle.n_walk.proofs.nest.Nest.store.Goals as goal

pub invariant_of-self : goal.invariant_of-self
invariant_of-self c =
    let placed = rw (← c.self.view_is) at c.requires.placed.1 in
    rw c.put.ensures
    (holds-changed _ c.requires.placed.0 c.args.frame _ c.self.invariant placed
    (size-written _ c.requires.placed.0 c.args.frame c.args.width c.args.offset c.args.value
    c.self.invariant placed c.requires.aligned c.requires.inside))

pub returns-clause-written : goal.returns-clause-written
returns-clause-written c =
    rw (← c.self.view_is, c.put.ensures)
    (λ page e. rw (page-contents (the_view c.self.inside) page c.args.frame e)
    (contents-changed _ page c.args.frame _ c.self.invariant e))

pub returns-clause-places : goal.returns-clause-places
returns-clause-places c =
    let placed = rw (← c.self.view_is) at c.requires.placed.1 in
    rw (← c.self.view_is, c.put.ensures)
    (λ page. placed-past c.self.inside.ram_pages c.self.inside.frames c.args.frame.0 _ page
    (c.self.invariant.nested.apart c.requires.placed.0 c.args.frame placed))

pub returns-clause-nested : goal.returns-clause-nested
returns-clause-nested c = (invariant_of-self c).nested
