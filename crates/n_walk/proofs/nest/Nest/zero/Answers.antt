use Rattle.bn_types.specs.Numbers.{zero_page}
use Rattle.bn_model.proofs.PageNumbers.{length-zero_page}
use Rattle.bn_model.proofs.PlacingLaws.{placed-past}
use Rattle.n_walk.proofs.Keeping.{holds-changed, contents-changed}
use Rattle.n_walk.proofs.nest.Nest.zero.Goals as goal

pub invariant_of-self : goal.invariant_of-self
invariant_of-self c =
    let placed = rw (← c.self.view_is) at c.requires.1 in
    rw c.zero.ensures (holds-changed _ c.requires.0 c.args.frame zero_page c.self.invariant placed
    length-zero_page)

pub returns-clause-written : goal.returns-clause-written
returns-clause-written c =
    rw (← c.self.view_is, c.zero.ensures)
    (λ page e. contents-changed _ page c.args.frame zero_page c.self.invariant e)

pub returns-clause-places : goal.returns-clause-places
returns-clause-places c =
    let placed = rw (← c.self.view_is) at c.requires.1 in
    rw (← c.self.view_is, c.zero.ensures)
    (λ page. placed-past c.self.inside.ram_pages c.self.inside.frames c.args.frame.0 zero_page page
    (c.self.invariant.nested.apart c.requires.0 c.args.frame placed))

pub returns-clause-nested : goal.returns-clause-nested
returns-clause-nested c = (invariant_of-self c).nested
