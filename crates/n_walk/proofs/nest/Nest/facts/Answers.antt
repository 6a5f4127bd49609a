use Rattle.bn_model.proofs.NestingLaws.{length-contents}
use Rattle.n_walk.proofs.Keeping.{whole-contents}
use Rattle.n_walk.proofs.nest.Nest.facts.Goals as goal

pub returns-clause-whole : goal.returns-clause-whole
returns-clause-whole c = rw (← c.self.view_is) (whole-contents _ c.self.invariant)

pub returns-clause-count : goal.returns-clause-count
returns-clause-count c = rw (← c.self.view_is)
    (length-contents c.self.inside.ram_pages c.self.inside.frames)
