use Rattle.std.proofs.Common.{ℕ, List, ap, sym, ◌∙◌}
use Rattle.bn_types.specs.Numbers.{number_at}
use Rattle.bn_model.proofs.NestingLaws.{page-contents}
use Rattle.n_walk.specs.contracts.nest.Nest.{the_view}
use Rattle.n_walk.proofs.nest.Nest.load.Goals as goal

pub returns-clause-number : goal.returns-clause-number
returns-clause-number c =
    rw (← c.self.view_is)
    (λ page e. c.get.ensures.number
    ∙ ap (λ (bytes : List ℕ). number_at c.args.width bytes c.args.offset)
    (sym (page-contents (the_view c.self.inside) page c.args.frame e)))
