use Rattle.std.proofs.Common.{List, ap, ◌∙◌}
use Rattle.std.specs.Prelude.{count_by}
use Rattle.bn_model.specs.declared.owner.Owner.{Owner}
use Rattle.bn_model.specs.Owners.{claims, is_on}
use Rattle.bn_shadow.specs.Counting.{owners_without}
use Rattle.bn_shadow.proofs.DropLemmas.{counted-less}
use Rattle.bn_shadow.proofs.shadow.Shadow.drop_row.Goals as goal

pub invariant_of-self : goal.invariant_of-self
invariant_of-self c =
    counted-less c.self.inside.live.items c.drop_owner.new.live.items c.args.row.now.id.0
    c.self.inside.counts.items c.discount.new.counts.items c.self.invariant c.drop_owner.ensures
    (λ page.
    c.discount.ensures.counts page
    ∙ ap (λ (live : List Owner).
    count_by (is_on page) (claims (owners_without c.args.row.now.id.0 live))) c.deref.ensures.0)
