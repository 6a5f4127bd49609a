use Rattle.std.proofs.Common.{rules}
use Rattle.arrayvec.proofs.ArrayVecLemmas.{filter-from_retain}
use Rattle.bn_shadow.specs.Counting.{is_other}
use Rattle.bn_shadow.proofs.dropping.drop_owner.Goals as goal

pub returns : goal.returns
returns c =
    filter-from_retain _ (is_other c.args.id.0) _ (λ owner b f y called. search rules) _ _
    c.retain.ensures.filtered
