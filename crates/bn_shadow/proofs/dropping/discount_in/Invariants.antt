use Rattle.std.proofs.Common.{◌≡◌, ℕ}
use Rattle.std.specs.Prelude.{count_by, slice_index}
use Rattle.bn_model.specs.Owners.{claims, is_on}
use Rattle.bn_shadow.proofs.DropLemmas.{between}
use Rattle.bn_shadow.proofs.dropping.discount_in.Given as goal

abbrev pub invariant-loop-owner : goal.invariant-loop-owner
invariant-loop-owner l =
    (page : ℕ) → slice_index l.counts page ≡
    count_by (is_on page) (claims (between l.id.0 l.owner-index l.live))
