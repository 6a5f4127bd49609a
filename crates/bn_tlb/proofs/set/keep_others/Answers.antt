use Rattle.std.proofs.Common.{rules}
use Rattle.arrayvec.proofs.ArrayVecLemmas.{filter-from_retain}
use Rattle.bn_tlb.specs.Caching.{stays}
use Rattle.bn_tlb.specs.Sweeping.{leaves}
use Rattle.bn_tlb.proofs.set.keep_others.Goals as goal

pub returns : goal.returns
returns c =
    filter-from_retain _ (stays (leaves c.args.leaving.now)) _
    (λ slot b f y called. search rules) _ _
    c.retain.ensures.filtered
