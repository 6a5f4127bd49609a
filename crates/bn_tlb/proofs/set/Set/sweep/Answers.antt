use Rattle.std.proofs.Common.{◌∙◌, ap}
use Rattle.std.specs.Prelude.{reverse}
use Rattle.bn_tlb.specs.Caching.{stays, without}
use Rattle.bn_tlb.specs.Sweeping.{leaves}
use Rattle.bn_tlb.proofs.Newest.{filter-reverse}
use Rattle.bn_tlb.proofs.set.Set.sweep.Goals as goal

pub returns : goal.returns
returns c =
    ap reverse c.keep_others.ensures
    ∙ filter-reverse (stays (leaves c.args.leaving.now)) c.self.inside.slots.items
    ∙ ap (without (leaves c.args.leaving.now)) c.self.view_is
