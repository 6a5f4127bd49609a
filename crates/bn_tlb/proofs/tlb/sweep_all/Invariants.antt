use Rattle.std.proofs.Common.{◌≡◌, map}
use Rattle.bn_model.proofs.MixedLists.{mixed}
use Rattle.bn_tlb.specs.Caching.{without}
use Rattle.bn_tlb.specs.Sweeping.{leaves}
use Rattle.bn_tlb.proofs.tlb.sweep_all.Given as goal

abbrev pub invariant-loop-set : goal.invariant-loop-set
invariant-loop-set l =
    l.sets ≡ mixed l.set-index (map (without (leaves l.leaving)) l.initial.sets) l.initial.sets
