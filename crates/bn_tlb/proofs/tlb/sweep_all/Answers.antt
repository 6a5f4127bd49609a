use Rattle.std.proofs.Common.{arith}
use Rattle.bn_tlb.specs.Caching.{without}
use Rattle.bn_tlb.specs.Sweeping.{leaves}
use Rattle.bn_tlb.proofs.MapSteps.{map-step}
use Rattle.bn_tlb.proofs.tlb.sweep_all.Goals as goal

pub loop-set-preserved : goal.loop-set-preserved
loop-set-preserved c =
    map-step (without (leaves c.args.leaving.now)) c.args.sets.now c.loop-set.sets
    c.loop-set.set-index c.set-item.result c.sweep.new.self c.loop-set.invariant (omega arith)
    c.sweep.ensures
