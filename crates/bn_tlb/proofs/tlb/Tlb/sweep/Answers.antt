use Rattle.bn_tlb.specs.Caching.{Cache}
use Rattle.bn_tlb.specs.Marking.{HasMarks}
use Rattle.bn_tlb.specs.Sweeping.{leaves}
use Rattle.bn_tlb.proofs.CacheLemmas.{cache_after_drop}
use Rattle.bn_tlb.proofs.HeldSlots.{held-dropped}
use Rattle.bn_tlb.proofs.tlb.Tlb.sweep.Goals as goal

pub invariant_of-self : goal.invariant_of-self
invariant_of-self c =
    let m : Cache = record { harts = c.self.inside.harts; sets = c.self.inside.sets.items } in
    let marked = HasMarks c.self.inside.marks.items in
    rw (c.sweep_sets.ensures) (record {
      cache = cache_after_drop (leaves c.args.leaving.now) m c.self.invariant.cache;
      marked = held-dropped marked marked (leaves c.args.leaving.now) (λ slot h stayed. h) m
          c.self.invariant.marked;
    })
