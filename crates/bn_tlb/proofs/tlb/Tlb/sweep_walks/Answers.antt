use Rattle.bn_tlb.specs.Caching.{Cache, is_walked}
use Rattle.bn_tlb.proofs.CacheLemmas.{cache_after_drop}
use Rattle.bn_tlb.proofs.MarkLemmas.{held-cleared}
use Rattle.bn_tlb.proofs.tlb.Tlb.sweep_walks.Goals as goal

pub invariant_of-self : goal.invariant_of-self
invariant_of-self c =
    let m : Cache = record { harts = c.self.inside.harts; sets = c.self.inside.sets.items } in
    rw (c.sweep_sets.ensures, c.clear.ensures) (record {
      cache = cache_after_drop (is_walked c.args.page.0) m c.self.invariant.cache;
      marked = held-cleared m c.self.inside.marks.items c.args.page.0 c.self.invariant.marked;
    })
