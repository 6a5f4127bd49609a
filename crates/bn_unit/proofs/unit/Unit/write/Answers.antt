use Rattle.std.proofs.Common.{sym, ◌∙◌}
use Rattle.bn_unit.proofs.Rightness.{held-written, placed-kept}
use Rattle.bn_unit.proofs.unit.Unit.write.Goals as goal

pub invariant_of-self : goal.invariant_of-self
invariant_of-self c =
    let lies = rw (← c.self.view_is) at c.requires.frame in record {
      placed = placed-kept c.self.inside.nest c.store.new.self c.store.ensures.ram
          c.store.ensures.places c.self.invariant.placed;
      indexes = c.self.invariant.indexes ∙ sym c.store.ensures.ram;
      right = held-written c.self.inside.nest c.self.inside.shadow.live c.store.new.self
          c.args.place.page.0 _ (c.store.ensures.written c.args.place.page.0 lies)
          c.store.ensures.ram c.store.ensures.places c.self.inside.tlb c.drop_walks.new.self
          c.drop_walks.ensures c.self.invariant.right;
    }
