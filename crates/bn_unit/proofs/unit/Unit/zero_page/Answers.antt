use Rattle.std.proofs.Common.{sym, ◌∙◌}
use Rattle.bn_unit.proofs.Rightness.{held-owned, placed-kept}
use Rattle.bn_unit.proofs.unit.Unit.zero_page.Goals as goal

pub invariant_of-self : goal.invariant_of-self
invariant_of-self g c =
    let lies = rw (← c.self.view_is) at c.frame_of-frame.ensures.frame in
    let owned = rw (← c.self.view_is) at c.requires.owned in record {
      placed = placed-kept c.self.inside.nest c.zero.new.self c.zero.ensures.ram
          c.zero.ensures.places c.self.invariant.placed;
      indexes = c.self.invariant.indexes ∙ sym c.zero.ensures.ram;
      right = held-owned c.self.inside.nest c.self.inside.shadow.live c.zero.new.self
          c.args.page.0 _ (c.zero.ensures.written c.args.page.0 lies) c.zero.ensures.ram
          c.zero.ensures.places c.self.inside.tlb owned c.self.invariant.right;
    }
