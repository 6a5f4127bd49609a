use Rattle.std.proofs.Common.{ap, ◌∙◌}
use Rattle.bn_tlb.specs.Caching.{Cache}
use Rattle.bn_unit.specs.Memory.{Backing}
use Rattle.bn_unit.proofs.Leaving.{harts-without}
use Rattle.bn_model.specs.Rows.{owner_of}
use Rattle.bn_unit.proofs.Owning.{held-owning}
use Rattle.bn_unit.proofs.unit.Unit.own.Goals as goal

pub invariant_of-self : goal.invariant_of-self
invariant_of-self c =
    let new = rw (← c.self.view_is) at c.requires.new in record {
      placed = c.self.invariant.placed;
      indexes = c.add_row.ensures.ram ∙ c.self.invariant.indexes;
      right = held-owning c.self.inside.shadow.live (owner_of c.args.row.now) c.self.inside.nest
          c.self.inside.tlb c.drop_pages.new.tlb c.add_row.new.self.live c.deref.result.now
          c.add_row.ensures.live c.deref.ensures.0 c.drop_pages.ensures new c.self.invariant.right;
    }

pub returns-clause-harts : goal.returns-clause-harts
returns-clause-harts c =
    ap (λ (m : Cache). m.harts) c.drop_pages.ensures
    ∙ harts-without c.deref.result.now c.self.inside.tlb
    ∙ ap (λ (b : Backing). b.cache.harts) c.self.view_is
