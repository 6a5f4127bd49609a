use Rattle.std.proofs.Common.{ap, sym, ◌∙◌}
use Rattle.bn_tlb.specs.Caching.{Cache}
use Rattle.bn_unit.proofs.Evictions.{held-released}
use Rattle.bn_unit.proofs.Leaving.{harts-left, harts-others}
use Rattle.bn_shadow.specs.Counting.{owners_left}
use Rattle.bn_shadow.proofs.DropLemmas.{owners-left}
use Rattle.bn_unit.specs.Memory.{Backing}
use Rattle.bn_unit.proofs.unit.Unit.release.Goals as goal

pub returns-clause-live : goal.returns-clause-live
returns-clause-live g c rows e =
    c.drop_rows.ensures.live
    ∙ ap (owners_left c.args.gone.now)
    (ap (λ (b : Backing). b.live) c.self.view_is ∙ c.zero_pages.ensures.live ∙ e)
    ∙ owners-left c.args.gone.now rows

pub invariant_of-self : goal.invariant_of-self
invariant_of-self g c = record {
  placed = c.self.invariant.placed;
  indexes = c.drop_rows.ensures.ram ∙ c.self.invariant.indexes;
  right = held-released c.args.gone.now c.self.inside.shadow.live c.args.self.now.live
      (ap (λ (b : Backing). b.live) c.self.view_is ∙ c.zero_pages.ensures.live)
      c.requires.offered c.self.inside.nest c.self.inside.tlb c.drop_left.new.tlb
      c.drop_modules.new.tlb c.drop_rows.new.shadow.live c.ram_pages-ram_pages.result
      (c.ram_pages-ram_pages.ensures.value
      ∙ sym (ap (λ (b : Backing). b.nest.ram) c.self.view_is)) c.drop_rows.ensures.live
      c.drop_left.ensures c.drop_modules.ensures c.self.invariant.right;
}

pub returns-clause-harts : goal.returns-clause-harts
returns-clause-harts g c =
    ap (λ (m : Cache). m.harts) c.drop_modules.ensures
    ∙ harts-others c.args.gone.now c.drop_left.new.tlb
    ∙ ap (λ (m : Cache). m.harts) c.drop_left.ensures
    ∙ harts-left c.args.gone.now c.self.inside.shadow.live c.ram_pages-ram_pages.result
    c.self.inside.tlb
    ∙ ap (λ (b : Backing). b.cache.harts) c.self.view_is
    ∙ ap (λ (m : Cache). m.harts) c.zero_pages.ensures.cache
