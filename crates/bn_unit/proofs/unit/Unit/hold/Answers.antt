use Rattle.bn_unit.proofs.Entering.{held-entered, right-entered}
use Rattle.bn_unit.proofs.Keeping.{held-filled}
use Rattle.bn_unit.proofs.unit.Unit.hold.Goals as goal

pub invariant_of-self : goal.invariant_of-self
invariant_of-self c = record {
  placed = c.self.invariant.placed;
  indexes = c.self.invariant.indexes;
  right = held-entered c.self.inside.nest c.self.inside.shadow.live c.self.inside.tlb
      c.fill.new.self c.args.who.now.hart c.key_in.result _ c.args.who.now c.args.va
      c.key_in.ensures c.fill.ensures c.self.invariant.right
      (right-entered c.self.inside.nest c.self.inside.shadow.live c.args.who.now c.args.kind
      c.args.va c.args.leaf c.args.spot.page c.args.spot.frame c.rights-rights.result
      (rw (← c.self.view_is) at c.requires.leaf) c.requires.page
      (rw (← c.self.view_is) at c.requires.spot.inside)
      (rw (← c.self.view_is) at c.requires.spot.frame)
      (rw (← c.self.view_is) at c.requires.admitted) c.rights-rights.ensures.load
      c.rights-rights.ensures.store c.rights-rights.ensures.fetch
      (rw (← c.self.view_is) at c.requires.known));
}

pub returns-clause-held : goal.returns-clause-held
returns-clause-held c =
    held-filled c.self.inside.tlb c.fill.new.self c.args.who.now c.args.va c.key_in.result _
    c.facts.ensures (rw (← c.self.view_is) at c.requires.hart) c.key_in.ensures c.fill.ensures
