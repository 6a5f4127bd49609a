use Rattle.std.proofs.Common.{ap, sym, ◌∙◌}
use Rattle.std.specs.Option.{option_copied}
use Rattle.bn_tlb.specs.Caching.{found}
use Rattle.bn_tlb.specs.declared.key.Key.{Key}
use Rattle.bn_unit.specs.Holding.{IsRight, key_of}
use Rattle.bn_tlb.proofs.HeldSlots.{held-found}
use Rattle.bn_unit.proofs.Hits.{place-right, spot-right}
use Rattle.bn_unit.proofs.unit.Unit.judge_held.Goals as goal

pub returns-in-Some-clause-place : goal.returns-in-Some-clause-place
returns-in-Some-clause-place c =
    let is = ap (λ (key : Key). found c.self.inside.tlb c.args.who.now.hart key)
    (sym c.key_in.ensures) ∙ sym c.find.ensures ∙ ap option_copied c.in-Some.is in
    rw (← c.self.view_is)
    (c.judge.ensures.place
    ∙ place-right c.self.inside.nest c.self.inside.shadow.live c.args.who.now c.args.kind
    c.args.va c.in-Some.entry.now
    (held-found (IsRight c.self.inside.nest c.self.inside.shadow.live) c.self.inside.tlb
    c.self.invariant.right c.args.who.now.hart (key_of c.args.who.now c.args.va)
    c.in-Some.entry.now is))

pub returns-in-Some-clause-spot : goal.returns-in-Some-clause-spot
returns-in-Some-clause-spot c =
    let is = ap (λ (key : Key). found c.self.inside.tlb c.args.who.now.hart key)
    (sym c.key_in.ensures) ∙ sym c.find.ensures ∙ ap option_copied c.in-Some.is in
    rw (← c.self.view_is)
    (spot-right c.self.inside.nest c.self.inside.shadow.live
    (key_of c.args.who.now c.args.va) c.in-Some.entry.now c.judge.result c.judge.ensures.spot
    (held-found (IsRight c.self.inside.nest c.self.inside.shadow.live) c.self.inside.tlb
    c.self.invariant.right c.args.who.now.hart (key_of c.args.who.now c.args.va)
    c.in-Some.entry.now is))
