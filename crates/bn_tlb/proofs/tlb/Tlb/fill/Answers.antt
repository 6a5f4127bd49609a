use Rattle.std.proofs.Common.{subst}
use Rattle.bn_tlb.specs.Marking.{AreMarked}
use Rattle.bn_tlb.proofs.MarkLemmas.{kept-filled}
use Rattle.bn_tlb.proofs.tlb.Tlb.fill.Goals as goal

pub invariant_of-self : goal.invariant_of-self
invariant_of-self c =
    let hart = rw (← c.self.view_is) at c.requires.hart in
    let new = rw (← c.self.view_is) at c.requires.new in
    kept-filled (record { harts = c.self.inside.harts; sets = c.self.inside.sets.items })
    c.self.inside.marks.items c.mark_all.new.marks.items c.args.hart c.number_of-number.result
    (record { key = c.args.key; entry = c.args.entry }) c.index_mut.result.now c.fill.new.self
    c.self.invariant hart new c.number_of-number.ensures c.index_mut.ensures.value
    c.fill.ensures c.mark_all.ensures.kept
    (subst (AreMarked c.mark_all.new.marks.items) c.deref.ensures.0 c.mark_all.ensures.marked)
