use Rattle.std.proofs.Common.{List, Bool, ap, sym, ◌∙◌}
use Rattle.bn_tlb.specs.Caching.{Cache}
use Rattle.bn_tlb.specs.Marking.{is_marked}
use Rattle.bn_tlb.proofs.MarkLemmas.{unmarked-stay}
use Rattle.bn_tlb.proofs.tlb.Tlb.drop_walks.Goals as goal

pub returns-else-is_marked : goal.returns-else-is_marked
returns-else-is_marked c =
    let m : Cache = record { harts = c.self.inside.harts; sets = c.self.inside.sets.items } in
    let none = ap (λ (marks : List Bool). is_marked marks c.args.page.0)
    (sym c.deref.ensures.value) ∙ sym c.is_marked.ensures ∙ c.if-is_marked.false in
    rw (← c.self.view_is)
    (unmarked-stay m c.self.inside.marks.items c.args.page.0 none c.self.invariant.marked)
