use Rattle.std.proofs.Common.{length, ap, arith}
use Rattle.bn_shadow.proofs.CountLemmas.{counted-more, counted-room}
use Rattle.bn_shadow.proofs.shadow.Shadow.add_row.Goals as goal

pub count_row-requires-clause-room : goal.count_row-requires-clause-room
count_row-requires-clause-room c page =
    let room = rw (← c.self.view_is) at c.requires.room in
    counted-room c.self.inside.live.items c.self.inside.counts.items page _ c.self.invariant room
    (omega (arith, c.copy_of-decls.ensures.few, ap length c.deref-2.ensures.0))

pub invariant_of-self : goal.invariant_of-self
invariant_of-self c =
    let counts = rw c.deref-2.ensures.0 at c.count_row.ensures.counts in
    counted-more c.self.inside.live.items c.push.new.self.items _ c.self.inside.counts.items
    c.count_row.new.counts.items c.self.invariant c.push.ensures.items c.copy_of-decls.ensures.few
    counts
