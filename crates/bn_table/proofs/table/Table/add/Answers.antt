use Rattle.bn_table.proofs.TableLemmas.{add-table}
use Rattle.bn_table.proofs.table.Table.add.Goals as goal

pub invariant_of-self : goal.invariant_of-self
invariant_of-self c =
    let room = rw (← c.self.view_is) at c.requires.room in
    let ids = rw (← c.self.view_is) at c.requires.ids in
    rw (c.push.ensures.items, c.zero.ensures, c.zero-2.ensures)
    (add-table (record { rows = c.self.inside.rows.items; next = c.self.inside.next }) c.args.judged
    c.self.invariant room ids)
