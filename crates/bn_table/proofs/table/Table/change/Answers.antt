use Rattle.bn_table.proofs.table.Table.change.Goals as goal

pub invariant_of-self : goal.invariant_of-self
invariant_of-self c = rw c.change_row.ensures (rw (← c.self.view_is) at c.requires)
