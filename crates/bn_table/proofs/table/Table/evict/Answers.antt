use Rattle.std.proofs.Common.{List, sym, ap, ◌∙◌}
use Rattle.bn_types.specs.declared.row.Row.{Row}
use Rattle.bn_model.specs.Deciding.{decision_of_evict}
use Rattle.bn_model.specs.Evicting.{rows_left}
use Rattle.bn_model.specs.Rows.{row_of}
use Rattle.bn_table.proofs.EvictionLemmas.{left-table, table-apart}
use Rattle.bn_table.proofs.table.Table.evict.Goals as goal

pub take_chain-requires : goal.take_chain-requires
take_chain-requires c = record {
  few = c.self.invariant.few;
  apart = table-apart (record { rows = c.self.inside.rows.items; next = c.self.inside.next })
      c.self.invariant;
}

pub invariant_of-self : goal.invariant_of-self
invariant_of-self c =
    left-table (record { rows = c.self.inside.rows.items; next = c.self.inside.next }) c.args.id.0
    c.take_chain.new.rows.items c.self.invariant
    (c.take_chain.ensures.rows
    ∙ ap (λ (gone : List Row). rows_left gone c.self.inside.rows.items) c.take_chain.ensures.gone)
    (λ rd k count.
    sym (ap (decision_of_evict rd k count)
    (c.row_in.ensures
    ∙ ap (λ (rows : List Row). row_of rows c.args.id.0) c.deref.ensures.0))
    ∙ c.in-None.ensures rd k count)
