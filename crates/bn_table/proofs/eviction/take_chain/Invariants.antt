use Rattle.std.proofs.Common.{◌≡◌, ◌+◌, ◌≤◌, ◌++◌, length}
use Rattle.bn_model.specs.Evicting.{chain, evicted_rows, rows_left}
use Rattle.bn_table.specs.Evictions.{AreApart}
use Rattle.bn_table.proofs.eviction.take_chain.Given as goal

abbrev pub invariant-loop-round : goal.invariant-loop-round
invariant-loop-round l = record {
  apart : AreApart l.rows.items;
  -- what has gone, and what will go
  chain : l.gone.items ++ chain (length l.rows.items) l.rows.items l.next.0 ≡
      evicted_rows l.initial.rows.items l.fn.id.0;
  rows : l.rows.items ≡ rows_left l.gone.items l.initial.rows.items;
  -- each round takes one
  count : length l.gone.items ≡ l._round;
  rest : length l.rows.items + l._round ≤ 15;
}
