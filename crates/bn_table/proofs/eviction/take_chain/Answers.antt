use Rattle.std.proofs.Common.{length, ap, sym, ◌∙◌, arith}
use Rattle.bn_table.proofs.EvictionLemmas.{apart-without, chain-begin, chain-end, chain-more}
use Rattle.bn_table.proofs.EvictionLemmas.{chain-spent, left-begin, left-end, left-more}
use Rattle.bn_table.proofs.eviction.take_chain.Goals as goal

pub loop-round-init : goal.loop-round-init
loop-round-init c = record {
  apart = c.requires.apart;
  chain = chain-begin c.args.rows.now.items c.new-gone.result.items c.args.id.0 c.new-gone.ensures;
  rows = left-begin c.args.rows.now.items c.new-gone.result.items c.new-gone.ensures;
  count = ap length c.new-gone.ensures;
  rest = omega (arith, c.requires.few);
}

pub returns-in-None-clause-gone : goal.returns-in-None-clause-gone
returns-in-None-clause-gone c =
    chain-end _ c.loop-round.gone.items c.loop-round.rows.items c.loop-round.next.0
    c.loop-round.invariant.chain (sym c.in-None.is ∙ c.take_row.ensures.row)

pub returns-in-None-clause-rows : goal.returns-in-None-clause-rows
returns-in-None-clause-rows c =
    c.take_row.ensures.rows
    ∙ (left-end c.loop-round.rows.items c.loop-round.next.0
    (sym c.in-None.is ∙ c.take_row.ensures.row) ∙ c.loop-round.invariant.rows)

pub loop-round-preserved : goal.loop-round-preserved
loop-round-preserved c =
    let found = sym c.in-Some.is ∙ c.take_row.ensures.row in
    record {
      apart = apart-without c.loop-round.next.0 c.loop-round.rows.items c.take_row.new.rows.items
          c.take_row.ensures.rows c.loop-round.invariant.apart;
      chain = chain-more _ c.loop-round.gone.items c.push.new.self.items c.loop-round.rows.items
          c.take_row.new.rows.items c.loop-round.next.0 c.in-Some.row
          c.loop-round.invariant.chain found c.take_row.ensures.rows c.in-Some.ensures.count
          c.push.ensures.items;
      rows = left-more c.args.rows.now.items c.loop-round.gone.items c.push.new.self.items
          c.loop-round.rows.items c.take_row.new.rows.items c.loop-round.next.0 c.in-Some.row
          c.loop-round.invariant.rows found c.take_row.ensures.rows c.push.ensures.items;
      count = omega (arith, c.push.ensures.len);
      rest = omega (arith, c.in-Some.ensures.count);
    }

pub returns-clause-gone : goal.returns-clause-gone
returns-clause-gone c =
    chain-spent _ c.loop-round.gone.items c.loop-round.rows.items c.loop-round.next.0
    c.loop-round.invariant.chain (omega arith)
