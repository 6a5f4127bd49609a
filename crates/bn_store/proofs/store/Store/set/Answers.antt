use Rattle.std.proofs.Common.{sym, arith}
use Rattle.bn_store.proofs.PlaceLemmas.{set_found, refused_found, set_missing, missing}
use Rattle.bn_store.proofs.PlaceLemmas.{refused_index, refused_new, refused_full, kept_by}
use Rattle.bn_store.proofs.store.Store.set.Goals as goal

pub returns-then-index-ge32-clause-refused : goal.returns-then-index-ge32-clause-refused
returns-then-index-ge32-clause-refused c =
    sym (refused_index c.args.self.now c.args.who.now c.args.index c.if-index-ge32.true)

pub invariant_of-self : goal.invariant_of-self
invariant_of-self c = (
  kept_by c.self.inside.records.items _ c.args.who.now c.args.index c.args.value
      c.find_place.ensures.sized c.ranges.value.fits
      (refused_found c.self.inside.records.items c.deref.result.now c.args.who.now c.in-Ok.at
      c.args.index c.index_mut.result.now c.deref.ensures.value
      c.self.invariant.0.ascending c.in-Ok.ensures.bound c.in-Ok.ensures.position
      c.if-index-ge32.false)
      c.self.invariant.0
      (set_found c.self.inside.records.items c.deref.result.now c.args.who.now c.in-Ok.at
      c.args.index c.args.value c.index_mut.result.now c.deref.ensures.value
      c.self.invariant.0.ascending c.in-Ok.ensures.bound c.in-Ok.ensures.position
      c.index_mut.ensures.value),
  c.self.invariant.1,
)

pub returns-in-Ok-clause-refused : goal.returns-in-Ok-clause-refused
returns-in-Ok-clause-refused c =
    rw (← c.self.view_is)
    (refused_found c.self.inside.records.items c.deref.result.now c.args.who.now c.in-Ok.at
    c.args.index c.index_mut.result.now c.deref.ensures.value
    c.self.invariant.0.ascending c.in-Ok.ensures.bound c.in-Ok.ensures.position
    c.if-index-ge32.false)

pub returns-in-Ok-clause-ok : goal.returns-in-Ok-clause-ok
returns-in-Ok-clause-ok c =
    rw (← c.self.view_is)
    (set_found c.self.inside.records.items c.deref.result.now c.args.who.now c.in-Ok.at c.args.index
    c.args.value c.index_mut.result.now c.deref.ensures.value
    c.self.invariant.0.ascending c.in-Ok.ensures.bound c.in-Ok.ensures.position
    c.index_mut.ensures.value)

pub returns-then-len-ge-MOST_RECORDS-clause-refused :
    goal.returns-then-len-ge-MOST_RECORDS-clause-refused
returns-then-len-ge-MOST_RECORDS-clause-refused c =
    rw (← c.self.view_is)
    (sym (refused_full c.self.inside.records.items c.args.who.now c.args.index c.if-index-ge32.false
    (missing c.self.inside.records.items c.deref.result.now c.args.who.now c.in-Err.at
    c.deref.ensures.value c.self.invariant.0.ascending c.in-Err.ensures.bound
    c.in-Err.ensures.position)
    (omega (arith, c.if-len-ge-MOST_RECORDS.true, c.len.ensures, c.self.inside.records.ok.0))))

pub invariant_of-self-in-Err : goal.invariant_of-self-in-Err
invariant_of-self-in-Err c = (
  kept_by c.self.inside.records.items c.insert.new.self.items c.args.who.now c.args.index
      c.args.value c.find_place.ensures.sized c.ranges.value.fits
      (sym (refused_new c.self.inside.records.items c.args.who.now c.args.index
      c.if-index-ge32.false
      (missing c.self.inside.records.items c.deref.result.now c.args.who.now c.in-Err.at
      c.deref.ensures.value c.self.invariant.0.ascending c.in-Err.ensures.bound
      c.in-Err.ensures.position)
      (omega (arith, c.if-len-ge-MOST_RECORDS.false, c.len.ensures, c.self.inside.records.ok.0))))
      c.self.invariant.0
      (set_missing c.self.inside.records.items c.deref.result.now c.insert.new.self.items
      c.args.who.now c.in-Err.at c.args.index c.args.value c.record_of.result
      c.deref.ensures.value c.self.invariant.0.ascending c.in-Err.ensures.bound
      c.in-Err.ensures.position c.record_of.ensures c.in-Ok-insert.ensures.items),
  omega (arith, c.self.invariant.1, c.in-Ok-insert.ensures.capacity),
)

pub returns-in-Ok-insert-clause-refused : goal.returns-in-Ok-insert-clause-refused
returns-in-Ok-insert-clause-refused c =
    rw (← c.self.view_is)
    (sym (refused_new c.self.inside.records.items c.args.who.now c.args.index c.if-index-ge32.false
    (missing c.self.inside.records.items c.deref.result.now c.args.who.now c.in-Err.at
    c.deref.ensures.value c.self.invariant.0.ascending c.in-Err.ensures.bound
    c.in-Err.ensures.position)
    (omega (arith, c.if-len-ge-MOST_RECORDS.false, c.len.ensures, c.self.inside.records.ok.0))))

pub returns-in-Ok-insert-clause-ok : goal.returns-in-Ok-insert-clause-ok
returns-in-Ok-insert-clause-ok c =
    rw (← c.self.view_is)
    (set_missing c.self.inside.records.items c.deref.result.now c.insert.new.self.items
    c.args.who.now c.in-Err.at c.args.index c.args.value c.record_of.result
    c.deref.ensures.value c.self.invariant.0.ascending c.in-Err.ensures.bound
    c.in-Err.ensures.position c.record_of.ensures c.in-Ok-insert.ensures.items)
