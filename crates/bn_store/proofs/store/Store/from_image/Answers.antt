use Rattle.std.proofs.Common.{◌∙◌, sym, ap, length, drop, arith}
use Rattle.bn_model.specs.StoredImages.{records_in, order_fault}
use Rattle.bn_model.proofs.StoredLemmas.{stored-head_fault, stored-order_fault, IsRead-from}
use Rattle.bn_model.proofs.StoredLemmas.{length-records_in, IsHeaded-from}
use Rattle.bn_store.proofs.store.Store.from_image.Goals as goal

pub returns-in-Some-clause-err : goal.returns-in-Some-clause-err
returns-in-Some-clause-err c =
    stored-head_fault c.args.text.now c.in-Some.at (sym c.in-Some.ensures)

pub find_order_fault-requires : goal.find_order_fault-requires
find_order_fault-requires c = omega (
  arith,
  ap length c.deref.ensures.value,
  ap length c.in-Ok.ensures.ok.0,
  length-records_in c.count_of.result (drop 16 c.args.text.now),
  c.count_of.ensures,
  (IsHeaded-from c.args.text.now (sym c.in-None.ensures)).few,
)

pub invariant_of-result : goal.invariant_of-result
invariant_of-result c = (
  (IsRead-from c.args.text.now c.in-Ok.records.items (λ i. omega (arith, c.type_inv.text i))
      (sym c.in-None.ensures)
      (c.in-Ok.ensures.ok.0 ∙ ap (λ k. records_in k (drop 16 c.args.text.now)) c.count_of.ensures)
      (ap order_fault (sym c.deref.ensures.value) ∙ sym c.in-None-find_order_fault.ensures)).good,
  c.in-Ok.ensures.ok.1,
)

pub returns-in-Some-find_order_fault-clause-err : goal.returns-in-Some-find_order_fault-clause-err
returns-in-Some-find_order_fault-clause-err c =
    stored-order_fault c.args.text.now c.in-Ok.records.items c.in-Some-find_order_fault.at
    (sym c.in-None.ensures)
    (c.in-Ok.ensures.ok.0 ∙ ap (λ k. records_in k (drop 16 c.args.text.now)) c.count_of.ensures)
    (ap order_fault (sym c.deref.ensures.value) ∙ sym c.in-Some-find_order_fault.ensures)

pub returns-in-None-find_order_fault-clause-ok : goal.returns-in-None-find_order_fault-clause-ok
returns-in-None-find_order_fault-clause-ok c =
    (IsRead-from c.args.text.now c.in-Ok.records.items (λ i. omega (arith, c.type_inv.text i))
    (sym c.in-None.ensures)
    (c.in-Ok.ensures.ok.0 ∙ ap (λ k. records_in k (drop 16 c.args.text.now)) c.count_of.ensures)
    (ap order_fault (sym c.deref.ensures.value) ∙ sym c.in-None-find_order_fault.ensures)).stored_is

pub returns-in-None-find_order_fault-clause-spelled :
    goal.returns-in-None-find_order_fault-clause-spelled
returns-in-None-find_order_fault-clause-spelled c =
    (IsRead-from c.args.text.now c.in-Ok.records.items (λ i. omega (arith, c.type_inv.text i))
    (sym c.in-None.ensures)
    (c.in-Ok.ensures.ok.0 ∙ ap (λ k. records_in k (drop 16 c.args.text.now)) c.count_of.ensures)
    (ap order_fault (sym c.deref.ensures.value) ∙ sym c.in-None-find_order_fault.ensures)).image_is
