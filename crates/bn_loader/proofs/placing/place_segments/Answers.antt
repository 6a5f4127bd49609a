use Rattle.std.proofs.Common.{◌≡◌, sym, ◌∙◌, ap, arith, ◌+◌, ◌*◌, ◌-◌, length, List, ℕ}
use Rattle.bn_model.specs.Images as flat
use Rattle.bn_loader.proofs.SegmentLemmas.{check_on, checked_here, place_on, place_over, places_at}
use Rattle.bn_loader.proofs.placing.place_segments.Goals as goal

pub place_counted-requires-clause-checked : goal.place_counted-requires-clause-checked
place_counted-requires-clause-checked c =
    checked_here (length c.loop-i.ram) c.args.file.now c.u64_at-first.result c.from-count.result
    c.loop-i.i (omega arith) c.loop-i.invariant.checked

pub loop-i-preserved : goal.loop-i-preserved
loop-i-preserved c =
    let file = c.args.file.now in let first = c.u64_at-first.result in let count =
    c.from-count.result in let i = c.loop-i.i in
    let size = length c.loop-i.ram in
    let here = checked_here size file first count i (omega arith) c.loop-i.invariant.checked in
    let same : length c.place_counted.new.ram ≡ size = c.place_counted.auto.ram in
    record {
      placed = c.loop-i.invariant.placed ∙ place_on file first count i c.loop-i.ram (omega arith)
          ∙ ap (flat.with_segments file (flat.places_from (first + 56 * (i + 1)) (count - (i + 1))))
          (sym c.place_counted.ensures);
      checked = ap (λ (n : ℕ).
          flat.all_checked n file (flat.places_from (first + 56 * (i + 1)) (count - (i + 1)))) same
          ∙ sym (check_on size file first count i (omega arith) here) ∙ c.loop-i.invariant.checked;
      same = same ∙ c.loop-i.invariant.same;
    }

pub returns : goal.returns
returns c =
    let file = c.args.file.now in let first = c.u64_at-first.result in let count =
    c.from-count.result in
    sym (ap (λ (ps : List ℕ). flat.with_segments file ps c.args.ram.now)
    (places_at file first count c.u64_at-first.ensures (c.from-count.ensures ∙ c.u16_at.ensures))
    ∙ c.loop-i.invariant.placed ∙ place_over file first count c.loop-i.i c.loop-i.ram (omega arith))
