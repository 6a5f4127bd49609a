use Rattle.std.proofs.Common.{sym, ◌∙◌, ap, arith}
use Rattle.bn_model.specs.Images as flat
use Rattle.bn_loader.proofs.SegmentLemmas.{places_at, segment_found, segment_on, segment_over}
use Rattle.bn_loader.proofs.checking.has_segment.Goals as goal

pub returns-then-counts : goal.returns-then-counts
returns-then-counts c =
    let file = c.args.file.now in let first = c.u64_at-first.result in let count =
    c.from-count.result in
    let counted = ap flat.counts (sym c.header_at.ensures) ∙ sym c.counts.ensures
    ∙ c.if-counts.true in
    sym (ap (flat.has_segment file)
    (places_at file first count c.u64_at-first.ensures (c.from-count.ensures ∙ c.u16_at.ensures))
    ∙ c.loop-i.invariant ∙ segment_found file first count c.loop-i.i (omega arith) counted)

pub loop-i-preserved : goal.loop-i-preserved
loop-i-preserved c =
    let counted = ap flat.counts (sym c.header_at.ensures) ∙ sym c.counts.ensures
    ∙ c.if-counts.false in
    c.loop-i.invariant ∙ segment_on c.args.file.now c.u64_at-first.result c.from-count.result
    c.loop-i.i (omega arith) counted

pub returns : goal.returns
returns c =
    let file = c.args.file.now in let first = c.u64_at-first.result in let count =
    c.from-count.result in
    sym (ap (flat.has_segment file)
    (places_at file first count c.u64_at-first.ensures (c.from-count.ensures ∙ c.u16_at.ensures))
    ∙ c.loop-i.invariant ∙ segment_over file first count c.loop-i.i (omega arith))
