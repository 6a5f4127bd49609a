use Rattle.std.proofs.Common.{◌≡◌, Err, sym, ◌∙◌, ap, arith, rules}
use Rattle.std.proofs.lemmas.Grind.{common_steps}
use Rattle.bn_model.specs.Images as flat
use Rattle.bn_loader.proofs.SegmentLemmas.{check_bad, check_on, check_over, places_at}
use Rattle.bn_loader.proofs.checking.check_headers.Goals as goal

pub returns-in_err-check_header : goal.returns-in_err-check_header
returns-in_err-check_header c =
    let file = c.args.file.now in let first = c.u64_at-first.result in let count =
    c.from-count.result in
    let fault = c.in_err-check_header.field-0.0 in
    let bad : flat.all_checked c.args.size c.args.file.now (flat.places c.args.file.now) ≡
    Err c.in_err-check_header.field-0.0 =
    ap (flat.all_checked c.args.size file)
    (places_at file first count c.u64_at-first.ensures (c.from-count.ensures ∙ c.u16_at.ensures))
    ∙ c.loop-i.invariant
    ∙ check_bad c.args.size file first count c.loop-i.i fault (omega arith)
    (sym c.check_header.ensures ∙ c.in_err-check_header.was) in
    rw bad (first_of (search rules, grind (arith, common_steps)))

pub loop-i-preserved : goal.loop-i-preserved
loop-i-preserved c =
    c.loop-i.invariant
    ∙ check_on c.args.size c.args.file.now c.u64_at-first.result c.from-count.result c.loop-i.i
    (omega arith) (sym c.check_header.ensures ∙ c.in_ok-check_header.was)

pub returns : goal.returns
returns c =
    let file = c.args.file.now in let first = c.u64_at-first.result in let count =
    c.from-count.result in
    sym (ap (flat.all_checked c.args.size file)
    (places_at file first count c.u64_at-first.ensures (c.from-count.ensures ∙ c.u16_at.ensures))
    ∙ c.loop-i.invariant ∙ check_over c.args.size file first count c.loop-i.i (omega arith))
