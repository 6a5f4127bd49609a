use Rattle.std.proofs.Common.{◌≡◌, ℕ, List, length, get_or, set, ap, sym, ◌∙◌, arith}
use Rattle.bn_types.specs.Numbers.{page_at}
use Rattle.bn_model.proofs.MixedLists.{mixed_all, set-mixed}
use Rattle.bn_model.proofs.NestingLaws.{size-placed}
use Rattle.bn_model.proofs.PageNumbers.{number_at-byte}
use Rattle.bn_model.specs.Nesting.{contents}
use Rattle.bn_unit.proofs.view.read_frame.Goals as goal

pub loop-offset-preserved : goal.loop-offset-preserved
loop-offset-preserved c page e =
    let bytes : List ℕ = page_at (contents c.args.nest.now) page in
    let size : length bytes ≡ 4096 =
    size-placed c.args.nest.now page c.args.frame c.facts.ensures.whole e in
    let byte : c.load.result ≡ get_or bytes c.loop-offset.offset 0 = c.load.ensures.number page e
    ∙ number_at-byte bytes c.loop-offset.offset in
    ap (λ (n : ℕ). set c.loop-offset.bytes c.loop-offset.offset n) byte
    ∙ ap (λ (so_far : List ℕ).
    set so_far c.loop-offset.offset (get_or bytes c.loop-offset.offset 0))
    (c.loop-offset.invariant page e)
    ∙ set-mixed c.loop-offset.offset bytes c.args.bytes.now 0 (omega arith)
    (size ∙ sym c.requires.room)

pub returns : goal.returns
returns c page e =
    let bytes : List ℕ = page_at (contents c.args.nest.now) page in
    let size : length bytes ≡ 4096 =
    size-placed c.args.nest.now page c.args.frame c.facts.ensures.whole e in
    let all : c.loop-offset.offset ≡ 4096 = omega arith in
    c.loop-offset.invariant page e
    ∙ mixed_all c.loop-offset.offset bytes c.args.bytes.now (size ∙ sym all)
    (c.requires.room ∙ sym all)
