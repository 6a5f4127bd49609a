use Rattle.std.proofs.Common.{ℕ, ap, ◌∙◌, ◌≡◌, arith}
use Rattle.bn_unit.specs.Dropping.{cache_left}
use Rattle.bn_unit.proofs.Leaving.{left-next}
use Rattle.bn_unit.proofs.unit.releasing.drop_left.Goals as goal

pub loop-page-preserved : goal.loop-page-preserved
loop-page-preserved c =
    left-next c.args.gone.now c.args.shadow.now.live c.loop-page.page c.args.tlb.now
    c.loop-page.tlb _ c.loop-page.invariant c.drop_if_left.ensures

pub returns : goal.returns
returns c =
    let all : c.loop-page.page ≡ c.args.ram_pages = omega arith in
    c.loop-page.invariant
    ∙ ap (λ (n : ℕ). cache_left c.args.gone.now c.args.shadow.now.live n c.args.tlb.now) all
