use Rattle.std.proofs.Common.{List, ap, ◌∙◌, arith}
use Rattle.std.specs.Prelude.{slice_set}
use Rattle.bn_types.specs.Numbers.{page_at}
use Rattle.bn_model.specs.declared.owner.Owner.{Owner}
use Rattle.bn_model.specs.Evicting.{page_left}
use Rattle.bn_model.specs.Nesting.{contents}
use Rattle.bn_unit.proofs.Releasing.{left-all, left-more}
use Rattle.bn_unit.proofs.unit.Unit.zero_pages.Goals as goal

pub loop-page-preserved : goal.loop-page-preserved
loop-page-preserved g c =
    let held = c.loop-page.invariant in
    let now = contents c.loop-page.self.nest in
    let old = contents c.args.self.now.nest in
    let page = c.loop-page.page in (
      c.zero_if_given_up.ensures.pages
          ∙ ap (λ (live : List Owner).
          slice_set now page (page_left c.args.gone.now live page (page_at now page))) held.1
          ∙ left-more c.args.gone.now c.args.self.now.live old now page
          (omega (arith, c.loop-page-test.true, c.ram_pages-page-end.ensures.count)) held.0,
      c.zero_if_given_up.ensures.live ∙ held.1,
      c.zero_if_given_up.ensures.ram ∙ held.2,
      c.zero_if_given_up.ensures.cache ∙ held.3,
      c.zero_if_given_up.ensures.nested,
    )

pub returns-clause-pages : goal.returns-clause-pages
returns-clause-pages g c =
    left-all c.args.gone.now c.args.self.now.live (contents c.args.self.now.nest)
    (contents c.loop-page.self.nest) c.loop-page.page
    (omega (
      arith,
      c.loop-page-test.false,
      c.loop-page.auto.page-end,
      c.ram_pages-page-end.ensures.count,
    )) c.loop-page.invariant.0
