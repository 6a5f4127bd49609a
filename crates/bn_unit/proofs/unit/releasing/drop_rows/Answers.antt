use Rattle.std.proofs.Common.{List, [], ◌∷◌, ◌++◌, sym, refl, ap, ◌∙◌, take}
use Rattle.std.proofs.lemmas.List.{take_more}
use Rattle.bn_types.specs.declared.row.Row.{Row}
use Rattle.bn_shadow.specs.Counting.{owners_left, owners_without}
use Rattle.bn_shadow.proofs.DropLemmas.{left-more, left-none}
use Rattle.bn_unit.proofs.unit.releasing.drop_rows.Goals as goal

pub loop-row-init : goal.loop-row-init
loop-row-init c = (sym (left-none c.args.shadow.now.live), refl)

pub loop-row-preserved : goal.loop-row-preserved
loop-row-preserved c =
    let held = c.loop-row.invariant in
    let front = take c.loop-row.row-index c.args.gone.now in
    let live = c.args.shadow.now.live in (
      c.drop_row.ensures.live
          ∙ ap (owners_without c.row-item.result.id.0) held.0
          ∙ left-more front c.row-item.result live
          ∙ ap (λ (gone : List Row). owners_left gone live)
          (ap (λ (row : Row). front ++ row ∷ []) c.row-item.is
          ∙ sym (take_more c.args.gone.now c.loop-row.row-index c.row-item.result c.loop-row-test.true)),
      c.drop_row.ensures.ram ∙ held.1,
    )
