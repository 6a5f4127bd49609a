use Rattle.std.proofs.Common.{sym, ap, ◌∙◌}
use Rattle.std.specs.List.{position}
use Rattle.bn_model.specs.Rows.{has_id}
use Rattle.bn_table.proofs.EvictionLemmas.{missed-rest, missed-row, taken-rest, taken-row}
use Rattle.bn_table.proofs.eviction.take_row.Goals as goal

pub returns-in-Some-clause-row : goal.returns-in-Some-clause-row
returns-in-Some-clause-row c =
    taken-row c.args.id.0 c.in-Some.place c.args.rows.now.items c.remove.result
    (sym c.in-Some.is ∙ c.place_in.ensures
    ∙ ap (position (has_id c.args.id.0)) c.deref.ensures.0)
    c.remove.ensures.value

pub returns-in-Some-clause-rows : goal.returns-in-Some-clause-rows
returns-in-Some-clause-rows c =
    c.remove.ensures.items
    ∙ taken-rest c.args.id.0 c.in-Some.place c.args.rows.now.items c.remove.result c.requires
    (sym c.in-Some.is ∙ c.place_in.ensures
    ∙ ap (position (has_id c.args.id.0)) c.deref.ensures.0)

pub returns-in-None-clause-row : goal.returns-in-None-clause-row
returns-in-None-clause-row c =
    missed-row c.args.id.0 c.args.rows.now.items
    (sym c.in-None.is ∙ c.place_in.ensures
    ∙ ap (position (has_id c.args.id.0)) c.deref.ensures.0)

pub returns-in-None-clause-rows : goal.returns-in-None-clause-rows
returns-in-None-clause-rows c =
    missed-rest c.args.id.0 c.args.rows.now.items
    (sym c.in-None.is ∙ c.place_in.ensures
    ∙ ap (position (has_id c.args.id.0)) c.deref.ensures.0)
