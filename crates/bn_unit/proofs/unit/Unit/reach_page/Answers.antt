use Rattle.std.proofs.Common.{sym, ap, ◌∙◌}
use Rattle.bn_model.specs.Nesting.{contents}
use Rattle.bn_model.proofs.NestingLaws.{length-contents}
use Rattle.bn_unit.specs.Memory.{at_offset}
use Rattle.bn_unit.proofs.unit.Unit.reach_page.Goals as goal

pub returns-in-Ok-clause-place : goal.returns-in-Ok-clause-place
returns-in-Ok-clause-place g c =
    let nest = c.args.self.now.nest in
    ap (at_offset c.args.va) (sym c.in-Ok.is)
    ∙ c.find_page.ensures.place (contents nest) (length-contents nest.ram nest.frames)

pub returns-in-Err-clause-place : goal.returns-in-Err-clause-place
returns-in-Err-clause-place g c =
    let nest = c.args.self.now.nest in
    ap (at_offset c.args.va) (sym c.in-Err.is)
    ∙ c.find_page.ensures.place (contents nest) (length-contents nest.ram nest.frames)
