use Rattle.std.proofs.Common.{sym, ap, replicate, ℕ, ◌∙◌}
use Rattle.bn_types.specs.Numbers.{zero_page}
use Rattle.bn_model.proofs.NestingLaws.{page-unplaced}
use Rattle.bn_model.proofs.VisiblePages.{content-free, content-unread, inside-free}
use Rattle.bn_unit.proofs.view.View.read_page.Goals as goal

pub returns-then-not-is_free-clause-bytes : goal.returns-then-not-is_free-clause-bytes
returns-then-not-is_free-clause-bytes g c =
    content-unread c.args.self.now.nest c.args.self.now.live c.args.page.0
    (sym c.is_free.ensures ∙ c.if-not-is_free.true)

pub returns-in-Some-clause-bytes : goal.returns-in-Some-clause-bytes
returns-in-Some-clause-bytes g c =
    let free = sym c.is_free.ensures ∙ c.if-not-is_free.false in
    rw (← c.self.view_is)
    (content-free c.self.inside.nest.now c.self.inside.shadow.now.live c.args.page.0 _
    (rw (← c.self.view_is) at free)
    (c.read_frame.ensures c.args.page.0 (sym c.look.ensures.placed ∙ c.in-Some.is)))

pub returns-in-None-clause-bytes : goal.returns-in-None-clause-bytes
unfolding zero_page
returns-in-None-clause-bytes g c =
    let free = sym c.is_free.ensures ∙ c.if-not-is_free.false in
    let inside = inside-free c.self.inside.nest.now c.self.inside.shadow.now.live c.args.page.0
    (rw (← c.self.view_is) at free) in
    rw (← c.self.view_is)
    (content-free c.self.inside.nest.now c.self.inside.shadow.now.live c.args.page.0 _
    (rw (← c.self.view_is) at free)
    (c.blank.ensures ∙ ap (λ (count : ℕ). replicate count 0) c.requires.room
    ∙ sym (page-unplaced c.self.inside.nest.now c.args.page.0 inside
    (sym (sym c.in-None.is ∙ c.look.ensures.placed)))))
