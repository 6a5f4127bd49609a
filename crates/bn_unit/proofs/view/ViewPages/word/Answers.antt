use Rattle.std.proofs.Common.{arith, sym, ◌∙◌}
use Rattle.bn_model.proofs.VisiblePages.{word-placed, word-unplaced, word-unread, words-free}
use Rattle.bn_model.proofs.VisiblePages.{words-unread}
use Rattle.bn_unit.proofs.view.ViewPages.word.Goals as goal

pub returns-then-not-is_free-clause-word : goal.returns-then-not-is_free-clause-word
returns-then-not-is_free-clause-word g c =
    word-unread c.args.self.now.nest c.args.self.now.live c.args.page.0 c.args.offset
    (sym c.is_free.ensures ∙ c.if-not-is_free.true)

pub returns-then-not-is_free-clause-read : goal.returns-then-not-is_free-clause-read
returns-then-not-is_free-clause-read g c =
    words-unread c.args.self.now.nest c.args.self.now.live c.args.page.0 c.args.steps.now
    (sym c.is_free.ensures ∙ c.if-not-is_free.true)

pub returns-in-Some-clause-word : goal.returns-in-Some-clause-word
returns-in-Some-clause-word g c =
    let free = sym c.is_free.ensures ∙ c.if-not-is_free.false in
    rw (← c.self.view_is)
    (word-placed c.self.inside.nest.now c.self.inside.shadow.now.live c.args.page.0 c.args.offset
    c.load.result (rw (← c.self.view_is) at free)
    (c.load.ensures.number c.args.page.0 (sym c.look-frame.ensures.placed ∙ c.in-Some.is)))

pub returns-in-Some-clause-read : goal.returns-in-Some-clause-read
returns-in-Some-clause-read g c =
    let free = sym c.is_free.ensures ∙ c.if-not-is_free.false in
    rw (← c.self.view_is)
    (words-free c.self.inside.nest.now c.self.inside.shadow.now.live c.args.page.0 c.args.steps.now
    c.tick.new.self (rw (← c.self.view_is) at free) (omega (arith, c.look-frame.ensures.read)))

pub returns-in-None-clause-word : goal.returns-in-None-clause-word
returns-in-None-clause-word g c =
    let free = sym c.is_free.ensures ∙ c.if-not-is_free.false in
    rw (← c.self.view_is)
    (word-unplaced c.self.inside.nest.now c.self.inside.shadow.now.live c.args.page.0 c.args.offset
    (rw (← c.self.view_is) at free) (sym c.in-None.is ∙ c.look-frame.ensures.placed)
    c.requires.aligned c.requires.inside)

pub returns-in-None-clause-read : goal.returns-in-None-clause-read
returns-in-None-clause-read g c =
    let free = sym c.is_free.ensures ∙ c.if-not-is_free.false in
    rw (← c.self.view_is)
    (words-free c.self.inside.nest.now c.self.inside.shadow.now.live c.args.page.0 c.args.steps.now
    c.tick.new.self (rw (← c.self.view_is) at free) (omega (arith, c.look-frame.ensures.read)))
