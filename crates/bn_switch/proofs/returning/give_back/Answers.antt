use Rattle.std.proofs.Common.{◌∙◌}
use Rattle.bn_switch.proofs.HandoverLemmas.{answered-after_return, saved-after_return}
use Rattle.bn_switch.proofs.returning.give_back.Goals as goal

pub come_back-seat-requires : goal.come_back-seat-requires
come_back-seat-requires c =
    rw c.leave-left.ensures.table
    (answered-after_return _ _ _ c.facts.ensures c.requires c.leave-left.ensures.caller
    c.if-left-eq0.false)

pub returns-else-left-eq0-clause-frame : goal.returns-else-left-eq0-clause-frame
returns-else-left-eq0-clause-frame c =
    c.come_back-seat.ensures.frame
    ∙ rw c.leave-left.ensures.table
    (saved-after_return _ _ _ c.leave-left.ensures.caller c.if-left-eq0.false)
