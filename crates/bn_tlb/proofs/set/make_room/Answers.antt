use Rattle.std.proofs.Common.{◌∙◌, ap, rules}
use Rattle.std.specs.Prelude.{reverse}
use Rattle.bn_tlb.proofs.Newest.{room-left}
use Rattle.bn_tlb.proofs.set.make_room.Goals as goal

pub returns-clause-slots : goal.returns-clause-slots
returns-clause-slots c =
    ap reverse c.truncate.ensures.items
    ∙ room-left c.args.slots.now.items (search rules)
