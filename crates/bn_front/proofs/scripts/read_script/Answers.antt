use Rattle.std.proofs.Common.{refl}
use Rattle.bn_front.specs.Meant.{own_meant}
use Rattle.bn_front.proofs.Readings.{turns_found}
use Rattle.bn_front.proofs.scripts.read_script.Goals as goal

pub returns-in-None-clause-finds : goal.returns-in-None-clause-finds
returns-in-None-clause-finds g c =
    turns_found (own_meant c.args.order.now) c.args.image.now _ _ c.parse.result
    (rw c.in-None.is refl) refl c.parse.ensures.gives
