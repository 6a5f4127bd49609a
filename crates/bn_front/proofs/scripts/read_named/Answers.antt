use Rattle.std.proofs.Common.{sym, ◌∙◌, refl}
use Rattle.std.proofs.lemmas.Slice.Eq.{bytes_eq-Decides}
use Rattle.bn_front.specs.Meant.{own_meant}
use Rattle.bn_front.proofs.Readings.{differ, other_found, same_found}
use Rattle.bn_front.proofs.scripts.read_named.Goals as goal

pub returns-then-eq-clause-finds : goal.returns-then-eq-clause-finds
returns-then-eq-clause-finds g c =
    same_found (own_meant c.args.order.now) c.args.image.now _ _ c.args.name.now
    c.requires.named c.parse.result
    ((bytes_eq-Decides c.args.name.now c.as_str.result.now).0
    (sym c.eq.ensures ∙ c.if-eq.true) ∙ c.as_str.ensures.value)
    refl c.requires.front c.parse.ensures.gives

pub returns-in-Ok-clause-finds : goal.returns-in-Ok-clause-finds
returns-in-Ok-clause-finds g c =
    other_found (own_meant c.args.order.now) c.args.image.now _ _ c.args.name.now
    c.requires.named c.parse-in-Ok.result c.in-Ok.text
    (differ c.args.name.now c.as_str.result.now _ c.as_str.ensures.value
    (sym c.eq.ensures ∙ c.if-eq.false))
    c.in-Ok.ensures.agrees c.in-Ok.ensures.missed c.in-Ok.ensures.failed
    (rw c.deref.ensures.value at (c.parse-in-Ok.ensures.gives))
