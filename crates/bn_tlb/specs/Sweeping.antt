-- Which translations leave, as the code names it.
use Rattle.std.specs.Prelude.{Bool}
use Rattle.bn_tlb.specs.Caching.{is_of, is_walked, touches}
use Rattle.bn_tlb.specs.declared.leaving.Leaving.{Leaving}
use Rattle.bn_tlb.specs.declared.leaving.Leaving.TheVariants as leaving
use Rattle.bn_tlb.specs.declared.slot.Slot.{Slot}

abbrev pub leaves : Leaving → Slot → Bool
leaves (leaving.Walked page) = is_walked page.0
leaves (leaving.Reaching page) = touches page.0
leaves (leaving.Module id) = is_of id.0
