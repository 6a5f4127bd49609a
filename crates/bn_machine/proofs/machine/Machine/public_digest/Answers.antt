use Rattle.std.proofs.Common.{length, ap, ◌∙◌}
use Rattle.bn_model.proofs.VisiblePages.{length-visible}
use Rattle.bn_model.specs.Nesting.{contents}
use Rattle.bn_unit.specs.Memory.{Seen, memory_seen}
use Rattle.bn_machine.proofs.machine.Machine.public_digest.Goals as goal

pub digest_pages-requires : goal.digest_pages-requires
digest_pages-requires g c =
    length-visible (memory_seen c.view.result)
    ∙ ap (λ (b : Seen). length (contents b.nest)) c.view.ensures
    ∙ c.ram_pages.ensures.count
