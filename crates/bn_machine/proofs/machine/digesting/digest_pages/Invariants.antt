use Rattle.std.proofs.Common.{◌≡◌, ◌+◌, ◌*◌, take}
use Rattle.std.specs.Prelude.{count_by, flat_map, is_some}
use Rattle.sha2.specs.Hashers.{Holds256}
use Rattle.bn_model.specs.Memory.{visible}
use Rattle.bn_model.specs.Reporting.{bytes_if_free}
use Rattle.bn_unit.specs.Memory.{memory_seen}
use Rattle.bn_machine.proofs.machine.digesting.digest_pages.Given as goal

-- the hasher holds the pages so far that no module owns
abbrev pub invariant-loop-page : goal.invariant-loop-page
invariant-loop-page g l =
    let seen = take l.page (visible (memory_seen l.pages)) in
    Holds256 l.hasher (flat_map bytes_if_free seen) ×
    (l.steps ≡ l.initial.steps + 3 * count_by is_some seen)
