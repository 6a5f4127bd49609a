use Rattle.std.proofs.Common.{◌≡◌, ℕ, Some}
use Rattle.bn_types.specs.Numbers.{page_at}
use Rattle.bn_model.proofs.MixedLists.{mixed}
use Rattle.bn_model.specs.Nesting.{contents, place}
use Rattle.bn_unit.proofs.view.read_frame.Given as goal

-- the bytes so far are the page's
abbrev pub invariant-loop-offset : goal.invariant-loop-offset
invariant-loop-offset l =
    (page : ℕ) → place l.nest page ≡ Some l.frame
    → l.bytes ≡ mixed l.offset (page_at (contents l.nest) page) l.initial.bytes
