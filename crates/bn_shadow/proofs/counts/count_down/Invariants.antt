use Rattle.std.proofs.Common.{◌≡◌, ℕ, ◌+◌, take}
use Rattle.std.specs.Prelude.{count_by, slice_index}
use Rattle.bn_model.specs.Launching.{is_same_page}
use Rattle.bn_shadow.proofs.counts.count_down.Given as goal

abbrev pub invariant-loop-decl : goal.invariant-loop-decl
invariant-loop-decl l =
    (page : ℕ) → slice_index l.counts page
    + count_by (is_same_page page) (take l.decl-index l.decls) ≡ slice_index l.initial.counts page
