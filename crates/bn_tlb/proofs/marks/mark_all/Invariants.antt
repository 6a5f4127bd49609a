use Rattle.std.proofs.Common.{◌≡◌, ℕ, take, true}
use Rattle.bn_tlb.specs.Marking.{AreMarked, is_marked}
use Rattle.bn_tlb.proofs.marks.mark_all.Given as goal

-- the pages so far are marked, and no mark is gone
abbrev pub invariant-loop-page : goal.invariant-loop-page
invariant-loop-page l =
    AreMarked l.marks.items (take l.page-index l.pages)
    × ((page : ℕ) → is_marked l.initial.marks.items page ≡ true
    → is_marked l.marks.items page ≡ true)
