use Rattle.std.proofs.Common.{◌≡◌, drop}
use Rattle.bn_unit.specs.Dropping.{cache_without}
use Rattle.bn_unit.proofs.unit.drop_pages.Given as goal

-- what the pages that are left make of it is what all make of it
abbrev pub invariant-loop-decl : goal.invariant-loop-decl
invariant-loop-decl l =
    cache_without (drop l.decl-index l.decls) l.tlb ≡ cache_without l.decls l.initial.tlb
