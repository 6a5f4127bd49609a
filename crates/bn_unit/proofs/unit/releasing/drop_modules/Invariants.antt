use Rattle.std.proofs.Common.{◌≡◌, drop}
use Rattle.bn_unit.specs.Dropping.{cache_of_others}
use Rattle.bn_unit.proofs.unit.releasing.drop_modules.Given as goal

-- what the rows that are left make of it is what all make of it
abbrev pub invariant-loop-row : goal.invariant-loop-row
invariant-loop-row l =
    cache_of_others (drop l.row-index l.gone) l.tlb ≡ cache_of_others l.gone l.initial.tlb
