use Rattle.std.proofs.Common.{◌≡◌, take}
use Rattle.bn_shadow.proofs.counts.copy_of.Given as goal

abbrev pub invariant-loop-decl : goal.invariant-loop-decl
invariant-loop-decl l = l.copy.items ≡ take l.decl-index l.decls
