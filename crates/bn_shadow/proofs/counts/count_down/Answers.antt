use Rattle.std.proofs.Common.{refl}
use Rattle.bn_shadow.proofs.DropLemmas.{counted-inside, still-counted}
use Rattle.bn_shadow.proofs.counts.count_down.Goals as goal

pub bounds-counts-decl : goal.bounds-counts-decl
bounds-counts-decl c =
    counted-inside c.loop-decl.counts _
    (still-counted c.args.decls.now c.loop-decl.counts c.args.counts.now c.loop-decl.decl-index _ _
    c.loop-decl-test.true refl (c.loop-decl.invariant _) (c.requires _))

pub overflow_sub-counts : goal.overflow_sub-counts
overflow_sub-counts c =
    still-counted c.args.decls.now c.loop-decl.counts c.args.counts.now c.loop-decl.decl-index _ _
    c.loop-decl-test.true refl (c.loop-decl.invariant _) (c.requires _)
