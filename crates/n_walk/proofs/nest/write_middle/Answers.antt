use Rattle.std.proofs.Common.{arith}
use Rattle.n_walk.proofs.Writing.{middle-none, middle-more}
use Rattle.n_walk.proofs.nest.write_middle.Goals as goal

pub loop-index-init : goal.loop-index-init
loop-index-init c = middle-none c.args.frames.now c.requires.whole

pub loop-index-preserved : goal.loop-index-preserved
loop-index-preserved c = middle-more _ _ _ c.loop-index.index (omega arith) c.loop-index.invariant
    (rw c.pointer.ensures at c.write_entry.ensures)
