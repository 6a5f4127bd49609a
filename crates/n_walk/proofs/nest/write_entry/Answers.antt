use Rattle.std.proofs.Common.{List, ℕ, subst, sym, arith}
use Rattle.n_walk.specs.Building.{IsWritten}
use Rattle.n_walk.proofs.Writing.{written}
use Rattle.n_walk.proofs.nest.write_entry.Goals as goal

pub returns : goal.returns
returns c =
    subst (λ (new : List (List ℕ)).
    IsWritten c.args.frames.now new c.args.table.0 c.args.index c.args.entry) (sym c.put.ensures)
    (written c.args.frames.now c.args.table.0 c.args.index c.args.entry c.requires.whole
    c.requires.table c.requires.index (omega arith))
