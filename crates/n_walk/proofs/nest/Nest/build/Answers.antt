use Rattle.std.proofs.Common.{◌≡◌, ◌+◌, ◌-◌, ℕ, length, ap, ◌∙◌, arith}
use Rattle.bn_model.specs.Nesting.{table_frames}
use Rattle.n_walk.specs.Building.{numbered}
use Rattle.n_walk.proofs.Starting.{IsBuilt, built, holds-built, unplaced-built, contents-built}
use Rattle.n_walk.proofs.Starting.{whole-if-zeros}
use Rattle.n_walk.proofs.nest.Nest.build.Goals as goal

pub write_entry-requires-clause-whole : goal.write_entry-requires-clause-whole
write_entry-requires-clause-whole c = whole-if-zeros c.args.frames c.requires.zeros

is_built : (c : goal.After-frames_from-free) → IsBuilt c.write_middle.new.frames c.args.ram_pages
is_built c =
    built c.args.frames c.write_entry.new.frames c.write_middle.new.frames
    c.div_ceil-low_tables.result c.args.ram_pages
    (omega arith) (omega arith) (omega arith) (omega arith) c.requires.zeros (omega arith)
    (rw c.pointer.ensures at c.write_entry.ensures) c.write_middle.ensures

pub invariant_of-result : goal.invariant_of-result
invariant_of-result c =
    let first : 5 + c.div_ceil-low_tables.result ≡ table_frames c.args.ram_pages = omega arith in
    let size : c.count.result - (5 + c.div_ceil-low_tables.result) ≡
    length c.write_middle.new.frames - table_frames c.args.ram_pages =
    omega arith in
    let free =
    c.frames_from-free.ensures.items
    ∙ ap (λ (n : ℕ). numbered n (c.count.result - (5 + c.div_ceil-low_tables.result))) first
    ∙ ap (numbered (table_frames c.args.ram_pages)) size in
    rw free (holds-built c.write_middle.new.frames c.args.ram_pages (is_built c))

pub returns-clause-unplaced : goal.returns-clause-unplaced
returns-clause-unplaced c = λ page.
    unplaced-built c.write_middle.new.frames c.args.ram_pages page (is_built c)

pub returns-clause-contents : goal.returns-clause-contents
returns-clause-contents c = contents-built c.write_middle.new.frames c.args.ram_pages (is_built c)
