use Rattle.std.proofs.Common.{ℕ, ◌%◌, ◌^◌, List, Option, refl, arith}
use Rattle.bn_model.proofs.WalkFacts.{on-few, on-free, on-ppn}
use Rattle.bn_model.specs.Walking.{Walk, entry_at, walk_from}
use Rattle.g_walk.proofs.Told.{told-free, told-ppn, told-steps}
use Rattle.g_walk.proofs.structure.leaf.Goals as goal

pub returns-clause-few_steps : goal.returns-clause-few_steps
returns-clause-few_steps g c =
    let pages : List (Option (List ℕ)) = g.P.Pages.visible c.args.pages.now in
    omega (
      arith,
      on-few pages c.args.va 2 (entry_at pages c.args.va 2 (c.args.satp % 2 ^ 44)),
      c.walk_tables.ensures.steps,
    )

pub returns-clause-leaf_steps : goal.returns-clause-leaf_steps
returns-clause-leaf_steps g c =
    let pages : List (Option (List ℕ)) = g.P.Pages.visible c.args.pages.now in
    let walk : Walk = walk_from pages c.args.va 2 (c.args.satp % 2 ^ 44) in
    told-steps c.walk_tables.result walk.tables walk.found c.args.steps.now c.walk_tables.new.steps
    c.walk_tables.ensures.leaf c.walk_tables.ensures.steps

pub returns-clause-free : goal.returns-clause-free
returns-clause-free g c =
    let pages : List (Option (List ℕ)) = g.P.Pages.visible c.args.pages.now in
    let root : ℕ = c.args.satp % 2 ^ 44 in
    let walk : Walk = walk_from pages c.args.va 2 root in
    told-free pages c.walk_tables.result walk.tables walk.found c.walk_tables.ensures.leaf
    (on-free pages c.args.va 2 root (entry_at pages c.args.va 2 root) refl)

pub returns-clause-ppn : goal.returns-clause-ppn
returns-clause-ppn g c =
    let pages : List (Option (List ℕ)) = g.P.Pages.visible c.args.pages.now in
    let root : ℕ = c.args.satp % 2 ^ 44 in
    let walk : Walk = walk_from pages c.args.va 2 root in
    told-ppn c.walk_tables.result walk.tables walk.found c.walk_tables.ensures.leaf
    (on-ppn pages c.args.va 2 root (entry_at pages c.args.va 2 root) refl (omega arith))
