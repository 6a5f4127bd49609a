use Rattle.std.proofs.Common.{◌≡◌, ◌∙◌, sym, arith}
use Rattle.bn_model.specs.Nesting.{low_entry}
use Rattle.n_walk.proofs.Looking.{placed-outside, placed-here, leaf-fits, walked, found}
use Rattle.n_walk.proofs.nest.Nest.look.Goals as goal

pub returns-then-page-self-clause-placed : goal.returns-then-page-self-clause-placed
returns-then-page-self-clause-placed g c =
    rw (← c.self.view_is)
    (placed-outside c.self.inside.ram_pages c.self.inside.frames c.args.page.0 c.if-page-self.true)

pub overflow_cast-result : goal.overflow_cast-result
overflow_cast-result g c =
    let leaf : c.entry-leaf.result ≡ low_entry c.self.inside.frames c.args.page.0 =
    walked _ c.self.invariant c.args.page.0 _ _ _ (omega arith) c.entry-pointer.ensures.value
    c.entry-pointer-2.ensures.value c.entry-leaf.ensures.value in
    let small = leaf-fits _ c.self.invariant c.args.page.0 (omega arith) in
    omega arith

pub returns-else-leaf-eq0-clause-placed : goal.returns-else-leaf-eq0-clause-placed
returns-else-leaf-eq0-clause-placed g c =
    let leaf : c.entry-leaf.result ≡ low_entry c.self.inside.frames c.args.page.0 =
    walked _ c.self.invariant c.args.page.0 _ _ _ (omega arith) c.entry-pointer.ensures.value
    c.entry-pointer-2.ensures.value c.entry-leaf.ensures.value in
    rw (← c.self.view_is)
    (found _ _ leaf c.if-leaf-eq0.false ∙ sym (placed-here _ _ c.args.page.0 (omega arith)))
