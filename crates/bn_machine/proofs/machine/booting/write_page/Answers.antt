use Rattle.std.proofs.Common.{◌≡◌, ◌<◌, ℕ, List, [], Some, get_or, set, ap, sym, ◌∙◌, arith}
use Rattle.bn_types.specs.Numbers.{page_at, with_number}
use Rattle.bn_types.specs.declared.width.Width.TheVariants.{B1}
use Rattle.bn_model.specs.Nesting.{contents, place}
use Rattle.bn_machine.proofs.Filling.{byte_filled}
use Rattle.bn_machine.proofs.machine.booting.write_page.Goals as goal

pub loop-offset-preserved : goal.loop-offset-preserved
loop-offset-preserved c =
    let start = contents c.args.nest.now in
    let page = c.args.page.0 in
    let offset = c.loop-offset.offset in
    let byte = c.from.result in
    let placed : place c.loop-offset.nest page ≡ Some c.args.frame =
    c.loop-offset.invariant.places page ∙ c.requires.placed in
    let same : byte ≡ get_or c.args.bytes.now offset 0 = c.from.ensures in
    let small : byte < 256 = omega (arith, c.type_inv.bytes offset) in
    record {
      held =
          c.store.ensures.written page placed
          ∙ ap (λ (pages : List (List ℕ)).
          set pages page (with_number B1 (get_or pages page []) offset byte))
          c.loop-offset.invariant.held
          ∙ byte_filled start page offset byte c.args.bytes.now (page_at start page)
          c.requires.inside (omega arith) (c.requires.size ∙ sym c.requires.whole) small same;
      places = λ other. c.store.ensures.places other ∙ c.loop-offset.invariant.places other;
      ram = c.store.ensures.ram ∙ c.loop-offset.invariant.ram;
      free = c.store.ensures.free ∙ c.loop-offset.invariant.free;
      frames = c.store.ensures.frames ∙ c.loop-offset.invariant.frames;
    }
