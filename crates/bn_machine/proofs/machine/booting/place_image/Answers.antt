use Rattle.std.proofs.Common.{◌≡◌, ℕ, ◌<◌, length, ap, ◌∙◌, arith}
use Rattle.std.proofs.lemmas.List.{length-replicate}
use Rattle.bn_types.specs.Numbers.{zero_page}
use Rattle.bn_model.specs.Nesting.{contents}
use Rattle.bn_model.specs.Opening.{pages_of}
use Rattle.bn_machine.proofs.Filling.{all_filled, filled_more, page_inside, page_zeros}
use Rattle.bn_machine.proofs.Filling.{range_is_page}
use Rattle.bn_machine.proofs.machine.booting.place_image.Goals as goal

pub fill_page-requires-clause-inside : goal.fill_page-requires-clause-inside
fill_page-requires-clause-inside c =
    let size : length (contents c.build-nest.result) ≡ c.args.ram_pages =
    ap length c.build-nest.ensures.contents ∙ length-replicate c.args.ram_pages zero_page in
    let below : c.loop-number.number < length (contents c.build-nest.result) = omega arith in
    rw (c.place_page-frame.ensures.contents ∙ c.loop-number.invariant.held)
    (page_inside (contents c.build-nest.result) c.loop-number.number c.args.bytes.now below)

pub fill_page-requires-clause-zeros : goal.fill_page-requires-clause-zeros
fill_page-requires-clause-zeros c =
    let size : length (contents c.build-nest.result) ≡ c.args.ram_pages =
    ap length c.build-nest.ensures.contents ∙ length-replicate c.args.ram_pages zero_page in
    let below : c.loop-number.number < length (contents c.build-nest.result) = omega arith in
    rw (c.place_page-frame.ensures.contents ∙ c.loop-number.invariant.held)
    (page_zeros (contents c.build-nest.result) c.args.ram_pages c.loop-number.number
    c.args.bytes.now c.build-nest.ensures.contents below)

pub loop-number-preserved : goal.loop-number-preserved
loop-number-preserved c =
    let size : length (contents c.build-nest.result) ≡ c.args.ram_pages =
    ap length c.build-nest.ensures.contents ∙ length-replicate c.args.ram_pages zero_page in
    let below : c.loop-number.number < length (contents c.build-nest.result) = omega arith in
    let placing = c.place_page-frame.ensures in
    let filling = c.fill_page.ensures in
    filled_more c.build-nest.result c.loop-number.nest c.place_page-frame.new.nest
    c.fill_page.new.nest c.loop-number.number
    c.place_page-frame.result _ c.args.bytes.now below
    (range_is_page c.args.bytes.now c.loop-number.number) c.loop-number.invariant
    (record {
      here = placing.placed;
      others = placing.others;
      held = placing.contents;
      ram = placing.ram;
      frames = placing.frames;
      spare = placing.count;
    })
    (record {
      held = filling.contents;
      places = filling.places;
      ram = filling.ram;
      free = filling.free;
      frames = filling.frames;
    })

pub returns-clause-contents : goal.returns-clause-contents
returns-clause-contents c =
    let size : length (contents c.build-nest.result) ≡ c.args.ram_pages =
    ap length c.build-nest.ensures.contents ∙ length-replicate c.args.ram_pages zero_page in
    c.loop-number.invariant.held
    ∙ all_filled (contents c.build-nest.result) c.loop-number.number c.args.bytes.now (omega arith)
    ∙ ap (λ (n : ℕ). pages_of n c.args.bytes.now) size
