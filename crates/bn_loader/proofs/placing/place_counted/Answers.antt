use Rattle.std.proofs.Common.{sym, ◌∙◌, ap, length, subst}
use Rattle.bn_model.specs.Images as flat
use Rattle.bn_loader.specs.Segments.{Fits}
use Rattle.bn_loader.proofs.SegmentLemmas.{fits_counted}
use Rattle.bn_loader.proofs.placing.place_counted.Goals as goal

pub place_segment-requires-clause-fits : goal.place_segment-requires-clause-fits
place_segment-requires-clause-fits c =
    let counted = ap flat.counts (sym c.header_at-header.ensures) ∙ sym c.counts.ensures
    ∙ c.if-counts.true in
    subst (Fits (length c.args.file.now) (length c.args.ram.now)) (sym c.header_at-header.ensures)
    (fits_counted (length c.args.ram.now) c.args.file.now c.args.place c.requires.checked counted)
