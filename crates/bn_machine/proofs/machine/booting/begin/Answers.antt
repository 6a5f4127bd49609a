use Rattle.std.proofs.Common.{◌<◌, length, sym, subst, arith}
use Rattle.std.proofs.lemmas.Grind.{get_or_default_zero}
use Rattle.bn_model.specs.Soundness.{IsSound}
use Rattle.bn_model.proofs.SoundOpening.{opening-sound}
use Rattle.bn_machine.proofs.machine.booting.begin.Goals as goal

pub invariant_of-result : goal.invariant_of-result
invariant_of-result c =
    subst IsSound (sym c.requires.opens)
    (opening-sound c.args.settings.ram_pages c.args.settings.harts
    (record { bytes = c.args.bytes.now; entry = c.args.entry }) _
    (record {
      some_harts = omega (arith, c.requires.harts);
      few_harts = omega (arith, c.requires.harts);
      some_pages = omega (arith, c.requires.pages);
      few_pages = omega (arith, c.requires.pages);
      size = c.requires.whole;
      bytes = λ k d (below : k < length c.args.bytes.now).
          rw (get_or_default_zero c.args.bytes.now k d below) (omega (arith, c.type_inv.bytes k));
      entry = record { aligned = c.requires.entry; small = c.ranges.entry.fits };
      good_order = c.requires.records;
    }))
