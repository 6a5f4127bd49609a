use Rattle.std.proofs.Common.{◌<◌, length, subst, sym, arith}
use Rattle.sha2.specs.Hashers.{Holds256}
use Rattle.bn_model.specs.Memory.{visible}
use Rattle.bn_unit.specs.Memory.{memory_seen}
use Rattle.bn_machine.proofs.PublicPages.{flat_map-take, words-take}
use Rattle.bn_machine.proofs.machine.digesting.digest_pages.Goals as goal

pub loop-page-preserved : goal.loop-page-preserved
loop-page-preserved g c =
    let seen = visible (memory_seen c.args.pages.now) in
    let below : c.loop-page.page < length seen = omega arith in (
      subst (Holds256 c.add_page.new.hasher) (sym (flat_map-take seen c.loop-page.page below))
          (c.add_page.ensures.added _ c.loop-page.invariant.0),
      words-take seen c.loop-page.page _ _ _ below c.loop-page.invariant.1 c.add_page.ensures.read,
    )
