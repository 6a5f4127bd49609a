use Rattle.std.proofs.Common.{◌<◌, None}
use Rattle.std.proofs.lemmas.List.Elements.{All-more}
use Rattle.bn_launch.specs.Readable.{IsWholePage}
use Rattle.bn_launch.proofs.WholePages.{whole_end}
use Rattle.bn_launch.proofs.tests.flat.read_all.Goals as goal

pub loop-page-preserved : goal.loop-page-preserved
loop-page-preserved c =
    All-more IsWholePage c.args.pages.now c.loop-page.page-index None c.loop-page-test.true
    c.loop-page.invariant c.read_page.ensures

pub returns : goal.returns
returns c =
    whole_end c.args.pages.now c.loop-page.page-index c.loop-page-test.false c.loop-page.invariant
