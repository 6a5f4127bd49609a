use Rattle.bn_front.proofs.ScriptFiles.{script_harts}
use Rattle.bn_front.proofs.scripts.parse.Goals as goal

pub returns-in-Ok-clause-harts : goal.returns-in-Ok-clause-harts
returns-in-Ok-clause-harts c =
    script_harts c.args.harts c.args.text.now c.in-Ok.script c.in-Ok.ensures
