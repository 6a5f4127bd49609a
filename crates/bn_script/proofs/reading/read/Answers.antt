use Rattle.bn_model.proofs.ScriptLemmas.{read-orderly}
use Rattle.bn_script.proofs.reading.read.Goals as goal

pub of-requires-clause-orderly : goal.of-requires-clause-orderly
of-requires-clause-orderly c =
    read-orderly c.args.harts c.args.text.now c.in_ok-commands.commands.items c.requires.some
    c.requires.few c.in_ok-commands.ensures.read
