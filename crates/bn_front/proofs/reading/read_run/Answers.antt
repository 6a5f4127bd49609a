use Rattle.std.proofs.Common.{◌∙◌, Some, ap, sym}
use Rattle.bn_model.specs.CommandLines as flat
use Rattle.bn_model.specs.CommandLines.{RunOrder}
use Rattle.bn_front.specs.Meant.{bytes_of_texts}
use Rattle.bn_front.proofs.MatchedOrders.{run_found}
use Rattle.bn_front.proofs.reading.read_run.Goals as goal

pub returns-in-Ok-clause-read : goal.returns-in-Ok-clause-read
returns-in-Ok-clause-read c =
    run_found (bytes_of_texts c.args.words.now) c.in_ok-matches.matches c.in_ok-matches.ensures
    ∙ sym c.in-Some.ensures.exact
    ∙ ap (λ (run : RunOrder). Some (flat.Run run)) (sym c.in-Ok.ensures)

pub returns-clause-read : goal.returns-clause-read
returns-clause-read c =
    run_found (bytes_of_texts c.args.words.now) c.in_ok-matches.matches c.in_ok-matches.ensures
    ∙ sym c.in-None.ensures.exact
