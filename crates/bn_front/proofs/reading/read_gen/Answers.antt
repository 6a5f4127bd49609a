use Rattle.std.proofs.Common.{◌∙◌, sym}
use Rattle.bn_front.specs.Meant.{bytes_of_texts}
use Rattle.bn_front.proofs.MatchedOrders.{gen_found}
use Rattle.bn_front.proofs.reading.read_gen.Goals as goal

pub returns-in-Some-clause-read : goal.returns-in-Some-clause-read
returns-in-Some-clause-read c =
    gen_found (bytes_of_texts c.args.words.now) c.in_ok-matches.matches c.in_ok-matches.ensures
    ∙ sym c.in-Some.ensures

pub returns-clause-read : goal.returns-clause-read
returns-clause-read c =
    gen_found (bytes_of_texts c.args.words.now) c.in_ok-matches.matches c.in_ok-matches.ensures
    ∙ sym c.in-None.ensures
