use Rattle.bn_gen.proofs.TallyLemmas.{first_counted}
use Rattle.bn_gen.proofs.tally.count_first.Goals as goal

pub returns-clause-counted : goal.returns-clause-counted
returns-clause-counted c =
    first_counted c.args.text.now c.split_first.result.0.now c.split_first.result.1.now
    c.split_first-2.result.0.now c.split_first-2.result.1.now c.after_mark.result.now
    c.args.counts.now c.count_word.new.counts c.split_first.ensures.pieces
    c.split_first.ensures.whole c.split_first-2.ensures.pieces c.count_word.ensures
    c.after_mark.ensures
