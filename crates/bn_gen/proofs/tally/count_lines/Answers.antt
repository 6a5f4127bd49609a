use Rattle.std.proofs.Common.{◌≡◌, ◌<◌, length, rules}
use Rattle.bn_gen.proofs.TallyLemmas.{all_done, one_done}
use Rattle.bn_gen.proofs.tally.count_lines.Goals as goal

pub lines-preserved : goal.lines-preserved
lines-preserved c =
    let some : 0 < length c.lines.rest.now = search rules in
    record {
      long = search rules;
      reached = λ told lines few was is.
          one_done told lines c.lines.counts c.count_first-rest.new.counts c.lines.rest.now
          c.count_first-rest.result.now few some c.count_first-rest.ensures.counted
          (c.lines.invariant.reached told lines few was is);
    }

pub returns : goal.returns
returns c = λ told lines few was is.
    let none : length c.lines.rest.now ≡ 0 = search rules in
    all_done told lines c.lines.counts c.lines.rest.now none
    (c.lines.invariant.reached told lines few was is)
