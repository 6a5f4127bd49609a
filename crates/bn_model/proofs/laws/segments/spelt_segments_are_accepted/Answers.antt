use Rattle.bn_model.proofs.SegmentSpellings.{spelling-accepted}
use Rattle.bn_model.proofs.laws.segments.spelt_segments_are_accepted.Goals as goal

pub returns : goal.returns
returns c = spelling-accepted
