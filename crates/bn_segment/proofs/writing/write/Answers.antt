use Rattle.std.proofs.Common.{◌∙◌, ap}
use Rattle.bn_model.proofs.SegmentSpellings.{spelling-accepted}
use Rattle.bn_model.specs.Segments.{segment_of}
use Rattle.bn_segment.proofs.writing.write.Goals as goal

pub returns-clause-back : goal.returns-clause-back
returns-clause-back c sound =
    ap segment_of c.write_slice.ensures ∙ spelling-accepted c.args.segment.now sound
