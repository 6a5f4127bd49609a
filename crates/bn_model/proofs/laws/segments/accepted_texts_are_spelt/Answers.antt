use Rattle.bn_model.proofs.SegmentFacts.{accepted-is_segment}
use Rattle.bn_model.proofs.SegmentTexts.{accepted-spelling}
use Rattle.bn_model.proofs.laws.segments.accepted_texts_are_spelt.Goals as goal

pub returns : goal.returns
returns c text segment bytes long e =
    (accepted-is_segment text segment bytes long e, accepted-spelling text segment bytes long e)
