-- What an accepted text is known to be.
use Rattle.std.proofs.Common.{◌≡◌, ℕ, ◌<◌, List, length, get_or, refl, sym, ◌∙◌}
use Rattle.std.specs.Prelude.{Result, Ok, Err, IfOk}
use Rattle.std.proofs.lemmas.List.Elements.{All-from_get_or}
use Rattle.bn_types.specs.declared.seg_fault.SegFault.{SegFault}
use Rattle.bn_types.specs.declared.segment.Segment.{Segment}
use Rattle.bn_model.specs.SegmentLaws.{AreBytes, IsSegment}
use Rattle.bn_model.specs.Segments.{segment_of, spelling_of_segment}
use Rattle.bn_model.proofs.SegmentFacts.{accepted-is_segment}
use Rattle.bn_model.proofs.SegmentTexts.{accepted-spelling}

if_ok : (P : Segment → Type 0) (r : Result Segment SegFault) → ((s : Segment) → r ≡ Ok s → P s)
    → IfOk r P
if_ok P (Ok s) h = h s refl
if_ok P (Err e) h = tt

are_bytes : (text : List ℕ) → ((i : ℕ) → get_or text i 0 < 256) → AreBytes text
are_bytes text h = All-from_get_or (λ byte. byte < 256) text 0 (λ i lt. h i)

pub read-spelling : (text : List ℕ) (r : Result Segment SegFault)
    → ((i : ℕ) → get_or text i 0 < 256) → length text ≡ 1232 → r ≡ segment_of text
    → IfOk r (λ segment. spelling_of_segment segment ≡ text)
read-spelling text r bytes long e =
    if_ok (λ segment. spelling_of_segment segment ≡ text) r
    (λ s ok. accepted-spelling text s (are_bytes text bytes) long (sym e ∙ ok))

pub read-sound : (text : List ℕ) (r : Result Segment SegFault) → ((i : ℕ) → get_or text i 0 < 256)
    → length text ≡ 1232 → r ≡ segment_of text → IfOk r IsSegment
read-sound text r bytes long e =
    if_ok IsSegment r (λ s ok. accepted-is_segment text s (are_bytes text bytes) long (sym e ∙ ok))
