-- What a judgement takes from the table and from an accepted segment.
use Rattle.std.proofs.Common.{◌≡◌, ◌^◌, ◌<◌, List, length}
use Rattle.std.proofs.lemmas.List.{length-map}
use Rattle.std.proofs.lemmas.List.Elements.{All-weaker}
use Rattle.bn_types.specs.declared.row.Row.{Row}
use Rattle.bn_types.specs.declared.segment.Segment.{Segment}
use Rattle.bn_model.specs.Rows.{enclave_of, enclaves}
use Rattle.bn_model.specs.SegmentLaws.{IsPage, IsSegment}
use Rattle.bn_launch.specs.Readable.{HaveVpns}

pub length_enclaves : (rows : List Row) → length (enclaves rows) ≡ length rows
unfolding enclaves
length_enclaves rows = length-map rows enclave_of

pub vpns_of : (segment : Segment) → IsSegment segment → HaveVpns segment.pages.items
vpns_of segment h =
    All-weaker (IsPage (length segment.partners.items)) (λ page. page.vpn.0 < 2 ^ 52)
    (λ page known. known.vpn) segment.pages.items h.pages
