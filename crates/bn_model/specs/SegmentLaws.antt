-- What holds of every segment that a text says, and that such segments and their texts are one to
-- one.
use Rattle.std.specs.Prelude.{◌≡◌, ℕ, ◌/◌, ◌%◌, ◌^◌, ◌<◌, ◌≤◌, true, List, length, slice_index_or}
use Rattle.std.specs.Prelude.{Ok}
use Rattle.std.specs.List.{All, Contains}
use Rattle.bn_types.specs.declared.digest.Digest.{Digest}
use Rattle.bn_types.specs.declared.seg_page.SegPage.{SegPage}
use Rattle.bn_types.specs.declared.segment.Segment.{Segment}
use Rattle.bn_types.specs.declared.sort.Sort.TheVariants.{Private}
use Rattle.bn_model.specs.Bits.{is_set}
use Rattle.bn_model.specs.Segments.{fits_sort, names_partners, segment_of, spelling_of_segment}

abbrev pub AreBytes : List ℕ → Type 0
AreBytes text = All (λ byte. byte < 256) text

-- a private page that may be fetched from, at this virtual page
pub record IsCode (at : ℕ) (page : SegPage) : Type 0 where
  pub vpn : page.vpn.0 ≡ at
  pub «private» : page.sort ≡ Private
  pub fetch : is_set page.rights.0 2 ≡ true

-- the address of an instruction on one of these pages
pub record IsEntry (pages : List SegPage) (entry : ℕ) : Type 0 where
  pub aligned : entry % 4 ≡ 0
  pub fits : entry < 2 ^ 64
  pub placed : (page : SegPage) × Contains pages page × IsCode (entry / 4096) page

-- a page of a segment with so many partners
pub record IsPage (partners : ℕ) (page : SegPage) : Type 0 where
  pub vpn : page.vpn.0 < 2 ^ 52
  pub rights : fits_sort page.sort page.rights.0 ≡ true
  pub mask : names_partners page.sort partners page.mask ≡ true
  pub fits : page.mask < 256

pub record IsDigest (digest : Digest) : Type 0 where
  pub size : length digest.0 ≡ 32
  pub bytes : AreBytes digest.0

-- virtual pages ascend strictly
abbrev pub VpnsAscend : List SegPage → Type 0
VpnsAscend pages =
    (i j : ℕ) (d : SegPage) → i < j → j < length pages → (slice_index_or pages i d).vpn.0 <
    (slice_index_or pages j d).vpn.0

pub record IsSegment (segment : Segment) : Type 0 where
  pub some_entries : 1 ≤ length segment.entries.items
  pub few_entries : length segment.entries.items ≤ 8
  pub entries : All (IsEntry segment.pages.items) segment.entries.items
  pub some_pages : 1 ≤ length segment.pages.items
  pub few_pages : length segment.pages.items ≤ 64
  pub pages : All (IsPage (length segment.partners.items)) segment.pages.items
  pub order : VpnsAscend segment.pages.items
  pub few_partners : length segment.partners.items ≤ 4
  pub partners : All IsDigest segment.partners.items

-- an accepted text of 1,232 bytes says such a segment, and is its spelling
abbrev pub AcceptedAreSpelt : Type 0
AcceptedAreSpelt =
    (text : List ℕ) (segment : Segment) → AreBytes text → length text ≡ 1232 → segment_of text ≡ Ok
    segment → IsSegment segment × (spelling_of_segment segment ≡ text)

-- the spelling of such a segment is accepted, and says it
abbrev pub SpeltAreAccepted : Type 0
SpeltAreAccepted =
    (segment : Segment) → IsSegment segment → segment_of (spelling_of_segment segment) ≡ Ok segment
