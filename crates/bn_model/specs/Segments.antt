-- The segment text, 1,232 bytes from which a module is launched (this project's own format).
-- Numbers are little endian.
--
--     0      4      the bytes BNSG
--     4      1      the version, 1
--     5      1      the mode, 0 is U and 1 is S
--     6      3      how many entries, pages and partners
--     9      7      zeros
--     16     64     8 entries: an address (8)
--     80     1,024  64 pages: virtual page (8), sort (1), rights (1), mask (1), zeros (5)
--     1,104  128    4 partners: a digest (32)
use Rattle.std.specs.Prelude.{ℕ, ◌+◌, ◌-◌, ◌*◌, ◌/◌, ◌%◌, ◌^◌, ◌==◌, Bool, true, false, not, ◌&&◌}
use Rattle.std.specs.Prelude.{◌||◌, nat_eq, nat_lt, nat_le, List, ◌∷◌, ◌++◌, codes, length, map}
use Rattle.std.specs.Prelude.{flat_map, replicate, slice_index, slice_range, Option, Some, None}
use Rattle.std.specs.Prelude.{Result, Ok, Err}
use Rattle.std.specs.Int.{to_le_bytes, w64}
use Rattle.std.specs.List.{list_all, list_any, range_with_len, starts_with}
use Rattle.bn_types.specs.Numbers.{number_at}
use Rattle.bn_types.specs.declared.digest.Digest.{Digest}
use Rattle.bn_types.specs.declared.mode.Mode.{Mode}
use Rattle.bn_types.specs.declared.mode.Mode.TheVariants.{U, S}
use Rattle.bn_types.specs.declared.seg_fault.SegFault.{SegFault}
use Rattle.bn_types.specs.declared.seg_fault.SegFault.TheVariants as fault
use Rattle.bn_types.specs.declared.seg_page.SegPage.{SegPage}
use Rattle.bn_types.specs.declared.segment.Segment.{Segment}
use Rattle.bn_types.specs.declared.sort.Sort.{Sort}
use Rattle.bn_types.specs.declared.sort.Sort.TheVariants.{Private, Offer, Accept}
use Rattle.bn_types.specs.declared.width.Width.TheVariants.{B8}
use Rattle.bn_model.specs.Bits.{is_set}

-- ---- what stands where

abbrev pub entry_count : List ℕ → ℕ
entry_count text = slice_index text 6

abbrev pub page_count : List ℕ → ℕ
page_count text = slice_index text 7

abbrev pub partner_count : List ℕ → ℕ
partner_count text = slice_index text 8

-- entry i
abbrev pub entry_in : List ℕ → ℕ → ℕ
entry_in text i = number_at B8 text (16 + 8 * i)

-- page i's virtual page, sort, rights and mask
abbrev pub vpn_in : List ℕ → ℕ → ℕ
vpn_in text i = number_at B8 text (80 + 16 * i)

abbrev pub sort_in : List ℕ → ℕ → ℕ
sort_in text i = slice_index text (80 + 16 * i + 8)

abbrev pub rights_in : List ℕ → ℕ → ℕ
rights_in text i = slice_index text (80 + 16 * i + 9)

abbrev pub mask_in : List ℕ → ℕ → ℕ
mask_in text i = slice_index text (80 + 16 * i + 10)

-- partner i
abbrev pub partner_in : List ℕ → ℕ → Digest
partner_in text i = record { 0 = slice_range text (1104 + 32 * i) (1104 + 32 * i + 32) }

-- ---- the tests, each over the whole text

abbrev pub is_from_to : (least most n : ℕ) → Bool
is_from_to least most n = nat_le least n && nat_le n most

abbrev pub on_pages : (ℕ → Bool) → List ℕ → Bool
on_pages test text = list_all test (range_with_len 0 (page_count text))

unfoldable pub has_magic : List ℕ → Bool
has_magic text = starts_with nat_eq text (codes "BNSG")

unfoldable pub has_version : List ℕ → Bool
has_version text = slice_index text 4 == 1

unfoldable pub has_mode : List ℕ → Bool
has_mode text = nat_le (slice_index text 5) 1

unfoldable pub has_entries : List ℕ → Bool
has_entries text = is_from_to 1 8 (entry_count text)

unfoldable pub has_pages : List ℕ → Bool
has_pages text = is_from_to 1 64 (page_count text)

-- page i's virtual page fits, and is greater than the one before it
unfoldable pub ascends : List ℕ → ℕ → Bool
ascends text i = nat_lt (vpn_in text i) (2 ^ 52) &&
    (i == 0 || nat_lt (vpn_in text (i - 1)) (vpn_in text i))

unfoldable pub in_order : List ℕ → Bool
in_order text = on_pages (ascends text) text

unfoldable pub has_sort : List ℕ → ℕ → Bool
has_sort text i = is_from_to 1 3 (sort_in text i)

unfoldable pub have_sorts : List ℕ → Bool
have_sorts text = on_pages (has_sort text) text

abbrev pub sort_if : (is_private is_offer : Bool) → Sort
sort_if true is_offer = Private
sort_if false true = Offer
sort_if false false = Accept

abbrev pub sort_of : ℕ → Sort
sort_of number = sort_if (number == 1) (number == 2)

-- bit 0 of the rights is load, bit 1 store, bit 2 fetch; no page is stored to that isn't loaded
-- from, and only a private one is fetched from
abbrev pub fits_sort : Sort → ℕ → Bool
fits_sort Private rights = rights == 1 || rights == 3 || rights == 4 || rights == 5 || rights == 7
fits_sort Offer rights = rights == 1 || rights == 3
fits_sort Accept rights = rights == 1 || rights == 3

unfoldable pub has_rights : List ℕ → ℕ → Bool
has_rights text i = fits_sort (sort_of (sort_in text i)) (rights_in text i)

unfoldable pub have_rights : List ℕ → Bool
have_rights text = on_pages (has_rights text) text

-- page i is private, may be fetched from, and is this virtual page
unfoldable pub holds_code : List ℕ → (vpn i : ℕ) → Bool
holds_code text vpn i = vpn_in text i == vpn && sort_in text i == 1 && is_set (rights_in text i) 2

unfoldable pub is_executed : List ℕ → ℕ → Bool
is_executed text vpn = list_any (holds_code text vpn) (range_with_len 0 (page_count text))

unfoldable pub is_placed : List ℕ → ℕ → Bool
is_placed text i = entry_in text i % 4 == 0 && is_executed text (entry_in text i / 4096)

unfoldable pub are_placed : List ℕ → Bool
are_placed text = list_all (is_placed text) (range_with_len 0 (entry_count text))

-- an offer's mask names one of so many partners or more, and no others; another page's is 0
abbrev pub names_partners : Sort → (partners mask : ℕ) → Bool
names_partners Private partners mask = mask == 0
names_partners Offer partners mask = not (mask == 0) && nat_lt mask (2 ^ partners)
names_partners Accept partners mask = mask == 0

unfoldable pub has_mask : List ℕ → ℕ → Bool
has_mask text i = names_partners (sort_of (sort_in text i)) (partner_count text) (mask_in text i)

unfoldable pub have_masks : List ℕ → Bool
have_masks text = on_pages (has_mask text) text

unfoldable pub has_partners : List ℕ → Bool
has_partners text = nat_le (partner_count text) 4 && have_masks text

abbrev pub is_zero : ℕ → Bool
is_zero byte = byte == 0

unfoldable pub are_zero : List ℕ → (from to : ℕ) → Bool
are_zero text from to = list_all is_zero (slice_range text from to)

-- the last five bytes of page i
unfoldable pub is_page_padded : List ℕ → ℕ → Bool
is_page_padded text i = are_zero text (80 + 16 * i + 11) (80 + 16 * i + 16)

unfoldable pub are_pages_padded : List ℕ → Bool
are_pages_padded text = on_pages (is_page_padded text) text

-- each byte that has no meaning, or belongs to an unused entry, page or partner
unfoldable pub is_padded : List ℕ → Bool
is_padded text =
    are_zero text 9 16 &&
    are_zero text (16 + 8 * entry_count text) 80 &&
    are_pages_padded text &&
    are_zero text (80 + 16 * page_count text) 1104 &&
    are_zero text (1104 + 32 * partner_count text) 1232

-- ---- the first that fails

abbrev pub unless : Bool → SegFault → Option SegFault → Option SegFault
unless true refusal next = next
unless false refusal next = Some refusal

unfoldable pub first_fault : List ℕ → Option SegFault
first_fault text =
    unless (has_magic text) fault.Magic (
    unless (has_version text) fault.Version (
    unless (has_mode text) fault.Mode (
    unless (has_entries text) fault.Entries (
    unless (has_pages text) fault.Pages (
    unless (in_order text) fault.Order (
    unless (have_sorts text) fault.Sort (
    unless (have_rights text) fault.RightsBits (
    unless (are_placed text) fault.EntryPlace (
    unless (has_partners text) fault.PartnerPlace (
    unless (is_padded text) fault.Padding None))))))))))

-- ---- the segment

abbrev pub mode_if : (is_user : Bool) → Mode
mode_if true = U
mode_if false = S

unfoldable pub page_in : List ℕ → ℕ → SegPage
page_in text i = record {
  vpn = record { 0 = vpn_in text i };
  sort = sort_of (sort_in text i);
  rights = record { 0 = rights_in text i };
  mask = mask_in text i;
}

unfoldable pub segment_in : List ℕ → Segment
segment_in text = record {
  mode = mode_if (slice_index text 5 == 0);
  entries = record { items = map (entry_in text) (range_with_len 0 (entry_count text)) };
  pages = record { items = map (page_in text) (range_with_len 0 (page_count text)) };
  partners = record { items = map (partner_in text) (range_with_len 0 (partner_count text)) };
}

abbrev pub by_fault : Option SegFault → Segment → Result Segment SegFault
by_fault None segment = Ok segment
by_fault (Some refusal) segment = Err refusal

-- what a text of 1,232 bytes says
unfoldable pub segment_of : List ℕ → Result Segment SegFault
segment_of text = by_fault (first_fault text) (segment_in text)

-- ---- the text of a segment

abbrev pub mode_number : Mode → ℕ
mode_number U = 0
mode_number S = 1

abbrev pub sort_number : Sort → ℕ
sort_number Private = 1
sort_number Offer = 2
sort_number Accept = 3

unfoldable pub entry_bytes : ℕ → List ℕ
entry_bytes entry = to_le_bytes w64 entry

unfoldable pub page_bytes : SegPage → List ℕ
page_bytes page =
    to_le_bytes w64 page.vpn.0 ++ sort_number page.sort ∷ page.rights.0 ∷ page.mask ∷ replicate 5 0

unfoldable pub partner_bytes : Digest → List ℕ
partner_bytes partner = partner.0

unfoldable pub header_bytes : Segment → List ℕ
header_bytes segment =
    codes "BNSG" ++
    1 ∷ mode_number segment.mode ∷ length segment.entries.items ∷ length segment.pages.items ∷
    length segment.partners.items ∷ replicate 7 0

-- the header, then each table's rows and zeros up to its end
unfoldable pub spelling_of_segment : Segment → List ℕ
spelling_of_segment segment =
    header_bytes segment ++
    flat_map entry_bytes segment.entries.items ++ replicate (64 - 8 * length segment.entries.items)
    0 ++
    flat_map page_bytes segment.pages.items ++ replicate (1024 - 16 * length segment.pages.items) 0
    ++
    flat_map partner_bytes segment.partners.items ++ replicate
    (128 - 32 * length segment.partners.items) 0
