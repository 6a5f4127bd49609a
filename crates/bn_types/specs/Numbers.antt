-- Numbers that stand in memory, little endian (Unprivileged ISA, "Load and Store Instructions").
use Rattle.std.specs.Prelude.{◌≡◌, ℕ, ◌+◌, ◌*◌, ◌%◌, ◌^◌, ◌<◌, List, [], ◌++◌, length, take, drop}
use Rattle.std.specs.Prelude.{replicate, slice_index_or}
use Rattle.std.specs.Int.{from_le_bytes, to_le_bytes, w8, w16, w32, w64}
use Rattle.std.specs.Int as int
use Rattle.bn_types.specs.declared.width.Width.{Width}
use Rattle.bn_types.specs.declared.width.Width.TheVariants.{B1, B2, B4, B8}

-- how many bytes an access of this width has
abbrev pub bytes_of : Width → ℕ
bytes_of B1 = 1
bytes_of B2 = 2
bytes_of B4 = 4
bytes_of B8 = 8

-- std's name for that width
abbrev pub int_width : Width → int.Width
int_width B1 = w8
int_width B2 = w16
int_width B4 = w32
int_width B8 = w64

-- the number of this width that stands in a page from an offset on
unfoldable pub number_at : Width → List ℕ → ℕ → ℕ
number_at width page offset = from_le_bytes (int_width width) (drop offset page)

-- the bytes of a number of this width; of a wider one only the low bytes
abbrev pub low_bytes : Width → ℕ → List ℕ
low_bytes width value = to_le_bytes (int_width width) (value % 2 ^ (8 * bytes_of width))

-- the page after a number of this width is written from an offset on
unfoldable pub with_number : Width → List ℕ → ℕ → ℕ → List ℕ
with_number width page offset value =
    take offset page ++ low_bytes width value ++ drop (offset + bytes_of width) page

-- one of several pages; no bytes past the last of them
abbrev pub page_at : List (List ℕ) → ℕ → List ℕ
page_at pages page = slice_index_or pages page []

-- each page has 4,096 bytes
abbrev pub AreWhole : List (List ℕ) → Type 0
AreWhole pages = (page : ℕ) → page < length pages → length (page_at pages page) ≡ 4096

-- a page of zeros
unfoldable pub zero_page : List ℕ
zero_page = replicate 4096 0
