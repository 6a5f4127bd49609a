-- Image files: raw ones, and ELF files of 64 bits (System V ABI, "ELF Header" and "Program
-- Header").
use Rattle.std.specs.Prelude.{ℕ, zero, suc, ◌+◌, ◌-◌, ◌*◌, ◌%◌, ◌==◌, Bool, true, false, ◌&&◌, not}
use Rattle.std.specs.Prelude.{nat_eq, nat_le, List, [], ◌∷◌, ◌++◌, drop, length, replicate, take}
use Rattle.std.specs.Prelude.{Result, Ok, Err}
use Rattle.std.specs.List.{list_any, starts_with}
use Rattle.bn_types.specs.Numbers.{number_at}
use Rattle.bn_types.specs.declared.image_fault.ImageFault.{ImageFault}
use Rattle.bn_types.specs.declared.image_sort.ImageSort.{ImageSort}
use Rattle.bn_types.specs.declared.image_sort.ImageSort.TheVariants.{Long, Empty, Short, Class}
use Rattle.bn_types.specs.declared.image_sort.ImageSort.TheVariants.{Order, Kind, Machine, Headers}
use Rattle.bn_types.specs.declared.image_sort.ImageSort.TheVariants.{Sizes, Bytes, Range, Nothing}
use Rattle.bn_types.specs.declared.image_sort.ImageSort.TheVariants.{Entry}
use Rattle.bn_types.specs.declared.width.Width.TheVariants.{B1, B2, B4, B8}

-- ---- tests, in order

abbrev pub fault : ImageSort → ℕ → ImageFault
fault what at = record { sort = what; at = at }

abbrev pub test : Bool → ImageSort → ℕ → Result (Unit {0}) ImageFault
test true what at = Ok tt
test false what at = Err (fault what at)

infixl 10 ◌>>=◌
abbrev pub ◌>>=◌ : {A B : Type 0} → Result A ImageFault → (A → Result B ImageFault)
    → Result B ImageFault
Ok value >>= next = next value
Err fault >>= next = Err fault

-- ---- RAM, of a size in bytes, stands from this address on

abbrev pub ram_base : ℕ
ram_base = 0x80000000

-- some bytes from an address on are all in RAM
abbrev pub is_in_ram : (size address len : ℕ) → Bool
is_in_ram size address len = nat_le ram_base address && nat_le (address + len) (ram_base + size)

-- ---- the file header

-- the file is a little-endian executable of 64 bits for RISC-V, and its program headers are all in
-- it
unfoldable pub head_checked : List ℕ → Result (Unit {0}) ImageFault
head_checked file =
    test (nat_le 64 (length file)) Short (length file)
    >>= (λ a. test (number_at B1 file 4 == 2) Class 4
    >>= (λ b. test (number_at B1 file 5 == 1) Order 5
    >>= (λ c. test (number_at B2 file 16 == 2) Kind 16
    >>= (λ d. test (number_at B2 file 18 == 243) Machine 18
    >>= (λ e. test (number_at B2 file 54 == 56) Headers 54
    >>= (λ f. test (nat_le (number_at B8 file 32 + 56 * number_at B2 file 56) (length file)) Headers
    32))))))

-- ---- program headers

-- the places of so many headers, from the first on
abbrev pub places_from : (place count : ℕ) → List ℕ
places_from place zero = []
places_from place (suc count) = place ∷ places_from (place + 56) count

unfoldable pub places : List ℕ → List ℕ
places file = places_from (number_at B8 file 32) (number_at B2 file 56)

-- what a header says of a segment: where its bytes stand in the file, where they go, and how many
pub record Header : Type 0 where
  pub loads : Bool
  pub offset : ℕ
  pub address : ℕ
  pub in_file : ℕ
  pub in_memory : ℕ

unfoldable pub header_at : List ℕ → ℕ → Header
header_at file place = record {
  loads = number_at B4 file place == 1;
  offset = number_at B8 file (place + 8);
  address = number_at B8 file (place + 24);
  in_file = number_at B8 file (place + 32);
  in_memory = number_at B8 file (place + 40);
}

-- a segment that is loaded and isn't empty
abbrev pub counts : Header → Bool
counts header = header.loads && not (header.in_file == 0 && header.in_memory == 0)

abbrev pub segment_checked : (size len place : ℕ) → Header → Result (Unit {0}) ImageFault
segment_checked size len place header =
    test (nat_le header.in_file header.in_memory) Sizes (place + 32)
    >>= (λ a. test (nat_le (header.offset + header.in_file) len) Bytes (place + 8)
    >>= (λ b. test (is_in_ram size header.address header.in_memory) Range (place + 24)))

abbrev pub checked_if : (counts : Bool) → (size len place : ℕ) → Header
    → Result (Unit {0}) ImageFault
checked_if true size len place header = segment_checked size len place header
checked_if false size len place header = Ok tt

unfoldable pub header_checked : (size : ℕ) → List ℕ → ℕ → Result (Unit {0}) ImageFault
header_checked size file place =
    checked_if (counts (header_at file place)) size (length file) place (header_at file place)

-- header by header
unfoldable pub all_checked : (size : ℕ) → List ℕ → List ℕ → Result (Unit {0}) ImageFault
all_checked size file [] = Ok tt
all_checked size file (place ∷ places) =
    header_checked size file place >>= (λ done. all_checked size file places)

-- ---- placing

-- RAM with a segment in its place: its bytes, then zeros
unfoldable pub with_segment : List ℕ → Header → List ℕ → List ℕ
with_segment file header ram =
    take (header.address - ram_base) ram
    ++ (take header.in_file (drop header.offset file) ++
    replicate (header.in_memory - header.in_file) 0)
    ++ drop (header.address - ram_base + header.in_memory) ram

abbrev pub with_segment_if : (counts : Bool) → List ℕ → Header → List ℕ → List ℕ
with_segment_if true file header ram = with_segment file header ram
with_segment_if false file header ram = ram

-- in order, so that a later one overwrites
unfoldable pub with_segments : List ℕ → List ℕ → List ℕ → List ℕ
with_segments file [] ram = ram
with_segments file (place ∷ places) ram =
    with_segments file places
    (with_segment_if (counts (header_at file place)) file (header_at file place) ram)

-- ---- the whole

-- all bytes of RAM, and the address of the first instruction
pub record Image : Type 0 where
  pub bytes : List ℕ
  pub entry : ℕ

abbrev pub entry_of : List ℕ → ℕ
entry_of file = number_at B8 file 24

abbrev pub is_entry : (size entry : ℕ) → Bool
is_entry size entry = (entry % 4 == 0) && is_in_ram size entry 4

-- some header counts
unfoldable pub has_segment : List ℕ → List ℕ → Bool
has_segment file places = list_any (λ place. counts (header_at file place)) places

unfoldable pub elf_checked : (size : ℕ) → List ℕ → Result (Unit {0}) ImageFault
elf_checked size file =
    head_checked file
    >>= (λ a. all_checked size file (places file)
    >>= (λ b. test (has_segment file (places file)) Nothing 56
    >>= (λ c. test (is_entry size (entry_of file)) Entry 24)))

abbrev pub elf_image : (size : ℕ) → List ℕ → Image
elf_image size file = record {
  bytes = with_segments file (places file) (replicate size 0);
  entry = entry_of file;
}

abbrev pub elf_of : (size : ℕ) → List ℕ → Result Image ImageFault
elf_of size file = elf_checked size file >>= (λ done. Ok (elf_image size file))

-- a raw file stands at the beginning of RAM
abbrev pub raw_of : (size : ℕ) → List ℕ → Result Image ImageFault
raw_of size file =
    test (nat_le (length file) size) Long size
    >>= (λ done. Ok (record { bytes = file ++ replicate (size - length file) 0; entry = ram_base }))

abbrev pub elf_magic : List ℕ
elf_magic = 0x7f ∷ 0x45 ∷ 0x4c ∷ 0x46 ∷ []

abbrev pub image_if : (is_elf : Bool) → (size : ℕ) → List ℕ → Result Image ImageFault
image_if true size file = elf_of size file
image_if false size file = raw_of size file

abbrev pub most_image_bytes : ℕ
most_image_bytes = 33554432

-- what a file comes to in a RAM of this size
unfoldable pub image_of : (size : ℕ) → List ℕ → Result Image ImageFault
image_of size file =
    test (nat_le (length file) most_image_bytes) Long most_image_bytes
    >>= (λ a. test (not (length file == 0)) Empty 0
    >>= (λ b. image_if (starts_with nat_eq file elf_magic) size file))
