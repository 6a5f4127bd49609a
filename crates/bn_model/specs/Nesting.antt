-- The nested page tables, which lead each page of the guest to a machine frame (Privileged ISA,
-- hypervisor extension, "Guest Physical Address Translation", Sv39x4). The tables lie in frames of
-- the machine.
use Rattle.std.specs.Prelude.{◌≡◌, ℕ, ◌+◌, ◌*◌, ◌/◌, ◌%◌, ◌^◌, ◌<◌, ◌≤◌, Bool, true, false, nat_lt}
use Rattle.std.specs.Prelude.{nat_eq, List, Option, Some, None, map, length}
use Rattle.std.specs.List.{range_with_len}
use Rattle.bn_types.specs.Numbers.{number_at, page_at, zero_page}
use Rattle.bn_types.specs.declared.frame.Frame.{Frame}
use Rattle.bn_types.specs.declared.width.Width.TheVariants.{B8}

-- the machine's frames, those of them that are free, and the number of guest pages
pub record Nested : Type 0 where
  pub frames : List (List ℕ)
  pub free : List Frame
  pub ram : ℕ

-- an entry of a table has 8 bytes ("Sv39: Page-Based 39-bit Virtual-Memory System", PTESIZE)
unfoldable pub entry_at : List (List ℕ) → ℕ → ℕ → ℕ
entry_at frames table index = number_at B8 (page_at frames table) (8 * index)

-- a pointer to the next table: V in bit 0 alone, and the frame's number as PPN in bits 53:10
abbrev pub pointer_to : ℕ → ℕ
pointer_to frame = frame * 2 ^ 10 + 0x01

-- the leaf of a page: V, R, W, X, U, A and D in bits 7:0, as a G-stage walk wants of each access;
-- a page without a frame has an entry that isn't valid
abbrev pub leaf_to : Option Frame → ℕ
leaf_to None = 0
leaf_to (Some frame) = frame.0 * 2 ^ 10 + 0xDF

-- the frame to which a leaf leads
abbrev pub frame_when : Bool → ℕ → Option Frame
frame_when true entry = None
frame_when false entry = Some (record { 0 = entry / 2 ^ 10 })

abbrev pub frame_of : ℕ → Option Frame
frame_of entry = frame_when (nat_eq entry 0) entry

-- a low table has the entries of 512 guest pages
abbrev pub low_tables : ℕ → ℕ
low_tables ram = (ram + 511) / 512

-- the tables' frames: the root's four, the middle table's and the low tables'
abbrev pub table_frames : ℕ → ℕ
table_frames ram = 5 + low_tables ram

-- The root of Sv39x4 has 2,048 entries, of 1 GiB each, in frames 0 to 3. RAM begins at 0x80000000,
-- which is entry 2, and ends below entry 3. Entry 2 leads to the middle table, in frame 4.
abbrev pub root_when : Bool → ℕ
root_when true = pointer_to 4
root_when false = 0

abbrev pub root_entry : ℕ → ℕ
root_entry index = root_when (nat_eq index 2)

-- entry j of the middle table leads to low table j, in frame 5 + j
abbrev pub middle_when : Bool → ℕ → ℕ
middle_when true index = pointer_to (5 + index)
middle_when false index = 0

abbrev pub middle_entry : ℕ → ℕ → ℕ
middle_entry ram index = middle_when (nat_lt index (low_tables ram)) index

-- What the entry of a page in the low tables says. RAM begins at a multiple of 1 GiB, so that the
-- page's number is the entry's.
abbrev pub low_entry : List (List ℕ) → ℕ → ℕ
low_entry frames page = entry_at frames (5 + page / 512) (page % 512)

-- a page outside RAM has no frame
abbrev pub place_when : Bool → List (List ℕ) → ℕ → Option Frame
place_when true frames page = frame_of (low_entry frames page)
place_when false frames page = None

unfoldable pub placed_in : ℕ → List (List ℕ) → ℕ → Option Frame
placed_in ram frames page = place_when (nat_lt page ram) frames page

-- the placement: the frame of a guest page, numbered from 0 at guest physical address 0x80000000
abbrev pub place : Nested → ℕ → Option Frame
place n page = placed_in n.ram n.frames page

-- the bytes of the tables' frames are the tree of the placement
pub record IsTree (n : Nested) : Type 0 where
  pub root : (i : ℕ) → i < 2048 → entry_at n.frames (i / 512) (i % 512) ≡ root_entry i
  pub middle : (i : ℕ) → i < 512 → entry_at n.frames 4 i ≡ middle_entry n.ram i
  pub low : (page : ℕ) → page < 512 * low_tables n.ram → low_entry n.frames page ≡ leaf_to
      (place n page)

-- the tree is there, no page lies on a table's frame, and no two pages on one frame
pub record IsNested (n : Nested) : Type 0 where
  pub tree : IsTree n
  pub apart : (page : ℕ) (frame : Frame) → place n page ≡ Some frame → table_frames n.ram ≤ frame.0
  pub inside : (page : ℕ) (frame : Frame) → place n page ≡ Some frame → frame.0 < length n.frames
  pub alone : (page other : ℕ) (frame : Frame) → place n page ≡ Some frame → place n other ≡ Some
      frame → page ≡ other

-- a frame is free where it is no table's and no page lies on it
pub record IsFree (n : Nested) (frame : Frame) : Type 0 where
  pub apart : table_frames n.ram ≤ frame.0
  pub inside : frame.0 < length n.frames
  pub unplaced : (page : ℕ) → place n page ≡ Some frame → ⊥

-- no frame is free
abbrev pub NoneFree : Nested → Type 0
NoneFree n = (frame : Frame) → IsFree n frame → ⊥

-- a walk reads an entry of each of the three tables, for a page in RAM, and none for others
abbrev pub words_when : Bool → ℕ
words_when true = 3
words_when false = 0

abbrev pub words_walked : ℕ → ℕ → ℕ
words_walked ram page = words_when (nat_lt page ram)

-- the bytes of a guest page: those of its frame, and zeros where it has none
abbrev pub page_in : List (List ℕ) → Option Frame → List ℕ
page_in frames None = zero_page
page_in frames (Some frame) = page_at frames frame.0

unfoldable pub contents_in : ℕ → List (List ℕ) → List (List ℕ)
contents_in ram frames = map (λ page. page_in frames (placed_in ram frames page))
    (range_with_len 0 ram)

-- the guest's RAM, page by page
abbrev pub contents : Nested → List (List ℕ)
contents n = contents_in n.ram n.frames
