-- Page-table entries of Sv39 (Privileged ISA, "Sv39: Page-Based 39-bit Virtual-Memory System",
-- "Addressing and Memory Protection"). An entry is its 64 bits as a number.
use Rattle.std.specs.Prelude.{
  ℕ,
  suc,
  zero,
  ◌*◌,
  ◌/◌,
  ◌%◌,
  ◌^◌,
  ◌==◌,
  Bool,
  true,
  false,
  not,
  ◌&&◌,
  ◌||◌,
}
use Rattle.bn_model.specs.Bits.{is_set}

-- ---- its fields

-- the flags V, R, W, X, U, A, D; bit 5, G, has no effect here
abbrev pub is_valid : ℕ → Bool
is_valid entry = is_set entry 0

abbrev pub is_readable : ℕ → Bool
is_readable entry = is_set entry 1

abbrev pub is_writable : ℕ → Bool
is_writable entry = is_set entry 2

abbrev pub is_executable : ℕ → Bool
is_executable entry = is_set entry 3

abbrev pub is_user : ℕ → Bool
is_user entry = is_set entry 4

abbrev pub is_accessed : ℕ → Bool
is_accessed entry = is_set entry 6

abbrev pub is_dirty : ℕ → Bool
is_dirty entry = is_set entry 7

-- bits 7:0, all the flags
abbrev pub flags_of : ℕ → ℕ
flags_of entry = entry % 2 ^ 8

-- bits 53:10, the physical page number
abbrev pub ppn_of : ℕ → ℕ
ppn_of entry = entry / 2 ^ 10 % 2 ^ 44

-- whether one of bits 63:54 is set; no extension gives them a meaning here
abbrev pub has_reserved_bits : ℕ → Bool
has_reserved_bits entry = not (entry / 2 ^ 54 == 0)

-- not valid at any level: without V, with W but not R, or with a bit of 63:54
abbrev pub is_malformed : ℕ → Bool
is_malformed entry =
    not (is_valid entry) ||
    (is_writable entry && not (is_readable entry)) ||
    has_reserved_bits entry

-- a leaf's page number has its low 9 bits zero for each level above the last; else it is misaligned
abbrev pub is_aligned : ℕ → ℕ → Bool
is_aligned level entry = ppn_of entry % 2 ^ (9 * level) == 0

-- what an entry is to a walk
pub data EntryKind : Type 0 where
  Invalid : EntryKind
  LeafEntry : EntryKind
  Pointer : EntryKind

abbrev pub leaf_kind : Bool → EntryKind
leaf_kind true = LeafEntry
leaf_kind false = Invalid

-- a pointer may have none of U, A and D, and the last level has no pointers
abbrev pub pointer_kind : ℕ → Bool → EntryKind
pointer_kind zero leaf_flags = Invalid
pointer_kind (suc level) true = Invalid
pointer_kind (suc level) false = Pointer

abbrev pub kind_by_flags : ℕ → ℕ → Bool → Bool → EntryKind
kind_by_flags level entry true leaf = Invalid
kind_by_flags level entry false true = leaf_kind (is_aligned level entry)
kind_by_flags level entry false false =
    pointer_kind level (is_user entry || is_accessed entry || is_dirty entry)

-- an entry that is read at a level, 2 for the root
abbrev pub entry_kind : ℕ → ℕ → EntryKind
entry_kind level entry =
    kind_by_flags level entry (is_malformed entry) (is_readable entry || is_executable entry)
