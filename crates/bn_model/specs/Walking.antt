-- The walk of Sv39 (Privileged ISA, "Sv39: Page-Based 39-bit Virtual-Memory System", "Virtual
-- Address Translation Process") over the guest pages as the untrusted world can read them.
use Rattle.std.specs.Prelude.{
  ℕ,
  suc,
  zero,
  ◌+◌,
  ◌*◌,
  ◌-◌,
  ◌/◌,
  ◌%◌,
  ◌^◌,
  ◌==◌,
  Bool,
  true,
  false,
  cond,
  ◌&&◌,
  ◌||◌,
  List,
  [],
  ◌∷◌,
  Option,
  Some,
  None,
  Result,
  Ok,
  Err,
  nat_lt,
}
use Rattle.bn_types.specs.Visible.{word_at}
use Rattle.bn_types.specs.declared.cause.Cause.{Cause}
use Rattle.bn_types.specs.declared.gpn.Gpn.{Gpn}
use Rattle.bn_types.specs.declared.kind.Kind.{Kind}
use Rattle.bn_types.specs.declared.kind.Kind.TheVariants.{Fetch, Load, Store}
use Rattle.bn_types.specs.declared.mode.Mode.{Mode}
use Rattle.bn_types.specs.declared.mode.Mode.TheVariants.{U, S}
use Rattle.bn_model.specs.Bits.{is_set}
use Rattle.bn_model.specs.Causes.{
  instruction_access_fault,
  instruction_page_fault,
  load_access_fault,
  load_page_fault,
  store_access_fault,
  store_page_fault,
}
use Rattle.bn_model.specs.CsrFile.{satp_mode}
use Rattle.bn_model.specs.Entries.{
  EntryKind,
  Invalid,
  LeafEntry,
  Pointer,
  entry_kind,
  flags_of,
  is_accessed,
  is_dirty,
  is_executable,
  is_readable,
  is_user,
  is_writable,
  ppn_of,
}

-- ---- addresses

-- PPN of `satp`, bits 43:0 ("Supervisor Address Translation and Protection Register")
abbrev pub root_of : ℕ → ℕ
root_of satp = satp % 2 ^ 44

-- the page of an address
abbrev pub vpn_of : ℕ → ℕ
vpn_of va = va / 2 ^ 12

-- bits 63:39 equal bit 38
abbrev pub is_canonical : ℕ → Bool
is_canonical va = va / 2 ^ 39 == cond (is_set va 38) (2 ^ 25 - 1) 0

-- VPN[level], bits 20:12, 29:21 or 38:30: the index of the entry at level 0, 1 or 2
abbrev pub index_of : ℕ → ℕ → ℕ
index_of level va = vpn_of va / 2 ^ (9 * level) % 2 ^ 9

-- the guest page of a physical page: RAM begins at physical page 0x80000
abbrev pub guest_page : ℕ → Option ℕ
guest_page ppn = cond (nat_lt ppn 0x80000) None (Some (ppn - 0x80000))

-- ---- one table

-- what a table has for an address: an entry, on this page and of this kind; Unread where that page
-- isn't free
pub data TableEntry : Type 0 where
  Unread : TableEntry
  Entry : (page : Gpn) (word : ℕ) (kind : EntryKind) → TableEntry

abbrev pub entry_of_word : (level page : ℕ) → Option ℕ → TableEntry
entry_of_word level page None = Unread
entry_of_word level page (Some word) = Entry (record { 0 = page }) word (entry_kind level word)

abbrev pub entry_on : List (Option (List ℕ)) → (level offset : ℕ) → Option ℕ → TableEntry
entry_on pages level offset None = Unread
entry_on pages level offset (Some page) = entry_of_word level page (word_at pages page offset)

-- the entry for an address in the table of a level on a physical page
abbrev pub entry_at : List (Option (List ℕ)) → (va level ppn : ℕ) → TableEntry
entry_at pages va level ppn = entry_on pages level (8 * index_of level va) (guest_page ppn)

-- ---- from table to table

-- why a walk finds no page: the tables hold no leaf for the address, or an entry's page isn't free
pub data WalkFault : Type 0 where
  NoLeaf : WalkFault
  Refused : WalkFault

-- the page that a walk finds, with bits 7:0 of its leaf entry; in Bare there is none
pub record WalkEnd : Type 0 where
  pub ppn : ℕ
  pub flags : ℕ
  pub bare : Bool

-- a walk: the pages whose entries it reads, root first, and what it finds
pub record Walk : Type 0 where
  pub tables : List Gpn
  pub found : Result WalkEnd WalkFault

-- a walk that reads no entry
abbrev pub ends : Result WalkEnd WalkFault → Walk
ends found = record { tables = []; found = found }

-- a walk that reads an entry on this page first
abbrev pub through : Gpn → Walk → Walk
through page walk = record walk { tables = page ∷ walk.tables }

-- a superpage takes its low page number from the address
abbrev pub leaf_end : (va level word : ℕ) → WalkEnd
leaf_end va level word =
    record { ppn = ppn_of word + vpn_of va % 2 ^ (9 * level); flags = flags_of word; bare = false }

-- the walk from an entry of a level on: it ends at a leaf, and a pointer leads to the next table,
-- one level below; at level 0 there is none
unfoldable pub walk_on : List (Option (List ℕ)) → (va level : ℕ) → TableEntry → Walk
walk_on pages va level Unread = ends (Err Refused)
walk_on pages va level (Entry page word Invalid) = through page (ends (Err NoLeaf))
walk_on pages va level (Entry page word LeafEntry) =
    through page (ends (Ok (leaf_end va level word)))
walk_on pages va zero (Entry page word Pointer) = through page (ends (Err NoLeaf))
walk_on pages va (suc level) (Entry page word Pointer) =
    through page (walk_on pages va level (entry_at pages va level (ppn_of word)))

-- the walk from the table of a level on, which lies on this physical page
abbrev pub walk_from : List (Option (List ℕ)) → (va level ppn : ℕ) → Walk
walk_from pages va level ppn = walk_on pages va level (entry_at pages va level ppn)

-- ---- the whole walk

abbrev pub walk_sv39 : List (Option (List ℕ)) → (satp va : ℕ) → (is_canonical : Bool) → Walk
walk_sv39 pages satp va true = walk_from pages va 2 (root_of satp)
walk_sv39 pages satp va false = ends (Err NoLeaf)

-- in Bare an address is taken as it is
abbrev pub walk_bare : ℕ → Walk
walk_bare va = ends (Ok (record { ppn = vpn_of va; flags = 0; bare = true }))

abbrev pub walk_by_mode : List (Option (List ℕ)) → (satp va : ℕ) → (is_bare : Bool) → Walk
walk_by_mode pages satp va true = walk_bare va
walk_by_mode pages satp va false = walk_sv39 pages satp va (is_canonical va)

-- the structural walk of an address, without the tests of permission, A and D
unfoldable pub walked : List (Option (List ℕ)) → (satp va : ℕ) → Walk
walked pages satp va = walk_by_mode pages satp va (satp_mode satp == 0)

-- the pages whose entries a walk reads, also one that finds no leaf, root first
abbrev pub tables_read : List (Option (List ℕ)) → (satp va : ℕ) → List Gpn
tables_read pages satp va = (walked pages satp va).tables

-- the page that an address leads to, with the pages whose entries were read
pub record Landing : Type 0 where
  pub ppn : ℕ
  pub flags : ℕ
  pub bare : Bool
  pub tables : List Gpn

abbrev pub landing_of : List Gpn → Result WalkEnd WalkFault → Result Landing WalkFault
landing_of tables (Err fault) = Err fault
landing_of tables (Ok end) =
    Ok (record { ppn = end.ppn; flags = end.flags; bare = end.bare; tables = tables })

abbrev pub leaf_of : List (Option (List ℕ)) → (satp va : ℕ) → Result Landing WalkFault
leaf_of pages satp va = landing_of (tables_read pages satp va) (walked pages satp va).found

-- ---- permission

-- the entry's R, W or X for the kind; MXR lets loads read what is executable
abbrev pub grants : Kind → Bool → ℕ → Bool
grants Fetch mxr flags = is_executable flags
grants Load mxr flags = is_readable flags || (mxr && is_executable flags)
grants Store mxr flags = is_writable flags

-- mode U reaches user pages alone; mode S reaches them by loads and stores, where SUM is set
abbrev pub reaches_user : Kind → Bool → Bool
reaches_user Fetch sum = false
reaches_user Load sum = sum
reaches_user Store sum = sum

abbrev pub reaches : Mode → Bool → Kind → Bool → Bool
reaches U user kind sum = user
reaches S false kind sum = true
reaches S true kind sum = reaches_user kind sum

-- A must be set, and D for a store
abbrev pub is_marked : Kind → ℕ → Bool
is_marked Fetch flags = is_accessed flags
is_marked Load flags = is_accessed flags
is_marked Store flags = is_accessed flags && is_dirty flags

unfoldable pub flags_permit : ℕ → Kind → Mode → Bool → Bool → Bool
flags_permit flags kind mode sum mxr =
    grants kind mxr flags && reaches mode (is_user flags) kind sum && is_marked kind flags

-- in Bare everything is permitted
abbrev pub permits : Landing → Kind → Mode → Bool → Bool → Bool
permits landing kind mode sum mxr = landing.bare || flags_permit landing.flags kind mode sum mxr

-- ---- the walk of an access

-- the causes of an access that fails
abbrev pub page_fault : Kind → Cause
page_fault Fetch = instruction_page_fault
page_fault Load = load_page_fault
page_fault Store = store_page_fault

abbrev pub access_fault : Kind → Cause
access_fault Fetch = instruction_access_fault
access_fault Load = load_access_fault
access_fault Store = store_access_fault

abbrev pub landing_if : (permitted : Bool) → Landing → Kind → Result Landing Cause
landing_if true landing kind = Ok landing
landing_if false landing kind = Err (page_fault kind)

abbrev pub landing_or_cause :
    Kind → Mode → (sum mxr : Bool) → Result Landing WalkFault → Result Landing Cause
landing_or_cause kind mode sum mxr (Err NoLeaf) = Err (page_fault kind)
landing_or_cause kind mode sum mxr (Err Refused) = Err (access_fault kind)
landing_or_cause kind mode sum mxr (Ok landing) =
    landing_if (permits landing kind mode sum mxr) landing kind

-- the whole walk of an access, with its cause where it fails
abbrev pub walk_of :
    List (Option (List ℕ)) → (satp va : ℕ) → Kind → Mode → (sum mxr : Bool) → Result Landing Cause
walk_of pages satp va kind mode sum mxr =
    landing_or_cause kind mode sum mxr (leaf_of pages satp va)
