-- What the walk's answers are in the definitions of the flat machine.
use Rattle.std.specs.Prelude.{ℕ, false, Option, Some, None, Result, Ok, Err}
use Rattle.bn_model.specs.Entries as entries
use Rattle.bn_model.specs.Walking as walking
use Rattle.bn_types.specs.declared.cause.Cause.{Cause}
use Rattle.g_walk.specs.declared.descent.Descent.{Descent}
use Rattle.g_walk.specs.declared.descent.Descent.TheVariants as descents
use Rattle.g_walk.specs.declared.entry.EntryKind.{EntryKind}
use Rattle.g_walk.specs.declared.entry.EntryKind.TheVariants as kinds
use Rattle.g_walk.specs.declared.fault.LeafFault.{LeafFault}
use Rattle.g_walk.specs.declared.fault.LeafFault.TheVariants as faults
use Rattle.g_walk.specs.declared.found.Leaf.{Leaf}
use Rattle.g_walk.specs.declared.structure.TableEntry.{TableEntry}
use Rattle.g_walk.specs.declared.structure.WalkEnd.{WalkEnd}

abbrev pub kind : EntryKind → entries.EntryKind
kind kinds.Invalid = entries.Invalid
kind kinds.Leaf = entries.LeafEntry
kind kinds.Pointer = entries.Pointer

abbrev pub landing : Leaf → walking.Landing
landing leaf = record {
  ppn = leaf.ppn;
  flags = leaf.flags;
  bare = leaf.bare;
  tables = leaf.tables.items;
}

abbrev pub fault : LeafFault → walking.WalkFault
fault faults.Page = walking.NoLeaf
fault faults.Refused = walking.Refused

abbrev pub leaf_result : Result Leaf LeafFault → Result walking.Landing walking.WalkFault
leaf_result (Ok leaf) = Ok (landing leaf)
leaf_result (Err e) = Err (fault e)

-- where the tables end
abbrev pub end_of : Descent → WalkEnd → Result walking.WalkEnd walking.WalkFault
end_of descents.Found end = Ok (record { ppn = end.ppn; flags = end.flags; bare = false })
end_of descents.NoLeaf end = Err walking.NoLeaf
end_of descents.Refused end = Err walking.Refused

abbrev pub walk_result : Result Leaf Cause → Result walking.Landing Cause
walk_result (Ok leaf) = Ok (landing leaf)
walk_result (Err cause) = Err cause

-- the entry that was read in a table of a level
abbrev pub table_entry : ℕ → Option TableEntry → walking.TableEntry
table_entry level None = walking.Unread
table_entry level (Some entry) =
    walking.Entry entry.page entry.word (entries.entry_kind level entry.word)
