-- What is known of the store, a vault and a chip, and what a call leaves of it.
use Rattle.std.specs.Prelude.{◌≡◌, ◌≢◌, Bool, true, false, List, Some}
use Rattle.sha2.specs.Sha256.{sha256}
use Rattle.bn_edge.specs.Accounts.{ChipAccount, VaultAccount}
use Rattle.bn_edge.specs.Areas.{Areas}
use Rattle.bn_edge.specs.Crashes.{Elapses, IsStable, LeavesOnly, LeavesTheSame}
use Rattle.bn_edge.specs.Registers.{IsOldOrNew, replaced}
use Rattle.bn_model.specs.Reopening.{Holds, no_digest}
use Rattle.bn_model.specs.StoredImages.{Stored, image_of}
use Rattle.bn_model.specs.Storing.{Storage, committed}
use Rattle.bn_types.specs.declared.record.Record.{Record}
use Rattle.bn_vault.specs.Committing.{HasNoTwins}
use Rattle.bn_vault.specs.Openings.{opening_of}

pub record StoreAccount : Type 1 where
  pub vault : VaultAccount
  pub chip : ChipAccount

abbrev pub store_of : VaultAccount → ChipAccount → StoreAccount
store_of vault chip = record { vault = vault; chip = chip }

-- ---- what it tells

abbrev pub areas_of : Storage → Areas
areas_of storage = record { first = storage.first; second = storage.second }

-- vault and chip tell this storage
pub record Tells (store : StoreAccount) (storage : Storage) : Type 0 where
  pub areas : store.vault.areas ≡ Some (areas_of storage)
  pub register : store.chip.register ≡ Some storage.register

-- and a crash would leave nothing else
pub record Keeps (store : StoreAccount) (storage : Storage) : Type 0 where
  pub areas : IsStable store.vault (areas_of storage)
  pub register : store.chip.register ≡ Some storage.register

-- what a run sees of a storage: all that vault and chip tell, where it opens the store
abbrev pub IsSeen : (has_store : Bool) → StoreAccount → Storage → Type 0
IsSeen false store storage = Unit {0}
IsSeen true store storage = Tells store storage

-- ---- what a call leaves

-- areas and register stay, and so does what a crash may leave of them
pub record StorageStays (old new : StoreAccount) : Type 0 where
  pub areas : new.vault.areas ≡ old.vault.areas
  pub register : new.chip.register ≡ old.chip.register
  pub crash : LeavesTheSame old.vault new.vault
  pub time : Elapses old.vault new.vault

-- Whatever a crash at a moment since the call began may leave of the areas, it opens under the old
-- register as before. Premise: no two areas are different texts with one digest.
abbrev pub CrashesOpenAlike : StoreAccount → StoreAccount → Type 0
CrashesOpenAlike old new =
    (storage : Storage) → Keeps old storage → HasNoTwins (areas_of storage) →
    LeavesOnly old.vault new.vault
    (λ c. HasNoTwins c →
    opening_of c storage.register ≡ opening_of (areas_of storage) storage.register)

-- the areas with the image of these records
abbrev pub areas_with : List Record → Storage → Areas
areas_with records storage = areas_of (committed records storage)

-- The image of these records is in an area and on the disk, and the other area is as before: they
-- open under the old register as before, and under the image's digest to these records. Premises:
-- no two areas are different texts with one digest, and the image's isn't that of a new machine.
pub record ImageStands (records : List Record) (old new : StoreAccount) : Type 0 where
  pub stable :
      (storage : Storage) → Keeps old storage → IsStable new.vault (areas_with records storage)
  pub opens_old :
      (storage : Storage) → Tells old storage → HasNoTwins (areas_of storage) →
      HasNoTwins (areas_with records storage) →
      opening_of (areas_with records storage) storage.register ≡
      opening_of (areas_of storage) storage.register
  pub opens_new :
      (storage : Storage) → Tells old storage → HasNoTwins (areas_with records storage) →
      sha256 (image_of records) ≢ no_digest →
      opening_of (areas_with records storage) (sha256 (image_of records)) ≡ Holds (Stored records)

-- the register is the image's digest
pub record IsCommitted (records : List Record) (old new : StoreAccount) : Type 0 where
  pub image : ImageStands records old new
  pub register : new.chip.register ≡ replaced old.chip.register (sha256 (image_of records))
  pub moments : CrashesOpenAlike old new

-- or it is the old one
pub record MayBeCommitted (records : List Record) (old new : StoreAccount) : Type 0 where
  pub image : ImageStands records old new
  pub register : IsOldOrNew old.chip.register (sha256 (image_of records)) new.chip.register
  pub moments : CrashesOpenAlike old new

-- the image may be in its area or not, and the register is the old one
pub record IsUncommitted (old new : StoreAccount) : Type 0 where
  pub register : new.chip.register ≡ old.chip.register
  pub moments : CrashesOpenAlike old new

-- ---- what a call does to the store before its last line

pub data Act : Type 0 where
  Leaves : Act
  Commits : (records : List Record) → Act
  -- a commit of these in which the vault failed, or the chip
  FailsInVault : (records : List Record) → Act
  FailsInChip : (records : List Record) → Act

-- what is left of it then
abbrev pub IsLeft : Act → StoreAccount → StoreAccount → Type 0
IsLeft Leaves old new = StorageStays old new
IsLeft (Commits records) old new = IsCommitted records old new
IsLeft (FailsInVault records) old new = IsUncommitted old new
IsLeft (FailsInChip records) old new = MayBeCommitted records old new
