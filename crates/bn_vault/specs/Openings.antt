-- What an opened store says of the areas and the register that it was read from.
use Rattle.std.specs.Prelude.{◌≡◌, ◌⊎◌, ℕ, Bool, true, false, List, [], Option, Some, None}
use Rattle.std.specs.Prelude.{bytes_eq}
use Rattle.sha2.specs.Sha256.{sha256}
use Rattle.bn_edge.specs.Areas.{Areas, area_at}
use Rattle.bn_edge.specs.declared.area.Area.{Area}
use Rattle.bn_edge.specs.declared.area.Area.TheVariants.{First, Second}
use Rattle.bn_types.specs.declared.record.Record.{Record}
use Rattle.bn_model.specs.StoredImages.{Stored, Malformed, stored}
use Rattle.bn_model.specs.Reopening.{Opened, Fresh, Holds, Mismatch, no_digest, opens}
use Rattle.bn_vault.specs.declared.reopen_fault.ReopenFault.{ReopenFault}
use Rattle.bn_vault.specs.declared.reopen_fault.ReopenFault.TheVariants as fault

abbrev pub opening_of : Areas → List ℕ → Opened
opening_of areas register = opens areas.first areas.second register

-- the register is that of a new machine, or the digest of the current area
abbrev pub IsCurrentIn : Area → Areas → List ℕ → Type 0
IsCurrentIn current areas register =
    (register ≡ no_digest) ⊎ (sha256 (area_at current areas) ≡ register)

-- the same, where areas and register are told
abbrev pub IsCurrent : Area → Option Areas → Option (List ℕ) → Type 0
IsCurrent current None register = Unit {0}
IsCurrent current (Some areas) None = Unit {0}
IsCurrent current (Some areas) (Some register) = IsCurrentIn current areas register

-- the first area is current where it has the register's digest
abbrev pub current_by : Bool → Area
current_by true = First
current_by false = Second

-- what is opened: an empty store with Second as the current area, or the records that the areas
-- open to, with the first area that has the register's digest as the current one
abbrev pub IsOpened : Bool → List Record → Area → Areas → List ℕ → Type 0
IsOpened true records current areas register =
    (opening_of areas register ≡ Fresh) × (records ≡ []) × (current ≡ Second)
IsOpened false records current areas register =
    (opening_of areas register ≡ Holds (Stored records))
    × (current ≡ current_by (bytes_eq (sha256 areas.first) register))

-- why nothing is opened
abbrev pub IsRefused : ReopenFault → Areas → List ℕ → Type 0
IsRefused (fault.Mismatch r f s) areas register =
    (opening_of areas register ≡ Mismatch) × (r.0 ≡ register)
    × (f.0 ≡ sha256 areas.first) × (s.0 ≡ sha256 areas.second)
IsRefused (fault.Malformed at) areas register = opening_of areas register ≡ Holds (Malformed at)
IsRefused fault.Vault areas register = Unit {0}
IsRefused fault.Chip areas register = Unit {0}
IsRefused fault.Memory areas register = Unit {0}

-- a text is no stored image; want of memory says nothing
abbrev pub IsUnread : List ℕ → ReopenFault → Type 0
IsUnread text (fault.Mismatch r f s) = ⊥
IsUnread text (fault.Malformed at) = stored text ≡ Malformed at
IsUnread text fault.Vault = ⊥
IsUnread text fault.Chip = ⊥
IsUnread text fault.Memory = Unit {0}

-- no object failed
abbrev pub IsVerdict : ReopenFault → Type 0
IsVerdict (fault.Mismatch r f s) = Unit {0}
IsVerdict (fault.Malformed at) = Unit {0}
IsVerdict fault.Vault = ⊥
IsVerdict fault.Chip = ⊥
IsVerdict fault.Memory = Unit {0}
