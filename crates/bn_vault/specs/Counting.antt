-- An answer for an object's failure comes exactly where its count of faults rose, as long as it
-- could.
use Rattle.std.specs.Prelude.{ℕ, Result, Ok, Err}
use Rattle.bn_edge.specs.Counts.{Rises, Stays}
use Rattle.bn_vault.specs.declared.commit_fault.CommitFault.{CommitFault}
use Rattle.bn_vault.specs.declared.commit_fault.CommitFault.TheVariants as commit
use Rattle.bn_vault.specs.declared.read_fault.ReadFault.{ReadFault}
use Rattle.bn_vault.specs.declared.read_fault.ReadFault.TheVariants as read
use Rattle.bn_vault.specs.declared.reopen_fault.ReopenFault.{ReopenFault}
use Rattle.bn_vault.specs.declared.reopen_fault.ReopenFault.TheVariants as reopen

-- ---- a commit

abbrev pub VaultCommitBy : CommitFault → ℕ → ℕ → Type 0
VaultCommitBy commit.Vault old new = Rises old new
VaultCommitBy commit.Chip old new = Stays old new

abbrev pub CountsVaultCommit : {A : Type 0} → Result A CommitFault → ℕ → ℕ → Type 0
CountsVaultCommit (Ok answer) old new = Stays old new
CountsVaultCommit (Err fault) old new = VaultCommitBy fault old new

abbrev pub ChipCommitBy : CommitFault → ℕ → ℕ → Type 0
ChipCommitBy commit.Vault old new = Stays old new
ChipCommitBy commit.Chip old new = Rises old new

abbrev pub CountsChipCommit : {A : Type 0} → Result A CommitFault → ℕ → ℕ → Type 0
CountsChipCommit (Ok answer) old new = Stays old new
CountsChipCommit (Err fault) old new = ChipCommitBy fault old new

-- ---- reading the areas

abbrev pub VaultReadBy : ReadFault → ℕ → ℕ → Type 0
VaultReadBy read.Vault old new = Rises old new
VaultReadBy read.Memory old new = Stays old new

abbrev pub CountsVaultRead : {A : Type 0} → Result A ReadFault → ℕ → ℕ → Type 0
CountsVaultRead (Ok answer) old new = Stays old new
CountsVaultRead (Err fault) old new = VaultReadBy fault old new

-- ---- opening again

abbrev pub VaultReopenBy : ReopenFault → ℕ → ℕ → Type 0
VaultReopenBy reopen.Vault old new = Rises old new
VaultReopenBy reopen.Chip old new = Stays old new
VaultReopenBy (reopen.Mismatch r f s) old new = Stays old new
VaultReopenBy (reopen.Malformed at) old new = Stays old new
VaultReopenBy reopen.Memory old new = Stays old new

abbrev pub CountsVaultReopen : {A : Type 0} → Result A ReopenFault → ℕ → ℕ → Type 0
CountsVaultReopen (Ok answer) old new = Stays old new
CountsVaultReopen (Err fault) old new = VaultReopenBy fault old new

abbrev pub ChipReopenBy : ReopenFault → ℕ → ℕ → Type 0
ChipReopenBy reopen.Chip old new = Rises old new
ChipReopenBy reopen.Vault old new = Stays old new
ChipReopenBy (reopen.Mismatch r f s) old new = Stays old new
ChipReopenBy (reopen.Malformed at) old new = Stays old new
ChipReopenBy reopen.Memory old new = Stays old new

abbrev pub CountsChipReopen : {A : Type 0} → Result A ReopenFault → ℕ → ℕ → Type 0
CountsChipReopen (Ok answer) old new = Stays old new
CountsChipReopen (Err fault) old new = ChipReopenBy fault old new
