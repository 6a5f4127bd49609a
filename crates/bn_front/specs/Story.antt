-- The whole story of a call, by cases on its status: its promise follows from it.
use Rattle.std.specs.Prelude.{◌≡◌, ◌≢◌, ◌⊎◌, ℕ, Bool, true, false, List, ◌++◌, bytes_eq, codes}
use Rattle.std.specs.Prelude.{Option, Some, None, Ok, Err}
use Rattle.hex.specs.Hex.{encode_lower}
use Rattle.sha2.specs.Sha256.{sha256}
use Rattle.bn_types.specs.declared.digest.Digest.{Digest}
use Rattle.bn_types.specs.declared.record.Record.{Record}
use Rattle.bn_types.specs.declared.status.Status.{Status}
use Rattle.bn_types.specs.declared.status.Status.TheVariants as answer
use Rattle.bn_edge.specs.Accounts.{SinkAccount}
use Rattle.bn_edge.specs.Counts.{Rises, Stays}
use Rattle.bn_edge.specs.Written.{Writes, WritesFront}
use Rattle.bn_edge.specs.declared.area.Area.{Area}
use Rattle.bn_edge.specs.declared.area.Area.TheVariants.{First, Second}
use Rattle.bn_model.specs.CommandLines.{RunOrder}
use Rattle.bn_model.specs.Reopening.{no_digest}
use Rattle.bn_model.specs.Reporting.{Report, fault_line}
use Rattle.bn_model.specs.Running.{Course}
use Rattle.bn_model.specs.Spelling.{text_of}
use Rattle.bn_model.specs.Storing.{Storage, malformed_line, records_in}
use Rattle.bn_model.specs.WholeRuns.{course_of, script_line}
use Rattle.bn_vault.specs.declared.commit_fault.CommitFault.{CommitFault}
use Rattle.bn_vault.specs.declared.commit_fault.CommitFault.TheVariants as commit
use Rattle.bn_vault.specs.declared.reopen_fault.ReopenFault.{ReopenFault}
use Rattle.bn_vault.specs.declared.reopen_fault.ReopenFault.TheVariants as reopen
use Rattle.bn_front.specs.declared.inputs.Inputs.{Inputs}
use Rattle.bn_front.specs.declared.refusal.Refusal.{Refusal}
use Rattle.bn_front.specs.declared.refusal.Refusal.TheVariants as refusal
use Rattle.bn_front.specs.declared.words_error.WordsError.{WordsError}
use Rattle.bn_front.specs.declared.words_error.WordsError.TheVariants as error
use Rattle.bn_front.specs.Tasks.{Task}
use Rattle.bn_front.specs.Due.{Device, Due, IsDue, TheChip, TheVault, act_failed, bad_store}
use Rattle.bn_front.specs.Due.{desk_failed, ended, generated, missing_line, no_command}
use Rattle.bn_front.specs.Due.{unread, unwritten}
use Rattle.bn_front.specs.Headline.{CountsStay, FailsWithin, IsAnswer, Outside}
use Rattle.bn_front.specs.Reading.{start_with}
use Rattle.bn_front.specs.Stored.{Act, Commits, IsLeft, StorageStays, StoreAccount, Tells}

-- ---- one line

-- a report was answered and written, or the sink failed in it, or memory ran out before
abbrev pub Answers : Status → Report → SinkAccount → SinkAccount → Type 0
Answers answer.Memory report old new = new.written ≡ old.written
Answers answer.SinkFault report old new = WritesFront old new report.text
Answers status report old new = (report.status ≡ status) × Writes old new report.text

-- the sink's faults rise exactly where the answer is its fault
abbrev pub CountsSinkFault : Status → ℕ → ℕ → Type 0
CountsSinkFault answer.SinkFault old new = Rises old new
CountsSinkFault status old new = Stays old new

-- a report that is no want of memory was answered
abbrev pub AnswersReport : Report → Status → SinkAccount → SinkAccount → Type 0
AnswersReport report status old new =
    (status ≢ answer.Memory) × Answers status report old new

-- want of memory was answered, and nothing written
abbrev pub WantsMemory : Status → SinkAccount → SinkAccount → Type 0
WantsMemory status old new = (status ≡ answer.Memory) × (new.written ≡ old.written)

-- words that are no command line are answered so
abbrev pub AnswersWords : WordsError → Status → SinkAccount → SinkAccount → Type 0
AnswersWords error.Words status old new = AnswersReport no_command status old new
AnswersWords error.Memory status old new = WantsMemory status old new

-- want of memory is answered at once; of another refusal the line is written
abbrev pub AnswersRefusal : Refusal → Status → SinkAccount → SinkAccount → Type 0
AnswersRefusal (refusal.Missing file) status old new =
    AnswersReport (record { status = answer.NoFile; text = missing_line file }) status old new
AnswersRefusal (refusal.Failed file) status old new =
    AnswersReport (desk_failed file) status old new
AnswersRefusal (refusal.Image fault) status old new =
    AnswersReport (record { status = answer.Image; text = fault_line fault }) status old new
AnswersRefusal (refusal.Script fault) status old new =
    AnswersReport (record { status = answer.Script; text = script_line fault }) status old new
AnswersRefusal refusal.Memory status old new = WantsMemory status old new

-- no area has the register's digest: the register's and the areas' digests
abbrev pub digests_line : Digest → Digest → Digest → List ℕ
digests_line register first second =
    codes "store mismatch " ++ encode_lower register.0 ++ codes " " ++ encode_lower first.0
    ++ codes " " ++ encode_lower second.0 ++ codes "\n"

-- a store that wasn't opened is answered so
abbrev pub AnswersUnopened : ReopenFault → Status → SinkAccount → SinkAccount → Type 0
AnswersUnopened (reopen.Mismatch register first second) status old new =
    AnswersReport (bad_store (digests_line register first second)) status old new
AnswersUnopened (reopen.Malformed at) status old new =
    AnswersReport (bad_store (malformed_line at)) status old new
AnswersUnopened reopen.Vault status old new = AnswersReport (unread TheVault) status old new
AnswersUnopened reopen.Chip status old new = AnswersReport (unread TheChip) status old new
AnswersUnopened reopen.Memory status old new = WantsMemory status old new

-- ---- a run and what ends it

-- the lines of a run couldn't all be written
pub record StopsWithin (run : Course) (status : Status) (old new : SinkAccount) : Type 0 where
  pub is : status ≡ answer.SinkFault
  pub front : WritesFront old new (text_of run.told)

-- they were, and then a report was answered
pub record EndsWith (run : Course) (last : Report) (status : Status) (old new : SinkAccount)
    : Type 0 where
  pub mid : SinkAccount
  pub lines : Writes old mid (text_of run.told)
  pub closed : AnswersReport last status mid new

-- what a run without a store comes to, once its inputs are read
abbrev pub RunsPlainly : Course → Status → SinkAccount → SinkAccount → Type 0
RunsPlainly run status old new =
    WantsMemory status old new ⊎
    (StopsWithin run status old new ⊎ EndsWith run (ended run) status old new)

-- what a generated run comes to: want of memory, or its summary
abbrev pub RunsGenerated : (number : ℕ) → Status → SinkAccount → SinkAccount → Type 0
RunsGenerated number status old new =
    WantsMemory status old new ⊎ AnswersReport (generated number) status old new

-- ---- the store

-- the count of a device that failed rises
abbrev pub CountsVault : Option Device → ℕ → ℕ → Type 0
CountsVault None old new = Stays old new
CountsVault (Some TheVault) old new = Rises old new
CountsVault (Some TheChip) old new = Stays old new

abbrev pub CountsChip : Option Device → ℕ → ℕ → Type 0
CountsChip None old new = Stays old new
CountsChip (Some TheVault) old new = Stays old new
CountsChip (Some TheChip) old new = Rises old new

-- which device failed, if any, and the counts of both
pub record CountsDevice (failed : Option Device) (old new : StoreAccount) : Type 0 where
  pub vault : CountsVault failed old.vault.faults new.vault.faults
  pub chip : CountsChip failed old.chip.faults new.chip.faults

-- the store stays, and no count of it rises but that of a device that failed
pub record IsOnlyRead (failed : Option Device) (old new : StoreAccount) : Type 0 where
  pub stays : StorageStays old new
  pub counts : CountsDevice failed old new

abbrev pub device_of : CommitFault → Device
device_of commit.Vault = TheVault
device_of commit.Chip = TheChip

-- which area of a storage is current: the first with the register's digest, and the second where
-- the register is that of a new machine
abbrev pub current_if : (is_new is_first : Bool) → Area
current_if true is_first = Second
current_if false true = First
current_if false false = Second

abbrev pub current_of : Storage → Area
current_of storage =
    current_if (bytes_eq storage.register no_digest)
    (bytes_eq (sha256 storage.first) storage.register)

-- this area is the current one of a store that tells its storage
abbrev pub IsPlace : Area → StoreAccount → Type 0
IsPlace area store = (storage : Storage) → Tells store storage → area ≡ current_of storage

-- what a commit does, in which a device may fail
abbrev pub act_of : Option Device → List Record → Act
act_of None records = Commits records
act_of (Some device) records = act_failed device records

-- and what is written after it, given what is where none fails
abbrev pub last_of : Option Device → Report → Report
last_of None last = last
last_of (Some device) last = unwritten device

-- records were committed, or not, and then a report answered
pub record ClosesStored (records : List Record) (last : Report) (status : Status)
    (before after : StoreAccount) (old new : SinkAccount) : Type 0 where
  pub failed : Option Device
  pub left : IsLeft (act_of failed records) before after
  pub counts : CountsDevice failed before after
  pub closed : AnswersReport (last_of failed last) status old new

-- the lines of a run were written, and then it was closed so
pub record EndsStored (run : Course) (status : Status) (before after : StoreAccount)
    (old new : SinkAccount) : Type 0 where
  pub mid : SinkAccount
  pub lines : Writes old mid (text_of run.told)
  pub closes : ClosesStored run.last.records (ended run) status before after mid new

-- what a run with a store comes to, once the store is opened
abbrev pub RunsStored :
    Course → Status → StoreAccount → StoreAccount → SinkAccount → SinkAccount → Type 0
RunsStored run status before after old new =
    (WantsMemory status old new × IsOnlyRead None before after) ⊎
    ((StopsWithin run status old new × IsOnlyRead None before after) ⊎
    EndsStored run status before after old new)

-- the store couldn't be read
pub record IsUnread (status : Status) (before after : StoreAccount) (old new : SinkAccount)
    : Type 0 where
  pub failed : Device
  pub read : IsOnlyRead (Some failed) before after
  pub closed : AnswersReport (unread failed) status old new

-- or it refuses the run
pub record IsRefused (status : Status) (before after : StoreAccount) (old new : SinkAccount)
    : Type 0 where
  pub line : List ℕ
  pub refuses : (storage : Storage) → Tells before storage → records_in storage ≡ Err line
  pub read : IsOnlyRead None before after
  pub closed : AnswersReport (bad_store line) status old new

-- or it was opened to these records
pub record IsOpened (order : RunOrder) (inputs : Inputs) (status : Status)
    (before after : StoreAccount) (old new : SinkAccount) : Type 0 where
  pub records : List Record
  pub finds : (storage : Storage) → Tells before storage → records_in storage ≡ Ok records
  pub runs : RunsStored (course_of (start_with order inputs records)) status before after old new

-- what a run with a store comes to, once its inputs are read
abbrev pub OpensAndRuns :
    RunOrder → Inputs → Status → StoreAccount → StoreAccount → SinkAccount → SinkAccount → Type 0
OpensAndRuns order inputs status before after old new =
    (WantsMemory status old new × IsOnlyRead None before after) ⊎
    (IsUnread status before after old new ⊎
    (IsRefused status before after old new ⊎ IsOpened order inputs status before after old new))

-- ---- the whole

-- the misses rise exactly where the report is of a missing file
abbrev pub CountsMiss : Status → ℕ → ℕ → Type 0
CountsMiss answer.NoFile old new = Rises old new
CountsMiss status old new = Stays old new

-- and the faults of each device exactly where it is of such a fault
abbrev pub CountsDeskFault : Status → ℕ → ℕ → Type 0
CountsDeskFault answer.DeskFault old new = Rises old new
CountsDeskFault status old new = Stays old new

abbrev pub CountsVaultFault : Status → ℕ → ℕ → Type 0
CountsVaultFault answer.VaultFault old new = Rises old new
CountsVaultFault status old new = Stays old new

abbrev pub CountsChipFault : Status → ℕ → ℕ → Type 0
CountsChipFault answer.ChipFault old new = Rises old new
CountsChipFault status old new = Stays old new

pub record Counts (status : Status) (old new : Outside) : Type 0 where
  pub missed : CountsMiss status old.desk.misses new.desk.misses
  pub desk : CountsDeskFault status old.desk.faults new.desk.faults
  pub vault : CountsVaultFault status old.store.vault.faults new.store.vault.faults
  pub chip : CountsChipFault status old.store.chip.faults new.store.chip.faults

-- what was due was answered, or the sink failed within
abbrev pub AnswersDue : Status → Due → Outside → Outside → Type 0
AnswersDue answer.SinkFault due old new = FailsWithin due old.store new.store old.sink new.sink
AnswersDue status due old new = IsAnswer status due old new

pub record WasDue (task : Task) (status : Status) (old new : Outside) : Type 0 where
  pub due : Due
  pub is : IsDue task old.desk old.store due
  pub counts : Counts due.last.status old new
  pub answered : AnswersDue status due old new

-- want of memory leaves all counts, the store and what is written
pub record LacksMemory (old new : Outside) : Type 0 where
  pub counts : CountsStay old new
  pub stays : StorageStays old.store new.store
  pub untouched : new.sink.written ≡ old.sink.written

abbrev pub IsStory : Status → Task → Outside → Outside → Type 0
IsStory answer.Memory task old new = LacksMemory old new
IsStory status task old new = WasDue task status old new
