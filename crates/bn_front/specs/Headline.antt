-- What the one public call of the program promises: of its words, its status, and what is known of
-- the outside before it and after it.
use Rattle.std.specs.Prelude.{◌≡◌, ◌≢◌, ◌≤◌, ℕ, suc, ◌⊎◌, Bool, true, false, List, [], ◌++◌, Some}
use Rattle.std.specs.Prelude.{None}
use Rattle.sha2.specs.Sha256.{sha256}
use Rattle.bn_types.specs.Numbers.{page_at}
use Rattle.bn_types.specs.declared.event.Event.{Event}
use Rattle.bn_types.specs.declared.record.Record.{Record}
use Rattle.bn_types.specs.declared.status.Status.{Status}
use Rattle.bn_types.specs.declared.status.Status.TheVariants as answer
use Rattle.bn_types.specs.declared.status.Status.TheVariants.{DeskFault, Memory, NoFile, SinkFault}
use Rattle.bn_types.specs.declared.status.Status.TheVariants.{ChipFault, VaultFault}
use Rattle.bn_edge.specs.Accounts.{ChipAccount, DeskAccount, SinkAccount, VaultAccount}
use Rattle.bn_edge.specs.Areas.{area_at}
use Rattle.bn_edge.specs.Counts.{CanCount, IsToldBy, Stays}
use Rattle.bn_edge.specs.Written.{Writes, WritesFront}
use Rattle.bn_edge.specs.declared.area.Area.{Area}
use Rattle.bn_model.specs.BlankingLaws.{HidesSecrets, RestsAfterEach, RestsBeforeEach}
use Rattle.bn_model.specs.Reopening.{no_digest}
use Rattle.bn_model.specs.Reporting.{Files}
use Rattle.bn_model.specs.Running.{Blind}
use Rattle.bn_model.specs.Soundness.{Has}
use Rattle.bn_model.specs.Spelling.{text_of}
use Rattle.bn_model.specs.State.{State, hart_at}
use Rattle.bn_model.specs.Stepping.{step}
use Rattle.bn_model.specs.StoredImages.{Stored, stored}
use Rattle.bn_model.specs.Storing.{Storage}
use Rattle.bn_model.specs.SwitchingLaws.{IsStart}
use Rattle.bn_model.specs.Touching.{Touch, touch}
use Rattle.bn_model.specs.TouchingLaws.{IsDeclared, IsGivenUp, IsStored, IsUnowned}
use Rattle.bn_model.specs.WholeReports.{Report}
use Rattle.bn_model.specs.WholeRuns.{Start, course_of}
use Rattle.bn_front.specs.declared.named_file.NamedFile.{NamedFile}
use Rattle.bn_front.specs.Tasks.{report_of, task_of, uses_store}
use Rattle.bn_front.specs.Due.{AreTold, Begins, Device, Due, IsDue, IsOfCommit, IsOfOpening}
use Rattle.bn_front.specs.Due.{ReadsFile, TheChip, TheVault, course_begun, due_text, failed_line}
use Rattle.bn_front.specs.Due.{missing_line}
use Rattle.bn_front.specs.Starts.{HoldBytes, RunMakes, StoreBytes, start_of}
use Rattle.bn_front.specs.Stored.{CrashesOpenAlike, IsCommitted, IsLeft, IsSeen, Keeps}
use Rattle.bn_front.specs.Stored.{StorageStays}
use Rattle.bn_front.specs.Stored.{StoreAccount, areas_of, store_of}

-- what is known of the outside
pub record Outside : Type 1 where
  pub desk : DeskAccount
  pub store : StoreAccount
  pub sink : SinkAccount

abbrev pub outside : DeskAccount → VaultAccount → ChipAccount → SinkAccount → Outside
outside desk vault chip sink =
    record { desk = desk; store = store_of vault chip; sink = sink }

-- ---- nothing fails

-- the count could rise, and didn't
abbrev pub IsQuiet : ℕ → ℕ → Type 0
IsQuiet old new = CanCount old × (new ≤ old)

-- no write failed
abbrev pub SinkWorks : Outside → Outside → Type 0
SinkWorks old new = IsQuiet old.sink.faults new.sink.faults

-- no call of the store failed, where it is used
abbrev pub StoreWorks : (has_store : Bool) → StoreAccount → StoreAccount → Type 0
StoreWorks false old new = Unit {0}
StoreWorks true old new =
    IsQuiet old.vault.faults new.vault.faults × IsQuiet old.chip.faults new.chip.faults

-- nothing failed at all
pub record AllWork (words : List (List ℕ)) (old new : Outside) : Type 0 where
  pub sink : SinkWorks old new
  pub desk : IsQuiet old.desk.faults new.desk.faults
  pub store : StoreWorks (uses_store words) old.store new.store

-- ---- the report

-- a report was answered and written; where vault and chip told the storage before, and a crash
-- would have left it, they tell the report's, and a crash would leave it
pub record IsAnswered (status : Status) (storage : Storage) (report : Report) (old new : Outside)
    : Type 0 where
  pub answers : status ≡ report.status
  pub written : Writes old.sink new.sink report.text
  pub left : Keeps old.store storage → Keeps new.store report.storage

-- so was the report of the words, for the files and the storage that are told
pub record WritesReport (words : List (List ℕ)) (status : Status) (old new : Outside) : Type 0 where
  pub files : Files
  pub agrees : AreTold old.desk.files files
  pub is :
      (storage : Storage) → IsSeen (uses_store words) old.store storage →
      IsAnswered status storage (report_of words files storage) old new

-- ---- what was due

-- what was due was answered and written whole, and the store is left so
pub record IsAnswer (status : Status) (due : Due) (old new : Outside) : Type 0 where
  pub said : due.last.status ≡ status
  pub written : Writes old.sink new.sink (due_text due)
  pub left : IsLeft due.act old.store new.store

pub record WritesDue (words : List (List ℕ)) (status : Status) (old new : Outside) : Type 0 where
  pub due : Due
  pub is : IsDue (task_of words) old.desk old.store due
  pub answered : IsAnswer status due old new

-- ---- faults

-- a line was written, of a file to which the call comes
pub record WritesLine (line : NamedFile → List ℕ) (words : List (List ℕ)) (old new : Outside)
    : Type 0 where
  pub file : NamedFile
  pub reads : ReadsFile (task_of words) file old.desk
  pub written : Writes old.sink new.sink (line file)

-- a device of the store failed, in opening it or in committing it
abbrev pub IsOfDevice : Device → List (List ℕ) → Outside → Due → Type 0
IsOfDevice device words old due =
    IsOfOpening device (task_of words) old.desk due ⊎
    IsOfCommit device (task_of words) old.desk old.store due

-- what is due then was written, and the store is left so
pub record WritesFault (device : Device) (words : List (List ℕ)) (old new : Outside) : Type 0 where
  pub due : Due
  pub is : IsOfDevice device words old due
  pub written : Writes old.sink new.sink (due_text due)
  pub left : IsLeft due.act old.store new.store

-- a proper front of the last line was written, after the others
pub record WritesFrontAfter (old new : SinkAccount) (lines last : List ℕ) : Type 0 where
  pub front : List ℕ
  pub rest : List ℕ
  pub split : front ++ rest ≡ last
  pub proper : rest ≢ []
  pub written : Writes old new (lines ++ front)

-- a line before the last one couldn't be written, and the store stays
pub record FailsBefore (due : Due) (before after : StoreAccount) (old new : SinkAccount)
    : Type 0 where
  pub front : WritesFront old new due.lines
  pub left : StorageStays before after

-- or the last one couldn't, after what is done to the store
pub record FailsInLast (due : Due) (before after : StoreAccount) (old new : SinkAccount)
    : Type 0 where
  pub front : WritesFrontAfter old new due.lines due.last.text
  pub left : IsLeft due.act before after

abbrev pub FailsWithin : Due → StoreAccount → StoreAccount → SinkAccount → SinkAccount → Type 0
FailsWithin due before after old new =
    FailsBefore due before after old new ⊎ FailsInLast due before after old new

-- a proper front of what was due was written
pub record WritesFrontOfDue (words : List (List ℕ)) (old new : Outside) : Type 0 where
  pub due : Due
  pub is : IsDue (task_of words) old.desk old.store due
  pub fails : FailsWithin due old.store new.store old.sink new.sink
  pub front : WritesFront old.sink new.sink (due_text due)

-- the answer of a device comes exactly where its count of faults rose, as long as it could
abbrev pub TellsVault : Status → StoreAccount → StoreAccount → Type 0
TellsVault status old new = IsToldBy (status ≡ VaultFault) old.vault.faults new.vault.faults

abbrev pub TellsChip : Status → StoreAccount → StoreAccount → Type 0
TellsChip status old new = IsToldBy (status ≡ ChipFault) old.chip.faults new.chip.faults

-- no count rose
pub record CountsStay (old new : Outside) : Type 0 where
  pub missed : Stays old.desk.misses new.desk.misses
  pub desk : Stays old.desk.faults new.desk.faults
  pub vault : Stays old.store.vault.faults new.store.vault.faults
  pub chip : Stays old.store.chip.faults new.store.chip.faults

-- ---- storage

-- the statuses of calls that end before a run does
abbrev pub IsBeforeRun : Status → Type 0
IsBeforeRun answer.Ended = ⊥
IsBeforeRun answer.Limit = ⊥
IsBeforeRun answer.SinkFault = ⊥
IsBeforeRun answer.VaultFault = ⊥
IsBeforeRun answer.ChipFault = ⊥
IsBeforeRun status = Unit {0}

-- the statuses of runs that end
abbrev pub EndsRun : Status → Type 0
EndsRun answer.Ended = Unit {0}
EndsRun answer.Limit = Unit {0}
EndsRun status = ⊥

-- the records of a run's last state were committed
pub record CommitsRun (words : List (List ℕ)) (old new : Outside) : Type 0 where
  pub run : Begins (task_of words) old.desk old.store
  pub committed : IsCommitted (course_begun run).last.records old.store new.store

-- an area has the register's digest and spells these records
pub record IsSpelled (storage : Storage) (records : List Record) : Type 0 where
  pub area : Area
  pub digest : sha256 (area_at area (areas_of storage)) ≡ storage.register
  pub spelled : stored (area_at area (areas_of storage)) ≡ Stored records

-- the records of a new machine, whose register is zeros, or of an area with the register's digest
abbrev pub StandUnder : Storage → List Record → Type 0
StandUnder storage records =
    ((storage.register ≡ no_digest) × (records ≡ [])) ⊎ IsSpelled storage records

-- a run opens its store to such records, and has none without a store
abbrev pub OpensTo : (has_store : Bool) → Storage → List Record → Type 0
OpensTo false storage records = records ≡ []
OpensTo true storage records = StandUnder storage records

-- so does the run of these words, whatever files and storage one supposes
abbrev pub OpensUnderRegister : List (List ℕ) → Type 0
OpensUnderRegister words =
    (files : Files) (storage : Storage) (start : Start) →
    start_of words files storage ≡ Some start →
    OpensTo (uses_store words) storage start.state.records

-- ---- what a run does

-- the event touches pages that have no owners, or that the module declares which touches them, at
-- that virtual page and with that right; and it changes no pages but those that it stores to and
-- those of modules that it removes
pub record IsAdmitted (s : State) (event : Event) : Type 0 where
  pub touches :
      (touched : Touch) → Has touched (touch s event) →
      IsUnowned s touched.page.0 ⊎ IsDeclared s touched
  pub changes :
      (page : ℕ) → (page_at (step s event).pages page ≡ page_at s.pages page) ⊎
      (IsStored (touch s event) page ⊎ IsGivenUp s.rows (step s event).rows page)

-- where a hart comes to run a module in the event, the module starts at one of its entries, as it
-- was stopped, or back from the module that it called
abbrev pub StartsModules : State → Event → Type 0
StartsModules s event =
    (h m : ℕ) → (hart_at s h).current.0 ≢ suc m →
    (hart_at (step s event) h).current.0 ≡ suc m →
    IsStart s (suc m) (hart_at s h) (hart_at (step s event) h)

-- the words order the run that begins so, and the other words the same run with a module's secrets
-- zeroed before an event
pub record AreBlinded (words others : List (List ℕ)) (files : Files) (storage : Storage)
    (start : Start) (blind : Blind) : Type 0 where
  pub runs : start_of words files storage ≡ Some start
  pub plain : start.blind ≡ None
  pub blinded : start_of others files storage ≡ Some (record start { blind = Some blind })

-- two texts that begin with the same
pub record BeginWith (front one other : List ℕ) : Type 0 where
  pub rest : List ℕ
  pub rest_other : List ℕ
  pub is : one ≡ front ++ rest
  pub is_other : other ≡ front ++ rest_other

-- Two runs, of which the second differs by a module's secrets alone, from an event on. Where the
-- module rests before each event from there on, so that at most the last of them starts it, both
-- write the same lines; where it rests after each of them too, both have the same status and write
-- the same.
pub record WriteAlike (one other : Report) (start : Start) (blind : Blind) : Type 0 where
  pub lines :
      RestsBeforeEach blind.blinded.0 blind.event start.state start.events →
      BeginWith (text_of (course_of start).told) one.text other.text
  pub whole :
      RestsBeforeEach blind.blinded.0 blind.event start.state start.events →
      RestsAfterEach blind.blinded.0 blind.event start.state start.events →
      (one.status ≡ other.status) × (one.text ≡ other.text)

-- ---- in the run of these words, whatever files and storage one supposes

-- each event is so
abbrev pub TouchesAdmitted : List (List ℕ) → Type 0
TouchesAdmitted words =
    (files : Files) (storage : Storage) (s : State) (event : Event) →
    RunMakes words files storage s event → IsAdmitted s event

-- and modules start so, where files and areas are texts of bytes
abbrev pub StartsAllModules : List (List ℕ) → Type 0
StartsAllModules words =
    (files : Files) (storage : Storage) (s : State) (event : Event) →
    HoldBytes files → StoreBytes storage → RunMakes words files storage s event →
    StartsModules s event

-- nothing is shown of a module's secrets while it rests
abbrev pub HidesAtRest : List (List ℕ) → Type 0
HidesAtRest words =
    (files : Files) (storage : Storage) (start : Start) →
    HoldBytes files → StoreBytes storage → start_of words files storage ≡ Some start →
    HidesSecrets start.blind start.state start.events

-- so other words that zero them, and order the same else, write alike
abbrev pub WritesAlike : List (List ℕ) → Type 0
WritesAlike words =
    (files : Files) (storage : Storage) (start : Start) (others : List (List ℕ)) (blind : Blind) →
    HoldBytes files → StoreBytes storage → AreBlinded words others files storage start blind →
    WriteAlike (report_of words files storage) (report_of others files storage) start blind

pub record Promise (words : List (List ℕ)) (status : Status) (old new : Outside) : Type 0 where
  -- where no count of faults rose, the flat machine's report is written, or memory ran out
  pub exact : AllWork words old new → status ≢ Memory → WritesReport words status old new
  -- whatever vault, chip and desk tell or not, what was due is written, as far as the sink works
  pub whole : status ≢ Memory → status ≢ SinkFault → WritesDue words status old new
  -- when each fault comes
  pub sink_fault : IsToldBy (status ≡ SinkFault) old.sink.faults new.sink.faults
  pub no_file : SinkWorks old new → IsToldBy (status ≡ NoFile) old.desk.misses new.desk.misses
  pub desk_fault : SinkWorks old new → IsToldBy (status ≡ DeskFault) old.desk.faults new.desk.faults
  pub vault_fault : SinkWorks old new → TellsVault status old.store new.store
  pub chip_fault : SinkWorks old new → TellsChip status old.store new.store
  -- what each of them leaves
  pub front : status ≡ SinkFault → WritesFrontOfDue words old new
  pub missing_line : status ≡ NoFile → WritesLine missing_line words old new
  pub desk_line : status ≡ DeskFault → WritesLine failed_line words old new
  pub vault_line : status ≡ VaultFault → WritesFault TheVault words old new
  pub chip_line : status ≡ ChipFault → WritesFault TheChip words old new
  pub untouched : status ≡ Memory → new.sink.written ≡ old.sink.written
  pub uncounted : status ≡ Memory → CountsStay old new
  -- what stands stored: as before where the call ends before a run, with the last state's records
  -- after one, and nothing else at any crash since the call began
  pub kept : IsBeforeRun status → StorageStays old.store new.store
  pub committed : uses_store words ≡ true → EndsRun status → CommitsRun words old new
  pub any_moment : CrashesOpenAlike old.store new.store
  -- to which records its store opens
  pub opened : OpensUnderRegister words
  -- who touches the guest's pages in a run, and which of them change
  pub touched : TouchesAdmitted words
  -- how modules start in it
  pub started : StartsAllModules words
  -- that it shows nothing of a module's private pages and saved registers while the module rests
  pub zeroed : HidesAtRest words
  -- and so zeroing them changes nothing of what is written until the module runs
  pub alike : WritesAlike words
