-- What a call has to write, where no write fails: the lines of its events, and then a last line; or
-- the summary of a generated run.
use Rattle.std.specs.Prelude.{◌≡◌, ◌≢◌, ℕ, ◌*◌, Bool, true, false, List, [], ◌++◌, codes, Option}
use Rattle.std.specs.Prelude.{Some}
use Rattle.std.specs.Prelude.{None, Ok, Err}
use Rattle.bn_types.specs.declared.record.Record.{Record}
use Rattle.bn_types.specs.declared.status.Status.TheVariants.{ChipFault, DeskFault, Store}
use Rattle.bn_types.specs.declared.status.Status.TheVariants.{VaultFault, Words}
use Rattle.bn_edge.specs.Accounts.{DeskAccount}
use Rattle.bn_edge.specs.Files.{file_named}
use Rattle.bn_model.specs.CommandLines.{RunOrder}
use Rattle.bn_model.specs.Generating.{made_of}
use Rattle.bn_model.specs.Opening.{Image}
use Rattle.bn_model.specs.Reporting.{Files, end_line}
use Rattle.bn_model.specs.Reporting as said
use Rattle.bn_model.specs.Running.{Course}
use Rattle.bn_model.specs.Spelling.{text_of}
use Rattle.bn_model.specs.Storing.{Storage, committed, records_in}
use Rattle.bn_model.specs.Summaries.{generated_start, summary}
use Rattle.bn_model.specs.WholeReports.{Report, finish_status, refusal_status}
use Rattle.bn_model.specs.WholeRuns.{Refused, course_of, finish_of, image_in, records_for}
use Rattle.bn_model.specs.WholeRuns.{script_for}
use Rattle.bn_model.specs.WholeRuns as whole
use Rattle.bn_front.specs.declared.named_file.NamedFile.{NamedFile}
use Rattle.bn_front.specs.declared.named_file.NamedFile.TheVariants as named
use Rattle.bn_front.specs.Tasks.{Generating, NoTask, Running, Task}
use Rattle.bn_front.specs.Starts.{Parts, start_from}
use Rattle.bn_front.specs.Stored.{Act, Commits, FailsInChip, FailsInVault, IsSeen, Leaves}
use Rattle.bn_front.specs.Stored.{StoreAccount, Tells}

-- ---- lines

-- the lines of the events; what is done to the store after them; and then the status and the last
-- line
pub record Due : Type 0 where
  pub lines : List ℕ
  pub act : Act
  pub last : said.Report

abbrev pub due_text : Due → List ℕ
due_text due = due.lines ++ due.last.text

-- one line, or one summary, and nothing else
abbrev pub only : said.Report → Due
only last = record { lines = []; act = Leaves; last = last }

abbrev pub storage_by : Act → Storage → Storage
storage_by Leaves storage = storage
storage_by (Commits records) storage = committed records storage
storage_by (FailsInVault records) storage = storage
storage_by (FailsInChip records) storage = storage

-- what is due as a report
abbrev pub reported : Due → Storage → Report
reported due storage = record {
  status = due.last.status;
  text = due_text due;
  storage = storage_by due.act storage;
}

-- ---- lines that stand alone

abbrev pub no_command : said.Report
no_command = record { status = Words; text = codes "words\n" }

abbrev pub bad_store : List ℕ → said.Report
bad_store line = record { status = Store; text = line }

-- that a named file isn't there
abbrev pub missing_line : NamedFile → List ℕ
missing_line named.Image = codes "missing image\n"
missing_line named.Script = codes "missing script\n"

-- that it couldn't be read
abbrev pub failed_line : NamedFile → List ℕ
failed_line named.Image = codes "desk image\n"
failed_line named.Script = codes "desk script\n"

abbrev pub desk_failed : NamedFile → said.Report
desk_failed file = record { status = DeskFault; text = failed_line file }

-- what the store is made of
pub data Device : Type 0 where
  TheVault : Device
  TheChip : Device

-- it couldn't be read
abbrev pub unread : Device → said.Report
unread TheVault = record { status = VaultFault; text = codes "vault read\n" }
unread TheChip = record { status = ChipFault; text = codes "chip read\n" }

-- it couldn't be written
abbrev pub unwritten : Device → said.Report
unwritten TheVault = record { status = VaultFault; text = codes "vault commit\n" }
unwritten TheChip = record { status = ChipFault; text = codes "chip commit\n" }

-- ---- the end of a run

-- the end line
abbrev pub ended : Course → said.Report
ended run = record {
  status = finish_status (finish_of run);
  text = end_line run.last (finish_of run);
}

-- a run with a store commits the last state's records, and then writes its end line
abbrev pub act_at_end : (is_stored : Bool) → List Record → Act
act_at_end false records = Leaves
act_at_end true records = Commits records

abbrev pub finished : (is_stored : Bool) → Course → Due
finished is_stored run = record {
  lines = text_of run.told;
  act = act_at_end is_stored run.last.records;
  last = ended run;
}

abbrev pub act_failed : Device → List Record → Act
act_failed TheVault records = FailsInVault records
act_failed TheChip records = FailsInChip records

-- where a commit fails, a line says so in its place
abbrev pub unfinished : Device → Course → Due
unfinished device run = record {
  lines = text_of run.told;
  act = act_failed device run.last.records;
  last = unwritten device;
}

-- ---- a generated run

-- the run of what is made of a number
abbrev pub generated_run : (number : ℕ) → Course
generated_run number = course_of (generated_start (made_of number))

-- its summary
abbrev pub generated : (number : ℕ) → said.Report
generated number = record {
  status = finish_status (finish_of (generated_run number));
  text = summary number (generated_run number);
}

-- ---- how far a call comes

-- the files are those that a desk tells, where it tells them
abbrev pub AreTold : Option (List (List ℕ × List ℕ)) → Files → Type 0
AreTold None files = Unit {0}
AreTold (Some told) files = (name : List ℕ) → files name ≡ file_named told name

-- the call comes to reading the script: the image is there and accepted, and its file is another
pub record ComesToScript (order : RunOrder) (desk : DeskAccount) : Type 0 where
  pub files : Files
  pub agrees : AreTold desk.files files
  pub image : Image
  pub accepted : image_in (4096 * order.ram_pages) (files order.image) ≡ Ok image
  pub name : List ℕ
  pub named : order.script ≡ Some name
  pub other : name ≢ order.image

-- it always comes to reading the image
abbrev pub ComesTo : NamedFile → RunOrder → DeskAccount → Type 0
ComesTo named.Image order desk = Unit {0}
ComesTo named.Script order desk = ComesToScript order desk

-- there is a run, which comes to reading the file
pub record ReadsFile (task : Task) (file : NamedFile) (desk : DeskAccount) : Type 0 where
  pub order : RunOrder
  pub runs : task ≡ Running order
  pub comes : ComesTo file order desk

-- image and script of a run are there and accepted
pub record AreAccepted (order : RunOrder) (desk : DeskAccount) : Type 0 where
  pub files : Files
  pub agrees : AreTold desk.files files
  pub parts : Parts
  pub loaded : image_in (4096 * order.ram_pages) (files order.image) ≡ Ok parts.image
  pub read : script_for order.harts order.script files ≡ Ok parts.script

-- there is a run with a store, which comes to opening it
pub record OpensStore (task : Task) (desk : DeskAccount) : Type 0 where
  pub order : RunOrder
  pub runs : task ≡ Running order
  pub stored : order.is_stored ≡ true
  pub accepted : AreAccepted order desk

-- there is a run that begins, with the records of the storage that is told
pub record Begins (task : Task) (desk : DeskAccount) (store : StoreAccount) : Type 0 where
  pub order : RunOrder
  pub runs : task ≡ Running order
  pub accepted : AreAccepted order desk
  pub records : List Record
  pub finds :
      (storage : Storage) → IsSeen order.is_stored store storage →
      records_for order.is_stored storage ≡ Ok records

-- its course
abbrev pub course_begun : {task : Task} {desk : DeskAccount} {store : StoreAccount}
    → Begins task desk store → Course
course_begun run = course_of (start_from run.order run.accepted.parts run.records)

-- ---- what is due

-- the line of what refuses a task for its files alone, before a store is opened
pub record RefusesRun (order : RunOrder) (files : Files) (last : said.Report) : Type 0 where
  pub why : Refused
  pub refused : (storage : Storage) → whole.start_of order files storage ≡ Err why
  pub is : last ≡ record { status = refusal_status why.refusal; text = why.line }

-- what is answered alone: no command, a generated run's summary, or what refuses a run
abbrev pub StandsAlone : Task → Files → said.Report → Type 0
StandsAlone NoTask files last = last ≡ no_command
StandsAlone (Generating number) files last = last ≡ generated number
StandsAlone (Running order) files last = RefusesRun order files last

pub record IsOfFiles (task : Task) (desk : DeskAccount) (due : Due) : Type 0 where
  pub files : Files
  pub agrees : AreTold desk.files files
  pub last : said.Report
  pub alone : StandsAlone task files last
  pub is : due ≡ only last

-- the line of what the store refuses
pub record IsOfStore (task : Task) (desk : DeskAccount) (store : StoreAccount) (due : Due)
    : Type 0 where
  pub opens : OpensStore task desk
  pub line : List ℕ
  pub refuses : (storage : Storage) → Tells store storage → records_in storage ≡ Err line
  pub is : due ≡ only (bad_store line)

-- a run's lines and its end line
pub record IsOfRun (task : Task) (desk : DeskAccount) (store : StoreAccount) (due : Due)
    : Type 0 where
  pub run : Begins task desk store
  pub is : due ≡ finished run.order.is_stored (course_begun run)

-- that a file couldn't be read
pub record IsOfDesk (task : Task) (desk : DeskAccount) (due : Due) : Type 0 where
  pub file : NamedFile
  pub reads : ReadsFile task file desk
  pub is : due ≡ only (desk_failed file)

-- that the store couldn't be read
pub record IsOfOpening (device : Device) (task : Task) (desk : DeskAccount) (due : Due)
    : Type 0 where
  pub opens : OpensStore task desk
  pub is : due ≡ only (unread device)

-- a run's lines, and that the store couldn't be written
pub record IsOfCommit (device : Device) (task : Task) (desk : DeskAccount) (store : StoreAccount)
    (due : Due) : Type 0 where
  pub run : Begins task desk store
  pub stored : run.order.is_stored ≡ true
  pub is : due ≡ unfinished device (course_begun run)

pub data IsDue (task : Task) (desk : DeskAccount) (store : StoreAccount) (due : Due) : Type 0 where
  OfFiles : IsOfFiles task desk due → IsDue task desk store due
  OfStore : IsOfStore task desk store due → IsDue task desk store due
  OfRun : IsOfRun task desk store due → IsDue task desk store due
  OfDesk : IsOfDesk task desk due → IsDue task desk store due
  OfOpening : (device : Device) → IsOfOpening device task desk due → IsDue task desk store due
  OfCommit : (device : Device) → IsOfCommit device task desk store due → IsDue task desk store due
