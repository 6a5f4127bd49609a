-- A whole run: what its files and its store come to, which of them refuses it first, and else its
-- course.
use Rattle.std.specs.Prelude.{ℕ, ◌*◌, Bool, true, false, List, [], ◌++◌, codes, decimal, Option}
use Rattle.std.specs.Prelude.{Some, None, Result, Ok, Err}
use Rattle.bn_types.specs.declared.event.Event.{Event}
use Rattle.bn_types.specs.declared.finish.Finish.{Finish}
use Rattle.bn_types.specs.declared.finish.Finish.TheVariants.{Limit, Shutdown}
use Rattle.bn_types.specs.declared.image_fault.ImageFault.{ImageFault}
use Rattle.bn_types.specs.declared.record.Record.{Record}
use Rattle.bn_types.specs.declared.script_fault.ScriptFault.{ScriptFault}
use Rattle.bn_types.specs.declared.script_sort.ScriptSort.{ScriptSort}
use Rattle.bn_types.specs.declared.script_sort.ScriptSort.TheVariants as sort
use Rattle.bn_model.specs.CommandLines.{RunOrder}
use Rattle.bn_model.specs.Images as images
use Rattle.bn_model.specs.Opening.{Image, opening}
use Rattle.bn_model.specs.Reporting.{Files, fault_line}
use Rattle.bn_model.specs.Running.{Blind, Course, course}
use Rattle.bn_model.specs.Scripts.{Script, first_events, script_in, script_of}
use Rattle.bn_model.specs.State.{State}
use Rattle.bn_model.specs.Storing.{Storage, records_in}

-- ---- refusals

-- what refuses a run before its first event
pub data Refusal : Type 0 where
  -- a named file isn't there
  NoFile : Refusal
  BadImage : Refusal
  BadScript : Refusal
  BadStore : Refusal

-- why, and the line that says so
pub record Refused : Type 0 where
  pub refusal : Refusal
  pub line : List ℕ

abbrev pub refused : {A : Type 0} → Refusal → List ℕ → Result A Refused
refused refusal line = Err (record { refusal = refusal; line = line })

infixl 10 ◌>>=◌
abbrev pub ◌>>=◌ : {A B : Type 0} → Result A Refused → (A → Result B Refused) → Result B Refused
Ok value >>= next = next value
Err why >>= next = Err why

-- ---- the image

abbrev pub image_loaded : Result images.Image ImageFault → Result Image Refused
image_loaded (Ok image) = Ok (record { bytes = image.bytes; entry = image.entry })
image_loaded (Err fault) = refused BadImage (fault_line fault)

abbrev pub image_in : (size : ℕ) → Option (List ℕ) → Result Image Refused
image_in size None = refused NoFile (codes "missing image\n")
image_in size (Some file) = image_loaded (images.image_of size file)

-- ---- the script

abbrev pub script_word : ScriptSort → List ℕ
script_word sort.Word = codes "word"
script_word sort.Fields = codes "fields"
script_word sort.Number = codes "number"
script_word sort.Range = codes "range"
script_word sort.Long = codes "long"

-- the line of a faulty script: what is wrong, and in which line of it
unfoldable pub script_line : ScriptFault → List ℕ
script_line fault =
    codes "script " ++ script_word fault.sort ++ codes " " ++ decimal fault.line ++ codes "\n"

abbrev pub script_read : Result Script ScriptFault → Result Script Refused
script_read (Ok script) = Ok script
script_read (Err fault) = refused BadScript (script_line fault)

abbrev pub script_file : (harts : ℕ) → Option (List ℕ) → Result Script Refused
script_file harts None = refused NoFile (codes "missing script\n")
script_file harts (Some text) = script_read (script_in harts text)

-- without a script the harts take turns from the beginning
abbrev pub script_for : (harts : ℕ) → Option (List ℕ) → Files → Result Script Refused
script_for harts None files = Ok (script_of harts [])
script_for harts (Some name) files = script_file harts (files name)

-- ---- the store

abbrev pub records_found : Result (List Record) (List ℕ) → Result (List Record) Refused
records_found (Ok records) = Ok records
records_found (Err line) = refused BadStore line

abbrev pub records_for : (is_stored : Bool) → Storage → Result (List Record) Refused
records_for false storage = Ok []
records_for true storage = records_found (records_in storage)

-- ---- the course

-- the state in which a run begins, the events that may come, and the module that is blinded
pub record Start : Type 0 where
  pub state : State
  pub events : List Event
  pub blind : Option Blind

-- The start of a run. The first step that fails decides: the image's file, the image, the script's
-- file, the script, the store. Where pages are moved to other frames is no part of it.
unfoldable pub start_of : RunOrder → Files → Storage → Result Start Refused
start_of order files storage =
    image_in (4096 * order.ram_pages) (files order.image)
    >>= (λ image. script_for order.harts order.script files
    >>= (λ script. records_for order.is_stored storage
    >>= (λ records. Ok (record {
      state = opening order.ram_pages order.harts image records;
      events = first_events order.steps script;
      blind = order.blind;
    }))))

unfoldable pub course_of : Start → Course
course_of start = course start.blind start.state start.events

abbrev pub finish_if : (off : Bool) → Finish
finish_if true = Shutdown
finish_if false = Limit

-- a course ends with a shutdown, or else since its limit's events were made
abbrev pub finish_of : Course → Finish
finish_of run = finish_if run.last.off
