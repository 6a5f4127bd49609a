-- The run of a call, by its words, the files and the storage: where it begins, and which events it
-- makes in which states.
use Rattle.std.specs.Prelude.{◌≡◌, ℕ, ◌^◌, ◌<◌, List, Option, Some, None, Result, Ok, Err}
use Rattle.std.specs.List.{All}
use Rattle.bn_types.specs.declared.event.Event.{Event}
use Rattle.bn_types.specs.declared.record.Record.{Record}
use Rattle.bn_model.specs.CommandLines.{RunOrder}
use Rattle.bn_model.specs.Opening.{Image, opening}
use Rattle.bn_model.specs.Reporting.{Files}
use Rattle.bn_model.specs.Running.{Reaches}
use Rattle.bn_model.specs.Scripts.{Script, first_events}
use Rattle.bn_model.specs.State.{State}
use Rattle.bn_model.specs.Storing.{Storage}
use Rattle.bn_model.specs.WholeRuns.{Refused, Start}
use Rattle.bn_model.specs.WholeRuns as whole
use Rattle.bn_front.specs.Tasks.{Generating, NoTask, Running, Task, task_of}

-- ---- where it begins

-- what the files of a run come to
pub record Parts : Type 0 where
  pub image : Image
  pub script : Script

-- where a run begins that has these parts and records
abbrev pub start_from : RunOrder → Parts → List Record → Start
start_from order parts records = record {
  state = opening order.ram_pages order.harts parts.image records;
  events = first_events order.steps parts.script;
  blind = order.blind;
}

abbrev pub if_begun : Result Start Refused → Option Start
if_begun (Ok start) = Some start
if_begun (Err why) = None

-- Runs of `run` alone begin so, and what is told of starts is told of them: what is made of a
-- number is run by its number alone, over no files and no storage.
abbrev pub start_of_task : Task → Files → Storage → Option Start
start_of_task NoTask files storage = None
start_of_task (Generating number) files storage = None
start_of_task (Running order) files storage = if_begun (whole.start_of order files storage)

-- the start of the run of these words over these files and this storage, None where there is no run
unfoldable pub start_of : List (List ℕ) → Files → Storage → Option Start
start_of words files storage = start_of_task (task_of words) files storage

-- ---- what it makes

abbrev pub MakesFrom : Option Start → State → Event → Type 0
MakesFrom None s event = ⊥
MakesFrom (Some start) s event = Reaches start.blind start.state start.events s event

-- the run of these words over these files and this storage makes the event in this state
unfoldable pub RunMakes : List (List ℕ) → Files → Storage → State → Event → Type 0
RunMakes words files storage s event = MakesFrom (start_of words files storage) s event

-- ---- bytes

abbrev pub AreBytes : List ℕ → Type 0
AreBytes text = All (λ (byte : ℕ). byte < 2 ^ 8) text

-- each file is a text of bytes
abbrev pub HoldBytes : Files → Type 0
HoldBytes files = (name file : List ℕ) → files name ≡ Some file → AreBytes file

-- and so are both areas
abbrev pub StoreBytes : Storage → Type 0
StoreBytes storage = AreBytes storage.first × AreBytes storage.second
