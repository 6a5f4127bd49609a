-- What the program does: what words ask for, and what comes of it.
use Rattle.std.specs.Prelude.{ℕ, Bool, false, List, Option, Some, None}
use Rattle.bn_model.specs.CommandLines.{Gen, Order, Run, RunOrder, order_among, still_names}
use Rattle.bn_model.specs.Reporting.{Files}
use Rattle.bn_model.specs.Storing.{Storage}
use Rattle.bn_model.specs.WholeReports.{Report, report_of_gen, report_of_order, report_of_run}

-- ---- what words ask for

pub data Task : Type 0 where
  -- the words are no command line
  NoTask : Task
  -- the run of what is made of a number
  Generating : (number : ℕ) → Task
  Running : (order : RunOrder) → Task

abbrev pub task_by : Option Order → Task
task_by None = NoTask
task_by (Some (Gen number)) = Generating number
task_by (Some (Run order)) = Running order

-- what some words ask for, of a machine whose pages stay in their frames
unfoldable pub task_of : List (List ℕ) → Task
task_of words = task_by (order_among still_names words)

-- whether it opens the store, and commits it at the end
abbrev pub has_store : Task → Bool
has_store NoTask = false
has_store (Generating number) = false
has_store (Running order) = order.is_stored

abbrev pub uses_store : List (List ℕ) → Bool
uses_store words = has_store (task_of words)

-- ---- what it comes to

abbrev pub report_of_task : Task → Files → Storage → Report
report_of_task NoTask files storage = report_of_order None files storage
report_of_task (Generating number) files storage = report_of_gen number storage
report_of_task (Running order) files storage = report_of_run order files storage

-- the status, the text and the storage of a call with these words
unfoldable pub report_of : List (List ℕ) → Files → Storage → Report
report_of words files storage = report_of_task (task_of words) files storage
