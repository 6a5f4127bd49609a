-- What the whole program does, where no device fails: its status, the text that it writes, and
-- what the store holds afterwards, from its words, the files and the store.
use Rattle.std.specs.Prelude.{ℕ, Bool, true, false, List, ◌++◌, codes, Option, Some, None, Result}
use Rattle.std.specs.Prelude.{Ok, Err}
use Rattle.bn_types.specs.declared.finish.Finish.{Finish}
use Rattle.bn_types.specs.declared.finish.Finish.TheVariants as finish
use Rattle.bn_types.specs.declared.record.Record.{Record}
use Rattle.bn_types.specs.declared.status.Status.{Status}
use Rattle.bn_types.specs.declared.status.Status.TheVariants as status
use Rattle.bn_model.specs.CommandLines.{Gen, Name, Order, Run, RunOrder, all_names, order_among}
use Rattle.bn_model.specs.Reporting.{Files, end_line}
use Rattle.bn_model.specs.Running.{Course}
use Rattle.bn_model.specs.Generating.{made_of}
use Rattle.bn_model.specs.Spelling.{text_of}
use Rattle.bn_model.specs.Storing.{Storage, committed}
use Rattle.bn_model.specs.Summaries.{generated_start, summary}
use Rattle.bn_model.specs.WholeRuns.{BadImage, BadScript, BadStore, NoFile, Refusal, Refused}
use Rattle.bn_model.specs.WholeRuns.{Start, course_of, finish_of, start_of}

-- how a call ends, what it writes, and the store as it leaves it
pub record Report : Type 0 where
  pub status : Status
  pub text : List ℕ
  pub storage : Storage

-- ---- a run

abbrev pub refusal_status : Refusal → Status
refusal_status NoFile = status.NoFile
refusal_status BadImage = status.Image
refusal_status BadScript = status.Script
refusal_status BadStore = status.Store

abbrev pub finish_status : Finish → Status
finish_status finish.Shutdown = status.Ended
finish_status finish.Limit = status.Limit

-- the last state's records are committed before the end line is written
abbrev pub storage_after : (is_stored : Bool) → List Record → Storage → Storage
storage_after false records storage = storage
storage_after true records storage = committed records storage

-- the lines of the course, then the end line
abbrev pub report_of_course : (is_stored : Bool) → Course → Storage → Report
report_of_course is_stored run storage = record {
  status = finish_status (finish_of run);
  text = text_of run.told ++ end_line run.last (finish_of run);
  storage = storage_after is_stored run.last.records storage;
}

abbrev pub report_of_start : (is_stored : Bool) → Result Start Refused → Storage → Report
report_of_start is_stored (Err why) storage =
    record { status = refusal_status why.refusal; text = why.line; storage = storage }
report_of_start is_stored (Ok start) storage =
    report_of_course is_stored (course_of start) storage

unfoldable pub report_of_run : RunOrder → Files → Storage → Report
report_of_run order files storage =
    report_of_start order.is_stored (start_of order files storage) storage

-- ---- a generated run

-- it opens no store and commits nothing
abbrev pub report_of_generated : ℕ → Course → Storage → Report
report_of_generated number run storage = record {
  status = finish_status (finish_of run);
  text = summary number run;
  storage = storage;
}

unfoldable pub report_of_gen : ℕ → Storage → Report
report_of_gen number storage =
    report_of_generated number (course_of (generated_start (made_of number))) storage

-- ---- the whole

abbrev pub report_of_order : Option Order → Files → Storage → Report
report_of_order None files storage =
    record { status = status.Words; text = codes "words\n"; storage = storage }
report_of_order (Some (Run order)) files storage = report_of_run order files storage
report_of_order (Some (Gen number)) files storage = report_of_gen number storage

-- what a call with these words comes to, where `run` has these options
unfoldable pub report_among : (run_names : List Name) → List (List ℕ) → Files → Storage → Report
report_among run_names words files storage =
    report_of_order (order_among run_names words) files storage

-- what a call with these words comes to
unfoldable pub report_of : List (List ℕ) → Files → Storage → Report
report_of words files storage = report_among all_names words files storage
