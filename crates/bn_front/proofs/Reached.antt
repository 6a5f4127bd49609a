-- The states that the run of a call reaches.
use Rattle.std.proofs.Common.{◌≡◌, ℕ, ◌-◌, ◌*◌, ◌≤◌, ◌⊎◌, List, [], ◌∷◌, ◌++◌, length}
use Rattle.std.proofs.Common.{replicate}
use Rattle.std.proofs.Common.{Bool, true, false, Option, Some, None, Result, Ok, Err, IfOk, inl}
use Rattle.std.proofs.Common.{inr}
use Rattle.std.proofs.Common.{refl, sym, ap, ap₂, subst, ◌∙◌, arith}
use Rattle.std.proofs.lemmas.List.{length-replicate}
use Rattle.std.proofs.lemmas.List.Elements.{All-nil}
use Rattle.bn_edge.specs.Areas.{area_at}
use Rattle.bn_edge.specs.declared.area.Area.{Area}
use Rattle.bn_edge.specs.declared.area.Area.TheVariants.{First, Second}
use Rattle.bn_types.specs.declared.event.Event.{Event}
use Rattle.bn_types.specs.declared.image_fault.ImageFault.{ImageFault}
use Rattle.bn_types.specs.declared.line.Line.{Line}
use Rattle.bn_types.specs.declared.record.Record.{Record}
use Rattle.bn_types.specs.declared.script_fault.ScriptFault.{ScriptFault}
use Rattle.bn_model.specs.BlankingLaws.{AllFit, HidesSecrets, after}
use Rattle.bn_model.specs.CommandLines.{RunOrder}
use Rattle.bn_model.specs.Images as images
use Rattle.bn_model.specs.Images.{image_of}
use Rattle.bn_model.specs.Opening.{Image, opening}
use Rattle.bn_model.specs.Records.{AreRecords}
use Rattle.bn_model.specs.Reporting.{Files}
use Rattle.bn_model.specs.Reporting as said
use Rattle.bn_model.specs.Running.{Blind, Course, IsNext, Reaches, course, state_before}
use Rattle.bn_model.specs.Scripts.{IsOrderly, Script, script_in, script_of}
use Rattle.bn_model.specs.Soundness.{IsPc, IsSound}
use Rattle.bn_model.specs.Spelling.{text_of}
use Rattle.bn_model.specs.State.{State, resting_hart}
use Rattle.bn_model.specs.Stepping.{Fits, step}
use Rattle.bn_model.specs.Storing.{Storage}
use Rattle.bn_model.specs.WholeReports.{Report}
use Rattle.bn_model.specs.WholeRuns as whole
use Rattle.bn_model.specs.WholeRuns.{Refused, Start, image_in, image_loaded, records_for}
use Rattle.bn_model.specs.WholeRuns.{script_file, script_for, script_read}
use Rattle.bn_model.proofs.BeforeLemmas.{sound-before}
use Rattle.bn_model.proofs.ScriptLemmas.{first-events-fit, no-commands-orderly, script-orderly}
use Rattle.bn_model.proofs.SoundKept.{sound-kept}
use Rattle.bn_model.proofs.SoundOpening.{opening-sound}
use Rattle.bn_model.proofs.UnseenLemmas.{unseen}
use Rattle.bn_model.proofs.ZeroingLemmas.{hides-in-run}
use Rattle.bn_front.specs.Tasks.{Generating, NoTask, Running, Task, has_store, report_of}
use Rattle.bn_front.specs.Tasks.{report_of_task, task_of, uses_store}
use Rattle.bn_front.specs.Due.{ended}
use Rattle.bn_front.specs.Headline.{AreBlinded, OpensTo, StandUnder, WriteAlike}
use Rattle.bn_front.specs.Starts.{AreBytes, HoldBytes, MakesFrom, RunMakes, StoreBytes, if_begun}
use Rattle.bn_front.specs.Starts.{start_of, start_of_task}
use Rattle.bn_front.specs.Stored.{areas_of}
use Rattle.bn_front.proofs.Beginnings.{IsBegun, parts_read, start_parts}
use Rattle.bn_front.proofs.Courses.{closing-ended}
use Rattle.bn_front.proofs.ImageLemmas.{HasBytes, IsWhole, image_bytes, image_whole}
use Rattle.bn_front.proofs.OrderLemmas.{IsSized, run_is_sized}
use Rattle.bn_front.proofs.ScriptFiles.{script_harts}
use Rattle.bn_front.proofs.StoreLemmas.{found-in, opens_to, run_reported, stored-good}

-- ---- the image

record IsLoaded (size : ℕ) (image : Image) : Type 0 where
  long : length image.bytes ≡ size
  bytes : AreBytes image.bytes
  entry : IsPc image.entry

loaded : (size : ℕ) (found : Option (List ℕ)) (image : Image) → size ≤ 16777216
    → ((file : List ℕ) → found ≡ Some file → AreBytes file)
    → image_in size found ≡ Ok image → IsLoaded size image
loaded size None image few bytes e = absurd cc
loaded size (Some file) image few bytes e =
    by_image (image_of size file) (image_whole size file few)
    (image_bytes size file (bytes file refl)) e
  where
    same : (one other : Image) → ◌≡◌ {A = Result Image Refused} (Ok one) (Ok other)
        → one ≡ other
    same one other is = cc

    by_image : (read : Result images.Image ImageFault) → IfOk read (IsWhole size)
        → IfOk read HasBytes → image_loaded read ≡ Ok image → IsLoaded size image
    by_image (Err fault) whole good is = absurd cc
    by_image (Ok all) whole good is =
        subst (IsLoaded size) (same (record { bytes = all.bytes; entry = all.entry }) image is)
        (record { long = whole.long; bytes = good; entry = whole.entry })

-- ---- the script

record IsScriptFor (harts : ℕ) (script : Script) : Type 0 where
  orderly : IsOrderly script
  same : script.harts ≡ harts

script_is : (harts : ℕ) (name : Option (List ℕ)) (files : Files) (script : Script) → 1 ≤ harts
    → harts ≤ 4 → script_for harts name files ≡ Ok script → IsScriptFor harts script
script_is harts None files script some few e =
    let same : script_of harts [] ≡ script = cc in
    subst (IsScriptFor harts) same
    (record { orderly = no-commands-orderly harts some few; same = refl })
script_is harts (Some name) files script some few e = by_file (files name) e where
  by_script : (text : List ℕ) (said : Result Script ScriptFault) → script_in harts text ≡ said
      → script_read said ≡ Ok script → IsScriptFor harts script
  by_script text (Err fault) is done = absurd cc
  by_script text (Ok other) is done =
      let same : other ≡ script = cc in
      let whole : script_in harts text ≡ Ok script = is ∙ ap (λ (s : Script). Ok s) same in
      record {
        orderly = script-orderly harts text script some few whole;
        same = script_harts harts text script whole;
      }

  by_file : (file : Option (List ℕ)) → script_file harts file ≡ Ok script
      → IsScriptFor harts script
  by_file None is = absurd cc
  by_file (Some text) is = by_script text (script_in harts text) refl is

-- ---- the run

-- what a sound state's run reaches is sound, and each event that it makes fits
reached : (blind : Option Blind) (events : List Event) (s before : State) (event : Event)
    → IsSound s → AllFit blind s events → Reaches blind s events before event
    → IsSound before × Fits before event
unfolding Reaches
reached blind [] s before event sound fit makes = absurd makes
reached blind (next ∷ events) s before event sound fit makes =
    by_place makes.1
    (λ later. reached blind events (after blind s next) before event
    (sound-kept here next fit.0 good) fit.1 later)
  where
    here : State
    here = state_before blind s

    good : IsSound here
    good = sound-before blind s sound

    by_place : IsNext blind s next before event ⊎ Reaches blind (step here next) events before event
        → (Reaches blind (step here next) events before event
        → IsSound before × Fits before event)
        → IsSound before × Fits before event
    by_place (inl is) deeper = (
      subst IsSound (sym is.stands) good,
      subst (λ (e : Event). Fits before e) (sym is.is)
          (subst (λ (t : State). Fits t next) (sym is.stands) fit.0),
    )
    by_place (inr later) deeper = deeper later

-- what is known of a run of a call over files and areas of bytes
record IsGood (start : Start) : Type 0 where
  sound : IsSound start.state
  begins : start.state.clock ≡ 0
  fit : (blind : Option Blind) → AllFit blind start.state start.events

no-records : AreRecords []
no-records = record { few = omega arith; ascending = tt; whole = All-nil _ }

clock-opening : (pages harts : ℕ) (image : Image) (records : List Record)
    → (opening pages harts image records).clock ≡ 0
unfolding opening
clock-opening pages harts image records = refl

-- a machine has as many harts as are ordered
pub harts_opening : (pages harts : ℕ) (image : Image) (records : List Record) → 1 ≤ harts
    → length (opening pages harts image records).harts ≡ harts
unfolding opening
harts_opening pages harts image records some =
    let rest : length (replicate (harts - 1) resting_hart) ≡ harts - 1 =
    length-replicate (harts - 1) resting_hart in
    omega arith

-- and the records that it is given
records-opening : (pages harts : ℕ) (image : Image) (records : List Record)
    → (opening pages harts image records).records ≡ records
unfolding opening
records-opening pages harts image records = refl

-- ---- the records

-- what areas of bytes open to are records
found-good : (is_stored : Bool) (storage : Storage) (records : List Record) → StoreBytes storage
    → records_for is_stored storage ≡ Ok records → AreRecords records
found-good false storage records bytes e =
    let none : [] ≡ records = cc in subst AreRecords none no-records
found-good true storage records bytes e =
    by_opening (opens_to storage records (found-in storage records e))
  where
    by_area : (area : Area) → AreBytes (area_at area (areas_of storage))
    by_area First = bytes.0
    by_area Second = bytes.1

    by_opening : StandUnder storage records → AreRecords records
    by_opening (inl new) = subst AreRecords (sym new.1) no-records
    by_opening (inr spelled) =
        stored-good (area_at spelled.area (areas_of storage)) records (by_area spelled.area)
        spelled.spelled

started : (order : RunOrder) (files : Files) (storage : Storage) (start : Start)
    → HoldBytes files → StoreBytes storage → IsSized order → IsBegun order files storage start
    → IsGood start
started order files storage start bytes areas sized begun =
    let most = sized.most_pages in
    let read = parts_read order files begun.parts begun.read in
    let good = loaded (4096 * order.ram_pages) (files order.image) begun.parts.image (omega arith)
    (bytes order.image) read.loaded in
    let script = script_is order.harts order.script files begun.parts.script sized.some_harts
    sized.few_harts read.read in
    subst IsGood (sym begun.is) (record {
      sound = opening-sound order.ram_pages order.harts begun.parts.image begun.records
          (record {
            some_harts = sized.some_harts;
            few_harts = sized.few_harts;
            some_pages = let least = sized.least_pages in omega arith;
            few_pages = most;
            size = good.long;
            bytes = good.bytes;
            entry = good.entry;
            good_order = found-good order.is_stored storage begun.records areas begun.found;
          });
      begins = clock-opening order.ram_pages order.harts begun.parts.image begun.records;
      fit = λ blind. first-events-fit blind order.steps begun.parts.script
          (opening order.ram_pages order.harts begun.parts.image begun.records) script.orderly
          (harts_opening order.ram_pages order.harts begun.parts.image begun.records
          sized.some_harts ∙ sym script.same);
    })

-- a run begins where its order does
record IsRun (words : List (List ℕ)) (files : Files) (storage : Storage) (start : Start) : Type 0
  where
    order : RunOrder
    runs : task_of words ≡ Running order
    starts : whole.start_of order files storage ≡ Ok start

run_of_words : (words : List (List ℕ)) (files : Files) (storage : Storage) (start : Start)
    → start_of words files storage ≡ Some start → IsRun words files storage start
unfolding start_of
run_of_words words files storage start e = by_task (task_of words) refl e where
  by_begun : (read : Result Start Refused) → if_begun read ≡ Some start → read ≡ Ok start
  by_begun (Err why) is = absurd cc
  by_begun (Ok other) is =
      let same : other ≡ start = cc in ap (λ (s : Start). Ok s) same

  by_task : (task : Task) → task_of words ≡ task → start_of_task task files storage ≡ Some start
      → IsRun words files storage start
  by_task NoTask is said = absurd cc
  by_task (Generating number) is said = absurd cc
  by_task (Running order) is said = record {
    order = order;
    runs = is;
    starts = by_begun (whole.start_of order files storage) said;
  }

good_start : (words : List (List ℕ)) (files : Files) (storage : Storage) (start : Start)
    → HoldBytes files → StoreBytes storage → start_of words files storage ≡ Some start
    → IsGood start
good_start words files storage start bytes areas e =
    let run = run_of_words words files storage start e in
    started run.order files storage start bytes areas (run_is_sized words run.order run.runs)
    (start_parts run.order files storage start run.starts)

-- the states that it reaches are sound, and each event that it makes fits
pub reached-sound : (words : List (List ℕ)) (files : Files) (storage : Storage) (s : State)
    (event : Event) → HoldBytes files → StoreBytes storage
    → RunMakes words files storage s event → IsSound s × Fits s event
unfolding RunMakes
reached-sound words files storage s event bytes areas makes =
    by_start (start_of words files storage) refl makes
  where
    by_start : (start : Option Start) → start_of words files storage ≡ start
        → MakesFrom start s event → IsSound s × Fits s event
    by_start None is makes = absurd makes
    by_start (Some start) is makes =
        let good = good_start words files storage start bytes areas is in
        reached start.blind start.events start.state s event good.sound (good.fit start.blind)
        makes

-- ---- to what it opens

pub opened-records : (words : List (List ℕ)) (files : Files) (storage : Storage) (start : Start)
    → start_of words files storage ≡ Some start
    → OpensTo (uses_store words) storage start.state.records
opened-records words files storage start e =
    let run = run_of_words words files storage start e in
    let begun = start_parts run.order files storage start run.starts in
    let records : start.state.records ≡ begun.records =
    ap (λ (s : Start). s.state.records) begun.is
    ∙ records-opening run.order.ram_pages run.order.harts begun.parts.image begun.records in
    subst (λ (task : Task). OpensTo (has_store task) storage start.state.records) (sym run.runs)
    (subst (λ (rs : List Record). OpensTo run.order.is_stored storage rs) (sym records)
    (by_store run.order.is_stored begun.records begun.found))
  where
    by_store : (b : Bool) (records : List Record) → records_for b storage ≡ Ok records
        → OpensTo b storage records
    by_store false records found = let none : [] ≡ records = cc in sym none
    by_store true records found = opens_to storage records (found-in storage records found)

-- ---- what it doesn't show

pub hidden-secrets : (words : List (List ℕ)) (files : Files) (storage : Storage) (start : Start)
    → HoldBytes files → StoreBytes storage → start_of words files storage ≡ Some start
    → HidesSecrets start.blind start.state start.events
hidden-secrets words files storage start bytes areas is =
    let good = good_start words files storage start bytes areas is in
    (hides-in-run sound-kept start.blind start.state start.events good.sound
    (good.fit start.blind)).0

-- the report of a call that runs
report-of-start : (words : List (List ℕ)) (files : Files) (storage : Storage) (start : Start)
    → start_of words files storage ≡ Some start
    → (report_of words files storage).status ≡ (ended (whole.course_of start)).status
    × (report_of words files storage).text
    ≡ text_of (whole.course_of start).told ++ (ended (whole.course_of start)).text
unfolding report_of
report-of-start words files storage start e =
    let run = run_of_words words files storage start e in
    let is = ap (λ (task : Task). report_of_task task files storage) run.runs
    ∙ run_reported run.order files storage start run.starts in
    (ap (λ (r : Report). r.status) is, ap (λ (r : Report). r.text) is)

-- a course, and what closes it
course-is : (start : Start)
    → whole.course_of start ≡ course start.blind start.state start.events
unfolding whole.course_of
course-is start = refl

closed-by : (start : Start)
    → said.report_of_course (course start.blind start.state start.events)
    ≡ record {
      status = (ended (whole.course_of start)).status;
      text = text_of (whole.course_of start).told ++ (ended (whole.course_of start)).text;
    }
closed-by start =
    ap₂ (λ (run : Course) (close : said.Report). let r : said.Report = record close
    { text = text_of run.told ++ close.text } in r)
    (sym (course-is start))
    (closing-ended start.blind start.state start.events ∙ ap ended (sym (course-is start)))

pub written-alike : (words others : List (List ℕ)) (files : Files) (storage : Storage)
    (start : Start) (blind : Blind) → HoldBytes files → StoreBytes storage
    → AreBlinded words others files storage start blind
    → WriteAlike (report_of words files storage) (report_of others files storage) start blind
written-alike words others files storage start blind bytes areas both =
    let good = good_start words files storage start bytes areas both.runs in
    let other : Start = record start { blind = Some blind } in
    let plain : whole.course_of start ≡ course None start.state start.events =
    course-is start
    ∙ ap (λ (b : Option Blind). course b start.state start.events) both.plain in
    let one_is = report-of-start words files storage start both.runs in
    let other_is = report-of-start others files storage other both.blinded in
    let alike = unseen sound-kept blind start.state start.events
    (good.fit None) good.sound
    (let begins = good.begins in omega arith) in
    record {
      lines = λ before. record {
        rest = (ended (whole.course_of start)).text;
        rest_other = (ended (whole.course_of other)).text;
        is = one_is.1;
        is_other = other_is.1
            ∙ ap (λ (told : List Line).
            text_of told ++ (ended (whole.course_of other)).text)
            (ap (λ (c : Course). c.told) (course-is other) ∙ (alike before).0
            ∙ sym (ap (λ (c : Course). c.told) plain));
      };
      whole = λ before after.
          let same : said.report_of_course (course start.blind start.state start.events)
          ≡ said.report_of_course (course (Some blind) start.state start.events) =
          ap (λ (b : Option Blind).
          said.report_of_course (course b start.state start.events))
          both.plain ∙ sym ((alike before).1 after) in
          let is = sym (closed-by start) ∙ same ∙ closed-by other in (
            one_is.0 ∙ ap (λ (r : said.Report). r.status) is ∙ sym other_is.0,
            one_is.1 ∙ ap (λ (r : said.Report). r.text) is ∙ sym other_is.1,
          );
    }
