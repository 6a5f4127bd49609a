-- The story of a call, from what its parts answer.
use Rattle.std.proofs.Common.{◌≡◌, ◌≢◌, ℕ, inl, inr, Bool, true, false, List, [], ◌++◌, Option}
use Rattle.std.proofs.Common.{Some}
use Rattle.std.proofs.Common.{None, Ok, Err, option_map, refl, sym, ap, ap₂, subst, ◌∙◌}
use Rattle.bn_types.specs.declared.finish.Finish.{Finish}
use Rattle.bn_types.specs.declared.finish.Finish.TheVariants as finish
use Rattle.bn_types.specs.declared.mod_id.ModId.{ModId}
use Rattle.bn_types.specs.declared.record.Record.{Record}
use Rattle.bn_types.specs.declared.status.Status.{Status}
use Rattle.bn_types.specs.declared.status.Status.TheVariants as answer
use Rattle.bn_edge.specs.Accounts.{DeskAccount, SinkAccount}
use Rattle.bn_edge.specs.Counts.{Stays}
use Rattle.bn_edge.specs.Written.{Writes, WritesFront, appended}
use Rattle.bn_edge.proofs.Wrote.{appended-append, appended-nil}
use Rattle.bn_model.specs.CommandLines.{Order, RunOrder, order_among, still_names}
use Rattle.bn_model.specs.Reporting.{Files, Report}
use Rattle.bn_model.specs.Running.{Blind, Course, blind_at, course}
use Rattle.bn_model.specs.Scripts.{first_events}
use Rattle.bn_model.specs.Spelling.{text_of}
use Rattle.bn_model.specs.State.{State}
use Rattle.bn_model.specs.Storing.{Storage, records_in}
use Rattle.bn_model.specs.WholeReports.{finish_status}
use Rattle.bn_model.specs.WholeRuns.{course_of, finish_of, records_found, records_for}
use Rattle.bn_front.specs.declared.inputs.Inputs.{Inputs}
use Rattle.bn_front.specs.declared.refusal.Refusal.{Refusal}
use Rattle.bn_front.specs.declared.refusal.Refusal.TheVariants as refusal
use Rattle.bn_front.specs.declared.run_order.RunOrder as run_order
use Rattle.bn_front.specs.declared.words_error.WordsError.{WordsError}
use Rattle.bn_front.specs.declared.words_error.WordsError.TheVariants as error
use Rattle.bn_front.specs.Tasks.{Generating, NoTask, Running, Task, task_by, task_of}
use Rattle.bn_front.specs.Due.{AreAccepted, Begins, Device, Due, IsDue, OfCommit, OfDesk, OfFiles}
use Rattle.bn_front.specs.Due.{OfOpening}
use Rattle.bn_front.specs.Due.{OfRun, OfStore, OpensStore, StandsAlone, TheChip, TheVault}
use Rattle.bn_front.specs.Due.{bad_store}
use Rattle.bn_front.specs.Due.{ended, finished, no_command}
use Rattle.bn_front.specs.Due.{generated, only, unfinished, unread, unwritten}
use Rattle.bn_front.specs.Headline.{CountsStay, Outside}
use Rattle.bn_front.specs.Meant as meant
use Rattle.bn_front.specs.Meant.{blind_meant, order_meant, own_meant}
use Rattle.bn_front.specs.Reading.{ReadsRun, files_seen, parts_meant, start_with}
use Rattle.bn_front.specs.Stored.{IsLeft, IsSeen, StorageStays, StoreAccount, Tells}
use Rattle.bn_front.specs.Story.{AnswersRefusal, AnswersReport, AnswersWords}
use Rattle.bn_front.specs.Story.{Counts, CountsChipFault, CountsDeskFault, CountsDevice, CountsMiss}
use Rattle.bn_front.specs.Story.{CountsVaultFault, IsOnlyRead, IsStory}
use Rattle.bn_front.specs.Story.{OpensAndRuns, RunsGenerated, RunsPlainly, RunsStored, WantsMemory}
use Rattle.bn_front.specs.Story.{act_of, last_of}
use Rattle.bn_front.proofs.Beginnings.{parts_read, run_refused}
use Rattle.bn_front.proofs.Courses.{generated_by}
use Rattle.bn_front.proofs.Moments.{unchanged}
use Rattle.bn_front.proofs.Readings.{seen_told}

-- ---- words

-- what words ask for, by what they order
pub asked : (words : List (List ℕ)) (ordered : Option Order)
    → order_among still_names words ≡ ordered → task_by ordered ≡ task_of words
unfolding task_of
asked words ordered e = ap task_by (sym e)

-- ---- what is due is answered

after_lines : (old mid new : SinkAccount) (lines text : List ℕ) → Writes old mid lines
    → Writes mid new text → Writes old new (lines ++ text)
after_lines old mid new lines text e f =
    f ∙ ap (λ (o : _). appended o text) e ∙ appended-append old.written lines text

nothing : (sink : SinkAccount) → Writes sink sink []
nothing sink = sym (appended-nil sink.written)

module _ (task : Task) (old new : Outside) where
  -- the lines were written, the store left so, and then the last line was answered
  due_story : (status : Status) (due : Due) (mid : SinkAccount)
      → IsDue task old.desk old.store due → Counts due.last.status old new
      → Writes old.sink mid due.lines → IsLeft due.act old.store new.store
      → AnswersReport due.last status mid new.sink → IsStory status task old new
  due_story answer.Memory due mid is counts lines left a = absurd (a.0 refl)
  due_story answer.SinkFault due mid is counts lines left a = record {
    due = due;
    is = is;
    counts = counts;
    answered = inr (record {
      front = record {
        front = a.1.front;
        rest = a.1.rest;
        split = a.1.split;
        proper = a.1.proper;
        written = after_lines old.sink mid new.sink due.lines a.1.front lines a.1.written;
      };
      left = left;
    });
  }
  due_story status due mid is counts lines left a = record {
    due = due;
    is = is;
    counts = counts;
    answered = record {
      said = a.1.0;
      written = after_lines old.sink mid new.sink due.lines due.last.text lines a.1.1;
      left = left;
    };
  }

  -- one line was answered, and the store stays
  line_story : (status : Status) (last : Report) → IsDue task old.desk old.store (only last)
      → Counts last.status old new → StorageStays old.store new.store
      → AnswersReport last status old.sink new.sink → IsStory status task old new
  line_story status last is counts stays a =
      due_story status (only last) old.sink is counts (nothing old.sink) stays a

  -- memory ran out
  memory_story : (status : Status) → CountsStay old new → StorageStays old.store new.store
      → WantsMemory status old.sink new.sink → IsStory status task old new
  memory_story status counts stays wants =
      subst (λ (s : Status). IsStory s task old new) (sym wants.0)
      (record { counts = counts; stays = stays; untouched = wants.1 })

-- ---- vault and chip aren't called

abbrev around : DeskAccount → StoreAccount → SinkAccount → Outside
around desk store sink = record { desk = desk; store = store; sink = sink }

module _ (desk later : DeskAccount) (store : StoreAccount) (sink end : SinkAccount) where
  abbrev before : Outside
  before = around desk store sink

  abbrev after : Outside
  after = around later store end

  plain_counts : (status : Status) → CountsMiss status desk.misses later.misses
      → CountsDeskFault status desk.faults later.faults → status ≢ answer.VaultFault
      → status ≢ answer.ChipFault → Counts status before after
  plain_counts status missed failed vault chip = record {
    missed = missed;
    desk = failed;
    vault = vault_by status vault;
    chip = chip_by status chip;
  } where
    vault_by : (s : Status) → s ≢ answer.VaultFault
        → CountsVaultFault s store.vault.faults store.vault.faults
    vault_by answer.VaultFault ne = absurd (ne refl)
    vault_by s ne = λ can. refl

    chip_by : (s : Status) → s ≢ answer.ChipFault
        → CountsChipFault s store.chip.faults store.chip.faults
    chip_by answer.ChipFault ne = absurd (ne refl)
    chip_by s ne = λ can. refl

  -- a line that the files don't change
  files_story : (task : Task) (status : Status) (last : Report)
      → ((files : Files) → StandsAlone task files last) → last.status ≢ answer.NoFile
      → last.status ≢ answer.DeskFault → last.status ≢ answer.VaultFault
      → last.status ≢ answer.ChipFault → later ≡ desk
      → AnswersReport last status sink end → IsStory status task before after
  files_story task status last alone file fault vault chip same a =
      line_story task before after status last
      (OfFiles (record {
        files = files_seen desk.files [] None None;
        agrees = seen_told desk.files [] None None;
        last = last;
        alone = alone (files_seen desk.files [] None None);
        is = refl;
      }))
      (plain_counts last.status (miss_by last.status file) (fault_by last.status fault) vault chip)
      (unchanged store) a
    where
      miss_by : (s : Status) → s ≢ answer.NoFile → CountsMiss s desk.misses later.misses
      miss_by answer.NoFile ne = absurd (ne refl)
      miss_by s ne = λ can. ap (λ (d : DeskAccount). d.misses) same

      fault_by : (s : Status) → s ≢ answer.DeskFault → CountsDeskFault s desk.faults later.faults
      fault_by answer.DeskFault ne = absurd (ne refl)
      fault_by s ne = λ can. ap (λ (d : DeskAccount). d.faults) same

  no_memory : (task : Task) (status : Status) → Stays desk.misses later.misses
      → Stays desk.faults later.faults → WantsMemory status sink end
      → IsStory status task before after
  no_memory task status missed quiet wants =
      memory_story task before after status
      (record { missed = missed; desk = quiet; vault = λ can. refl; chip = λ can. refl })
      (unchanged store) wants

  -- ---- a generated run

  pub generated_story : (number : ℕ) (status : Status) → later ≡ desk
      → RunsGenerated number status sink end → IsStory status (Generating number) before after
  generated_story number status same (inl wants) =
      no_memory (Generating number) status (λ can. ap (λ (d : DeskAccount). d.misses) same)
      (λ can. ap (λ (d : DeskAccount). d.faults) same) wants
  generated_story number status same (inr a) =
      files_story (Generating number) status (generated number) (λ files. refl)
      (generated_by number (λ s. s ≢ answer.NoFile) (λ e. cc) (λ e. cc))
      (generated_by number (λ s. s ≢ answer.DeskFault) (λ e. cc) (λ e. cc))
      (generated_by number (λ s. s ≢ answer.VaultFault) (λ e. cc) (λ e. cc))
      (generated_by number (λ s. s ≢ answer.ChipFault) (λ e. cc) (λ e. cc)) same a

  -- ---- words

  -- the words weren't read
  pub words_story : (words : List (List ℕ)) (why : WordsError) (status : Status)
      → meant.Answers order_meant (order_among still_names words) (Err why) → later ≡ desk
      → AnswersWords why status sink end → IsStory status (task_of words) before after
  words_story words error.Words status refused same a =
      subst (λ (task : Task). IsStory status task before after) (asked words None refused)
      (files_story NoTask status no_command (λ files. refl) (λ e. cc) (λ e. cc) (λ e. cc)
      (λ e. cc) same a)
  words_story words error.Memory status wanted same a =
      no_memory (task_of words) status (λ can. ap (λ (d : DeskAccount). d.misses) same)
      (λ can. ap (λ (d : DeskAccount). d.faults) same) a

  -- ---- files

  module _ (order : RunOrder) where
    -- the files refused the run, or reading them failed
    pub refusal_story : (why : Refusal) (status : Status) → ReadsRun order (Err why) desk later
        → AnswersRefusal why status sink end → IsStory status (Running order) before after
    refusal_story (refusal.Missing file) status reads a =
        line_story (Running order) before after status _
        (OfFiles (record {
          files = reads.files;
          agrees = reads.agrees;
          last = _;
          alone = record {
            why = _;
            refused = λ storage. run_refused order reads.files storage _ reads.gives;
            is = refl;
          };
          is = refl;
        }))
        (record {
          missed = reads.missed;
          desk = reads.quiet;
          vault = λ can. refl;
          chip = λ can. refl;
        })
        (unchanged store) a
    refusal_story (refusal.Failed file) status fails a =
        line_story (Running order) before after status _
        (OfDesk (record {
          file = file;
          reads = record { order = order; runs = refl; comes = fails.comes };
          is = refl;
        }))
        (record {
          missed = fails.missed;
          desk = fails.rose;
          vault = λ can. refl;
          chip = λ can. refl;
        })
        (unchanged store) a
    refusal_story (refusal.Image fault) status reads a =
        line_story (Running order) before after status _
        (OfFiles (record {
          files = reads.files;
          agrees = reads.agrees;
          last = _;
          alone = record {
            why = _;
            refused = λ storage. run_refused order reads.files storage _ reads.gives;
            is = refl;
          };
          is = refl;
        }))
        (record {
          missed = reads.missed;
          desk = reads.quiet;
          vault = λ can. refl;
          chip = λ can. refl;
        })
        (unchanged store) a
    refusal_story (refusal.Script fault) status reads a =
        line_story (Running order) before after status _
        (OfFiles (record {
          files = reads.files;
          agrees = reads.agrees;
          last = _;
          alone = record {
            why = _;
            refused = λ storage. run_refused order reads.files storage _ reads.gives;
            is = refl;
          };
          is = refl;
        }))
        (record {
          missed = reads.missed;
          desk = reads.quiet;
          vault = λ can. refl;
          chip = λ can. refl;
        })
        (unchanged store) a
    refusal_story refusal.Memory status reads a =
        no_memory (Running order) status reads.missed reads.quiet a

-- ---- runs

-- the end line's status counts nothing
ended_counts : (run : Course) (old new : Outside) → CountsStay old new
    → Counts (ended run).status old new
ended_counts run old new stay = by_finish (finish_of run) where
  by_finish : (f : Finish) → Counts (finish_status f) old new
  by_finish finish.Shutdown = record {
    missed = stay.missed;
    desk = stay.desk;
    vault = stay.vault;
    chip = stay.chip;
  }
  by_finish finish.Limit = record {
    missed = stay.missed;
    desk = stay.desk;
    vault = stay.vault;
    chip = stay.chip;
  }

module _ (order : RunOrder) (inputs : Inputs) (old new : Outside)
    (reads : ReadsRun order (Ok inputs) old.desk new.desk) where
  abbrev accepted : AreAccepted order old.desk
  accepted =
      let read = parts_read order reads.files (parts_meant inputs) reads.gives in record {
        files = reads.files;
        agrees = reads.agrees;
        parts = parts_meant inputs;
        loaded = read.loaded;
        read = read.read;
      }

  -- the run begins with these records
  abbrev begins_with : (records : List Record)
      → ((storage : Storage) → IsSeen order.is_stored old.store storage
      → records_for order.is_stored storage ≡ Ok records)
      → Begins (Running order) old.desk old.store
  begins_with records finds = record {
    order = order;
    runs = refl;
    accepted = accepted;
    records = records;
    finds = finds;
  }

  -- its lines couldn't all be written
  stopped_story : (status : Status) (due : Due) → status ≡ answer.SinkFault
      → IsDue (Running order) old.desk old.store due → Counts due.last.status old new
      → WritesFront old.sink new.sink due.lines → StorageStays old.store new.store
      → IsStory status (Running order) old new
  stopped_story status due sink is counts front stays =
      subst (λ (s : Status). IsStory s (Running order) old new) (sym sink) (record {
        due = due;
        is = is;
        counts = counts;
        answered = inl (record { front = front; left = stays });
      })

  -- ---- with a store

  module _ (is_stored : order.is_stored ≡ true) where
    opens : OpensStore (Running order) old.desk
    opens = record { order = order; runs = refl; stored = is_stored; accepted = accepted }

    tells : (storage : Storage) → IsSeen order.is_stored old.store storage
        → Tells old.store storage
    tells storage seen = subst (λ (b : Bool). IsSeen b old.store storage) is_stored seen

    finds_for : (records : List Record)
        → ((storage : Storage) → Tells old.store storage → records_in storage ≡ Ok records)
        → (storage : Storage) → IsSeen order.is_stored old.store storage
        → records_for order.is_stored storage ≡ Ok records
    finds_for records finds storage seen =
        ap (λ (b : Bool). records_for b storage) is_stored
        ∙ ap records_found (finds storage (tells storage seen))

    read_counts : IsOnlyRead None old.store new.store → CountsStay old new
    read_counts read = record {
      missed = reads.missed;
      desk = reads.quiet;
      vault = read.counts.vault;
      chip = read.counts.chip;
    }

    unread_counts : (failed : Device) → CountsDevice (Some failed) old.store new.store
        → Counts (unread failed).status old new
    unread_counts TheVault counts = record {
      missed = reads.missed;
      desk = reads.quiet;
      vault = counts.vault;
      chip = counts.chip;
    }
    unread_counts TheChip counts = record {
      missed = reads.missed;
      desk = reads.quiet;
      vault = counts.vault;
      chip = counts.chip;
    }

    unwritten_counts : (failed : Device) → CountsDevice (Some failed) old.store new.store
        → Counts (unwritten failed).status old new
    unwritten_counts TheVault counts = record {
      missed = reads.missed;
      desk = reads.quiet;
      vault = counts.vault;
      chip = counts.chip;
    }
    unwritten_counts TheChip counts = record {
      missed = reads.missed;
      desk = reads.quiet;
      vault = counts.vault;
      chip = counts.chip;
    }

    opened_story : (status : Status) (records : List Record)
        → ((storage : Storage) → Tells old.store storage → records_in storage ≡ Ok records)
        → RunsStored (course_of (start_with order inputs records)) status
        old.store new.store old.sink new.sink
        → IsStory status (Running order) old new
    opened_story status records finds runs = by_run runs where
      run : Course
      run = course_of (start_with order inputs records)

      begins : Begins (Running order) old.desk old.store
      begins = begins_with records (finds_for records finds)

      of_run : IsDue (Running order) old.desk old.store (finished true run)
      of_run = OfRun (record {
        run = begins;
        is = ap (λ (b : Bool). finished b run) (sym is_stored);
      })

      by_close : (mid : SinkAccount) → Writes old.sink mid (text_of run.told)
          → (failed : Option Device) → IsLeft (act_of failed run.last.records) old.store new.store
          → CountsDevice failed old.store new.store
          → AnswersReport (last_of failed (ended run)) status mid new.sink
          → IsStory status (Running order) old new
      by_close mid lines None left counts a =
          due_story (Running order) old new status (finished true run) mid of_run
          (ended_counts run old new
          (record {
            missed = reads.missed;
            desk = reads.quiet;
            vault = counts.vault;
            chip = counts.chip;
          }))
          lines left a
      by_close mid lines (Some failed) left counts a =
          due_story (Running order) old new status (unfinished failed run) mid
          (OfCommit failed (record { run = begins; stored = is_stored; is = refl }))
          (unwritten_counts failed counts) lines left a

      by_run : RunsStored run status old.store new.store old.sink new.sink
          → IsStory status (Running order) old new
      by_run (inl wants) =
          memory_story (Running order) old new status (read_counts wants.1) wants.1.stays wants.0
      by_run (inr (inl stops)) =
          stopped_story status (finished true run) stops.0.is of_run
          (ended_counts run old new (read_counts stops.1)) stops.0.front stops.1.stays
      by_run (inr (inr ends)) =
          by_close ends.mid ends.lines ends.closes.failed ends.closes.left ends.closes.counts
          ends.closes.closed

    pub stored_story : (status : Status)
        → OpensAndRuns order inputs status old.store new.store old.sink new.sink
        → IsStory status (Running order) old new
    stored_story status (inl wants) =
        memory_story (Running order) old new status (read_counts wants.1) wants.1.stays wants.0
    stored_story status (inr (inl unread)) =
        line_story (Running order) old new status _
        (OfOpening unread.failed (record { opens = opens; is = refl }))
        (unread_counts unread.failed unread.read.counts) unread.read.stays unread.closed
    stored_story status (inr (inr (inl refused))) =
        let stay = read_counts refused.read in
        line_story (Running order) old new status (bad_store refused.line)
        (OfStore (record {
          opens = opens;
          line = refused.line;
          refuses = refused.refuses;
          is = refl;
        }))
        (record { missed = stay.missed; desk = stay.desk; vault = stay.vault; chip = stay.chip })
        refused.read.stays refused.closed
    stored_story status (inr (inr (inr opened))) =
        opened_story status opened.records opened.finds opened.runs

-- ---- without one

pub plain_story : (order : RunOrder) (inputs : Inputs) (desk later : DeskAccount)
    (store : StoreAccount) (sink end : SinkAccount) (status : Status)
    → order.is_stored ≡ false → ReadsRun order (Ok inputs) desk later
    → RunsPlainly (course_of (start_with order inputs [])) status sink end
    → IsStory status (Running order) (around desk store sink) (around later store end)
plain_story order inputs desk later store sink end status plain reads runs = by_run runs where
  old : Outside
  old = around desk store sink

  new : Outside
  new = around later store end

  run : Course
  run = course_of (start_with order inputs [])

  stay : CountsStay old new
  stay = record {
    missed = reads.missed;
    desk = reads.quiet;
    vault = λ can. refl;
    chip = λ can. refl;
  }

  of_run : IsDue (Running order) old.desk old.store (finished false run)
  of_run = OfRun (record {
    run = begins_with order inputs old new reads []
        (λ storage seen. ap (λ (b : Bool). records_for b storage) plain);
    is = ap (λ (b : Bool). finished b run) (sym plain);
  })

  by_run : RunsPlainly run status sink end → IsStory status (Running order) old new
  by_run (inl wants) =
      memory_story (Running order) old new status stay (unchanged store) wants
  by_run (inr (inl stops)) =
      stopped_story order inputs old new reads status (finished false run) stops.is of_run
      (ended_counts run old new stay) stops.front (unchanged store)
  by_run (inr (inr ends)) =
      due_story (Running order) old new status (finished false run) ends.mid of_run
      (ended_counts run old new stay) ends.lines (unchanged store) ends.closed

-- ---- a run of inputs

blind_same : (blind : Option (ModId × ℕ))
    → blind_at blind ≡ option_map (λ pair. blind_meant pair) blind
blind_same None = refl
blind_same (Some pair) = refl

-- a machine that begins where inputs and records do makes their course
pub run_is : (order : run_order.RunOrder) (inputs : Inputs) (records : List Record) (state : State)
    → state ≡ (start_with (own_meant order) inputs records).state
    → course (blind_at order.blind) state (first_events order.steps inputs.script)
    ≡ course_of (start_with (own_meant order) inputs records)
unfolding course_of
run_is order inputs records state opens =
    ap₂ (λ (blind : Option Blind) (s : State).
    course blind s (first_events order.steps inputs.script))
    (blind_same order.blind) opens
