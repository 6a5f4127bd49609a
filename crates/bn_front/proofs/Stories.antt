-- The promise of the one public call, from its whole story.
use Rattle.std.proofs.Common.{◌≡◌, ◌≢◌, ℕ, ◌⊎◌, inl, inr, List, [], ◌∷◌, ◌++◌, Bool, true}
use Rattle.std.proofs.Common.{false}
use Rattle.std.proofs.Common.{Option, Some, refl, sym, ap, subst, ◌∙◌, arith}
use Rattle.std.proofs.lemmas.List.{append_assoc}
use Rattle.bn_types.specs.declared.event.Event.{Event}
use Rattle.bn_types.specs.declared.status.Status.{Status}
use Rattle.bn_types.specs.declared.status.Status.TheVariants as answer
use Rattle.bn_edge.specs.Accounts.{DeskAccount, SinkAccount}
use Rattle.bn_edge.specs.Counts.{IsToldBy, Rises, Stays}
use Rattle.bn_edge.specs.Written.{WritesFront, appended}
use Rattle.bn_model.specs.Reporting.{Files}
use Rattle.bn_model.specs.Reporting as said
use Rattle.bn_model.specs.Running.{Course}
use Rattle.bn_model.specs.State.{State}
use Rattle.bn_model.specs.Storing.{Storage}
use Rattle.bn_model.specs.WholeReports as whole
use Rattle.bn_model.specs.WholeReports.{Report, finish_status, refusal_status}
use Rattle.bn_model.specs.WholeRuns.{BadImage, BadScript, BadStore, NoFile, Refusal}
use Rattle.bn_model.specs.WholeRuns.{records_for, records_found}
use Rattle.bn_model.proofs.ChangeLemmas.{changes-are-touched}
use Rattle.bn_model.proofs.StartLemmas.{modules-start}
use Rattle.bn_model.proofs.TouchLemmas.{touches-are-admitted}
use Rattle.sha2.specs.Sha256.{sha256}
use Rattle.bn_edge.specs.Registers.{replaced}
use Rattle.bn_model.specs.StoredImages.{image_of}
use Rattle.bn_front.specs.declared.named_file.NamedFile.{NamedFile}
use Rattle.bn_front.specs.Tasks.{Generating, NoTask, Running, Task, has_store, report_of}
use Rattle.bn_front.specs.Tasks.{report_of_task, task_of, uses_store}
use Rattle.bn_front.specs.Due.{AreTold, Begins, Device, Due, IsDue, IsOfCommit, IsOfFiles}
use Rattle.bn_front.specs.Due.{IsOfOpening, IsOfRun, IsOfStore, OfCommit, OfDesk, OfFiles}
use Rattle.bn_front.specs.Due.{OfOpening, OfRun, OfStore, ReadsFile, StandsAlone}
use Rattle.bn_front.specs.Due.{course_begun}
use Rattle.bn_front.specs.Due.{TheChip, TheVault, act_at_end, due_text, failed_line}
use Rattle.bn_front.specs.Due.{finished}
use Rattle.bn_front.specs.Due.{generated, missing_line, only, reported, storage_by}
use Rattle.bn_front.specs.Due.{unread}
use Rattle.bn_front.specs.Headline.{AllWork, CommitsRun, EndsRun}
use Rattle.bn_front.specs.Headline.{FailsWithin, IsAdmitted, IsAnswer, IsBeforeRun}
use Rattle.bn_front.specs.Headline.{IsQuiet}
use Rattle.bn_front.specs.Headline.{Outside, Promise, StartsModules, StoreWorks, WritesFault}
use Rattle.bn_front.specs.Headline.{WritesLine, WritesReport}
use Rattle.bn_front.specs.Starts.{HoldBytes, RunMakes, StoreBytes, start_from}
use Rattle.bn_front.specs.Stored.{CrashesOpenAlike, IsCommitted, IsLeft, IsSeen, Keeps}
use Rattle.bn_front.specs.Stored.{StorageStays, StoreAccount, Tells}
use Rattle.bn_front.specs.Story.{Counts, CountsChipFault, CountsDeskFault, CountsMiss}
use Rattle.bn_front.specs.Story.{CountsSinkFault, CountsVaultFault, IsStory, WasDue}
use Rattle.bn_front.proofs.Beginnings.{begun, both_read, store_refused}
use Rattle.bn_front.proofs.Courses.{ended_by, generated_by}
use Rattle.bn_front.proofs.Missing.{missing_file}
use Rattle.bn_front.proofs.Moments.{HasOnlyNow, keeps_on, left_alike, stays_alike}
use Rattle.bn_front.proofs.Reached.{hidden-secrets, opened-records, reached-sound, written-alike}
use Rattle.bn_front.proofs.StoreLemmas.{committed_register, refusal_reported, run_reported}

-- ---- counts that tell an answer

-- where the answer counts, or else doesn't
told_where : (A : Type 0) (old new : ℕ) → A → Rises old new → IsToldBy A old new
told_where A old new a rose can = (λ answered. rose can, λ more. a)

told_nowhere : (A : Type 0) (old new : ℕ) → ¬ A → Stays old new → IsToldBy A old new
told_nowhere A old new never stays can =
    (λ answered. absurd (never answered), λ more. let same = stays can in absurd (omega arith))

-- each count tells whether the answer is its fault
sink_told : (status : Status) (old new : ℕ) → CountsSinkFault status old new
    → IsToldBy (status ≡ answer.SinkFault) old new
sink_told answer.SinkFault old new c = told_where _ old new refl c
sink_told status old new c = told_nowhere _ old new (λ e. cc) c

miss_told : (status : Status) (old new : ℕ) → CountsMiss status old new
    → IsToldBy (status ≡ answer.NoFile) old new
miss_told answer.NoFile old new c = told_where _ old new refl c
miss_told status old new c = told_nowhere _ old new (λ e. cc) c

desk_told : (status : Status) (old new : ℕ) → CountsDeskFault status old new
    → IsToldBy (status ≡ answer.DeskFault) old new
desk_told answer.DeskFault old new c = told_where _ old new refl c
desk_told status old new c = told_nowhere _ old new (λ e. cc) c

vault_told : (status : Status) (old new : ℕ) → CountsVaultFault status old new
    → IsToldBy (status ≡ answer.VaultFault) old new
vault_told answer.VaultFault old new c = told_where _ old new refl c
vault_told status old new c = told_nowhere _ old new (λ e. cc) c

chip_told : (status : Status) (old new : ℕ) → CountsChipFault status old new
    → IsToldBy (status ≡ answer.ChipFault) old new
chip_told answer.ChipFault old new c = told_where _ old new refl c
chip_told status old new c = told_nowhere _ old new (λ e. cc) c

-- where a count stays, its answer doesn't come
not_told : (A : Type 0) (old new : ℕ) → IsQuiet old new → IsToldBy A old new → ¬ A
not_told A old new quiet told a =
    let rose = (told quiet.0).0 a in let same = quiet.1 in omega arith

-- ---- what is due

not_ended : (why : Refusal) → EndsRun (refusal_status why) → ⊥
not_ended NoFile ends = ends
not_ended BadImage ends = ends
not_ended BadScript ends = ends
not_ended BadStore ends = ends

not_desk : (why : Refusal) → refusal_status why ≢ answer.DeskFault
not_desk NoFile = λ e. cc
not_desk BadImage = λ e. cc
not_desk BadScript = λ e. cc
not_desk BadStore = λ e. cc

not_vault : (why : Refusal) → refusal_status why ≢ answer.VaultFault
not_vault NoFile = λ e. cc
not_vault BadImage = λ e. cc
not_vault BadScript = λ e. cc
not_vault BadStore = λ e. cc

not_chip : (why : Refusal) → refusal_status why ≢ answer.ChipFault
not_chip NoFile = λ e. cc
not_chip BadImage = λ e. cc
not_chip BadScript = λ e. cc
not_chip BadStore = λ e. cc

is_missing : (why : Refusal) → refusal_status why ≡ answer.NoFile → why ≡ NoFile
is_missing NoFile e = refl
is_missing BadImage e = absurd cc
is_missing BadScript e = absurd cc
is_missing BadStore e = absurd cc

-- what stands alone ends no run with a store, and is of no device
alone_ended : (task : Task) (files : Files) (last : said.Report) → StandsAlone task files last
    → has_store task ≡ true → EndsRun last.status → ⊥
alone_ended NoTask files last is stored ends = absurd cc
alone_ended (Generating number) files last is stored ends = absurd cc
alone_ended (Running order) files last refuses stored ends =
    not_ended refuses.why.refusal
    (subst (λ (r : said.Report). EndsRun r.status) refuses.is ends)

alone_desk : (task : Task) (files : Files) (last : said.Report) → StandsAlone task files last
    → last.status ≢ answer.DeskFault
alone_desk NoTask files last is e = let s = ap (λ (r : said.Report). r.status) is in absurd cc
alone_desk (Generating number) files last is e =
    generated_by number (λ s. s ≢ answer.DeskFault) (λ s. cc) (λ s. cc)
    (sym (ap (λ (r : said.Report). r.status) is) ∙ e)
alone_desk (Running order) files last refuses e =
    not_desk refuses.why.refusal (sym (ap (λ (r : said.Report). r.status) refuses.is) ∙ e)

alone_vault : (task : Task) (files : Files) (last : said.Report) → StandsAlone task files last
    → last.status ≢ answer.VaultFault
alone_vault NoTask files last is e = let s = ap (λ (r : said.Report). r.status) is in absurd cc
alone_vault (Generating number) files last is e =
    generated_by number (λ s. s ≢ answer.VaultFault) (λ s. cc) (λ s. cc)
    (sym (ap (λ (r : said.Report). r.status) is) ∙ e)
alone_vault (Running order) files last refuses e =
    not_vault refuses.why.refusal (sym (ap (λ (r : said.Report). r.status) refuses.is) ∙ e)

alone_chip : (task : Task) (files : Files) (last : said.Report) → StandsAlone task files last
    → last.status ≢ answer.ChipFault
alone_chip NoTask files last is e = let s = ap (λ (r : said.Report). r.status) is in absurd cc
alone_chip (Generating number) files last is e =
    generated_by number (λ s. s ≢ answer.ChipFault) (λ s. cc) (λ s. cc)
    (sym (ap (λ (r : said.Report). r.status) is) ∙ e)
alone_chip (Running order) files last refuses e =
    not_chip refuses.why.refusal (sym (ap (λ (r : said.Report). r.status) refuses.is) ∙ e)

-- ---- which file is missing

-- a refusal for a missing file is of a run, which comes to reading it
record Misses (task : Task) (files : Files) (text : List ℕ) : Type 0 where
  file : NamedFile
  comes : (desk : DeskAccount) → AreTold desk.files files → ReadsFile task file desk
  is : text ≡ missing_line file

no_storage : Storage
no_storage = record { first = []; second = []; register = [] }

misses : (task : Task) (files : Files) (last : said.Report) → StandsAlone task files last
    → last.status ≡ answer.NoFile → Misses task files last.text
misses NoTask files last is e = let s = ap (λ (r : said.Report). r.status) is in absurd cc
misses (Generating number) files last is e =
    absurd (generated_by number (λ s. s ≢ answer.NoFile) (λ s. cc) (λ s. cc)
    (sym (ap (λ (r : said.Report). r.status) is) ∙ e))
misses (Running order) files last refuses e =
    let missing = missing_file order files refuses.why
    (is_missing refuses.why.refusal
    (sym (ap (λ (r : said.Report). r.status) refuses.is) ∙ e)) no_storage
    (refuses.refused no_storage) in record {
      file = missing.file;
      comes = λ desk told.
          record { order = order; runs = refl; comes = missing.comes desk told };
      is = ap (λ (r : said.Report). r.text) refuses.is ∙ missing.is;
    }

-- ---- what is due, by its case and its status

module _ (task : Task) (desk : DeskAccount) (store : StoreAccount) (due : Due) where
  -- the last line's status of a due
  last_is : (last : Due) → due ≡ last → due.last.status ≡ last.last.status
  last_is last is = ap (λ (d : Due). d.last.status) is

  run_status : (f : IsOfRun task desk store due) (P : Status → Type 0) → P due.last.status
      → (P answer.Ended → ⊥) → (P answer.Limit → ⊥) → ⊥
  run_status f P holds one other =
      ended_by (course_begun f.run) (λ s. P s → ⊥) one other
      (subst P (last_is (finished f.run.order.is_stored (course_begun f.run)) f.is) holds)

  missing_due : IsDue task desk store due → due.last.status ≡ answer.NoFile
      → (files : Files) × AreTold desk.files files × Misses task files (due_text due)
  missing_due (OfFiles f) e =
      let m = misses task f.files f.last f.alone (sym (last_is (only f.last) f.is) ∙ e) in
      (f.files, f.agrees, subst (λ (d : Due). Misses task f.files (due_text d)) (sym f.is) m)
  missing_due (OfStore f) e = let s = last_is _ f.is in absurd cc
  missing_due (OfRun f) e =
      absurd (run_status f (λ s. s ≡ answer.NoFile) e (λ s. cc) (λ s. cc))
  missing_due (OfDesk f) e = let s = last_is _ f.is in absurd cc
  missing_due (OfOpening TheVault f) e = let s = last_is _ f.is in absurd cc
  missing_due (OfOpening TheChip f) e = let s = last_is _ f.is in absurd cc
  missing_due (OfCommit TheVault f) e = let s = last_is _ f.is in absurd cc
  missing_due (OfCommit TheChip f) e = let s = last_is _ f.is in absurd cc

  desk_due : IsDue task desk store due → due.last.status ≡ answer.DeskFault
      → (file : NamedFile) × ReadsFile task file desk × (due_text due ≡ failed_line file)
  desk_due (OfFiles f) e =
      absurd (alone_desk task f.files f.last f.alone (sym (last_is (only f.last) f.is) ∙ e))
  desk_due (OfStore f) e = let s = last_is _ f.is in absurd cc
  desk_due (OfRun f) e =
      absurd (run_status f (λ s. s ≡ answer.DeskFault) e (λ s. cc) (λ s. cc))
  desk_due (OfDesk f) e = (f.file, f.reads, ap due_text f.is)
  desk_due (OfOpening TheVault f) e = let s = last_is _ f.is in absurd cc
  desk_due (OfOpening TheChip f) e = let s = last_is _ f.is in absurd cc
  desk_due (OfCommit TheVault f) e = let s = last_is _ f.is in absurd cc
  desk_due (OfCommit TheChip f) e = let s = last_is _ f.is in absurd cc

  abbrev OfDevice : Device → Type 0
  OfDevice device = IsOfOpening device task desk due ⊎ IsOfCommit device task desk store due

  vault_due : IsDue task desk store due → due.last.status ≡ answer.VaultFault → OfDevice TheVault
  vault_due (OfFiles f) e =
      absurd (alone_vault task f.files f.last f.alone (sym (last_is (only f.last) f.is) ∙ e))
  vault_due (OfStore f) e = let s = last_is _ f.is in absurd cc
  vault_due (OfRun f) e =
      absurd (run_status f (λ s. s ≡ answer.VaultFault) e (λ s. cc) (λ s. cc))
  vault_due (OfDesk f) e = let s = last_is _ f.is in absurd cc
  vault_due (OfOpening TheVault f) e = inl f
  vault_due (OfOpening TheChip f) e = let s = last_is _ f.is in absurd cc
  vault_due (OfCommit TheVault f) e = inr f
  vault_due (OfCommit TheChip f) e = let s = last_is _ f.is in absurd cc

  chip_due : IsDue task desk store due → due.last.status ≡ answer.ChipFault → OfDevice TheChip
  chip_due (OfFiles f) e =
      absurd (alone_chip task f.files f.last f.alone (sym (last_is (only f.last) f.is) ∙ e))
  chip_due (OfStore f) e = let s = last_is _ f.is in absurd cc
  chip_due (OfRun f) e =
      absurd (run_status f (λ s. s ≡ answer.ChipFault) e (λ s. cc) (λ s. cc))
  chip_due (OfDesk f) e = let s = last_is _ f.is in absurd cc
  chip_due (OfOpening TheVault f) e = let s = last_is _ f.is in absurd cc
  chip_due (OfOpening TheChip f) e = inl f
  chip_due (OfCommit TheVault f) e = let s = last_is _ f.is in absurd cc
  chip_due (OfCommit TheChip f) e = inr f

  module _ (before after : StoreAccount) (left : IsLeft due.act before after) where
    stays_by : (last : said.Report) → due ≡ only last → StorageStays before after
    stays_by last is = subst (λ (d : Due). IsLeft d.act before after) is left

    kept_due : IsDue task desk store due → IsBeforeRun due.last.status
        → StorageStays before after
    kept_due (OfFiles f) b = stays_by f.last f.is
    kept_due (OfStore f) b = stays_by _ f.is
    kept_due (OfRun f) b = absurd (run_status f IsBeforeRun b (λ s. s) (λ s. s))
    kept_due (OfDesk f) b = stays_by _ f.is
    kept_due (OfOpening device f) b = stays_by _ f.is
    kept_due (OfCommit TheVault f) b =
        absurd (subst (λ (d : Due). IsBeforeRun d.last.status) f.is b)
    kept_due (OfCommit TheChip f) b =
        absurd (subst (λ (d : Due). IsBeforeRun d.last.status) f.is b)

    same_order : (one other : _) → ◌≡◌ {A = Task} (Running one) (Running other) → one ≡ other
    same_order one other e = cc

    committed_due : IsDue task desk store due → has_store task ≡ true → EndsRun due.last.status
        → (run : Begins task desk store)
        × IsCommitted (course_begun run).last.records before after
    committed_due (OfFiles f) stored ends =
        absurd (alone_ended task f.files f.last f.alone stored
        (subst (λ (d : Due). EndsRun d.last.status) f.is ends))
    committed_due (OfStore f) stored ends =
        absurd (subst (λ (d : Due). EndsRun d.last.status) f.is ends)
    committed_due (OfRun f) stored ends =
        let is_stored : f.run.order.is_stored ≡ true =
        sym (ap has_store f.run.runs) ∙ stored in (
          f.run,
          subst (λ (b : Bool).
              IsLeft (act_at_end b (course_begun f.run).last.records) before after)
              is_stored
              (subst (λ (d : Due). IsLeft d.act before after) f.is left),
        )
    committed_due (OfDesk f) stored ends =
        absurd (subst (λ (d : Due). EndsRun d.last.status) f.is ends)
    committed_due (OfOpening TheVault f) stored ends =
        absurd (subst (λ (d : Due). EndsRun d.last.status) f.is ends)
    committed_due (OfOpening TheChip f) stored ends =
        absurd (subst (λ (d : Due). EndsRun d.last.status) f.is ends)
    committed_due (OfCommit TheVault f) stored ends =
        absurd (subst (λ (d : Due). EndsRun d.last.status) f.is ends)
    committed_due (OfCommit TheChip f) stored ends =
        absurd (subst (λ (d : Due). EndsRun d.last.status) f.is ends)

-- ---- what is due is the report

summary_reported : (number : ℕ) (storage : Storage)
    → reported (only (generated number)) storage ≡ whole.report_of_gen number storage
unfolding whole.report_of_gen
summary_reported number storage = refl

abbrev NoDevice : Status → Type 0
NoDevice status =
    (status ≢ answer.DeskFault) × (status ≢ answer.VaultFault) × (status ≢ answer.ChipFault)

module _ (task : Task) (desk : DeskAccount) (store : StoreAccount) (due : Due)
    (after : StoreAccount) (ended_so : IsLeft due.act store after) where
  -- where no device failed, a due is a report of the task, and the store is left as it says
  record IsReport (files : Files) : Type 0 where
    told : AreTold desk.files files
    is : (storage : Storage) → IsSeen (has_store task) store storage
        → reported due storage ≡ report_of_task task files storage
    left : (storage : Storage) → Keeps store storage → Keeps after (storage_by due.act storage)

  left_by : (last : said.Report) → due ≡ only last → (storage : Storage) → Keeps store storage
      → Keeps after (storage_by due.act storage)
  left_by last is storage keeps =
      subst (λ (d : Due). Keeps after (storage_by d.act storage)) (sym is)
      (keeps_on store after (subst (λ (d : Due). IsLeft d.act store after) is ended_so) storage
      keeps)

  files_reported : (files : Files) (last : said.Report) → StandsAlone task files last
      → (storage : Storage) → reported (only last) storage ≡ report_of_task task files storage
  files_reported files last refuses storage = by_task task refuses where
    by_task : (t : Task) → StandsAlone t files last
        → reported (only last) storage ≡ report_of_task t files storage
    by_task NoTask is = ap (λ (r : said.Report). reported (only r) storage) is
    by_task (Generating number) is =
        ap (λ (r : said.Report). reported (only r) storage) is
        ∙ summary_reported number storage
    by_task (Running order) why =
        ap (λ (r : said.Report). reported (only r) storage) why.is
        ∙ sym (refusal_reported order files storage why.why (why.refused storage))

  of_files : IsOfFiles task desk due → (files : Files) × IsReport files
  of_files f = (
    f.files,
    record {
      told = f.agrees;
      is = λ storage seen.
          ap (λ (d : Due). reported d storage) f.is
          ∙ files_reported f.files f.last f.alone storage;
      left = left_by f.last f.is;
    },
  )

  of_store : IsOfStore task desk store due → (files : Files) × IsReport files
  of_store f = (
    f.opens.accepted.files,
    record {
      told = f.opens.accepted.agrees;
      is = λ storage seen.
          ap (λ (d : Due). reported d storage) f.is
          ∙ sym (ap (λ (t : Task). report_of_task t f.opens.accepted.files storage) f.opens.runs
          ∙ refused storage seen);
      left = left_by _ f.is;
    },
  ) where
    tells : (storage : Storage) → IsSeen (has_store task) store storage → Tells store storage
    tells storage seen =
        subst (λ (b : Bool). IsSeen b store storage)
        (ap has_store f.opens.runs ∙ f.opens.stored) seen

    refused : (storage : Storage) → IsSeen (has_store task) store storage
        → whole.report_of_run f.opens.order f.opens.accepted.files storage
        ≡ record { status = answer.Store; text = f.line; storage = storage }
    refused storage seen =
        refusal_reported f.opens.order f.opens.accepted.files storage
        (record { refusal = BadStore; line = f.line })
        (store_refused f.opens.order f.opens.accepted.files storage
        f.opens.accepted.parts _
        (both_read f.opens.order f.opens.accepted.files f.opens.accepted.parts.image
        f.opens.accepted.parts.script f.opens.accepted.loaded f.opens.accepted.read)
        (ap (λ (b : Bool). records_for b storage) f.opens.stored
        ∙ ap records_found (f.refuses storage (tells storage seen))))

  of_run : IsOfRun task desk store due → (files : Files) × IsReport files
  of_run f = (
    f.run.accepted.files,
    record {
      told = f.run.accepted.agrees;
      is = λ storage seen.
          ap (λ (d : Due). reported d storage) f.is
          ∙ by_store f.run.order.is_stored storage
          ∙ sym (ap (λ (t : Task). report_of_task t f.run.accepted.files storage) f.run.runs
          ∙ run_reported f.run.order f.run.accepted.files storage
          (start_from f.run.order f.run.accepted.parts f.run.records)
          (begun f.run.order f.run.accepted.files storage f.run.accepted.parts f.run.records
          (both_read f.run.order f.run.accepted.files f.run.accepted.parts.image
          f.run.accepted.parts.script f.run.accepted.loaded f.run.accepted.read)
          (f.run.finds storage
          (subst (λ (b : Bool). IsSeen b store storage) (ap has_store f.run.runs) seen))));
      left = λ storage keeps.
          subst (λ (d : Due). Keeps after (storage_by d.act storage)) (sym f.is)
          (left_run f.run.order.is_stored storage
          (subst (λ (d : Due). IsLeft d.act store after) f.is ended_so) keeps);
    },
  ) where
    run : Course
    run = course_begun f.run

    by_store : (b : Bool) (storage : Storage)
        → reported (finished b run) storage ≡ whole.report_of_course b run storage
    by_store false storage = refl
    by_store true storage = refl

    left_run : (b : Bool) (storage : Storage)
        → IsLeft (act_at_end b run.last.records) store after → Keeps store storage
        → Keeps after (storage_by (act_at_end b run.last.records) storage)
    left_run false storage left keeps = keeps_on store after left storage keeps
    left_run true storage left keeps = record {
      areas = left.image.stable storage keeps;
      register = left.register
          ∙ ap (λ (r : Option (List ℕ)). replaced r (sha256 (image_of run.last.records)))
          keeps.register
          ∙ ap Some (sym (committed_register storage run.last.records));
    }

  due_reported : IsDue task desk store due → NoDevice due.last.status
      → (files : Files) × IsReport files
  due_reported (OfFiles f) apart = of_files f
  due_reported (OfStore f) apart = of_store f
  due_reported (OfRun f) apart = of_run f
  due_reported (OfDesk f) apart = absurd (apart.0 (last_is task desk store due _ f.is))
  due_reported (OfOpening TheVault f) apart = absurd (apart.1 (last_is task desk store due _ f.is))
  due_reported (OfOpening TheChip f) apart = absurd (apart.2 (last_is task desk store due _ f.is))
  due_reported (OfCommit TheVault f) apart = absurd (apart.1 (last_is task desk store due _ f.is))
  due_reported (OfCommit TheChip f) apart = absurd (apart.2 (last_is task desk store due _ f.is))

-- which devices can have failed, where a store is used
module _ (task : Task) (desk : DeskAccount) (store : StoreAccount) (due : Due) where
  uses_device : (device : Device) → IsDue task desk store due
      → due.last.status ≡ (unread device).status → has_store task ≡ true
  uses_device TheVault is e = by_vault (vault_due task desk store due is e) where
    by_vault : IsOfOpening TheVault task desk due ⊎ IsOfCommit TheVault task desk store due
        → has_store task ≡ true
    by_vault (inl f) = ap has_store f.opens.runs ∙ f.opens.stored
    by_vault (inr f) = ap has_store f.run.runs ∙ f.stored
  uses_device TheChip is e = by_chip (chip_due task desk store due is e) where
    by_chip : IsOfOpening TheChip task desk due ⊎ IsOfCommit TheChip task desk store due
        → has_store task ≡ true
    by_chip (inl f) = ap has_store f.opens.runs ∙ f.opens.stored
    by_chip (inr f) = ap has_store f.run.runs ∙ f.stored

-- ---- a front of what is due

front_within : (due : Due) (before after : StoreAccount) (old new : SinkAccount)
    → FailsWithin due before after old new → WritesFront old new (due_text due)
front_within due before after old new (inl fails) = record {
  front = fails.front.front;
  rest = fails.front.rest ++ due.last.text;
  split = sym (append_assoc fails.front.front fails.front.rest due.last.text)
      ∙ ap (λ t. t ++ due.last.text) fails.front.split;
  proper = λ e. fails.front.proper (no_front fails.front.rest e);
  written = fails.front.written;
} where
  no_front : (a : List ℕ) → a ++ due.last.text ≡ [] → a ≡ []
  no_front [] e = refl
  no_front (x ∷ a) e = cc
front_within due before after old new (inr fails) = record {
  front = due.lines ++ fails.front.front;
  rest = fails.front.rest;
  split = append_assoc due.lines fails.front.front fails.front.rest
      ∙ ap (λ t. due.lines ++ t) fails.front.split;
  proper = fails.front.proper;
  written = fails.front.written;
}

-- ---- what a run touches

admitted : (s : State) (event : Event) → IsAdmitted s event
admitted s event = record {
  touches = touches-are-admitted s event;
  changes = changes-are-touched s event;
}

starts : (words : List (List ℕ)) (files : Files) (storage : Storage) (s : State) (event : Event)
    → HoldBytes files → StoreBytes storage → RunMakes words files storage s event
    → StartsModules s event
starts words files storage s event bytes areas made h m before after =
    let reached = reached-sound words files storage s event bytes areas made in
    modules-start s event h m reached.1 reached.0 before after

-- ---- the promise

module _ (words : List (List ℕ)) (old new : Outside) (status : Status) where
  -- no sink fault comes where the sink works
  no_sink_fault : IsQuiet old.sink.faults new.sink.faults
      → CountsSinkFault status old.sink.faults new.sink.faults → status ≢ answer.SinkFault
  no_sink_fault quiet counts = not_told _ _ _ quiet (sink_told status _ _ counts)

  module _ (w : WasDue (task_of words) status old new) (a : IsAnswer status w.due old new) where
    -- the counts tell the status
    counts : Counts status old new
    counts = subst (λ (s : Status). Counts s old new) a.said w.counts

    works : (device : Device) → status ≡ (unread device).status
        → StoreWorks (uses_store words) old.store new.store
        → StoreWorks true old.store new.store
    works device e work =
        subst (λ (b : Bool). StoreWorks b old.store new.store)
        (uses_device (task_of words) old.desk old.store w.due device w.is (a.said ∙ e)) work

    no_device : AllWork words old new → NoDevice w.due.last.status
    no_device work = subst NoDevice (sym a.said) (
      not_told _ _ _ work.desk (desk_told status _ _ counts.desk),
      λ e. not_told _ _ _ (works TheVault e work.store).0 (vault_told status _ _ counts.vault) e,
      λ e. not_told _ _ _ (works TheChip e work.store).1 (chip_told status _ _ counts.chip) e,
    )

    reports : AllWork words old new → WritesReport words status old new
    unfolding report_of
    reports work =
        go (due_reported (task_of words) old.desk old.store w.due new.store a.left w.is
        (no_device work))
      where
        go : (files : Files)
            × IsReport (task_of words) old.desk old.store w.due new.store a.left files
            → WritesReport words status old new
        go found = record {
          files = found.0;
          agrees = found.1.told;
          is = λ storage seen. let is = found.1.is storage seen in record {
            answers = sym a.said ∙ ap (λ (r : Report). r.status) is;
            written = a.written ∙ ap (λ (r : Report). appended old.sink.written r.text) is;
            left = λ keeps.
                subst (λ (r : Report). Keeps new.store r.storage) is
                (found.1.left storage keeps);
          };
        }

    misses_line : status ≡ answer.NoFile → WritesLine missing_line words old new
    misses_line is =
        go (missing_due (task_of words) old.desk old.store w.due w.is (a.said ∙ is))
      where
        go : (files : Files) × AreTold old.desk.files files
            × Misses (task_of words) files (due_text w.due)
            → WritesLine missing_line words old new
        go found = record {
          file = found.2.file;
          reads = found.2.comes old.desk found.1;
          written = a.written ∙ ap (appended old.sink.written) found.2.is;
        }

    fails_line : status ≡ answer.DeskFault → WritesLine failed_line words old new
    fails_line is =
        let found = desk_due (task_of words) old.desk old.store w.due w.is (a.said ∙ is) in record {
          file = found.0;
          reads = found.1;
          written = a.written ∙ ap (appended old.sink.written) found.2;
        }

    vault_fails : status ≡ answer.VaultFault → WritesFault TheVault words old new
    vault_fails is = record {
      due = w.due;
      is = vault_due (task_of words) old.desk old.store w.due w.is (a.said ∙ is);
      written = a.written;
      left = a.left;
    }

    chip_fails : status ≡ answer.ChipFault → WritesFault TheChip words old new
    chip_fails is = record {
      due = w.due;
      is = chip_due (task_of words) old.desk old.store w.due w.is (a.said ∙ is);
      written = a.written;
      left = a.left;
    }

    keeps_store : IsBeforeRun status → StorageStays old.store new.store
    keeps_store b =
        kept_due (task_of words) old.desk old.store w.due old.store new.store a.left w.is
        (subst IsBeforeRun (sym a.said) b)

    commits : uses_store words ≡ true → EndsRun status → CommitsRun words old new
    commits stored ends =
        let found = committed_due (task_of words) old.desk old.store w.due old.store new.store
        a.left w.is stored (subst EndsRun (sym a.said) ends) in
        record { run = found.0; committed = found.1 }

-- what a story promises, by cases on its status: memory ran out, the sink failed, or what was due
-- is written
pub promise : (words : List (List ℕ)) (status : Status) (old new : Outside)
    → HasOnlyNow old.store.vault → IsStory status (task_of words) old new
    → CountsSinkFault status old.sink.faults new.sink.faults → Promise words status old new
promise words answer.Memory old new law s c = record {
  exact = λ work memory. absurd (memory refl);
  whole = λ memory sink. absurd (memory refl);
  sink_fault = sink_told answer.Memory _ _ c;
  no_file = λ work. told_nowhere _ _ _ (λ e. cc) s.counts.missed;
  desk_fault = λ work. told_nowhere _ _ _ (λ e. cc) s.counts.desk;
  vault_fault = λ work. told_nowhere _ _ _ (λ e. cc) s.counts.vault;
  chip_fault = λ work. told_nowhere _ _ _ (λ e. cc) s.counts.chip;
  front = λ e. cc;
  missing_line = λ e. cc;
  desk_line = λ e. cc;
  vault_line = λ e. cc;
  chip_line = λ e. cc;
  untouched = λ e. s.untouched;
  uncounted = λ e. s.counts;
  kept = λ b. s.stays;
  committed = λ stored ends. absurd ends;
  any_moment = stays_alike old.store new.store s.stays law;
  opened = opened-records words;
  touched = λ files storage s event made. admitted s event;
  started = starts words;
  zeroed = hidden-secrets words;
  alike = λ files storage start others blind. written-alike words others files storage start blind;
}
promise words answer.SinkFault old new law s c =
    let broken = λ (work : IsQuiet old.sink.faults new.sink.faults).
    no_sink_fault words old new answer.SinkFault work c refl in record {
      exact = λ work memory. absurd (broken work.sink);
      whole = λ memory sink. absurd (sink refl);
      sink_fault = sink_told answer.SinkFault _ _ c;
      no_file = λ work. absurd (broken work);
      desk_fault = λ work. absurd (broken work);
      vault_fault = λ work. absurd (broken work);
      chip_fault = λ work. absurd (broken work);
      front = λ e. record {
        due = s.due;
        is = s.is;
        fails = s.answered;
        front = front_within s.due old.store new.store old.sink new.sink s.answered;
      };
      missing_line = λ e. cc;
      desk_line = λ e. cc;
      vault_line = λ e. cc;
      chip_line = λ e. cc;
      untouched = λ e. cc;
      uncounted = λ e. cc;
      kept = λ b. absurd b;
      committed = λ stored ends. absurd ends;
      any_moment = by_failure s.answered;
      opened = opened-records words;
      touched = λ files storage s event made. admitted s event;
      started = starts words;
      zeroed = hidden-secrets words;
      alike =
          λ files storage start others blind. written-alike words others files storage start blind;
    } where
      by_failure : FailsWithin s.due old.store new.store old.sink new.sink
          → CrashesOpenAlike old.store new.store
      by_failure (inl fails) = stays_alike old.store new.store fails.left law
      by_failure (inr fails) = left_alike old.store new.store law s.due.act fails.left
promise words status old new law s c = record {
  exact = λ work memory. reports words old new status s s.answered work;
  whole = λ memory sink. record { due = s.due; is = s.is; answered = s.answered };
  sink_fault = sink_told status _ _ c;
  no_file = λ work. miss_told status _ _ (counts words old new status s s.answered).missed;
  desk_fault = λ work. desk_told status _ _ (counts words old new status s s.answered).desk;
  vault_fault = λ work. vault_told status _ _ (counts words old new status s s.answered).vault;
  chip_fault = λ work. chip_told status _ _ (counts words old new status s s.answered).chip;
  front = λ e. cc;
  missing_line = misses_line words old new status s s.answered;
  desk_line = fails_line words old new status s s.answered;
  vault_line = vault_fails words old new status s s.answered;
  chip_line = chip_fails words old new status s s.answered;
  untouched = λ e. cc;
  uncounted = λ e. cc;
  kept = keeps_store words old new status s s.answered;
  committed = commits words old new status s s.answered;
  any_moment = left_alike old.store new.store law s.due.act s.answered.left;
  opened = opened-records words;
  touched = λ files storage s event made. admitted s event;
  started = starts words;
  zeroed = hidden-secrets words;
  alike = λ files storage start others blind. written-alike words others files storage start blind;
}
