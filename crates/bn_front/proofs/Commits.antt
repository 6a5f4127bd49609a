-- What a commit leaves of a store, and what ends a run with one.
use Rattle.std.proofs.Common.{◌≡◌, ◌≢◌, ℕ, inl, inr, List, Option, Some, None, Result, Err}
use Rattle.std.proofs.Common.{refl}
use Rattle.std.proofs.Common.{sym, ap, subst, ◌∙◌, ◌<◌, ◌-◌, ◌^◌, arith}
use Rattle.sha2.specs.Sha256.{sha256}
use Rattle.bn_edge.specs.Accounts.{SinkAccount}
use Rattle.bn_edge.specs.Areas.{Areas}
use Rattle.bn_edge.specs.Counts.{Rises, Stays}
use Rattle.bn_edge.specs.Crashes.{IsStable, LeavesOnly}
use Rattle.bn_edge.specs.Registers.{IsOldOrNew, replaced}
use Rattle.bn_edge.specs.declared.area.Area.{Area}
use Rattle.bn_edge.proofs.Wrote.{stays_on}
use Rattle.bn_types.specs.declared.ending.Ending.{Ending}
use Rattle.bn_types.specs.declared.event.Event.{Event}
use Rattle.bn_types.specs.declared.record.Record.{Record}
use Rattle.bn_types.specs.declared.status.Status.{Status}
use Rattle.bn_model.specs.CommandLines.{RunOrder}
use Rattle.bn_model.specs.Reopening.{Holds, no_digest}
use Rattle.bn_model.specs.Reporting.{Report, closing}
use Rattle.bn_model.specs.Running.{Blind, Course, course}
use Rattle.bn_model.specs.State.{State}
use Rattle.bn_model.specs.StoredImages.{Stored, image_of}
use Rattle.bn_model.specs.Storing.{Storage, malformed_line}
use Rattle.bn_machine.specs.Telling.{FinishesRun}
use Rattle.bn_vault.specs.Committing as vault
use Rattle.bn_vault.specs.Committing.{HasNoTwins}
use Rattle.bn_vault.specs.Counting.{ChipCommitBy, CountsChipReopen, CountsVaultReopen}
use Rattle.bn_vault.specs.Counting.{VaultCommitBy}
use Rattle.bn_vault.specs.Openings.{opening_of}
use Rattle.bn_vault.specs.Openings as openings
use Rattle.bn_vault.specs.declared.commit_fault.CommitFault.{CommitFault}
use Rattle.bn_vault.specs.declared.commit_fault.CommitFault.TheVariants as commit
use Rattle.bn_vault.specs.declared.reopen_fault.ReopenFault.{ReopenFault}
use Rattle.bn_vault.specs.declared.reopen_fault.ReopenFault.TheVariants as reopen
use Rattle.bn_front.specs.declared.inputs.Inputs.{Inputs}
use Rattle.bn_front.specs.Due.{Device, TheChip, TheVault, act_failed, ended}
use Rattle.bn_front.specs.Stored.{CrashesOpenAlike, ImageStands, IsCommitted, IsLeft, StorageStays}
use Rattle.bn_front.specs.Stored.{StoreAccount, Tells, areas_of, areas_with}
use Rattle.bn_front.specs.Story.{AnswersReport, AnswersUnopened, ClosesStored}
use Rattle.bn_front.specs.Story.{CountsDevice, EndsStored, EndsWith, IsOnlyRead}
use Rattle.bn_front.specs.Story.{IsPlace, OpensAndRuns, RunsStored, device_of}
use Rattle.bn_front.specs.Story.{digests_line}
use Rattle.bn_front.proofs.Courses.{closing-ended}
use Rattle.bn_front.proofs.Moments.{HasOnlyNow, left_on, stay_on, unchanged}
use Rattle.bn_front.proofs.StoreLemmas.{committed_same, malformed_in, mismatch_in}

-- ---- counts

rises_on : (old mid new : ℕ) → Stays old mid → Rises mid new → Rises old new
rises_on old mid new first then can =
    let same = first can in
    let rose = then (subst (λ (n : ℕ). n < 2 ^ 64 - 1) (sym same) can) in omega arith

pub counts_on : (failed : Option Device) (s m n : StoreAccount) → CountsDevice None s m
    → CountsDevice failed m n → CountsDevice failed s n
counts_on None s m n first more = record {
  vault = stays_on _ _ _ first.vault more.vault;
  chip = stays_on _ _ _ first.chip more.chip;
}
counts_on (Some TheVault) s m n first more = record {
  vault = rises_on _ _ _ first.vault more.vault;
  chip = stays_on _ _ _ first.chip more.chip;
}
counts_on (Some TheChip) s m n first more = record {
  vault = stays_on _ _ _ first.vault more.vault;
  chip = rises_on _ _ _ first.chip more.chip;
}

pub unread : (store : StoreAccount) → IsOnlyRead None store store
unread store = record {
  stays = unchanged store;
  counts = record { vault = λ can. refl; chip = λ can. refl };
}

read_on : (failed : Option Device) (s m n : StoreAccount) → IsOnlyRead None s m
    → IsOnlyRead failed m n → IsOnlyRead failed s n
read_on failed s m n first more = record {
  stays = stay_on s m n first.stays more.stays;
  counts = counts_on failed s m n first.counts more.counts;
}

-- ---- a commit

module _ (s n : StoreAccount) (current : Area) (records : List Record)
    (place : IsPlace current s) where
  abbrev text : List ℕ
  text = image_of records

  abbrev after : Areas → Areas
  after a = vault.committed current text a

  after_is : (storage : Storage) → Tells s storage
      → after (areas_of storage) ≡ areas_with records storage
  after_is storage tells =
      ap (λ (area : Area). vault.committed area text (areas_of storage)) (place storage tells)
      ∙ committed_same storage records

  pub image_stands :
      ((a : Areas) → IsStable s.vault a → IsStable n.vault (after a))
      → ((a : Areas) (r : List ℕ) → s.vault.areas ≡ Some a → s.chip.register ≡ Some r
      → HasNoTwins a → HasNoTwins (after a) → opening_of (after a) r ≡ opening_of a r)
      → ((a : Areas) → sha256 text ≢ no_digest → HasNoTwins (after a)
      → opening_of (after a) (sha256 text) ≡ Holds (Stored records))
      → ImageStands records s n
  image_stands stable opens_old opens_new = record {
    stable = λ storage keeps.
        subst (λ (a : Areas). IsStable n.vault a)
        (after_is storage (record { areas = keeps.areas.told; register = keeps.register }))
        (stable (areas_of storage) keeps.areas);
    opens_old = λ storage tells alone.
        subst (λ (a : Areas). HasNoTwins a →
        opening_of a storage.register ≡ opening_of (areas_of storage) storage.register)
        (after_is storage tells)
        (opens_old (areas_of storage) storage.register tells.areas tells.register alone);
    opens_new = λ storage tells.
        subst (λ (a : Areas). HasNoTwins a → sha256 text ≢ no_digest →
        opening_of a (sha256 text) ≡ Holds (Stored records))
        (after_is storage tells)
        (λ alone some. opens_new (areas_of storage) some alone);
  }

  abbrev AnyMoment : Type 0
  AnyMoment = (a : Areas) (r : List ℕ) → IsStable s.vault a → s.chip.register ≡ Some r
      → HasNoTwins a
      → LeavesOnly s.vault n.vault (λ c. HasNoTwins c → opening_of c r ≡ opening_of a r)

  alike : AnyMoment → CrashesOpenAlike s n
  alike moments storage keeps twins =
      moments (areas_of storage) storage.register keeps.areas keeps.register twins

  pub commit_left : AnyMoment → ImageStands records s n
      → n.chip.register ≡ replaced s.chip.register (sha256 text) → IsCommitted records s n
  commit_left moments image set =
      record { image = image; register = set; moments = alike moments }

  pub failure_left : (failed : CommitFault) → AnyMoment
      → (◌≢◌ {A = Result (Unit {0}) CommitFault} (Err failed) (Err commit.Vault)
      → ImageStands records s n)
      → (◌≡◌ {A = Result (Unit {0}) CommitFault} (Err failed) (Err commit.Vault)
      → n.chip.register ≡ s.chip.register)
      → (◌≡◌ {A = Result (Unit {0}) CommitFault} (Err failed) (Err commit.Chip)
      → IsOldOrNew s.chip.register (sha256 text) n.chip.register)
      → IsLeft (act_failed (device_of failed) records) s n
  failure_left commit.Vault moments image unset unsure =
      record { register = unset refl; moments = alike moments }
  failure_left commit.Chip moments image unset unsure =
      record { image = image (λ e. cc); register = unsure refl; moments = alike moments }

-- the counts of a commit that failed
pub failure_counts : (failed : CommitFault) (s n : StoreAccount)
    → VaultCommitBy failed s.vault.faults n.vault.faults
    → ChipCommitBy failed s.chip.faults n.chip.faults
    → CountsDevice (Some (device_of failed)) s n
failure_counts commit.Vault s n vault chip = record { vault = vault; chip = chip }
failure_counts commit.Chip s n vault chip = record { vault = vault; chip = chip }

-- ---- a run

module _ (blind : Option Blind) (state : State) (events : List Event) where
  abbrev run : Course
  run = course blind state events

  closing_is : (reason : Ending) (last : State) (old mid : SinkAccount)
      → FinishesRun run reason last old mid → closing reason last ≡ ended run
  closing_is reason last old mid f =
      ap (λ (e : Ending). closing e last) f.ending
      ∙ ap (λ (s : State). closing run.ending s) f.last
      ∙ closing-ended blind state events

  pub ends_plainly : (status : Status) (reason : Ending) (last : State)
      (old mid new : SinkAccount) → FinishesRun run reason last old mid
      → AnswersReport (closing reason last) status mid new → EndsWith run (ended run) status old new
  ends_plainly status reason last old mid new f a = record {
    mid = mid;
    lines = f.written;
    closed = subst (λ (r : Report). AnswersReport r status mid new)
        (closing_is reason last old mid f) a;
  }

  pub ends_stored : (status : Status) (reason : Ending) (last : State)
      (before after : StoreAccount) (old mid new : SinkAccount)
      → FinishesRun run reason last old mid
      → ClosesStored last.records (closing reason last) status before after mid new
      → EndsStored run status before after old new
  ends_stored status reason last before after old mid new f c = record {
    mid = mid;
    lines = f.written;
    closes = subst (λ (r : Report). ClosesStored run.last.records r status before after mid new)
        (closing_is reason last old mid f)
        (subst (λ (rs : List Record).
        ClosesStored rs (closing reason last) status before after mid new)
        (ap (λ (s : State). s.records) f.last) c);
  }

-- ---- after the store was read

module _ (s m n : StoreAccount) (law : HasOnlyNow s.vault) (read : IsOnlyRead None s m) where
  closes_on : (records : List Record) (last : Report) (status : Status) (old new : SinkAccount)
      → ClosesStored records last status m n old new → ClosesStored records last status s n old new
  closes_on records last status old new c = record {
    failed = c.failed;
    left = left_on s m n read.stays law _ c.left;
    counts = counts_on c.failed s m n read.counts c.counts;
    closed = c.closed;
  }

  pub runs_on : (made : Course) (status : Status) (old new : SinkAccount)
      → RunsStored made status m n old new → RunsStored made status s n old new
  runs_on made status old new (inl wants) = inl (wants.0, read_on None s m n read wants.1)
  runs_on made status old new (inr (inl stops)) =
      inr (inl (stops.0, read_on None s m n read stops.1))
  runs_on made status old new (inr (inr ends)) = inr (inr (record {
    mid = ends.mid;
    lines = ends.lines;
    closes = closes_on _ _ status ends.mid new ends.closes;
  }))

-- ---- a store that wasn't opened

pub unopened : (order : RunOrder) (inputs : Inputs) (failed : ReopenFault) (status : Status)
    (s n : StoreAccount) (old new : SinkAccount) → StorageStays s n
    → CountsVaultReopen {A = Unit {0}} (Err failed) s.vault.faults n.vault.faults
    → CountsChipReopen {A = Unit {0}} (Err failed) s.chip.faults n.chip.faults
    → ((a : Areas) (r : List ℕ) → s.vault.areas ≡ Some a → s.chip.register ≡ Some r
    → openings.IsRefused failed a r)
    → AnswersUnopened failed status old new → OpensAndRuns order inputs status s n old new
unopened order inputs (reopen.Mismatch r f d) status s n old new stays vault chip refused a =
    inr (inr (inl (record {
      line = digests_line r f d;
      refuses = λ storage tells.
          mismatch_in storage r f d
          (refused (areas_of storage) storage.register tells.areas tells.register);
      read = record { stays = stays; counts = record { vault = vault; chip = chip } };
      closed = a;
    })))
unopened order inputs (reopen.Malformed at) status s n old new stays vault chip refused a =
    inr (inr (inl (record {
      line = malformed_line at;
      refuses = λ storage tells.
          malformed_in storage at
          (refused (areas_of storage) storage.register tells.areas tells.register);
      read = record { stays = stays; counts = record { vault = vault; chip = chip } };
      closed = a;
    })))
unopened order inputs reopen.Vault status s n old new stays vault chip refused a =
    inr (inl (record {
      failed = TheVault;
      read = record { stays = stays; counts = record { vault = vault; chip = chip } };
      closed = a;
    }))
unopened order inputs reopen.Chip status s n old new stays vault chip refused a =
    inr (inl (record {
      failed = TheChip;
      read = record { stays = stays; counts = record { vault = vault; chip = chip } };
      closed = a;
    }))
unopened order inputs reopen.Memory status s n old new stays vault chip refused a =
    inl (a, record { stays = stays; counts = record { vault = vault; chip = chip } })
