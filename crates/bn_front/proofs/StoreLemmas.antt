-- What a storage opens to, and what is due of it.
use Rattle.std.proofs.Common.{◌≡◌, ℕ, ◌++◌, Bool, true, false, List, [], Option, Some, None, Result}
use Rattle.std.proofs.Common.{Ok}
use Rattle.std.proofs.Common.{Err, bytes_eq, codes, drop, inl, inr, refl, sym, ap, subst, ◌∙◌}
use Rattle.std.proofs.lemmas.Slice.Eq.{bytes_eq-Decides}
use Rattle.hex.specs.Hex.{encode_lower}
use Rattle.sha2.specs.Sha256.{sha256}
use Rattle.bn_edge.specs.declared.area.Area.{Area}
use Rattle.bn_edge.specs.declared.area.Area.TheVariants.{First, Second}
use Rattle.bn_types.specs.declared.digest.Digest.{Digest}
use Rattle.bn_types.specs.declared.record.Record.{Record}
use Rattle.bn_model.specs.CommandLines.{RunOrder}
use Rattle.bn_model.specs.Records.{AreRecords}
use Rattle.bn_model.specs.Reopening.{Fresh, Holds, Mismatch, Opened, holding, no_digest, opens}
use Rattle.bn_model.specs.Reopening.{opens_by}
use Rattle.bn_model.specs.Reporting.{Files}
use Rattle.bn_model.specs.StoredImages.{Malformed, Reading, Stored, count_in, head_fault, image_of}
use Rattle.bn_model.specs.StoredImages.{order_fault, read_by, stored, unless_fault}
use Rattle.bn_model.specs.StoredImages as images
use Rattle.bn_model.specs.Storing.{Storage, committed, is_second_free, malformed_line}
use Rattle.bn_model.specs.Storing.{mismatch_line}
use Rattle.bn_model.specs.Storing.{records_in, records_opened, records_read, written_if}
use Rattle.bn_model.specs.WholeReports as whole
use Rattle.bn_model.specs.WholeRuns.{Refused, Start, course_of, records_for, records_found}
use Rattle.bn_model.specs.WholeRuns.{start_of}
use Rattle.bn_model.proofs.SegmentFacts.{byte-below}
use Rattle.bn_model.proofs.StoredLemmas.{IsRead-from}
use Rattle.bn_vault.specs.Committing as vault
use Rattle.bn_vault.specs.Openings.{IsOpened, IsRefused, current_by, opening_of}
use Rattle.bn_vault.specs.declared.reopen_fault.ReopenFault.TheVariants as fault
use Rattle.bn_front.specs.Headline.{StandUnder}
use Rattle.bn_front.specs.Starts.{AreBytes}
use Rattle.bn_front.specs.Stored.{areas_of, areas_with}
use Rattle.bn_front.specs.Story.{current_if, current_of, digests_line}

-- ---- records

pub found-in : (storage : Storage) (records : List Record)
    → records_for true storage ≡ Ok records → records_in storage ≡ Ok records
found-in storage records e = go (records_in storage) e where
  go : (found : Result (List Record) (List ℕ)) → records_found found ≡ Ok records
      → found ≡ Ok records
  go (Ok others) is = let same : others ≡ records = cc in ap (λ (rs : List Record). Ok rs) same
  go (Err line) is = absurd cc

-- a text of bytes spells records in good order
pub stored-good : (text : List ℕ) (records : List Record) → AreBytes text
    → stored text ≡ Stored records → AreRecords records
unfolding stored
stored-good text records bytes e = by_head (head_fault text) refl e where
  all : List Record
  all = images.records_in (count_in text) (drop 16 text)

  by_order : head_fault text ≡ None → (found : Option ℕ) → order_fault all ≡ found
      → read_by found all ≡ Stored records → AreRecords records
  by_order head (Some at) is said = absurd cc
  by_order head None is said =
      let same : all ≡ records = cc in
      subst AreRecords same (IsRead-from text all (byte-below text bytes) head refl is).good

  by_head : (found : Option ℕ) → head_fault text ≡ found → unless_fault found all ≡ Stored records
      → AreRecords records
  by_head (Some at) is said = absurd cc
  by_head None is said = by_order is (order_fault all) refl said

-- ---- opening

read_is : (reading : Reading) (records : List Record) → records_read reading ≡ Ok records
    → reading ≡ Stored records
read_is (Stored others) records e =
    let same : others ≡ records = cc in ap Stored same
read_is (Malformed at) records e = absurd cc

-- to what a storage opens stands under its register
pub opens_to : (storage : Storage) (records : List Record) → records_in storage ≡ Ok records
    → StandUnder storage records
unfolding records_in opens
opens_to storage records e = by_new (bytes_eq storage.register no_digest) refl e where
  by_area : (f s : Bool) → bytes_eq (sha256 storage.first) storage.register ≡ f
      → bytes_eq (sha256 storage.second) storage.register ≡ s
      → records_opened (holding f s storage.first storage.second) storage ≡ Ok records
      → StandUnder storage records
  by_area true s is also said = inr (record {
    area = First;
    digest = (bytes_eq-Decides (sha256 storage.first) storage.register).0 is;
    spelled = read_is (stored storage.first) records said;
  })
  by_area false true is also said = inr (record {
    area = Second;
    digest = (bytes_eq-Decides (sha256 storage.second) storage.register).0 also;
    spelled = read_is (stored storage.second) records said;
  })
  by_area false false is also said = absurd cc

  by_new : (b : Bool) → bytes_eq storage.register no_digest ≡ b
      → records_opened (opens_by b storage.first storage.second storage.register) storage
      ≡ Ok records
      → StandUnder storage records
  by_new true is said = inl (
    (bytes_eq-Decides storage.register no_digest).0 is,
    let none : [] ≡ records = cc in sym none,
  )
  by_new false is said = by_area (bytes_eq (sha256 storage.first) storage.register)
      (bytes_eq (sha256 storage.second) storage.register) refl refl said

-- what reopening finds
module _ (storage : Storage) where
  abbrev opening : Opened
  opening = opening_of (areas_of storage) storage.register

  opened_as : (opened : Opened) → opening ≡ opened
      → records_in storage ≡ records_opened opened storage
  unfolding records_in
  opened_as opened e = ap (λ (o : Opened). records_opened o storage) e

  pub opened_in : (fresh : Bool) (records : List Record) (current : Area)
      → IsOpened fresh records current (areas_of storage) storage.register
      → records_in storage ≡ Ok records
  opened_in true records current is =
      opened_as Fresh is.0 ∙ ap (λ (rs : List Record). Ok rs) (sym is.1)
  opened_in false records current is = opened_as (Holds (Stored records)) is.0

  not_holding : (f s : Bool) → holding f s storage.first storage.second ≡ Fresh → ⊥
  not_holding true s e = cc
  not_holding false true e = cc
  not_holding false false e = cc

  is_new : opening ≡ Fresh → bytes_eq storage.register no_digest ≡ true
  unfolding opens
  is_new e = go (bytes_eq storage.register no_digest) refl e where
    go : (b : Bool) → bytes_eq storage.register no_digest ≡ b
        → opens_by b storage.first storage.second storage.register ≡ Fresh → b ≡ true
    go true is said = refl
    go false is said = absurd (not_holding _ _ said)

  is_old : (reading : Reading) → opening ≡ Holds reading
      → bytes_eq storage.register no_digest ≡ false
  unfolding opens
  is_old reading e = go (bytes_eq storage.register no_digest) refl e where
    go : (b : Bool) → bytes_eq storage.register no_digest ≡ b
        → opens_by b storage.first storage.second storage.register ≡ Holds reading → b ≡ false
    go true is said = absurd cc
    go false is said = refl

  current_old : (f : Bool) → current_by f ≡ current_if false f
  current_old true = refl
  current_old false = refl

  pub opened_place : (fresh : Bool) (records : List Record) (current : Area)
      → IsOpened fresh records current (areas_of storage) storage.register
      → current ≡ current_of storage
  opened_place true records current is =
      is.2 ∙ sym (ap (λ (b : Bool).
      current_if b (bytes_eq (sha256 storage.first) storage.register)) (is_new is.0))
  opened_place false records current is =
      is.1 ∙ current_old (bytes_eq (sha256 storage.first) storage.register)
      ∙ sym (ap (λ (b : Bool).
      current_if b (bytes_eq (sha256 storage.first) storage.register))
      (is_old (Stored records) is.0))

  pub malformed_in : (at : ℕ)
      → IsRefused (fault.Malformed at) (areas_of storage) storage.register
      → records_in storage ≡ Err (malformed_line at)
  malformed_in at is = opened_as (Holds (Malformed at)) is

  same_digests : (r f s : List ℕ) → r ≡ storage.register → f ≡ sha256 storage.first
      → s ≡ sha256 storage.second
      → mismatch_line storage
      ≡ codes "store mismatch " ++ encode_lower r ++ codes " " ++ encode_lower f
      ++ codes " " ++ encode_lower s ++ codes "\n"
  unfolding mismatch_line
  same_digests r f s er ef es = rw (er, ef, es) refl

  pub mismatch_in : (r f s : Digest)
      → IsRefused (fault.Mismatch r f s) (areas_of storage) storage.register
      → records_in storage ≡ Err (digests_line r f s)
  mismatch_in r f s is =
      opened_as Mismatch is.0
      ∙ ap (λ (line : List ℕ). Err line) (same_digests r.0 f.0 s.0 is.1 is.2 is.3)

  -- ---- committing

  -- a commit writes the area that the definitions have
  pub committed_same : (records : List Record)
      → vault.committed (current_of storage) (image_of records) (areas_of storage)
      ≡ areas_with records storage
  unfolding committed
  committed_same records = go (bytes_eq storage.register no_digest)
      (bytes_eq (sha256 storage.first) storage.register)
    where
      go : (b f : Bool)
          → vault.committed (current_if b f) (image_of records) (areas_of storage)
          ≡ areas_of (written_if (is_second_free b f) (image_of records) storage)
      go true f = refl
      go false true = refl
      go false false = refl

  pub committed_register : (records : List Record)
      → (committed records storage).register ≡ sha256 (image_of records)
  unfolding committed
  committed_register records = go (is_second_free (bytes_eq storage.register no_digest)
      (bytes_eq (sha256 storage.first) storage.register))
    where
      go : (b : Bool) → (written_if b (image_of records) storage).register
          ≡ sha256 (image_of records)
      go true = refl
      go false = refl

-- ---- reports

module _ (order : RunOrder) (files : Files) (storage : Storage) where
  pub run_reported : (start : Start) → start_of order files storage ≡ Ok start
      → whole.report_of_run order files storage
      ≡ whole.report_of_course order.is_stored (course_of start) storage
  unfolding whole.report_of_run
  run_reported start e =
      ap (λ (read : Result Start Refused). whole.report_of_start order.is_stored read storage) e

  pub refusal_reported : (why : Refused) → start_of order files storage ≡ Err why
      → whole.report_of_run order files storage
      ≡ record { status = whole.refusal_status why.refusal; text = why.line; storage = storage }
  unfolding whole.report_of_run
  refusal_reported why e =
      ap (λ (read : Result Start Refused). whole.report_of_start order.is_stored read storage) e
