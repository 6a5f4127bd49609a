-- Where a run begins, from its image, its script and its records, and what refuses it.
use Rattle.std.proofs.Common.{◌≡◌, ◌*◌, List, Result, Ok, Err, refl, sym, ap, ◌∙◌}
use Rattle.bn_types.specs.declared.record.Record.{Record}
use Rattle.bn_model.specs.CommandLines.{RunOrder}
use Rattle.bn_model.specs.Opening.{Image}
use Rattle.bn_model.specs.Reporting.{Files}
use Rattle.bn_model.specs.Scripts.{Script}
use Rattle.bn_model.specs.Storing.{Storage}
use Rattle.bn_model.specs.WholeRuns as whole
use Rattle.bn_model.specs.WholeRuns.{Refused, Start, image_in, records_for, script_for}
use Rattle.bn_front.specs.Reading.{parts_of}
use Rattle.bn_front.specs.Starts.{Parts, start_from}

-- ---- the files

abbrev pub with_script : Image → Result Script Refused → Result Parts Refused
with_script image read =
    whole.◌>>=◌ read (λ script. Ok (record { image = image; script = script }))

abbrev pub with_image : RunOrder → Files → Result Image Refused → Result Parts Refused
with_image order files read =
    whole.◌>>=◌ read (λ image. with_script image (script_for order.harts order.script files))

pub parts_steps : (order : RunOrder) (files : Files)
    → parts_of order files
    ≡ with_image order files (image_in (4096 * order.ram_pages) (files order.image))
unfolding parts_of
parts_steps order files = refl

module _ (order : RunOrder) (files : Files) where
  abbrev pub image_of_order : Result Image Refused
  image_of_order = image_in (4096 * order.ram_pages) (files order.image)

  abbrev pub script_of_order : Result Script Refused
  script_of_order = script_for order.harts order.script files

  pub image_refused : (why : Refused) → image_of_order ≡ Err why → parts_of order files ≡ Err why
  image_refused why e = parts_steps order files ∙ ap (with_image order files) e

  pub script_refused : (image : Image) (why : Refused) → image_of_order ≡ Ok image
      → script_of_order ≡ Err why → parts_of order files ≡ Err why
  script_refused image why e f =
      parts_steps order files ∙ ap (with_image order files) e ∙ ap (with_script image) f

  pub both_read : (image : Image) (script : Script) → image_of_order ≡ Ok image
      → script_of_order ≡ Ok script
      → parts_of order files ≡ Ok (record { image = image; script = script })
  both_read image script e f =
      parts_steps order files ∙ ap (with_image order files) e ∙ ap (with_script image) f

  -- ---- and back

  pub record AreRead (parts : Parts) : Type 0 where
    pub loaded : image_of_order ≡ Ok parts.image
    pub read : script_of_order ≡ Ok parts.script

  same_parts : (one other : Parts) → ◌≡◌ {A = Result Parts Refused} (Ok one) (Ok other)
      → one ≡ other
  same_parts one other e = cc

  pub parts_read : (parts : Parts) → parts_of order files ≡ Ok parts → AreRead parts
  parts_read parts e = by_image image_of_order refl (sym (parts_steps order files) ∙ e) where
    by_script : (image : Image) → image_of_order ≡ Ok image → (read : Result Script Refused)
        → script_of_order ≡ read → with_script image read ≡ Ok parts → AreRead parts
    by_script image loaded (Err why) is said = absurd cc
    by_script image loaded (Ok script) is said =
        let same = same_parts (record { image = image; script = script }) parts said in record {
          loaded = loaded ∙ ap (λ (p : Parts). Ok p.image) same;
          read = is ∙ ap (λ (p : Parts). Ok p.script) same;
        }

    by_image : (read : Result Image Refused) → image_of_order ≡ read
        → with_image order files read ≡ Ok parts → AreRead parts
    by_image (Err why) is said = absurd cc
    by_image (Ok image) is said = by_script image is script_of_order refl said

-- ---- the store after them

abbrev pub with_records : RunOrder → Parts → Result (List Record) Refused → Result Start Refused
with_records order parts read =
    whole.◌>>=◌ read (λ records. Ok (start_from order parts records))

abbrev pub with_parts : RunOrder → Storage → Result Parts Refused → Result Start Refused
with_parts order storage read =
    whole.◌>>=◌ read
    (λ parts. with_records order parts (records_for order.is_stored storage))

abbrev start_by_script : RunOrder → Storage → Image → Result Script Refused
    → Result Start Refused
start_by_script order storage image read =
    whole.◌>>=◌ read
    (λ script. with_records order (record { image = image; script = script })
    (records_for order.is_stored storage))

module _ (order : RunOrder) (files : Files) (storage : Storage) where
  pub begins : whole.start_of order files storage
      ≡ with_parts order storage (parts_of order files)
  unfolding whole.start_of parts_of
  begins = by_image (image_in (4096 * order.ram_pages) (files order.image)) where
    by_script : (image : Image) (read : Result Script Refused)
        → start_by_script order storage image read
        ≡ with_parts order storage (with_script image read)
    by_script image (Err why) = refl
    by_script image (Ok script) = refl

    by_image : (read : Result Image Refused)
        → whole.◌>>=◌ read
        (λ image. start_by_script order storage image (script_for order.harts order.script files))
        ≡ with_parts order storage (with_image order files read)
    by_image (Err why) = refl
    by_image (Ok image) = by_script image (script_for order.harts order.script files)

  pub run_refused : (why : Refused) → parts_of order files ≡ Err why
      → whole.start_of order files storage ≡ Err why
  run_refused why e = begins ∙ ap (with_parts order storage) e

  pub store_refused : (parts : Parts) (why : Refused) → parts_of order files ≡ Ok parts
      → records_for order.is_stored storage ≡ Err why
      → whole.start_of order files storage ≡ Err why
  store_refused parts why e f =
      begins ∙ ap (with_parts order storage) e ∙ ap (with_records order parts) f

  pub begun : (parts : Parts) (records : List Record) → parts_of order files ≡ Ok parts
      → records_for order.is_stored storage ≡ Ok records
      → whole.start_of order files storage ≡ Ok (start_from order parts records)
  begun parts records e f =
      begins ∙ ap (with_parts order storage) e ∙ ap (with_records order parts) f

  -- ---- and back

  pub record IsBegun (start : Start) : Type 0 where
    pub parts : Parts
    pub records : List Record
    pub read : parts_of order files ≡ Ok parts
    pub found : records_for order.is_stored storage ≡ Ok records
    pub is : start ≡ start_from order parts records

  same_start : (one other : Start) → ◌≡◌ {A = Result Start Refused} (Ok one) (Ok other)
      → one ≡ other
  same_start one other e = cc

  pub start_parts : (start : Start) → whole.start_of order files storage ≡ Ok start → IsBegun start
  start_parts start e = by_parts (parts_of order files) refl (sym begins ∙ e) where
    by_records : (parts : Parts) → parts_of order files ≡ Ok parts
        → (found : Result (List Record) Refused) → records_for order.is_stored storage ≡ found
        → with_records order parts found ≡ Ok start → IsBegun start
    by_records parts read (Err why) is said = absurd cc
    by_records parts read (Ok records) is said = record {
      parts = parts;
      records = records;
      read = read;
      found = is;
      is = same_start start (start_from order parts records) (sym said);
    }

    by_parts : (read : Result Parts Refused) → parts_of order files ≡ read
        → with_parts order storage read ≡ Ok start → IsBegun start
    by_parts (Err why) is said = absurd cc
    by_parts (Ok parts) is said =
        by_records parts is (records_for order.is_stored storage) refl said
