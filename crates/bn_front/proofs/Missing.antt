-- Which file a run misses.
use Rattle.std.proofs.Common.{◌≡◌, ℕ, ◌*◌, List, Option, Some, None, Result, Ok, Err, refl}
use Rattle.std.proofs.Common.{sym, ap, ◌∙◌, Bool, true, false}
use Rattle.bn_types.specs.declared.image_fault.ImageFault.{ImageFault}
use Rattle.bn_types.specs.declared.record.Record.{Record}
use Rattle.bn_types.specs.declared.script_fault.ScriptFault.{ScriptFault}
use Rattle.bn_edge.specs.Accounts.{DeskAccount}
use Rattle.bn_model.specs.CommandLines.{RunOrder}
use Rattle.bn_model.specs.Images as images
use Rattle.bn_model.specs.Images.{image_of}
use Rattle.bn_model.specs.Opening.{Image}
use Rattle.bn_model.specs.Reporting.{Files}
use Rattle.bn_model.specs.Scripts.{Script, script_in}
use Rattle.bn_model.specs.Storing.{Storage, records_in}
use Rattle.bn_model.specs.WholeRuns.{BadImage, BadScript, BadStore, NoFile, Refused, Start}
use Rattle.bn_model.specs.WholeRuns.{image_in}
use Rattle.bn_model.specs.WholeRuns.{image_loaded, records_for, records_found, script_file}
use Rattle.bn_model.specs.WholeRuns.{script_for, script_line, script_read, start_of}
use Rattle.bn_model.specs.Reporting.{fault_line}
use Rattle.bn_front.specs.declared.named_file.NamedFile.{NamedFile}
use Rattle.bn_front.specs.declared.named_file.NamedFile.TheVariants as named_file
use Rattle.bn_front.specs.Due.{AreTold, ComesTo, missing_line}
use Rattle.bn_front.specs.Reading.{parts_of}
use Rattle.bn_front.specs.Starts.{Parts}
use Rattle.bn_front.proofs.Beginnings.{begins, parts_steps, with_image, with_parts}
use Rattle.bn_front.proofs.Beginnings.{with_records, with_script}

-- the file to which a run comes and that isn't there
pub record IsMissing (order : RunOrder) (files : Files) (text : List ℕ) : Type 0 where
  pub file : NamedFile
  pub comes : (desk : DeskAccount) → AreTold desk.files files → ComesTo file order desk
  pub is : text ≡ missing_line file

same_why : {A : Type 0} (one other : Refused) → ◌≡◌ {A = Result A Refused} (Err one) (Err other)
    → one ≡ other
same_why one other e = cc

-- another refusal isn't of a missing file
module _ (order : RunOrder) (files : Files) (why : Refused) (missing : why.refusal ≡ NoFile) where
  not_image : {A : Type 0} (line : List ℕ)
      → ◌≡◌ {A = Result A Refused} (Err (record { refusal = BadImage; line = line })) (Err why)
      → IsMissing order files why.line
  not_image line e =
      let clash : BadImage ≡ NoFile =
      ap (λ (w : Refused). w.refusal) (same_why _ why e) ∙ missing in
      absurd cc

  not_script : {A : Type 0} (line : List ℕ)
      → ◌≡◌ {A = Result A Refused} (Err (record { refusal = BadScript; line = line })) (Err why)
      → IsMissing order files why.line
  not_script line e =
      let clash : BadScript ≡ NoFile =
      ap (λ (w : Refused). w.refusal) (same_why _ why e) ∙ missing in
      absurd cc

  not_store : {A : Type 0} (line : List ℕ)
      → ◌≡◌ {A = Result A Refused} (Err (record { refusal = BadStore; line = line })) (Err why)
      → IsMissing order files why.line
  not_store line e =
      let clash : BadStore ≡ NoFile =
      ap (λ (w : Refused). w.refusal) (same_why _ why e) ∙ missing in
      absurd cc

  missing_script : (file : List ℕ) (image : Image) → files order.image ≡ Some file
      → image_in (4096 * order.ram_pages) (files order.image) ≡ Ok image
      → with_script image (script_for order.harts order.script files) ≡ Err why
      → IsMissing order files why.line
  missing_script file image is accepted e = by_name order.script refl e where
    by_text : (name text : List ℕ) (read : Result Script ScriptFault)
        → with_script image (script_read read) ≡ Err why → IsMissing order files why.line
    by_text name text (Err fault) said = not_script {A = Parts} (script_line fault) said
    by_text name text (Ok script) said = absurd cc

    by_file : (name : List ℕ) → order.script ≡ Some name → (found : Option (List ℕ))
        → files name ≡ found → with_script image (script_file order.harts found) ≡ Err why
        → IsMissing order files why.line
    by_file name named None gone said = record {
      file = named_file.Script;
      comes = λ desk told. record {
        files = files;
        agrees = told;
        image = image;
        accepted = accepted;
        name = name;
        named = named;
        other = λ same.
            let clash : ◌≡◌ {A = Option (List ℕ)} None (Some file) =
            sym gone ∙ ap files same ∙ is in cc;
      };
      is = ap (λ (w : Refused). w.line) (sym (same_why {A = Parts} _ why said));
    }
    by_file name named (Some text) gone said = by_text name text (script_in order.harts text) said

    by_name : (name : Option (List ℕ)) → order.script ≡ name
        → with_script image (script_for order.harts name files) ≡ Err why
        → IsMissing order files why.line
    by_name None named said = absurd cc
    by_name (Some name) named said = by_file name named (files name) refl said

  missing_part : parts_of order files ≡ Err why → IsMissing order files why.line
  missing_part e = by_file (files order.image) refl (sym (parts_steps order files) ∙ e) where
    by_image : (file : List ℕ) → files order.image ≡ Some file
        → (read : Result images.Image ImageFault)
        → image_of (4096 * order.ram_pages) file ≡ read
        → with_image order files (image_loaded read) ≡ Err why → IsMissing order files why.line
    by_image file is (Err fault) read said = not_image {A = Parts} (fault_line fault) said
    by_image file is (Ok image) read said =
        missing_script file (record { bytes = image.bytes; entry = image.entry }) is
        (ap (image_in (4096 * order.ram_pages)) is ∙ ap image_loaded read) said

    by_file : (found : Option (List ℕ)) → files order.image ≡ found
        → with_image order files (image_in (4096 * order.ram_pages) found) ≡ Err why
        → IsMissing order files why.line
    by_file None is said = record {
      file = named_file.Image;
      comes = λ desk told. tt;
      is = ap (λ (w : Refused). w.line) (sym (same_why {A = Parts} _ why said));
    }
    by_file (Some file) is said =
        by_image file is (image_of (4096 * order.ram_pages) file) refl said

  -- a run that is refused since a file isn't there comes to reading it
  pub missing_file : (storage : Storage) → start_of order files storage ≡ Err why
      → IsMissing order files why.line
  missing_file storage e =
      by_parts (parts_of order files) refl (sym (begins order files storage) ∙ e)
    where
      by_found : (parts : Parts) (found : Result (List Record) (List ℕ))
          → with_records order parts (records_found found) ≡ Err why
          → IsMissing order files why.line
      by_found parts (Ok records) said = absurd cc
      by_found parts (Err line) said = not_store {A = Start} line said

      by_store : (parts : Parts) (b : Bool)
          → with_records order parts (records_for b storage) ≡ Err why
          → IsMissing order files why.line
      by_store parts false said = absurd cc
      by_store parts true said = by_found parts (records_in storage) said

      by_parts : (read : Result Parts Refused) → parts_of order files ≡ read
          → with_parts order storage read ≡ Err why → IsMissing order files why.line
      by_parts (Err other) is said =
          let same : other ≡ why = same_why {A = Start} other why said in
          missing_part (is ∙ ap (λ (w : Refused). Err w) same)
      by_parts (Ok parts) is said = by_store parts order.is_stored said
