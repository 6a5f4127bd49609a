-- What the readers of a run's files answer: a value or a refusal, as the definitions have it.
use Rattle.std.specs.Prelude.{◌≡◌, ◌≢◌, ℕ, ◌%◌, ◌*◌, Bool, true, false, List, take, length}
use Rattle.std.specs.Prelude.{Option, Some}
use Rattle.std.specs.Prelude.{None, Result, Ok, Err, IsSomeAnd, bytes_eq}
use Rattle.bn_edge.specs.declared.desk_fault.DeskFault.{DeskFault}
use Rattle.bn_edge.specs.declared.desk_fault.DeskFault.TheVariants as desk
use Rattle.bn_edge.specs.Accounts.{DeskAccount}
use Rattle.bn_edge.specs.Counts.{Rises, Stays}
use Rattle.bn_edge.specs.Files.{file_named}
use Rattle.bn_loader.specs.declared.loaded.Loaded.{Loaded}
use Rattle.bn_model.specs.CommandLines.{RunOrder}
use Rattle.bn_model.specs.Opening.{Image}
use Rattle.bn_model.specs.Reporting.{Files, fault_line}
use Rattle.bn_model.specs.Scripts.{Script}
use Rattle.bn_model.specs.WholeRuns.{◌>>=◌, BadImage, BadScript, NoFile, Refused, Start, image_in}
use Rattle.bn_model.specs.WholeRuns.{refused, script_for, script_line}
use Rattle.bn_types.specs.declared.record.Record.{Record}
use Rattle.bn_front.specs.declared.inputs.Inputs.{Inputs}
use Rattle.bn_front.specs.declared.named_file.NamedFile.{NamedFile}
use Rattle.bn_front.specs.declared.named_file.NamedFile.TheVariants as named
use Rattle.bn_front.specs.declared.refusal.Refusal.{Refusal}
use Rattle.bn_front.specs.declared.refusal.Refusal.TheVariants as refusal
use Rattle.bn_front.specs.Due.{AreTold, ComesTo, missing_line}
use Rattle.bn_front.specs.Starts.{Parts, start_from}

-- ---- refusals

-- why a named file wasn't read
abbrev pub refusal_of : NamedFile → DeskFault → Refusal
refusal_of file desk.Missing = refusal.Missing file
refusal_of file desk.Failed = refusal.Failed file
refusal_of file desk.Memory = refusal.Memory

-- A judge of bytes gives what the definitions have: a value or a refusal. Want of memory may come
-- in place of both.
abbrev pub Judges : {A B : Type 0} → (A → B) → Result B Refused → Result A Refusal → Type 0
Judges meant expected (Ok value) = expected ≡ Ok (meant value)
Judges meant expected (Err (refusal.Missing file)) = ⊥
Judges meant expected (Err (refusal.Failed file)) = ⊥
Judges meant expected (Err (refusal.Image fault)) = expected ≡ refused BadImage (fault_line fault)
Judges meant expected (Err (refusal.Script fault)) =
    expected ≡ refused BadScript (script_line fault)
Judges meant expected (Err refusal.Memory) = Unit {0}

-- so does a reader of files, of which one may be missing
abbrev pub Gives : {A B : Type 0} → (A → B) → Result B Refused → Result A Refusal → Type 0
Gives meant expected (Err (refusal.Missing file)) = expected ≡ refused NoFile (missing_line file)
Gives meant expected result = Judges meant expected result

-- the misses rise exactly where a file is missing
abbrev pub CountsMissing : {A : Type 0} → Result A Refusal → ℕ → ℕ → Type 0
CountsMissing (Err (refusal.Missing file)) old new = Rises old new
CountsMissing result old new = Stays old new

-- ---- what is read

abbrev pub image_meant : Loaded → Image
image_meant image = record { bytes = image.bytes.items; entry = image.entry }

abbrev pub parts_meant : Inputs → Parts
parts_meant inputs = record { image = image_meant inputs.image; script = inputs.script }

-- what the files of a run come to, or what refuses it before its store is opened: the image's file,
-- the image, the script's file, the script
unfoldable pub parts_of : RunOrder → Files → Result Parts Refused
parts_of order files =
    image_in (4096 * order.ram_pages) (files order.image)
    >>= (λ image. script_for order.harts order.script files
    >>= (λ script. Ok (record { image = image; script = script })))

-- where a run begins that has these inputs and records
abbrev pub start_with : RunOrder → Inputs → List Record → Start
start_with order inputs records = start_from order (parts_meant inputs) records

-- an image fills RAM and is entered at an instruction
pub record Fills (pages : ℕ) (image : Loaded) : Type 0 where
  pub whole : length image.bytes.items ≡ 4096 * pages
  pub entry : image.entry % 4 ≡ 0

-- the inputs are for the machine of an order
pub record Fit (order : RunOrder) (inputs : Inputs) : Type 0 where
  pub image : Fills order.ram_pages inputs.image
  pub harts : inputs.script.harts ≡ order.harts

-- ---- files

-- the first bytes of the image's file, where the desk tells it: one more than an image may have
abbrev pub IsFront : Option (List (List ℕ × List ℕ)) → (name file : List ℕ) → Type 0
IsFront None name file = Unit {0}
IsFront (Some told) name file = IsSomeAnd (file_named told name) (λ all. file ≡ take 33554433 all)

abbrev pub seen_if : (is_image : Bool) → (file other : Option (List ℕ)) → Option (List ℕ)
seen_if true file other = file
seen_if false file other = other

-- the files that a desk tells, or else those that its answers show: the image's, and any other
abbrev pub files_seen :
    Option (List (List ℕ × List ℕ)) → (image : List ℕ) → (file other : Option (List ℕ)) → Files
files_seen None image file other name = seen_if (bytes_eq name image) file other
files_seen (Some told) image file other name = file_named told name

-- ---- reading

-- reading fails at a file to which the run comes
pub record FailsAt (file : NamedFile) (order : RunOrder) (old new : DeskAccount) : Type 0 where
  pub comes : ComesTo file order old
  pub missed : Stays old.misses new.misses
  pub rose : Rises old.faults new.faults

-- a run's inputs are read as the definitions have it over the files of the desk
pub record ReadsInputs (order : RunOrder) (result : Result Inputs Refusal) (old new : DeskAccount)
    : Type 0 where
  pub files : Files
  pub agrees : AreTold old.files files
  pub gives : Gives (λ inputs. parts_meant inputs) (parts_of order files) result
  pub missed : CountsMissing result old.misses new.misses
  pub quiet : Stays old.faults new.faults

abbrev pub ReadsRun : RunOrder → Result Inputs Refusal → DeskAccount → DeskAccount → Type 0
ReadsRun order (Err (refusal.Failed file)) old new = FailsAt file order old new
ReadsRun order result old new = ReadsInputs order result old new

-- a script is read, once the image's file was
pub record ReadsScript (order : RunOrder) (file : List ℕ) (result : Result Script Refusal)
    (old new : DeskAccount) : Type 0 where
  pub other : Option (List ℕ)
  pub gives : Gives (λ script. script)
      (script_for order.harts order.script (files_seen old.files order.image (Some file) other))
      result
  pub missed : CountsMissing result old.misses new.misses
  pub quiet : Stays old.faults new.faults

-- it isn't, since reading its file failed, which isn't the image's
pub record FailsScript (file : NamedFile) (order : RunOrder) (old new : DeskAccount) : Type 0 where
  pub is : file ≡ named.Script
  pub name : List ℕ
  pub named : order.script ≡ Some name
  pub other : name ≢ order.image
  pub missed : Stays old.misses new.misses
  pub rose : Rises old.faults new.faults

abbrev pub FindsScript : RunOrder → (file : List ℕ) → Result Script Refusal → DeskAccount
    → DeskAccount → Type 0
FindsScript order file (Err (refusal.Failed at)) old new = FailsScript at order old new
FindsScript order file result old new = ReadsScript order file result old new
