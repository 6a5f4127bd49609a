-- What the readers of files answer, from what the desk answered.
use Rattle.std.proofs.Common.{◌≡◌, ◌≢◌, ℕ, ◌*◌, ◌<◌, ◌≤◌, Bool, true, false, List, [], take, Option}
use Rattle.std.proofs.Common.{Some}
use Rattle.std.proofs.Common.{None, Result, Ok, Err, IfOk, IsSomeAnd, Vec, refl, sym, ap, subst}
use Rattle.std.proofs.Common.{◌∙◌}
use Rattle.std.proofs.Common.{arith, bytes_eq}
use Rattle.std.proofs.lemmas.Slice.Eq.{bytes_eq-Decides}
use Rattle.std.specs.declared.alloc.Global.{Global}
use Rattle.bn_edge.specs.declared.desk_fault.DeskFault.{DeskFault}
use Rattle.bn_edge.specs.declared.desk_fault.DeskFault.TheVariants as desk
use Rattle.bn_edge.specs.Accounts.{DeskAccount}
use Rattle.bn_edge.specs.Counts.{CanCount, CountsFaults, CountsMisses, Rises, Stays}
use Rattle.bn_edge.specs.Files.{Agrees, IsAnswerOf, file_named}
use Rattle.bn_edge.proofs.Wrote.{stays_on}
use Rattle.bn_loader.specs.declared.loaded.Loaded.{Loaded}
use Rattle.bn_loader.specs.Answers.{as_image}
use Rattle.bn_types.specs.declared.image_fault.ImageFault.{ImageFault}
use Rattle.bn_model.specs.CommandLines.{RunOrder}
use Rattle.bn_model.specs.Images as images
use Rattle.bn_model.specs.Images.{image_of}
use Rattle.bn_model.specs.Opening.{Image}
use Rattle.bn_model.specs.Reporting.{Files}
use Rattle.bn_model.specs.Scripts.{Script, script_in}
use Rattle.bn_model.specs.WholeRuns.{Refused, image_in, image_loaded, script_file}
use Rattle.bn_model.specs.WholeRuns.{script_for}
use Rattle.bn_model.specs.WholeRuns.{script_read}
use Rattle.bn_front.specs.declared.named_file.NamedFile.{NamedFile}
use Rattle.bn_front.specs.declared.named_file.NamedFile.TheVariants as named
use Rattle.bn_front.specs.declared.refusal.Refusal.{Refusal}
use Rattle.bn_front.specs.declared.refusal.Refusal.TheVariants as refusal
use Rattle.bn_front.specs.Due.{AreTold, ComesTo}
use Rattle.bn_front.specs.Reading.{Fills, FindsScript, IsFront, Judges}
use Rattle.bn_front.specs.Reading.{ReadsRun, files_seen, image_meant, refusal_of, seen_if}
use Rattle.bn_front.proofs.Beginnings.{both_read, image_refused, script_refused}
use Rattle.bn_front.proofs.ImageLemmas.{IsWhole, front_of_image, image_whole}
use Rattle.bn_front.proofs.ScriptFiles.{front_of_script, no_script}

abbrev Told : Type 0
Told = Option (List (List ℕ × List ℕ))

-- ---- the files that are seen

pub seen_told : (told : Told) (image : List ℕ) (file other : Option (List ℕ))
    → AreTold told (files_seen told image file other)
seen_told None image file other = tt
seen_told (Some told) image file other = λ name. refl

seen_image : (name : List ℕ) (file other : Option (List ℕ))
    → seen_if (bytes_eq name name) file other ≡ file
seen_image name file other =
    ap (λ (b : Bool). seen_if b file other) ((bytes_eq-Decides name name).1 refl)

seen_other : (name image : List ℕ) (file other : Option (List ℕ)) → name ≢ image
    → seen_if (bytes_eq name image) file other ≡ other
seen_other name image file other apart = by_test (bytes_eq name image) refl where
  by_test : (b : Bool) → bytes_eq name image ≡ b → seen_if b file other ≡ other
  by_test true e = absurd (apart ((bytes_eq-Decides name image).0 e))
  by_test false e = refl

-- the image's file, of which a front was read, comes to what the front does
front_image : (told : Told) (size : ℕ) (image file : List ℕ) (other : Option (List ℕ))
    → IsFront told image file
    → image_in size (files_seen told image (Some file) other image) ≡ image_in size (Some file)
front_image None size image file other front =
    ap (image_in size) (seen_image image (Some file) other)
front_image (Some told) size image file other front = by_file (file_named told image) front where
  by_file : (found : Option (List ℕ)) → IsSomeAnd found (λ all. file ≡ take 33554433 all)
      → image_in size found ≡ image_in size (Some file)
  by_file None e = elim e [ ]
  by_file (Some all) e =
      ap image_loaded
      (sym (ap (image_of size) e ∙ front_of_image 33554433 size all (omega arith)))

-- and so it does as a script
front_script : (told : Told) (harts : ℕ) (image file : List ℕ) (other : Option (List ℕ))
    → IsFront told image file
    → script_file harts (files_seen told image (Some file) other image)
    ≡ script_read (script_in harts file)
front_script None harts image file other front =
    ap (script_file harts) (seen_image image (Some file) other)
front_script (Some told) harts image file other front = by_file (file_named told image) front
  where
    by_file : (found : Option (List ℕ)) → IsSomeAnd found (λ all. file ≡ take 33554433 all)
        → script_file harts found ≡ script_read (script_in harts file)
    by_file None e = elim e [ ]
    by_file (Some all) e =
        ap script_read
        (sym (ap (script_in harts) e ∙ front_of_script 33554433 harts all (omega arith)))

-- another file, of which a front was read
front_other : (told : Told) (harts : ℕ) (name image file : List ℕ) (text : Vec ℕ Global)
    → name ≢ image → Agrees told name 1048577 (Ok text)
    → script_file harts (files_seen told image (Some file) (Some text.items) name)
    ≡ script_read (script_in harts text.items)
front_other None harts name image file text apart agrees =
    ap (script_file harts) (seen_other name image (Some file) (Some text.items) apart)
front_other (Some told) harts name image file text apart agrees =
    by_file (file_named told name) agrees
  where
    by_file : (found : Option (List ℕ)) → IsAnswerOf found 1048577 (Ok text)
        → script_file harts found ≡ script_read (script_in harts text.items)
    by_file None e = elim e [ ]
    by_file (Some all) e =
        ap script_read
        (sym (ap (script_in harts) e ∙ front_of_script 1048577 harts all (omega arith)))

-- a file that is missing
missing_other : (told : Told) (name image file : List ℕ) → name ≢ image
    → Agrees told name 1048577 (Err desk.Missing)
    → files_seen told image (Some file) None name ≡ None
missing_other None name image file apart agrees = seen_other name image (Some file) None apart
missing_other (Some told) name image file apart agrees = agrees

missing_image : (told : Told) (image : List ℕ) → Agrees told image 33554433 (Err desk.Missing)
    → files_seen told image None None image ≡ None
missing_image None image agrees = seen_image image None None
missing_image (Some told) image agrees = agrees

-- the answer of a desk is a front of the image's file
pub answer_front : (told : Told) (image : List ℕ) (file : Vec ℕ Global)
    → Agrees told image 33554433 (Ok file) → IsFront told image file.items
answer_front None image file agrees = tt
answer_front (Some told) image file agrees = agrees

-- ---- images

-- an image that was loaded fills RAM
pub image_fills : (pages : ℕ) (file : List ℕ) (image : Loaded) → pages ≤ 4096
    → image_of (4096 * pages) file ≡ Ok (as_image image) → Fills pages image
image_fills pages file image few e =
    let whole : IsWhole (4096 * pages) (as_image image) =
    subst (λ (r : Result images.Image ImageFault). IfOk r (IsWhole (4096 * pages))) e
    (image_whole (4096 * pages) file (omega (arith, few))) in
    record { whole = whole.long; entry = whole.entry.aligned }

-- ---- scripts

pub differ : (a b c : List ℕ) → b ≡ c → bytes_eq a b ≡ false → a ≢ c
differ a b c same apart e =
    let equal : bytes_eq a b ≡ true = (bytes_eq-Decides a b).1 (e ∙ sym same) in cc

-- a script that was judged, where no count changed
judged_script : (order : RunOrder) (file : List ℕ) (result : Result Script Refusal)
    (old new : DeskAccount) (other : Option (List ℕ))
    → Judges (λ script. script)
    (script_for order.harts order.script (files_seen old.files order.image (Some file) other))
    result
    → Stays old.misses new.misses → Stays old.faults new.faults
    → FindsScript order file result old new
judged_script order file (Ok script) old new other judged missed quiet =
    record { other = other; gives = judged; missed = missed; quiet = quiet }
judged_script order file (Err (refusal.Missing at)) old new other judged missed quiet =
    absurd judged
judged_script order file (Err (refusal.Failed at)) old new other judged missed quiet =
    absurd judged
judged_script order file (Err (refusal.Image fault)) old new other judged missed quiet =
    record { other = other; gives = judged; missed = missed; quiet = quiet }
judged_script order file (Err (refusal.Script fault)) old new other judged missed quiet =
    record { other = other; gives = judged; missed = missed; quiet = quiet }
judged_script order file (Err refusal.Memory) old new other judged missed quiet =
    record { other = other; gives = tt; missed = missed; quiet = quiet }

module _ (order : RunOrder) (file : List ℕ) (old new : DeskAccount) where
  abbrev seen : Option (List ℕ) → Files
  seen other = files_seen old.files order.image (Some file) other

  as_judged : (result : Result Script Refusal) (other : Option (List ℕ))
      (expected : Result Script Refused)
      → expected ≡ script_for order.harts order.script (seen other)
      → Judges (λ script. script) expected result
      → Judges (λ script. script) (script_for order.harts order.script (seen other)) result
  as_judged result other expected e judged =
      subst (λ (r : Result Script Refused). Judges (λ script. script) r result) e judged

  -- no script is named
  pub turns_found : (result : Result Script Refusal) → order.script ≡ None → new ≡ old
      → Judges (λ script. script) (script_read (script_in order.harts [])) result
      → FindsScript order file result old new
  turns_found result unnamed same judged =
      judged_script order file result old new None
      (as_judged result None (script_read (script_in order.harts []))
      (ap script_read (no_script order.harts)
      ∙ sym (ap (λ (name : Option (List ℕ)). script_for order.harts name (seen None)) unnamed))
      judged)
      (λ can. ap (λ (d : DeskAccount). d.misses) same)
      (λ can. ap (λ (d : DeskAccount). d.faults) same)

  module _ (name : List ℕ) (is_named : order.script ≡ Some name) where
    by_name : (other : Option (List ℕ))
        → script_for order.harts order.script (seen other)
        ≡ script_file order.harts (seen other name)
    by_name other =
        ap (λ (n : Option (List ℕ)). script_for order.harts n (seen other)) is_named

    -- the image's file is the script's
    pub same_found : (result : Result Script Refusal) → name ≡ order.image → new ≡ old
        → IsFront old.files order.image file
        → Judges (λ script. script) (script_read (script_in order.harts file)) result
        → FindsScript order file result old new
    same_found result is same front judged =
        judged_script order file result old new None
        (as_judged result None (script_read (script_in order.harts file))
        (sym (by_name None ∙ ap (λ (n : List ℕ). script_file order.harts (seen None n)) is
        ∙ front_script old.files order.harts order.image file None front)) judged)
        (λ can. ap (λ (d : DeskAccount). d.misses) same)
        (λ can. ap (λ (d : DeskAccount). d.faults) same)

    -- the desk gave another
    pub other_found : (result : Result Script Refusal) (text : Vec ℕ Global) → name ≢ order.image
        → Agrees old.files name 1048577 (Ok text) → Stays old.misses new.misses
        → Stays old.faults new.faults
        → Judges (λ script. script) (script_read (script_in order.harts text.items)) result
        → FindsScript order file result old new
    other_found result text apart agrees missed quiet judged =
        judged_script order file result old new (Some text.items)
        (as_judged result (Some text.items) (script_read (script_in order.harts text.items))
        (sym (by_name (Some text.items)
        ∙ front_other old.files order.harts name order.image file text apart agrees)) judged)
        missed quiet

    -- the desk gave none
    pub other_refused : (fault : DeskFault) → name ≢ order.image
        → Agrees old.files name 1048577 (Err fault)
        → CountsMisses {A = Vec ℕ Global} (Err fault) old.misses new.misses
        → CountsFaults {A = Vec ℕ Global} (Err fault) old.faults new.faults
        → FindsScript order file (Err (refusal_of named.Script fault)) old new
    other_refused desk.Missing apart agrees missed quiet = record {
      other = None;
      gives =
          by_name None
          ∙ ap (script_file order.harts)
          (missing_other old.files name order.image file apart agrees);
      missed = missed;
      quiet = quiet;
    }
    other_refused desk.Failed apart agrees missed rose = record {
      is = refl;
      name = name;
      named = is_named;
      other = apart;
      missed = missed;
      rose = rose;
    }
    other_refused desk.Memory apart agrees missed quiet =
        record { other = None; gives = tt; missed = missed; quiet = quiet }

-- ---- counts

rises_on : (old mid new : ℕ) → Stays old mid → Rises mid new → Rises old new
rises_on old mid new first then can =
    let same = first can in
    subst (λ (n : ℕ). n < new) same (then (subst CanCount (sym same) can))

-- ---- runs

-- nothing but memory is wanted
wanted : (order : RunOrder) (old new : DeskAccount) → Stays old.misses new.misses
    → Stays old.faults new.faults → ReadsRun order (Err refusal.Memory) old new
wanted order old new missed quiet = record {
  files = files_seen old.files order.image None None;
  agrees = seen_told old.files order.image None None;
  gives = tt;
  missed = missed;
  quiet = quiet;
}

-- the desk gave no image
pub image_unread : (order : RunOrder) (old new : DeskAccount) (fault : DeskFault)
    → Agrees old.files order.image 33554433 (Err fault)
    → CountsMisses {A = Vec ℕ Global} (Err fault) old.misses new.misses
    → CountsFaults {A = Vec ℕ Global} (Err fault) old.faults new.faults
    → ReadsRun order (Err (refusal_of named.Image fault)) old new
image_unread order old new desk.Missing agrees missed quiet =
    let files = files_seen old.files order.image None None in record {
      files = files;
      agrees = seen_told old.files order.image None None;
      gives =
          image_refused order files _
          (ap (image_in (4096 * order.ram_pages))
          (missing_image old.files order.image agrees));
      missed = missed;
      quiet = quiet;
    }
image_unread order old new desk.Failed agrees missed rose =
    record { comes = tt; missed = missed; rose = rose }
image_unread order old new desk.Memory agrees missed quiet = wanted order old new missed quiet

module _ (order : RunOrder) (file : List ℕ) (old mid : DeskAccount)
    (front : IsFront old.files order.image file)
    (missed : Stays old.misses mid.misses) (quiet : Stays old.faults mid.faults) where
  abbrev shown : Option (List ℕ) → Files
  shown other = files_seen old.files order.image (Some file) other

  loaded : (other : Option (List ℕ)) (expected : Result Image Refused)
      → image_in (4096 * order.ram_pages) (Some file) ≡ expected
      → image_in (4096 * order.ram_pages) (shown other order.image) ≡ expected
  loaded other expected e =
      front_image old.files (4096 * order.ram_pages) order.image file other front ∙ e

  -- the image is faulty
  pub image_faulty : (why : Refusal)
      → Judges (λ image. image_meant image) (image_in (4096 * order.ram_pages) (Some file))
      (Err why)
      → ReadsRun order (Err why) old mid
  image_faulty (refusal.Missing at) judged = absurd judged
  image_faulty (refusal.Failed at) judged = absurd judged
  image_faulty (refusal.Image fault) judged = record {
    files = shown None;
    agrees = seen_told old.files order.image (Some file) None;
    gives = image_refused order (shown None) _ (loaded None _ judged);
    missed = missed;
    quiet = quiet;
  }
  image_faulty (refusal.Script fault) judged = record {
    files = shown None;
    agrees = seen_told old.files order.image (Some file) None;
    gives = image_refused order (shown None) _ (loaded None _ judged);
    missed = missed;
    quiet = quiet;
  }
  image_faulty refusal.Memory judged = wanted order old mid missed quiet

  -- the script was read after it, or refused
  module _ (image : Loaded) (new : DeskAccount) (kept : mid.files ≡ old.files)
      (accepted : image_in (4096 * order.ram_pages) (Some file) ≡ Ok (image_meant image)) where
    abbrev asked : (told : Told) → Option (List ℕ) → Result Script Refused
    asked told other =
        script_for order.harts order.script (files_seen told order.image (Some file) other)

    before : (other : Option (List ℕ)) (expected : Result Script Refused)
        → asked mid.files other ≡ expected → asked old.files other ≡ expected
    before other expected e = ap (λ (told : Told). asked told other) (sym kept) ∙ e

    pub inputs_read : (script : Script) → FindsScript order file (Ok script) mid new
        → ReadsRun order (Ok (record { image = image; script = script })) old new
    inputs_read script found = record {
      files = shown found.other;
      agrees = seen_told old.files order.image (Some file) found.other;
      gives =
          both_read order (shown found.other) (image_meant image) script
          (loaded found.other _ accepted) (before found.other _ found.gives);
      missed = stays_on _ _ _ missed found.missed;
      quiet = stays_on _ _ _ quiet found.quiet;
    }

    pub script_unread : (why : Refusal) → FindsScript order file (Err why) mid new
        → ReadsRun order (Err why) old new
    script_unread (refusal.Missing at) found = record {
      files = shown found.other;
      agrees = seen_told old.files order.image (Some file) found.other;
      gives =
          script_refused order (shown found.other) (image_meant image) _
          (loaded found.other _ accepted) (before found.other _ found.gives);
      missed = rises_on _ _ _ missed found.missed;
      quiet = stays_on _ _ _ quiet found.quiet;
    }
    script_unread (refusal.Failed at) found = record {
      comes = subst (λ (n : NamedFile). ComesTo n order old) (sym found.is) (record {
        files = shown None;
        agrees = seen_told old.files order.image (Some file) None;
        image = image_meant image;
        accepted = loaded None _ accepted;
        name = found.name;
        named = found.named;
        other = found.other;
      });
      missed = stays_on _ _ _ missed found.missed;
      rose = rises_on _ _ _ quiet found.rose;
    }
    script_unread (refusal.Image fault) found = record {
      files = shown found.other;
      agrees = seen_told old.files order.image (Some file) found.other;
      gives =
          script_refused order (shown found.other) (image_meant image) _
          (loaded found.other _ accepted) (before found.other _ found.gives);
      missed = stays_on _ _ _ missed found.missed;
      quiet = stays_on _ _ _ quiet found.quiet;
    }
    script_unread (refusal.Script fault) found = record {
      files = shown found.other;
      agrees = seen_told old.files order.image (Some file) found.other;
      gives =
          script_refused order (shown found.other) (image_meant image) _
          (loaded found.other _ accepted) (before found.other _ found.gives);
      missed = stays_on _ _ _ missed found.missed;
      quiet = stays_on _ _ _ quiet found.quiet;
    }
    script_unread refusal.Memory found =
        wanted order old new (stays_on _ _ _ missed found.missed)
        (stays_on _ _ _ quiet found.quiet)
