-- What the program says of a run: a status and a text.
use Rattle.std.specs.Prelude.{ℕ, List, [], ◌++◌, codes, decimal, flat_map, Option, Some, None}
use Rattle.sha2.specs.Sha256.{sha256}
use Rattle.bn_types.specs.declared.digest.Digest.{Digest}
use Rattle.bn_types.specs.declared.ending.Ending.{Ending}
use Rattle.bn_types.specs.declared.ending.Ending.TheVariants as ending
use Rattle.bn_types.specs.declared.finish.Finish.{Finish}
use Rattle.bn_types.specs.declared.finish.Finish.TheVariants.{Shutdown, Limit}
use Rattle.bn_types.specs.declared.line.Line.TheVariants.{End}
use Rattle.bn_types.specs.declared.status.Status.{Status}
use Rattle.bn_types.specs.declared.status.Status.TheVariants as status
use Rattle.bn_types.specs.declared.image_fault.ImageFault.{ImageFault}
use Rattle.bn_types.specs.declared.image_sort.ImageSort.{ImageSort}
use Rattle.bn_types.specs.declared.image_sort.ImageSort.TheVariants as image_sort
use Rattle.bn_model.specs.Running.{Course}
use Rattle.bn_model.specs.Spelling.{spelling, text_of}
use Rattle.bn_model.specs.Memory.{visible}
use Rattle.bn_model.specs.State.{State, memory}

pub record Report : Type 0 where
  pub status : Status
  pub text : List ℕ

-- the files by name, None where there is none
abbrev pub Files : Type 0
Files = List ℕ → Option (List ℕ)

-- ---- the run

abbrev pub bytes_if_free : Option (List ℕ) → List ℕ
bytes_if_free None = []
bytes_if_free (Some bytes) = bytes

-- the digest of all pages that no module owns, in ascending order (SHA-256, FIPS 180-4)
unfoldable pub public_digest : State → Digest
public_digest s = record { 0 = sha256 (flat_map bytes_if_free (visible (memory s))) }

abbrev pub end_line : State → Finish → List ℕ
end_line s finish = spelling (End s.clock finish (public_digest s))

-- what ends a run, after its lines
abbrev pub closing : Ending → State → Report
closing ending.Shutdown s = record { status = status.Ended; text = end_line s Shutdown }
closing ending.Limit s = record { status = status.Limit; text = end_line s Limit }

abbrev pub report_of_course : Course → Report
report_of_course c = let last = closing c.ending c.last in record last
    { text = text_of c.told ++ last.text }

-- ---- image files

abbrev pub sort_word : ImageSort → List ℕ
sort_word image_sort.Long = codes "long"
sort_word image_sort.Empty = codes "empty"
sort_word image_sort.Short = codes "short"
sort_word image_sort.Class = codes "class"
sort_word image_sort.Order = codes "order"
sort_word image_sort.Kind = codes "kind"
sort_word image_sort.Machine = codes "machine"
sort_word image_sort.Headers = codes "headers"
sort_word image_sort.Sizes = codes "sizes"
sort_word image_sort.Bytes = codes "bytes"
sort_word image_sort.Range = codes "range"
sort_word image_sort.Nothing = codes "none"
sort_word image_sort.Entry = codes "entry"

-- the line of a faulty image: what is wrong, and where
unfoldable pub fault_line : ImageFault → List ℕ
fault_line fault = codes "image " ++ sort_word fault.sort ++ codes " " ++ decimal fault.at ++ codes
    "\n"
