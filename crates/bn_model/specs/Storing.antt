-- The store of a call: what stands in its two areas and in the chip's register, what a call opens
-- them to, and what they hold once its records are committed.
use Rattle.std.specs.Prelude.{ℕ, Bool, true, false, List, [], ◌++◌, bytes_eq, codes, decimal}
use Rattle.std.specs.Prelude.{Result, Ok, Err}
use Rattle.hex.specs.Hex.{encode_lower}
use Rattle.sha2.specs.Sha256.{sha256}
use Rattle.bn_types.specs.declared.record.Record.{Record}
use Rattle.bn_model.specs.Reopening.{Fresh, Holds, Mismatch, Opened, no_digest, opens}
use Rattle.bn_model.specs.StoredImages.{Malformed, Reading, Stored, image_of}

pub record Storage : Type 0 where
  pub first : List ℕ
  pub second : List ℕ
  pub register : List ℕ

-- ---- opening

-- the line where no area has the register's digest: the register and the areas' digests
unfoldable pub mismatch_line : Storage → List ℕ
mismatch_line storage =
    codes "store mismatch " ++ encode_lower storage.register
    ++ codes " " ++ encode_lower (sha256 storage.first)
    ++ codes " " ++ encode_lower (sha256 storage.second) ++ codes "\n"

-- the line where the area with that digest is no stored image, first wrong at this place
unfoldable pub malformed_line : ℕ → List ℕ
malformed_line at = codes "store malformed " ++ decimal at ++ codes "\n"

abbrev pub records_read : Reading → Result (List Record) (List ℕ)
records_read (Stored records) = Ok records
records_read (Malformed at) = Err (malformed_line at)

abbrev pub records_opened : Opened → Storage → Result (List Record) (List ℕ)
records_opened Fresh storage = Ok []
records_opened (Holds reading) storage = records_read reading
records_opened Mismatch storage = Err (mismatch_line storage)

-- the records that a call finds, or the line that refuses them; a new machine has none
unfoldable pub records_in : Storage → Result (List Record) (List ℕ)
records_in storage =
    records_opened (opens storage.first storage.second storage.register) storage

-- ---- committing

abbrev pub written_if : (in_second : Bool) → List ℕ → Storage → Storage
written_if true text storage = record storage { second = text; register = sha256 text }
written_if false text storage = record storage { first = text; register = sha256 text }

-- the first area is written where the machine is new
abbrev pub is_second_free : (is_new is_first : Bool) → Bool
is_second_free true is_first = false
is_second_free false is_first = is_first

-- The image of some records goes to the area that isn't current, and its digest to the register.
-- Current is the first area with the register's digest; the second one, on a new machine.
unfoldable pub committed : List Record → Storage → Storage
committed records storage =
    written_if
    (is_second_free (bytes_eq storage.register no_digest)
    (bytes_eq (sha256 storage.first) storage.register))
    (image_of records) storage
