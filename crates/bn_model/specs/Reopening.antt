-- What the two areas of a store open to under a register: only what has the register's SHA-256
-- digest (FIPS 180-4). A register of zeros is that of a new machine.
use Rattle.std.specs.Prelude.{ℕ, Bool, true, false, List, replicate, bytes_eq}
use Rattle.sha2.specs.Sha256.{sha256}
use Rattle.bn_model.specs.StoredImages.{Reading, stored}

pub data Opened : Type 0 where
  -- the register is that of a new machine
  Fresh : Opened
  -- what the first area with the register's digest is read as
  Holds : (reading : Reading) → Opened
  -- no area has that digest
  Mismatch : Opened

-- the register of a new machine
unfoldable pub no_digest : List ℕ
no_digest = replicate 32 0

abbrev pub holding : (is_first is_second : Bool) → (first second : List ℕ) → Opened
holding true is_second first second = Holds (stored first)
holding false true first second = Holds (stored second)
holding false false first second = Mismatch

abbrev pub opens_by : Bool → (first second register : List ℕ) → Opened
opens_by true first second register = Fresh
opens_by false first second register =
    holding (bytes_eq (sha256 first) register) (bytes_eq (sha256 second) register) first second

unfoldable pub opens : (first second register : List ℕ) → Opened
opens first second register = opens_by (bytes_eq register no_digest) first second register
