-- The register of a chip, which may not tell it.
use Rattle.std.specs.Prelude.{◌≡◌, ◌⊎◌, ℕ, List, Option, Some, None}

-- a read gives the register, where it is told
abbrev pub GivesRegister : Option (List ℕ) → List ℕ → Type 0
GivesRegister None bytes = Unit {0}
GivesRegister (Some held) bytes = bytes ≡ held

-- the register after a set
abbrev pub replaced : Option (List ℕ) → List ℕ → Option (List ℕ)
replaced None value = None
replaced (Some held) value = Some value

-- after a set that failed, or a crash in one: the old value or the new one
abbrev pub IsOldOrNew : Option (List ℕ) → List ℕ → Option (List ℕ) → Type 0
IsOldOrNew old value new = (new ≡ old) ⊎ (new ≡ replaced old value)
