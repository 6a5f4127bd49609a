-- Writing and reading lines are each other's inverse.
use Rattle.std.specs.Prelude.{◌≡◌, ℕ, true, List, ◌++◌, length, take, Ok}
use Rattle.bn_types.specs.declared.line.Line.{Line}
use Rattle.bn_model.specs.LineReading.{is_line, read_of}
use Rattle.bn_model.specs.Spelling.{spelling}

-- a line whose fields are in their ranges is read from its spelling, whatever comes after
abbrev pub SpellingsAreRead : Type 0
SpellingsAreRead =
    (line : Line) (more : List ℕ) → is_line line ≡ true →
    read_of (spelling line ++ more) ≡ Ok (line, length (spelling line))

-- what a line is read from is the spelling of that line
pub record IsSpelled (whole : List ℕ) (line : Line) (len : ℕ) : Type 0 where
  pub ranges : is_line line ≡ true
  pub text : take len whole ≡ spelling line
