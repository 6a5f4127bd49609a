-- The objects in memory as values.
use Rattle.std.specs.Prelude.{◌≡◌, ℕ, ◌+◌, ◌⊎◌, List, map, length, Contains, Vec, String}
use Rattle.std.specs.Prelude.{string_bytes}
use Rattle.std.specs.declared.alloc.Global.{Global}

-- a sink: what was written, its room, the numbers of the calls that fail, and how many calls and
-- faults there were
pub record SinkContents : Type 0 where
  pub bytes : List ℕ
  pub room : ℕ
  pub fails : List ℕ
  pub calls : ℕ
  pub faults : ℕ

-- the next call of a sink fails: it is listed, or the room is full
abbrev pub SinkRefuses : SinkContents → Type 0
SinkRefuses sink = Contains sink.fails (sink.calls + 1) ⊎ (length sink.bytes ≡ sink.room)

-- a desk: its files by name, the numbers of the calls that fail, and how many calls, misses and
-- faults there were
pub record DeskContents : Type 0 where
  pub files : List (List ℕ × List ℕ)
  pub fails : List ℕ
  pub calls : ℕ
  pub misses : ℕ
  pub faults : ℕ

-- the names and bytes of files
abbrev pub named_bytes : List (String Global × Vec ℕ Global) → List (List ℕ × List ℕ)
named_bytes files = map (λ file. (string_bytes file.0, file.1.items)) files

-- a chip: its register, the numbers of the calls that fail, and how many calls and faults there
-- were
pub record ChipContents : Type 0 where
  pub register : List ℕ
  pub fails : List ℕ
  pub calls : ℕ
  pub faults : ℕ
