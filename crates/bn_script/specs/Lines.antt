-- What the readers of lines and fields give, in the terms of the definitions.
use Rattle.std.specs.Prelude.{◌≡◌, ℕ, List, [], ◌∷◌, ◌++◌, Option, Some, None, Result, Ok, Err}
use Rattle.bn_types.specs.Splitting.{pieces_after}
use Rattle.bn_types.specs.declared.script_fault.ScriptFault.{ScriptFault}
use Rattle.bn_types.specs.declared.script_sort.ScriptSort.{ScriptSort}
use Rattle.bn_model.specs.declared.command.Command.{Command}
use Rattle.bn_model.specs.declared.command.Command.TheVariants.{Turn, Go, Key, Poke, Peek}
use Rattle.bn_model.specs.Scripts.{Script}
use Rattle.bn_script.specs.declared.script_error.ScriptError.{ScriptError}
use Rattle.bn_script.specs.declared.script_error.ScriptError.TheVariants.{Fault, Memory}

-- the fields of a rest, of which the next was read
abbrev pub field_and_more : Option (List ℕ × List ℕ) → List (List ℕ)
field_and_more None = []
field_and_more (Some read) = read.0 ∷ pieces_after 32 read.1

abbrev pub commands_in : Option Command → List Command
commands_in None = []
commands_in (Some command) = command ∷ []

abbrev pub ordered : Result (Option Command) ScriptSort → Result (List Command) ScriptSort
ordered (Ok command) = Ok (commands_in command)
ordered (Err fault) = Err fault

-- how many events a command orders
abbrev pub count_of : Command → ℕ
count_of (Turn hart count) = count
count_of (Go count) = count
count_of (Key byte) = 1
count_of (Poke page offset byte) = 1
count_of (Peek page offset) = 1

-- the commands so far with those that a line orders
abbrev pub with_ordered
    : List Command → Result (List Command) ScriptSort → Result (List Command) ScriptSort
with_ordered commands (Ok ordered) = Ok (commands ++ ordered)
with_ordered commands (Err fault) = Err fault

-- the line of that number is refused as its definition says, or for want of memory
abbrev pub refuses_line : ℕ → Result (List Command) ScriptSort → ScriptError → Type 0
refuses_line number ordered (Fault fault) = (ordered ≡ Err fault.sort) × (fault.line ≡ number)
refuses_line number ordered Memory = Unit {0}

-- a text is refused as its definition says, or for want of memory
abbrev pub refuses : {A : Type 0} → Result A ScriptFault → ScriptError → Type 0
refuses read (Fault fault) = read ≡ Err fault
refuses read Memory = Unit {0}

-- what reading a text gives: its script, or its fault; want of memory says nothing
abbrev pub reads : Result Script ScriptFault → Result Script ScriptError → Type 0
reads read (Ok script) = read ≡ Ok script
reads read (Err error) = refuses read error
