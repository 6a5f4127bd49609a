-- Scripts (this project's own grammar): a text's lines, and the events that they order.
use Rattle.std.specs.Prelude.{ℕ, zero, suc, ◌+◌, ◌-◌, ◌*◌, ◌%◌, ◌^◌, ◌==◌, ◌<◌, ◌≤◌, Bool, true}
use Rattle.std.specs.Prelude.{false, ◌&&◌}
use Rattle.std.specs.Prelude.{nat_le, nat_lt, List, [], ◌∷◌, ◌++◌, codes, flat_map, length, map}
use Rattle.std.specs.Prelude.{replicate, Option, Some, None, Result, Ok, Err, if◌then◌else◌}
use Rattle.std.specs.List.{All, range_with_len}
use Rattle.std.specs.Str.{bytes_eq}
use Rattle.bn_types.specs.Numerals.{numeral_below}
use Rattle.bn_types.specs.Splitting.{split_by}
use Rattle.bn_types.specs.declared.event.Event.{Event}
use Rattle.bn_types.specs.declared.event.Event.TheVariants as event
use Rattle.bn_types.specs.declared.script_fault.ScriptFault.{ScriptFault}
use Rattle.bn_types.specs.declared.script_sort.ScriptSort.{ScriptSort}
use Rattle.bn_types.specs.declared.script_sort.ScriptSort.TheVariants as sort
use Rattle.bn_model.specs.declared.command.Command.{Command}
use Rattle.bn_model.specs.declared.command.Command.TheVariants.{Turn, Go, Key, Poke, Peek}
use Rattle.bn_model.specs.Stepping.{FitsHarts}

-- ---- one line

-- a field has a spelling or is no number
abbrev pub spelled : {A : Type 0} → Option A → Result A ScriptSort
spelled None = Err sort.Number
spelled (Some value) = Ok value

-- a number has at most ten digits
unfoldable pub number_in : List ℕ → Result ℕ ScriptSort
number_in field = spelled (if nat_le (length field) 10 then numeral_below (2 ^ 64) field else None)

-- a hexadecimal digit, in lower case
abbrev pub hex_digit : ℕ → Option ℕ
hex_digit digit =
    if nat_le 48 digit && nat_le digit 57 then Some (digit - 48)
    else if nat_le 97 digit && nat_le digit 102 then Some (digit - 87)
    else None

abbrev pub byte_of_digits : Option ℕ → Option ℕ → Option ℕ
byte_of_digits (Some high) (Some low) = Some (16 * high + low)
byte_of_digits (Some high) None = None
byte_of_digits None low = None

abbrev pub byte_spelled : List ℕ → Option ℕ
byte_spelled (high ∷ low ∷ []) = byte_of_digits (hex_digit high) (hex_digit low)
byte_spelled digits = None

-- a byte has two hexadecimal digits
unfoldable pub byte_in : List ℕ → Result ℕ ScriptSort
byte_in field = spelled (byte_spelled field)

infixl 10 ◌>>=◌
abbrev pub ◌>>=◌ : {A B : Type 0} → Result A ScriptSort → (A → Result B ScriptSort)
    → Result B ScriptSort
Ok value >>= next = next value
Err fault >>= next = Err fault

abbrev pub ranged : Bool → Command → Result Command ScriptSort
ranged true command = Ok command
ranged false command = Err sort.Range

abbrev pub is_count : ℕ → Bool
is_count count = nat_le 1 count && nat_le count 1000000000

abbrev pub is_place : (page offset : ℕ) → Bool
is_place page offset = nat_lt page (2 ^ 32) && nat_lt offset 4096

-- one field, two, three, where there are so many exactly
abbrev pub one_of : List (List ℕ) → Option (List ℕ)
one_of (first ∷ []) = Some first
one_of fields = None

abbrev pub two_of : List (List ℕ) → Option (List ℕ × List ℕ)
two_of (first ∷ second ∷ []) = Some (first, second)
two_of fields = None

abbrev pub three_of : List (List ℕ) → Option (List ℕ × List ℕ × List ℕ)
three_of (first ∷ second ∷ third ∷ []) = Some (first, second, third)
three_of fields = None

-- the fields, or that their number is wrong
abbrev pub counted : {A : Type 0} → Option A → Result A ScriptSort
counted None = Err sort.Fields
counted (Some fields) = Ok fields

-- `turn H K`: K turns of hart H
unfoldable pub turn_of : ℕ → List (List ℕ) → Result Command ScriptSort
turn_of harts fields =
    counted (two_of fields) >>= (λ f. number_in f.0 >>= (λ h. number_in f.1 >>= (λ k.
    ranged (nat_lt h harts && is_count k) (Turn h k))))

-- `go K`: K turns, of one hart after the other
unfoldable pub go_of : List (List ℕ) → Result Command ScriptSort
go_of fields = counted (one_of fields) >>= (λ f. number_in f >>= (λ k. ranged (is_count k) (Go k)))

-- `key B`: one key
unfoldable pub key_of : List (List ℕ) → Result Command ScriptSort
key_of fields = counted (one_of fields) >>= (λ f. byte_in f >>= (λ b. Ok (Key b)))

-- `poke G O B`: a device writes a byte
unfoldable pub poke_of : List (List ℕ) → Result Command ScriptSort
poke_of fields =
    counted (three_of fields) >>=
    (λ f. number_in f.0 >>= (λ g. number_in f.1 >>= (λ o. byte_in f.2 >>= (λ b.
    ranged (is_place g o) (Poke (record { 0 = g }) o b)))))

-- `peek G O`: a device reads a byte
unfoldable pub peek_of : List (List ℕ) → Result Command ScriptSort
peek_of fields =
    counted (two_of fields) >>= (λ f. number_in f.0 >>= (λ g. number_in f.1 >>= (λ o.
    ranged (is_place g o) (Peek (record { 0 = g }) o))))

-- the command that a line's fields give on a machine of so many harts
abbrev pub command_of : ℕ → List (List ℕ) → Result Command ScriptSort
command_of harts [] = Err sort.Word
command_of harts (word ∷ fields) =
    if bytes_eq word (codes "turn") then turn_of harts fields
    else if bytes_eq word (codes "go") then go_of fields
    else if bytes_eq word (codes "key") then key_of fields
    else if bytes_eq word (codes "poke") then poke_of fields
    else if bytes_eq word (codes "peek") then peek_of fields
    else Err sort.Word

-- an empty line, or one that begins with `#`, orders nothing
abbrev pub is_silent : List ℕ → Bool
is_silent [] = true
is_silent (first ∷ line) = first == 35

abbrev pub ordered_if : (silent : Bool) → Result Command ScriptSort
    → Result (List Command) ScriptSort
ordered_if true command = Ok []
ordered_if false (Ok command) = Ok (command ∷ [])
ordered_if false (Err fault) = Err fault

-- what a line orders: no command or one
unfoldable pub ordered_by : ℕ → List ℕ → Result (List Command) ScriptSort
ordered_by harts line = ordered_if (is_silent line) (command_of harts (split_by 32 line))

-- ---- the whole text

abbrev pub joined : List Command → Result (List Command) ScriptFault
    → Result (List Command) ScriptFault
joined commands (Ok more) = Ok (commands ++ more)
joined commands (Err fault) = Err fault

abbrev pub commands_with :
    ℕ → Result (List Command) ScriptSort → Result (List Command) ScriptFault →
    Result (List Command) ScriptFault
commands_with number (Ok commands) rest = joined commands rest
commands_with number (Err fault) rest = Err (record { line = number; sort = fault })

-- the commands of some lines, the first of which has that number; or the first bad line
unfoldable pub commands_from : (harts number : ℕ) → List (List ℕ)
    → Result (List Command) ScriptFault
commands_from harts number [] = Ok []
commands_from harts number (line ∷ lines) =
    commands_with number (ordered_by harts line) (commands_from harts (number + 1) lines)

abbrev pub most_script_bytes : ℕ
most_script_bytes = 1048576

abbrev pub commands_if : (is_long : Bool) → ℕ → List ℕ → Result (List Command) ScriptFault
commands_if true harts text = Err (record { line = 0; sort = sort.Long })
commands_if false harts text = commands_from harts 1 (split_by 10 text)

-- the commands of a text; the line after its last line feed is empty, or lacks its line feed
unfoldable pub commands_of : ℕ → List ℕ → Result (List Command) ScriptFault
commands_of harts text = commands_if (nat_lt most_script_bytes (length text)) harts text

-- ---- events

-- turns of one hart after the other, from hart 0 on
abbrev pub rounds : (harts count : ℕ) → List Event
rounds harts count = map (λ i. event.Turn (i % harts)) (range_with_len 0 count)

-- the events that a command orders, in order
unfoldable pub events_of : (harts : ℕ) → Command → List Event
events_of harts (Turn hart count) = replicate count (event.Turn hart)
events_of harts (Go count) = rounds harts count
events_of harts (Key byte) = event.Key byte ∷ []
events_of harts (Poke page offset byte) = event.Poke page offset byte ∷ []
events_of harts (Peek page offset) = event.Peek page offset ∷ []

-- a script as far as it isn't drawn: its events, and the hart whose turn comes after them
pub record Script : Type 0 where
  pub harts : ℕ
  pub events : List Event
  pub turn : ℕ

abbrev pub script_of : (harts : ℕ) → List Command → Script
script_of harts commands =
    record { harts = harts; events = flat_map (events_of harts) commands; turn = 0 }

abbrev pub script_if : (harts : ℕ) → Result (List Command) ScriptFault → Result Script ScriptFault
script_if harts (Ok commands) = Ok (script_of harts commands)
script_if harts (Err fault) = Err fault

-- the script of a text, on a machine of so many harts
unfoldable pub script_in : (harts : ℕ) → List ℕ → Result Script ScriptFault
script_in harts text = script_if harts (commands_of harts text)

abbrev pub event_from : List Event → (turn : ℕ) → Event
event_from [] turn = event.Turn turn
event_from (first ∷ events) turn = first

-- the next event; where a script has none left, the harts take turns without end
abbrev pub next_event : Script → Event
next_event script = event_from script.events script.turn

abbrev pub script_from : List Event → Script → Script
script_from [] script = record script { turn = (script.turn + 1) % script.harts }
script_from (first ∷ events) script = record script { events = events }

abbrev pub after_event : Script → Script
after_event script = script_from script.events script

-- the first events of a script
unfoldable pub first_events : ℕ → Script → List Event
first_events zero script = []
first_events (suc count) script = next_event script ∷ first_events count (after_event script)

-- what is left after so many
unfoldable pub after_events : ℕ → Script → Script
after_events zero script = script
after_events (suc count) script = after_events count (after_event script)

-- each event that a script orders fits a machine of its harts
pub record IsOrderly (script : Script) : Type 0 where
  pub some : 1 ≤ script.harts
  pub few : script.harts ≤ 4
  pub turn : script.turn < script.harts
  pub events : All (FitsHarts script.harts) script.events
