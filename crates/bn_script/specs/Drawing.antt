-- A script's place: which of its commands comes next, and how many of that command's events are
-- drawn.
use Rattle.std.specs.Prelude.{ℕ, ◌%◌, ◌≤◌, ◌<◌, Bool, true, false, nat_lt, List, drop, flat_map}
use Rattle.std.specs.Prelude.{[], ◌∷◌, ◌==◌, ◌&&◌, length, Option, Some, None, slice_get}
use Rattle.bn_types.specs.declared.event.Event.{Event}
use Rattle.bn_types.specs.declared.event.Event.TheVariants as event
use Rattle.bn_model.specs.declared.command.Command.{Command}
use Rattle.bn_model.specs.declared.command.Command.TheVariants.{Turn, Go, Key, Poke, Peek}
use Rattle.bn_model.specs.Scripts.{IsOrderly, Script, events_of}
use Rattle.bn_script.specs.Lines.{count_of}

-- the event of a command that comes after so many of it
abbrev pub event_of : (harts : ℕ) → Command → ℕ → Event
event_of harts (Turn hart count) done = event.Turn hart
event_of harts (Go count) done = event.Turn (done % harts)
event_of harts (Key byte) done = event.Key byte
event_of harts (Poke page offset byte) done = event.Poke page offset byte
event_of harts (Peek page offset) done = event.Peek page offset

-- past the last command the place tells the hart whose turn it is
abbrev pub turn_at : Bool → ℕ → ℕ
turn_at true done = 0
turn_at false done = done

-- the script from a place on
abbrev pub script_at : (harts : ℕ) → List Command → (at done : ℕ) → Script
script_at harts commands at done = record {
  harts = harts;
  events = drop done (flat_map (events_of harts) (drop at commands));
  turn = turn_at (nat_lt at (length commands)) done;
}

-- how many events come at a place, until the next command or the first hart
abbrev pub count_at : (harts : ℕ) → Option Command → ℕ
count_at harts None = harts
count_at harts (Some command) = count_of command

-- each command orders an event
abbrev pub OrdersEvents : (harts : ℕ) → List Command → Type 0
OrdersEvents harts commands = (i : ℕ) → 1 ≤ count_at harts (slice_get commands i)

-- a place from which a script can go on
pub record GoesOn (harts : ℕ) (commands : List Command) (at done : ℕ) : Type 0 where
  pub some : 1 ≤ harts
  pub few : harts ≤ 4
  pub orders : OrdersEvents harts commands
  pub place : at ≤ length commands
  pub within : done < count_at harts (slice_get commands at)

-- one whose events fit, what is left of them
pub record CanBeDrawn (harts : ℕ) (commands : List Command) (at done : ℕ) : Type 0 where
  pub on : GoesOn harts commands at done
  pub orderly : IsOrderly (script_at harts commands at done)

-- the turns of the only hart are all that is left
abbrev pub is_over : List Event → Bool
is_over [] = true
is_over (first ∷ events) = false

unfoldable pub is_lone : Script → Bool
is_lone script = is_over script.events && script.harts == 1
