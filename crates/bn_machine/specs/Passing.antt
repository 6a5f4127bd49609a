-- Events of a script that are made in one go: all but the last leave no lines, and the machine on.
use Rattle.std.specs.Prelude.{◌≡◌, ℕ, zero, suc, ◌+◌, ◌≤◌, false, List, [], Option}
use Rattle.bn_types.specs.declared.event.Event.{Event}
use Rattle.bn_types.specs.declared.event.Event.TheVariants.{Turn}
use Rattle.bn_model.specs.Running.{Blind, state_before}
use Rattle.bn_model.specs.Scripts.{Script, after_events, next_event}
use Rattle.bn_model.specs.Spelling.{text_of}
use Rattle.bn_model.specs.State.{State}
use Rattle.bn_model.specs.Stepping.{lines, step}

-- the state after an event, and the text of its lines; `blind` says what is zeroed before it
abbrev pub after_event_in : Option Blind → State → Event → State
after_event_in blind s event = step (state_before blind s) event

abbrev pub text_in : Option Blind → State → Event → List ℕ
text_in blind s event = text_of (lines (state_before blind s) event)

-- the events that a script orders, by their number
abbrev pub event_number : Script → (count : ℕ) → Event
event_number script count = next_event (after_events count script)

-- the turns of a hart, one after the other
abbrev pub turn_number : (h : ℕ) → (count : ℕ) → Event
turn_number h count = Turn h

-- the state that the first of some events leave
unfoldable pub state_after_events : Option Blind → (ℕ → Event) → (count : ℕ) → State → State
state_after_events blind event zero s = s
state_after_events blind event (suc count) s =
    after_event_in blind (state_after_events blind event count s) (event count)

-- an event has no lines, and leaves the machine on
pub record IsSilent (blind : Option Blind) (s : State) (event : Event) : Type 0 where
  pub told : text_in blind s event ≡ []
  pub on : (after_event_in blind s event).off ≡ false

-- the first of some events are such
unfoldable pub AreSilent : Option Blind → (ℕ → Event) → (count : ℕ) → State → Type 0
AreSilent blind event zero s = Unit {0}
AreSilent blind event (suc count) s =
    AreSilent blind event count s ×
    IsSilent blind (state_after_events blind event count s) (event count)

-- the first of some events are made, at most so many; all but the last are silent
pub record Makes (blind : Option Blind) (event : ℕ → Event) (most made : ℕ) (old new : State)
    (text : List ℕ) : Type 0 where
  pub others : ℕ
  pub one : made ≡ others + 1
  pub few : made ≤ most
  pub silent : AreSilent blind event others old
  pub stepped : new
      ≡ after_event_in blind (state_after_events blind event others old) (event others)
  pub told : text ≡ text_in blind (state_after_events blind event others old) (event others)
