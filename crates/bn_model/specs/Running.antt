-- A run of the flat machine: its events in order, up to the first that shuts the machine down.
use Rattle.std.specs.Prelude.{◌≡◌, ◌≢◌, ℕ, ◌==◌, ◌⊎◌, Bool, true, false, List, [], ◌∷◌}
use Rattle.std.specs.Prelude.{◌++◌, Option, Some, None}
use Rattle.bn_types.specs.declared.ending.Ending.{Ending}
use Rattle.bn_types.specs.declared.ending.Ending.TheVariants.{Shutdown, Limit}
use Rattle.bn_types.specs.declared.event.Event.{Event}
use Rattle.bn_types.specs.declared.line.Line.{Line}
use Rattle.bn_types.specs.declared.mod_id.ModId.{ModId}
use Rattle.bn_model.specs.Blanking.{blank}
use Rattle.bn_model.specs.Spelling.{text_of}
use Rattle.bn_model.specs.State.{State}
use Rattle.bn_model.specs.Stepping.{step, lines}

-- ---- blinding

-- just before the event of this number a module's secrets are zeroed, where it rests
pub record Blind : Type 0 where
  pub blinded : ModId
  pub event : ℕ

abbrev pub blind_at : Option (ModId × ℕ) → Option Blind
blind_at None = None
blind_at (Some pair) = Some (record { blinded = pair.0; event = pair.1 })

abbrev pub blank_when : Bool → ℕ → State → State
blank_when true m s = blank m s
blank_when false m s = s

-- the state in which the next event of a run is made
abbrev pub state_before : Option Blind → State → State
state_before None s = s
state_before (Some blind) s = blank_when (s.clock == blind.event) blind.blinded.0 s

-- ---- some events, whatever they do

-- the lines of some events, and the state that they left
pub record Run : Type 0 where
  pub told : List Line
  pub last : State

unfoldable pub run : Option Blind → State → List Event → Run
run blind s [] = record { told = []; last = s }
run blind s (event ∷ events) =
    let before = state_before blind s in
    let rest = run blind (step before event) events in
    record rest { told = lines before event ++ rest.told }

-- ---- a whole course

-- the lines of a run, why it stopped, and the state that it left
pub record Course : Type 0 where
  pub told : List Line
  pub ending : Ending
  pub last : State

-- the lines of an event and those of the events after it
abbrev pub onward : List Line → Course → Course
onward told rest = record rest { told = told ++ rest.told }

-- a run that is off makes no events
abbrev pub unless_off : Bool → State → Course → Course
unless_off true s rest = record { told = []; ending = Shutdown; last = s }
unless_off false s rest = rest

unfoldable pub course : Option Blind → State → List Event → Course
course blind s [] = unless_off s.off s (record { told = []; ending = Limit; last = s })
course blind s (event ∷ events) =
    let before = state_before blind s in
    unless_off s.off s (onward (lines before event) (course blind (step before event) events))

-- ---- where a run comes

-- the event is the next of a run, which makes it in this state
pub record IsNext (blind : Option Blind) (s : State) (next : Event) (before : State)
    (event : Event) : Type 0 where
  pub is : event ≡ next
  pub stands : before ≡ state_before blind s

-- a run of some events makes this event, in this state
unfoldable pub Reaches : Option Blind → State → List Event → State → Event → Type 0
Reaches blind s [] before event = ⊥
Reaches blind s (next ∷ events) before event =
    (s.off ≡ false) ×
    (IsNext blind s next before event ⊎ Reaches blind (step (state_before blind s) next) events
    before event)

-- a run comes to this state, with these events ahead of it; it may have been shut down on the way
pub record ComesTo (blind : Option Blind) (start : State) (events : List Event) (s : State)
    (ahead : List Event) : Type 0 where
  pub made : List Event
  pub split : events ≡ made ++ ahead
  pub stands : s ≡ (run blind start made).last

-- A run that stops before its end, since the lines of an event couldn't all be written: it made
-- that event, wrote the lines of all events before it, and of its own a proper front.
pub record StopsWithin (blind : Option Blind) (start stopped : State) (events : List Event)
    (text : List ℕ) : Type 0 where
  pub made : List Event
  pub event : Event
  pub others : List Event
  pub split : events ≡ made ++ event ∷ others
  pub stands : stopped ≡ (run blind start (made ++ event ∷ [])).last
  pub front : List ℕ
  pub rest : List ℕ
  pub due : front ++ rest ≡ text_of (lines (state_before blind (run blind start made).last) event)
  pub proper : rest ≢ []
  pub whole : text ≡ text_of (run blind start made).told ++ front
