-- What the secrets of a resting module don't change.
use Rattle.std.specs.Prelude.{◌≡◌, ℕ, ◌≤◌, true, false, List, [], ◌∷◌, ◌++◌, Option, Some, None}
use Rattle.bn_types.specs.Numbers.{page_at}
use Rattle.bn_types.specs.declared.event.Event.{Event}
use Rattle.bn_model.specs.Blanking.{blank, rests}
use Rattle.bn_model.specs.Owners.{is_live, is_private_page}
use Rattle.bn_model.specs.Reporting.{public_digest, report_of_course}
use Rattle.bn_model.specs.Rows.{owners, row_of, saved_of}
use Rattle.bn_model.specs.Running.{Blind, ComesTo, Reaches, course, run}
use Rattle.bn_model.specs.Running.{state_before}
use Rattle.bn_model.specs.Soundness.{IsSound}
use Rattle.bn_model.specs.State.{State}
use Rattle.bn_model.specs.Stepping.{Fits, lines, step}

-- module m is live, and no hart runs it
pub record RestsIn (m : ℕ) (s : State) : Type 0 where
  pub live : is_live (owners s.rows) m ≡ true
  pub rest : rests m s ≡ true

-- the digest of the public pages is the same without the secrets of a module
abbrev pub DigestsNoSecrets : Type 0
DigestsNoSecrets = (s : State) (m : ℕ) → public_digest (blank m s) ≡ public_digest s

-- ---- one event

-- the lines of an event are the same without the secrets of a module that rests before it
abbrev pub TellsNoSecrets : Type 0
TellsNoSecrets =
    (s : State) (event : Event) (m : ℕ) → Fits s event → IsSound s → RestsIn m s →
    lines (blank m s) event ≡ lines s event

-- where it rests after the event too, the event leaves the same state but for these secrets
abbrev pub UsesNoSecrets : Type 0
UsesNoSecrets =
    (s : State) (event : Event) (m : ℕ) → Fits s event → IsSound s → RestsIn m s →
    rests m (step s event) ≡ true →
    step (blank m s) event ≡ blank m (step s event)

-- a module that rests before an event and lives after it keeps its private pages, and where it
-- rests after it too, its saved frame
abbrev pub KeepsResting : Type 0
KeepsResting =
    (s : State) (event : Event) (m : ℕ) → Fits s event → IsSound s → RestsIn m s →
    is_live (owners (step s event).rows) m ≡ true →
    ((page : ℕ) → is_private_page (owners s.rows) m page ≡ true →
    page_at (step s event).pages page ≡ page_at s.pages page) ×
    (rests m (step s event) ≡ true →
    saved_of (row_of (step s event).rows m) ≡ saved_of (row_of s.rows m))

-- ---- many events

-- the state that an event leaves in a run
abbrev pub after : Option Blind → State → Event → State
after blind s event = step (state_before blind s) event

-- each event fits the state in which it is made
abbrev pub AllFit : Option Blind → State → List Event → Type 0
AllFit blind s [] = Unit {0}
AllFit blind s (event ∷ events) =
    Fits (state_before blind s) event × AllFit blind (after blind s event) events

-- module m rests in each state that the events leave
abbrev pub RestsOn : Option Blind → ℕ → State → List Event → Type 0
RestsOn blind m s [] = Unit {0}
RestsOn blind m s (event ∷ events) =
    (rests m (after blind s event) ≡ true) × RestsOn blind m (after blind s event) events

-- the lines of the next event are the same from both states
abbrev pub TellNextAlike : Option Blind → State → State → Type 0
TellNextAlike blind s other =
    (next : Event) → Fits s next →
    lines (state_before blind s) next ≡ lines (state_before blind other) next

-- from the state without a module's secrets some events tell the same and leave the same state
-- without these secrets, and the event after them tells the same
pub record IsUnseen (blind : Option Blind) (m : ℕ) (s : State) (events : List Event) : Type 0 where
  pub same : run blind (blank m s) events ≡
      record (run blind s events) { last = blank m (run blind s events).last }
  pub next : TellNextAlike blind (run blind s events).last (blank m (run blind s events).last)

-- while a module rests, zeroing its secrets changes nothing else, the lines of the event after that
-- included
abbrev pub ZeroingChangesNothing : Type 0
ZeroingChangesNothing =
    (blind : Option Blind) (s : State) (events : List Event) (m : ℕ) → AllFit blind s events →
    IsSound s → RestsIn m s → RestsOn blind m s events → IsUnseen blind m s events

-- two states that differ in the secrets of module m alone, which rests in both
pub record AreAlikeBut (m : ℕ) (s other : State) : Type 0 where
  pub rest : RestsIn m s
  pub rest_other : RestsIn m other
  pub alike : blank m s ≡ blank m other

-- some events tell the same from both states, so does the event after them, and they leave the same
-- in all pages but the private pages of module m
pub record TellAlike (blind : Option Blind) (m : ℕ) (s other : State) (events : List Event) : Type 0
  where
    pub told : (run blind s events).told ≡ (run blind other events).told
    pub next : TellNextAlike blind (run blind s events).last (run blind other events).last
    pub pages :
        (page : ℕ) →
        is_private_page (owners (run blind s events).last.rows) m page ≡ false →
        page_at (run blind s events).last.pages page ≡
        page_at (run blind other events).last.pages page

-- two states that differ in a resting module's secrets alone tell the same until it runs, the event
-- included that starts it
abbrev pub RestingHidesSecrets : Type 0
RestingHidesSecrets =
    (blind : Option Blind) (s other : State) (events : List Event) (m : ℕ) →
    AllFit blind s events → IsSound s → IsSound other → AreAlikeBut m s other →
    RestsOn blind m s events → TellAlike blind m s other events

-- ---- in a run

-- in each state to which a run comes, zeroing the secrets of a module that rests is unseen for as
-- long as it rests on
abbrev pub HidesSecrets : Option Blind → State → List Event → Type 0
HidesSecrets blind start all =
    (s : State) (m : ℕ) (events others : List Event) →
    ComesTo blind start all s (events ++ others) → RestsIn m s → RestsOn blind m s events →
    IsUnseen blind m s events

-- a run tells the same from each sound state that differs in a resting module's secrets alone, for
-- as long as the module rests on
abbrev pub TellsNoneOf : Option Blind → State → List Event → Type 0
TellsNoneOf blind start all =
    (other : State) (m : ℕ) (events others : List Event) → all ≡ events ++ others →
    IsSound other → AreAlikeBut m start other → RestsOn blind m start events →
    TellAlike blind m start other events

abbrev pub RunsHideSecrets : Type 0
RunsHideSecrets =
    (blind : Option Blind) (start : State) (all : List Event) → IsSound start →
    AllFit blind start all → HidesSecrets blind start all × TellsNoneOf blind start all

-- ---- a whole course, with blinding and without

-- module m rests before each event of a run from the event of this number on
abbrev pub RestsBeforeEach : (m from : ℕ) → State → List Event → Type 0
RestsBeforeEach m from start events =
    (s : State) (event : Event) → Reaches None start events s event → from ≤ s.clock →
    rests m s ≡ true

-- and after it
abbrev pub RestsAfterEach : (m from : ℕ) → State → List Event → Type 0
RestsAfterEach m from start events =
    (s : State) (event : Event) → Reaches None start events s event → from ≤ s.clock →
    rests m (step s event) ≡ true

-- Zeroing a module's secrets just before an event changes no line of a run in which the module
-- rests before each event from there on; where it rests after each of them too, the whole report is
-- the same, the digest and all.
abbrev pub ZeroingIsUnseen : Type 0
ZeroingIsUnseen =
    (blind : Blind) (s : State) (events : List Event) →
    AllFit None s events → IsSound s → s.clock ≤ blind.event →
    RestsBeforeEach blind.blinded.0 blind.event s events →
    ((course (Some blind) s events).told ≡ (course None s events).told) ×
    (RestsAfterEach blind.blinded.0 blind.event s events →
    report_of_course (course (Some blind) s events) ≡
    report_of_course (course None s events))
