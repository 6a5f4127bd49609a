-- Events that are made in one go.
use Rattle.std.proofs.Common.{◌≡◌, ℕ, zero, suc, ◌+◌, ◌<◌, ◌≤◌, ◌-◌, true, false, List, []}
use Rattle.std.proofs.Common.{◌∷◌, Some, None, Option, refl, sym, ap, ◌∙◌, subst, arith}
use Rattle.std.proofs.Common.{add-one, length}
use Rattle.std.proofs.lemmas.Bool.{and_parts}
use Rattle.std.proofs.lemmas.Bool.Decides.{nat_tests}
use Rattle.std.specs.Option.{is_some}
use Rattle.std.specs.Prelude.{◌==◌}
use Rattle.bn_edge.specs.Accounts.{SinkAccount}
use Rattle.bn_edge.specs.Written.{Writes, WritesFront, appended}
use Rattle.bn_edge.proofs.Wrote.{appended-nil}
use Rattle.bn_types.specs.declared.ending.Ending.TheVariants.{Shutdown}
use Rattle.bn_types.specs.declared.event.Event.{Event}
use Rattle.bn_types.specs.declared.event.Event.TheVariants.{Turn}
use Rattle.bn_model.specs.Running.{Blind, course}
use Rattle.bn_model.specs.Scripts.{IsOrderly, Script, after_event, after_events, next_event}
use Rattle.bn_model.specs.Scripts.{first_events}
use Rattle.bn_model.specs.Spelling.{text_of}
use Rattle.bn_model.specs.State.{State}
use Rattle.bn_script.specs.Drawing.{is_lone, is_over}
use Rattle.bn_machine.specs.Passing.{AreSilent, IsSilent, Makes, after_event_in, event_number}
use Rattle.bn_unit.specs.Holding.{Cache}
use Rattle.bn_machine.specs.Costs.{CountsEvent}
use Rattle.bn_machine.specs.Keys.{KeepsEvent}
use Rattle.bn_machine.specs.Passing.{state_after_events, text_in, turn_number}
use Rattle.bn_machine.specs.Telling.{FinishesRun, IsLeftOf, StopsRun}
use Rattle.bn_machine.proofs.Runs.{IsUnderway, finished_off, front_written, stopped}
use Rattle.bn_machine.proofs.Runs.{underway_more}

-- ---- silent events

pub none-silent : (blind : Option Blind) (event : ℕ → Event) (s : State)
    → AreSilent blind event 0 s
unfolding AreSilent
none-silent blind event s = tt

pub none-made : (blind : Option Blind) (event : ℕ → Event) (s : State)
    → s ≡ state_after_events blind event 0 s
unfolding state_after_events
none-made blind event s = refl

pub more-silent : (blind : Option Blind) (event : ℕ → Event) (count : ℕ) (s : State)
    → AreSilent blind event count s
    → IsSilent blind (state_after_events blind event count s) (event count)
    → AreSilent blind event (count + 1) s
unfolding AreSilent
more-silent blind event count s before here =
    subst (λ (n : ℕ). AreSilent blind event n s) (sym (add-one count)) (before, here)

pub one-more-made : (blind : Option Blind) (event : ℕ → Event) (count : ℕ) (s : State)
    → after_event_in blind (state_after_events blind event count s) (event count)
    ≡ state_after_events blind event (count + 1) s
unfolding state_after_events
one-more-made blind event count s =
    ap (λ (n : ℕ). state_after_events blind event n s) (sym (add-one count))

-- ---- one event

pub one-event : (blind : Option Blind) (events : ℕ → Event) (most : ℕ) (old new : State)
    (text : List ℕ) (event : Event) → 0 < most → event ≡ events 0
    → new ≡ after_event_in blind old event → text ≡ text_in blind old event
    → Makes blind events most 1 old new text
unfolding state_after_events AreSilent
one-event blind events most old new text event some is stepped told = record {
  others = 0;
  one = refl;
  few = omega (arith, some);
  silent = tt;
  stepped = stepped ∙ ap (λ (e : Event). after_event_in blind old e) is;
  told = told ∙ ap (λ (e : Event). text_in blind old e) is;
}

-- of one event at most the only one is made
only-one : (made others : ℕ) → made ≡ others + 1 → made ≤ 1 → others ≡ 0
only-one made others one few = omega (arith, one, few)

module _ (blind : Option Blind) (events : ℕ → Event) (made : ℕ) (old new : State)
    (text : List ℕ) (makes : Makes blind events 1 made old new text) where
  state-at-first : state_after_events blind events makes.others old ≡ old
  unfolding state_after_events
  state-at-first = ap (λ (n : ℕ). state_after_events blind events n old)
      (only-one made makes.others makes.one makes.few)

  event-first : events makes.others ≡ events 0
  event-first = ap events (only-one made makes.others makes.one makes.few)

  pub one-stepped : new ≡ after_event_in blind old (events 0)
  one-stepped = makes.stepped
      ∙ ap (λ (s : State). after_event_in blind s (events makes.others)) state-at-first
      ∙ ap (λ (e : Event). after_event_in blind old e) event-first

  pub one-told : text ≡ text_in blind old (events 0)
  one-told = makes.told
      ∙ ap (λ (s : State). text_in blind s (events makes.others)) state-at-first
      ∙ ap (λ (e : Event). text_in blind old e) event-first

-- where at most one turn is made, it counts what a turn of the state before it counts
pub first-counts : (h most made : ℕ) (start now : State) (begun before after : ℕ)
    → made < most → now ≡ state_after_events None (turn_number h) made start
    → (made ≡ 0 → before ≡ begun) → CountsEvent now (Turn h) 30 before after → most ≡ 1
    → CountsEvent start (Turn h) 30 begun after
unfolding state_after_events
first-counts h most made start now begun before after below reached first few one =
    let none : made ≡ 0 = omega (arith, below, one) in
    let state : now ≡ start = reached
    ∙ ap (λ (n : ℕ). state_after_events None (turn_number h) n start) none in
    subst (λ (n : ℕ). CountsEvent start (Turn h) 30 n after) (first none)
    (subst (λ (s : State). CountsEvent s (Turn h) 30 before after) state few)

-- and keeps what that turn keeps
pub first-keeps : (h most made : ℕ) (start now : State) (m : Cache) → made < most
    → now ≡ state_after_events None (turn_number h) made start → KeepsEvent now (Turn h) m
    → most ≡ 1 → KeepsEvent start (Turn h) m
unfolding state_after_events
first-keeps h most made start now m below reached keeps one =
    let none : made ≡ 0 = omega (arith, below, one) in
    subst (λ (s : State). KeepsEvent s (Turn h) m) (reached
    ∙ ap (λ (n : ℕ). state_after_events None (turn_number h) n start) none) keeps

-- no lines
pub empty-is : (text : List ℕ) → (length text == 0) ≡ true → text ≡ []
empty-is [] e = refl
empty-is (first ∷ text) e = grind (arith, nat_tests)

-- ---- the same events, ordered by another

module _ (blind : Option Blind) (one other : ℕ → Event) (same : (n : ℕ) → one n ≡ other n)
    (s : State) where
  state-same : (count : ℕ)
      → state_after_events blind one count s ≡ state_after_events blind other count s
  unfolding state_after_events
  state-same zero = refl
  state-same (suc count) =
      ap (λ (t : State). after_event_in blind t (one count)) (state-same count)
      ∙ ap (λ (e : Event). after_event_in blind (state_after_events blind other count s) e)
      (same count)

  here-same : (count : ℕ)
      → IsSilent blind (state_after_events blind one count s) (one count)
      → IsSilent blind (state_after_events blind other count s) (other count)
  here-same count silent =
      subst (λ (e : Event). IsSilent blind (state_after_events blind other count s) e)
      (same count)
      (subst (λ (t : State). IsSilent blind t (one count)) (state-same count) silent)

  silent-same : (count : ℕ) → AreSilent blind one count s → AreSilent blind other count s
  unfolding AreSilent
  silent-same zero silent = tt
  silent-same (suc count) silent = (silent-same count silent.0, here-same count silent.1)

  pub makes-same : (most made : ℕ) (new : State) (text : List ℕ)
      → Makes blind one most made s new text → Makes blind other most made s new text
  makes-same most made new text makes = record {
    others = makes.others;
    one = makes.one;
    few = makes.few;
    silent = silent-same makes.others makes.silent;
    stepped = makes.stepped
        ∙ ap (λ (t : State). after_event_in blind t (one makes.others)) (state-same makes.others)
        ∙ ap (λ (e : Event).
        after_event_in blind (state_after_events blind other makes.others s) e)
        (same makes.others);
    told = makes.told
        ∙ ap (λ (t : State). text_in blind t (one makes.others)) (state-same makes.others)
        ∙ ap (λ (e : Event). text_in blind (state_after_events blind other makes.others s) e)
        (same makes.others);
  }

pub first-event : (script : Script) → event_number script 0 ≡ next_event script
unfolding after_events
first-event script = refl

pub none-blind : {A : Type 0} (blind : Option A) → is_some blind ≡ false → blind ≡ None
none-blind None e = refl
none-blind (Some pair) e = cc

pub one-drawn : (script rest : Script) → rest ≡ after_event script → rest ≡ after_events 1 script
unfolding after_events
one-drawn script rest is = is

-- ---- the turns of a machine's only hart

over-is : (events : List Event) → is_over events ≡ true → events ≡ []
over-is [] e = refl
over-is (first ∷ events) e = cc

is-one : (n : ℕ) → (n == 1) ≡ true → n ≡ 1
is-one n e = grind (arith, nat_tests)

lone-same : (harts turn : ℕ) (events : List Event) → events ≡ [] → harts ≡ 1 → turn ≡ 0
    → after_event (record { harts = harts; events = events; turn = turn })
    ≡ record { harts = harts; events = events; turn = turn }
lone-same harts turn events none one first = rw (none, one, first) refl

lone-turn : (harts turn : ℕ) (events : List Event) → events ≡ [] → turn ≡ 0
    → next_event (record { harts = harts; events = events; turn = turn }) ≡ Turn 0
lone-turn harts turn events none first = rw (none, first) refl

-- a script that orders nothing but turns of the only hart stays as it is
module _ (script : Script) (orderly : IsOrderly script) (lone : is_lone script ≡ true) where
  over : script.events ≡ []
  unfolding is_lone
  over = over-is script.events (and_parts _ _ lone).0

  one-hart : script.harts ≡ 1
  unfolding is_lone
  one-hart = is-one script.harts (and_parts _ _ lone).1

  first-turn : script.turn ≡ 0
  first-turn = let below = orderly.turn in let one = one-hart in omega (arith, below, one)

  pub lone-left : (count : ℕ) → after_events count script ≡ script
  unfolding after_events
  lone-left zero = refl
  lone-left (suc count) =
      ap (λ (t : Script). after_events count t)
      (lone-same script.harts script.turn script.events over one-hart first-turn)
      ∙ lone-left count

  pub lone-event : (count : ℕ) → event_number script count ≡ Turn 0
  lone-event count =
      ap (λ (t : Script). next_event t) (lone-left count)
      ∙ lone-turn script.harts script.turn script.events over first-turn

-- ---- on the way of a run

pub after-plus : (made more : ℕ) (script : Script)
    → after_events more (after_events made script) ≡ after_events (made + more) script
unfolding after_events
after-plus zero more script =
    let e : more ≡ zero + more = omega arith in ap (λ (n : ℕ). after_events n script) e
after-plus (suc made) more script =
    let e : suc (made + more) ≡ suc made + more = omega arith in
    after-plus made more (after_event script) ∙ ap (λ (n : ℕ). after_events n script) e

-- the events that so many silent ones make up leave a run on its way
pub underway-silent : (blind : Option Blind) (start now : State) (all : Script)
    (limit made : ℕ) (old sink : SinkAccount) (count : ℕ)
    → IsUnderway blind start now all limit made old sink
    → AreSilent blind (event_number (after_events made all)) count now → made + count < limit
    → IsUnderway blind start
    (state_after_events blind (event_number (after_events made all)) count now) all limit
    (made + count) old sink
unfolding AreSilent state_after_events
underway-silent blind start now all limit made old sink zero underway silent below =
    let e : made ≡ made + zero = omega arith in
    subst (λ (n : ℕ). IsUnderway blind start now all limit n old sink) e underway
underway-silent blind start now all limit made old sink (suc count) underway silent below =
    let e : made + count + 1 ≡ made + suc count = omega arith in
    let left : after_events count (after_events made all) ≡ after_events (made + count) all =
    after-plus made count all in
    let before = underway-silent blind start now all limit made old sink count underway silent.0
    (omega (arith, below)) in
    let next = state_after_events blind (event_number (after_events made all)) (suc count) now in
    subst (λ (n : ℕ). IsUnderway blind start next all limit n old sink) e
    (underway_more blind start
    (state_after_events blind (event_number (after_events made all)) count now) all limit
    (made + count) old sink
    before (omega (arith, below)) (event_number (after_events made all) count)
    (ap (λ (t : Script). next_event t) left) sink silent.1.on
    (sym (appended-nil sink.written)
    ∙ ap (λ (text : List ℕ). appended sink.written text) (sym silent.1.told)))

-- the last of the events that are made: a run that is underway makes it
pub record IsLast (blind : Option Blind) (start : State) (all : Script) (limit made : ℕ)
    (old sink : SinkAccount) (new : State) (text : List ℕ) : Type 0 where
  pub before : ℕ
  pub state : State
  pub underway : IsUnderway blind start state all limit before old sink
  pub below : before < limit
  pub event : Event
  pub is : event ≡ next_event (after_events before all)
  pub stepped : new ≡ after_event_in blind state event
  pub told : text ≡ text_in blind state event
  pub made_then : made ≡ before + 1

pub last-made : (blind : Option Blind) (start now new : State) (all script : Script)
    (limit made count : ℕ) (old sink : SinkAccount) (text : List ℕ)
    → IsUnderway blind start now all limit made old sink → script ≡ after_events made all
    → made < limit → Makes blind (event_number script) (limit - made) count now new text
    → IsLast blind start all limit (made + count) old sink new text
last-made blind start now new all script limit made count old sink text underway drawn below makes =
    let makes = subst (λ (t : Script).
    Makes blind (event_number t) (limit - made) count now new text) drawn makes in
    let one = makes.one in let few = makes.few in
    let inside : made + makes.others < limit = omega (arith, one, few, below) in
    record {
      before = made + makes.others;
      state = state_after_events blind (event_number (after_events made all)) makes.others now;
      underway = underway-silent blind start now all limit made old sink makes.others underway
          makes.silent inside;
      below = inside;
      event = event_number (after_events made all) makes.others;
      is = ap (λ (t : Script). next_event t) (after-plus made makes.others all);
      stepped = makes.stepped;
      told = makes.told;
      made_then = omega (arith, one);
    }

module _ {blind : Option Blind} {start : State} {all : Script} {limit made : ℕ}
    {old sink : SinkAccount} {new : State} {text : List ℕ}
    (last : IsLast blind start all limit made old sink new text) where
  -- its lines were written, and the machine is on
  pub last-underway : (later : SinkAccount) → new.off ≡ false → Writes sink later text
      → IsUnderway blind start new all limit made old later
  last-underway later on written =
      subst (λ (s : State). IsUnderway blind start s all limit made old later) (sym last.stepped)
      (subst (λ (n : ℕ).
      IsUnderway blind start (after_event_in blind last.state last.event) all limit n old later)
      (sym last.made_then)
      (underway_more blind start last.state all limit last.before old sink last.underway last.below
      last.event last.is later (ap (λ (s : State). s.off) (sym last.stepped) ∙ on)
      (subst (λ (t : List ℕ). Writes sink later t) last.told written)))

  -- it shut the machine down
  pub last-finished : (later : SinkAccount) → new.off ≡ true → Writes sink later text
      → FinishesRun (course blind start (first_events limit all)) Shutdown new old later
  last-finished later off written =
      subst (λ (s : State).
      FinishesRun (course blind start (first_events limit all)) Shutdown s old later)
      (sym last.stepped)
      (finished_off blind start last.state all limit last.before old sink last.underway last.below
      last.event last.is later (ap (λ (s : State). s.off) (sym last.stepped) ∙ off)
      (subst (λ (t : List ℕ). Writes sink later t) last.told written))

  -- its lines couldn't all be written
  pub last-stopped : (later : SinkAccount) → WritesFront sink later text
      → StopsRun blind start new (first_events limit all) old later
  last-stopped later written =
      subst (λ (s : State). StopsRun blind start s (first_events limit all) old later)
      (sym last.stepped)
      (stopped blind start last.state all limit last.before old sink last.underway last.below
      last.event last.is later
      (subst (λ (t : List ℕ). WritesFront sink later t) last.told written))

  pub last-front : (later : SinkAccount) → WritesFront sink later text
      → WritesFront old later (text_of (course blind start (first_events limit all)).told)
  last-front later written =
      front_written blind start last.state all limit last.before old sink last.underway last.below
      last.event last.is later
      (subst (λ (t : List ℕ). WritesFront sink later t) last.told written)

-- ---- what is left of the script

pub drawn-made : (all script rest : Script) (made count : ℕ) → script ≡ after_events made all
    → rest ≡ after_events count script → rest ≡ after_events (made + count) all
drawn-made all script rest made count drawn is =
    is ∙ ap (λ (t : Script). after_events count t) drawn ∙ after-plus made count all

pub left-made : (all script rest : Script) (made count limit : ℕ) → script ≡ after_events made all
    → rest ≡ after_events count script → made + count ≤ limit → IsLeftOf limit all rest
left-made all script rest made count limit drawn is most = record {
  count = made + count;
  most = most;
  is = drawn-made all script rest made count drawn is;
}

pub left-within : (made limit count : ℕ) → made < limit → count ≤ limit - made
    → made + count ≤ limit
left-within made limit count below few = omega (arith, below, few)
