-- A run on its way.
use Rattle.std.proofs.Common.{◌≡◌, ℕ, suc, ◌+◌, ◌-◌, ◌<◌, ◌≤◌, true, false, List, [], ◌∷◌}
use Rattle.std.proofs.Common.{◌++◌}
use Rattle.std.proofs.Common.{Option, Result, Ok, Err, OnErr, length, refl, sym, ap, ◌∙◌}
use Rattle.std.proofs.Common.{subst, arith}
use Rattle.std.proofs.lemmas.List.{append_assoc, append-nil}
use Rattle.std.proofs.lemmas.List.Concat.{flat_map-append}
use Rattle.bn_edge.specs.Accounts.{SinkAccount}
use Rattle.bn_edge.specs.Written.{Writes, WritesFront, appended}
use Rattle.bn_types.specs.declared.ending.Ending.TheVariants.{Shutdown, Limit}
use Rattle.bn_types.specs.declared.event.Event.{Event}
use Rattle.bn_model.specs.BlankingLaws.{HidesSecrets, TellsNoneOf}
use Rattle.bn_model.specs.Running.{Blind, Course, Run, course, run, state_before}
use Rattle.bn_model.specs.Scripts.{IsOrderly, Script, after_event, after_events, first_events}
use Rattle.bn_model.specs.Scripts.{next_event}
use Rattle.bn_model.specs.Spelling.{spelling, text_of}
use Rattle.bn_model.specs.Soundness.{IsSound}
use Rattle.bn_model.specs.State.{State}
use Rattle.bn_model.specs.Stepping.{Fits, FitsHarts, step, lines}
use Rattle.bn_model.proofs.BeforeLemmas.{clock-before, fit-by, harts-before, off-before}
use Rattle.bn_model.proofs.RunningLemmas.{course_none, course_off, course_on}
use Rattle.bn_model.proofs.RunningLemmas.{run-append, run_on}
use Rattle.bn_model.proofs.ScriptLemmas.{after-more, events-harts, first-events-fit, first-more}
use Rattle.bn_model.proofs.ScriptLemmas.{first-split, next-fits}
use Rattle.bn_model.proofs.SteppingLemmas.{clock_after, harts_after}
use Rattle.bn_model.proofs.SoundKept.{sound-kept}
use Rattle.bn_model.proofs.ZeroingLemmas.{hides-in-run}
use Rattle.bn_machine.specs.Telling.{FinishesRun, IsLeftOf, StopsRun}
use Rattle.bn_edge.proofs.Wrote.{appended-append, appended-nil}

-- the run of the first events of a script, and the text of its lines
abbrev pub made_run : Option Blind → State → Script → (made : ℕ) → Run
made_run blind start all made = run blind start (first_events made all)

abbrev pub text_made : Option Blind → State → Script → (made : ℕ) → List ℕ
text_made blind start all made = text_of (made_run blind start all made).told

-- the events that are left of so many, once some are made
abbrev pub events_left : Script → (limit made : ℕ) → List Event
events_left all limit made = first_events (limit - made) (after_events made all)

-- the course of some events, and its text
abbrev pub rest_of : Option Blind → State → List Event → Course
rest_of blind s events = course blind s events

abbrev pub text_of_rest : Option Blind → State → List Event → List ℕ
text_of_rest blind s events = text_of (rest_of blind s events).told

-- so many events were made and their lines written, and what the rest will write makes up the whole
pub record IsUnderway (blind : Option Blind) (start now : State) (all : Script) (limit made : ℕ)
    (old sink : SinkAccount) : Type 0
  where
    pub on : now.off ≡ false
    pub harts : all.harts ≡ length now.harts
    pub clock : now.clock ≡ start.clock + made
    pub reached : now ≡ (made_run blind start all made).last
    pub told : Writes old sink (text_made blind start all made)
    pub ending : (rest_of blind start (first_events limit all)).ending
        ≡ (rest_of blind now (events_left all limit made)).ending
    pub last : (rest_of blind start (first_events limit all)).last
        ≡ (rest_of blind now (events_left all limit made)).last
    pub text : text_of_rest blind start (first_events limit all) ≡
        text_made blind start all made ++ text_of_rest blind now (events_left all limit made)

none_made : (limit : ℕ) (all : Script) → first_events limit all ≡ events_left all limit 0
unfolding after_events
none_made limit all =
    let same : limit ≡ limit - 0 = omega arith in ap (λ n. first_events n all) same

-- the begin of a run
pub underway_at_start : (blind : Option Blind) (start : State) (all : Script) (limit : ℕ)
    (old : SinkAccount) → start.off ≡ false → all.harts ≡ length start.harts
    → IsUnderway blind start start all limit 0 old old
unfolding run first_events
underway_at_start blind start all limit old on harts =
    let same = none_made limit all in record {
      on = on;
      harts = harts;
      clock = omega arith;
      reached = refl;
      told = sym (appended-nil old.written);
      ending = ap (λ (events : List Event). (rest_of blind start events).ending) same;
      last = ap (λ (events : List Event). (rest_of blind start events).last) same;
      text = ap (text_of_rest blind start) same;
    }

-- the state in which the next event is made, and that which it leaves
abbrev pub before : Option Blind → State → State
before blind s = state_before blind s

abbrev pub after : Option Blind → State → Event → State
after blind s event = step (before blind s) event

-- the text of its lines
abbrev pub event_text : Option Blind → State → Event → List ℕ
event_text blind s event = text_of (lines (before blind s) event)

pub before_on : (blind : Option Blind) (s : State) → s.off ≡ false → (before blind s).off ≡ false
before_on blind s on = off-before blind s ∙ on

pub before_fits : (blind : Option Blind) (s : State) (event : Event) → Fits s event
    → Fits (before blind s) event
before_fits blind s event fits = fit-by s (before blind s) event (sym (harts-before blind s)) fits

pub before_clock : (blind : Option Blind) (s : State) (most : ℕ) → s.clock < most
    → (before blind s).clock < most
before_clock blind s most below =
    subst (λ (clock : ℕ). clock < most) (sym (clock-before blind s)) below

-- what is drawn of a script fits a machine of its harts
pub drawn_fits : (all script : Script) (made : ℕ) (s : State) (event : Event)
    → script ≡ after_events made all → IsOrderly script → event ≡ next_event script
    → all.harts ≡ length s.harts → Fits s event
drawn_fits all script made s event drawn orderly is same =
    let harts : script.harts ≡ length s.harts =
    ap (λ (t : Script). t.harts) drawn ∙ events-harts made all ∙ same in
    subst (λ (e : Event). Fits s e) (sym is)
    (subst (λ (n : ℕ). FitsHarts n (next_event script)) harts (next-fits script orderly))

pub drawn_more : (all script more : Script) (made : ℕ) → script ≡ after_events made all
    → more ≡ after_event script → more ≡ after_events (made + 1) all
drawn_more all script more made drawn is =
    is ∙ ap (λ (t : Script). after_event t) drawn ∙ sym (after-more made all)

pub drawn_is : (all script : Script) (made : ℕ) (event : Event) → script ≡ after_events made all
    → event ≡ next_event script → event ≡ next_event (after_events made all)
drawn_is all script made event drawn is = is ∙ ap (λ (t : Script). next_event t) drawn

-- what is left before an event and after it
module _ (blind : Option Blind) (start now : State) (all : Script) (limit made : ℕ)
    (old sink : SinkAccount) (underway : IsUnderway blind start now all limit made old sink)
    (below : made < limit) (event : Event) (is : event ≡ next_event (after_events made all)) where
  abbrev left : List Event
  left = events_left all limit (made + 1)

  abbrev next : State
  next = after blind now event

  abbrev said : List ℕ
  said = event_text blind now event

  abbrev before_said : List ℕ
  before_said = text_made blind start all made

  -- the event is the first of those that are left
  first_left : events_left all limit made ≡ event ∷ left
  unfolding first_events
  first_left =
      let one : limit - made ≡ suc (limit - (made + 1)) = omega arith in
      ap (λ n. first_events n (after_events made all)) one
      ∙ ap (λ (e : Event).
      e ∷ first_events (limit - (made + 1)) (after_event (after_events made all))) (sym is)
      ∙ ap (λ (t : Script). event ∷ first_events (limit - (made + 1)) t) (sym (after-more made all))

  after_made : rest_of blind now (events_left all limit made)
      ≡ (let rest = rest_of blind next left in
      record rest { told = lines (before blind now) event ++ rest.told })
  after_made =
      ap (rest_of blind now) first_left ∙ course_on blind now event left underway.on

  text_left : text_of_rest blind now (events_left all limit made)
      ≡ said ++ text_of_rest blind next left
  text_left =
      ap (λ (c : Course). text_of c.told) after_made
      ∙ flat_map-append spelling (lines (before blind now) event) (rest_of blind next left).told

  -- one event more is made
  one_more : first_events (made + 1) all ≡ first_events made all ++ event ∷ []
  one_more = first-more made all
      ∙ ap (λ (e : Event). first_events made all ++ e ∷ []) (sym is)

  run_more : made_run blind start all (made + 1)
      ≡ run_on blind (made_run blind start all made) (event ∷ [])
  run_more = ap (run blind start) one_more
      ∙ run-append blind start (first_events made all) (event ∷ [])

  reached_more : next ≡ (made_run blind start all (made + 1)).last
  unfolding run
  reached_more =
      ap (λ (s : State). after blind s event) underway.reached
      ∙ sym (ap (λ (r : Run). r.last) run_more)

  text_more : before_said ++ said ≡ text_made blind start all (made + 1)
  unfolding run
  text_more =
      ap (λ s. before_said ++ event_text blind s event) underway.reached
      ∙ sym (ap (λ (r : Run). text_of r.told) run_more
      ∙ flat_map-append spelling (made_run blind start all made).told _
      ∙ ap (λ told. before_said ++ text_of told)
      (append-nil (lines (before blind (made_run blind start all made).last) event)))

  written_more : (later : SinkAccount) → Writes sink later said
      → Writes old later (before_said ++ said)
  written_more later e = e ∙ ap (λ o. appended o said) underway.told
      ∙ appended-append old.written before_said said

  -- an event was made, its lines were written, and the machine is still on
  pub underway_more : (later : SinkAccount) → next.off ≡ false → Writes sink later said
      → IsUnderway blind start next all limit (made + 1) old later
  underway_more later on e =
      record {
        on = on;
        harts = underway.harts ∙ sym (harts_after (before blind now) event
            ∙ ap length (harts-before blind now));
        clock = clock_after (before blind now) event
            ∙ ap (λ n. n + 1) (clock-before blind now ∙ underway.clock) ∙ omega arith;
        reached = reached_more;
        told = written_more later e ∙ ap (appended old.written) text_more;
        ending = underway.ending ∙ ap (λ (c : Course). c.ending) after_made;
        last = underway.last ∙ ap (λ (c : Course). c.last) after_made;
        text = underway.text ∙ ap (λ t. before_said ++ t) text_left
            ∙ sym (append_assoc before_said said _)
            ∙ ap (λ t. t ++ text_of_rest blind next left) text_more;
      }

  -- it shut the machine down
  pub finished_off : (later : SinkAccount) → next.off ≡ true → Writes sink later said
      → FinishesRun (rest_of blind start (first_events limit all)) Shutdown next old later
  finished_off later off e =
      let rest = course_off blind next left off in
      let total : text_of_rest blind start (first_events limit all) ≡ before_said ++ said =
      underway.text ∙ ap (λ t. before_said ++ t)
      (text_left ∙ ap (λ (c : Course). said ++ text_of c.told) rest ∙ append-nil said) in
      record {
        ending = sym (underway.ending ∙ ap (λ (c : Course). c.ending) after_made
            ∙ ap (λ (c : Course). c.ending) rest);
        last = sym (underway.last ∙ ap (λ (c : Course). c.last) after_made
            ∙ ap (λ (c : Course). c.last) rest);
        written = written_more later e ∙ ap (appended old.written) (sym total);
      }

  -- its lines couldn't all be written
  pub stopped : (later : SinkAccount) → WritesFront sink later said
      → StopsRun blind start next (first_events limit all) old later
  stopped later w = record {
    text = before_said ++ w.front;
    stops = record {
      made = first_events made all;
      event = event;
      others = left;
      split = first-split made limit all below
          ∙ ap (λ (e : Event). first_events made all ++ e
          ∷ first_events (limit - (made + 1)) (after_event (after_events made all))) (sym is)
          ∙ ap (λ (t : Script). first_events made all ++ event
          ∷ first_events (limit - (made + 1)) t) (sym (after-more made all));
      stands = reached_more
          ∙ ap (λ (events : List Event). (run blind start events).last) one_more;
      front = w.front;
      rest = w.rest;
      due = w.split ∙ ap (λ (s : State). event_text blind s event) underway.reached;
      proper = w.proper;
      whole = refl;
    };
    written = w.written ∙ ap (λ o. appended o w.front) underway.told
        ∙ appended-append old.written before_said w.front;
  }

  -- and so a proper front of the whole was written
  pub front_written : (later : SinkAccount) → WritesFront sink later said
      → WritesFront old later (text_of_rest blind start (first_events limit all))
  front_written later w = record {
    front = before_said ++ w.front;
    rest = w.rest ++ text_of_rest blind next left;
    split = append_assoc before_said w.front _
        ∙ ap (λ t. before_said ++ t)
        (sym (append_assoc w.front w.rest _)
        ∙ ap (λ t. t ++ text_of_rest blind next left) w.split
        ∙ sym text_left)
        ∙ sym underway.text;
    proper = λ e. w.proper (front_empty w.rest _ e);
    written = w.written ∙ ap (λ o. appended o w.front) underway.told
        ∙ appended-append old.written before_said w.front;
  } where
    front_empty : (a b : List ℕ) → a ++ b ≡ [] → a ≡ []
    front_empty [] b e = refl
    front_empty (x ∷ a) b e = cc

-- all events were made
pub finished_limit : (blind : Option Blind) (start now : State) (all : Script) (limit made : ℕ)
    (old sink : SinkAccount)
    → IsUnderway blind start now all limit made old sink → made ≡ limit
    → FinishesRun (rest_of blind start (first_events limit all)) Limit now old sink
unfolding first_events
finished_limit blind start now all limit made old sink underway e =
    let none : limit - made ≡ 0 = omega arith in
    let rest = ap (λ n. rest_of blind now (first_events n (after_events made all))) none
    ∙ course_none blind now underway.on in
    let total : text_of_rest blind start (first_events limit all) ≡ text_made blind start all made =
    underway.text
    ∙ ap (λ (c : Course). text_made blind start all made ++ text_of c.told) rest
    ∙ append-nil (text_made blind start all made) in
    record {
      ending = sym (underway.ending ∙ ap (λ (c : Course). c.ending) rest);
      last = sym (underway.last ∙ ap (λ (c : Course). c.last) rest);
      written = underway.told ∙ ap (appended old.written) (sym total);
    }

-- ---- what a run doesn't show

pub hidden_in_run : (blind : Option Blind) (start : State) (all : Script) (limit : ℕ)
    → IsSound start → IsOrderly all → all.harts ≡ length start.harts
    → HidesSecrets blind start (first_events limit all)
    × TellsNoneOf blind start (first_events limit all)
hidden_in_run blind start all limit sound orderly same =
    hides-in-run sound-kept blind start (first_events limit all) sound
    (first-events-fit blind limit all start orderly (sym same))

pub on_err : {A E P : Type 0} (r : Result A E) → P → OnErr r P
on_err (Ok x) p = tt
on_err (Err e) p = p

-- ---- what is left of the script

pub left_after : (all script more : Script) (made limit : ℕ) → script ≡ after_events made all
    → more ≡ after_event script → made < limit → IsLeftOf limit all more
left_after all script more made limit drawn is below = record {
  count = made + 1;
  most = omega (arith, below);
  is = drawn_more all script more made drawn is;
}

pub left_at_end : (all script : Script) (made limit : ℕ) → script ≡ after_events made all
    → made ≤ limit → IsLeftOf limit all script
left_at_end all script made limit drawn most =
    record { count = made; most = most; is = drawn }
