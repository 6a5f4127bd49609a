-- A generated run on its way, and what it comes to.
use Rattle.std.proofs.Common.{◌≡◌, ℕ, zero, suc, ◌+◌, ◌-◌, ◌*◌, ◌^◌, ◌<◌, ◌≤◌, true, false, List}
use Rattle.std.proofs.Common.{[], ◌∷◌}
use Rattle.std.proofs.Common.{◌++◌, None, length, length-append, refl, sym, ap, ap₂, ◌∙◌, arith}
use Rattle.std.proofs.lemmas.List.{append_assoc, append-nil}
use Rattle.bn_types.specs.declared.cause.Cause.{Cause}
use Rattle.bn_types.specs.declared.event.Event.{Event}
use Rattle.bn_types.specs.declared.event.Event.TheVariants.{Key, Peek, Poke, Turn}
use Rattle.bn_types.specs.declared.line.Line.{Line}
use Rattle.bn_gen.specs.Tallies.{tally_of}
use Rattle.bn_model.specs.Decision.{Decision}
use Rattle.bn_model.specs.Decision as decision
use Rattle.bn_model.specs.Generating.{made_of}
use Rattle.bn_model.specs.Opening.{Image, opening}
use Rattle.bn_model.specs.Running.{Course, course}
use Rattle.bn_model.specs.Scripts.{Script, after_event, after_events, first_events, next_event}
use Rattle.bn_model.specs.Scripts.{script_of}
use Rattle.bn_model.specs.State.{Hart, State, hart_at}
use Rattle.bn_model.specs.Stepping.{lines, lines_of_turn, step, stop_lines}
use Rattle.bn_model.specs.Stepping.{trap_lines}
use Rattle.bn_model.specs.Deciding.{decision_of}
use Rattle.bn_model.specs.Walking.{access_fault}
use Rattle.bn_model.specs.Summaries.{generated_start, raw_image}
use Rattle.bn_model.specs.WholeRuns.{course_of}
use Rattle.bn_model.proofs.RunningLemmas.{course_none, course_off, course_on}
use Rattle.bn_model.proofs.ScriptLemmas.{after-more}
use Rattle.bn_model.proofs.SteppingLemmas.{clock_after, harts_after}
use Rattle.bn_front.specs.Due.{generated_run}
use Rattle.bn_front.proofs.Reached.{harts_opening}

-- ---- an event has three lines at most

stop_few : (n h : ℕ) (hart : Hart) (current : ℕ) → length (stop_lines n h hart current) ≤ 1
stop_few n h hart zero = omega arith
stop_few n h hart (suc m) = omega arith

with_last : (told : List Line) (last : Line) → length told ≤ 1 → length (told ++ last ∷ []) ≤ 2
with_last told last few =
    let long : length (told ++ last ∷ []) ≡ length told + 1 = length-append told (last ∷ []) in
    omega arith

trap_few : (n h : ℕ) (hart : Hart) (cause : Cause) → length (trap_lines n h hart cause) ≤ 2
trap_few n h hart cause =
    with_last (stop_lines n h hart hart.current.0) _ (stop_few n h hart hart.current.0)

turn_few : (n next h : ℕ) (hart : Hart) (d : Decision)
    → length (lines_of_turn n next h hart d) ≤ 3
turn_few n next h hart (decision.Trap cause value) =
    let trap = trap_few n h hart cause in omega arith
turn_few n next h hart (decision.Deny kind va) =
    let trap = trap_few n h hart (access_fault kind) in omega arith
turn_few n next h hart d = omega arith

pub lines_few : (s : State) (event : Event) → length (lines s event) ≤ 3
unfolding lines
lines_few s (Turn h) = turn_few s.clock s.next h (hart_at s h) (decision_of s h)
lines_few s (Key byte) = omega arith
lines_few s (Poke page offset byte) = omega arith
lines_few s (Peek page offset) = omega arith

-- ---- the run

-- the events that are left of so many, once some are made
abbrev pub events_left : Script → (limit made : ℕ) → List Event
events_left all limit made = first_events (limit - made) (after_events made all)

abbrev pub course_from : State → List Event → Course
course_from s events = course None s events

-- a course after some lines
abbrev pub after_lines : List Line → Course → Course
after_lines told rest = record rest { told = told ++ rest.told }

-- so many events were made and their lines counted, and the rest makes up the whole
pub record IsCounted (start now : State) (all : Script) (limit made : ℕ) (tally : List ℕ) : Type 0
  where
    pub on : now.off ≡ false
    pub harts : all.harts ≡ length now.harts
    pub clock : now.clock ≡ made
    pub told : List Line
    pub few : length told ≤ 3 * made
    pub counted : tally ≡ tally_of told
    pub whole : course_from start (first_events limit all)
        ≡ after_lines told (course_from now (events_left all limit made))

pub counted_at_start : (start : State) (all : Script) (limit : ℕ) (tally : List ℕ)
    → start.off ≡ false → all.harts ≡ length start.harts → start.clock ≡ 0
    → tally ≡ tally_of [] → IsCounted start start all limit 0 tally
unfolding after_events
counted_at_start start all limit tally on harts clock none =
    let same : limit ≡ limit - 0 = omega arith in record {
      on = on;
      harts = harts;
      clock = clock;
      told = [];
      few = omega arith;
      counted = none;
      whole = ap (λ n. course_from start (first_events n all)) same;
    }

module _ (start now : State) (all : Script) (limit made : ℕ) (tally : List ℕ)
    (c : IsCounted start now all limit made tally) (below : made < limit) (event : Event)
    (is : event ≡ next_event (after_events made all)) where
  abbrev left : List Event
  left = events_left all limit (made + 1)

  abbrev next : State
  next = step now event

  abbrev told_more : List Line
  told_more = c.told ++ lines now event

  -- the event is the first of those that are left
  first_left : events_left all limit made ≡ event ∷ left
  unfolding first_events
  first_left =
      let one : limit - made ≡ suc (limit - (made + 1)) = omega arith in
      ap (λ n. first_events n (after_events made all)) one
      ∙ ap (λ (e : Event).
      e ∷ first_events (limit - (made + 1)) (after_event (after_events made all))) (sym is)
      ∙ ap (λ (t : Script). event ∷ first_events (limit - (made + 1)) t) (sym (after-more made all))

  whole_more : course_from start (first_events limit all)
      ≡ after_lines told_more (course_from next left)
  whole_more =
      let rest : Course = course_from next left in
      c.whole
      ∙ ap (λ (events : List Event). after_lines c.told (course_from now events)) first_left
      ∙ ap (after_lines c.told) (course_on None now event left c.on)
      ∙ ap (λ (told : List Line). record rest { told = told })
      (sym (append_assoc c.told (lines now event) rest.told))

  few_more : length told_more ≤ 3 * (made + 1)
  few_more =
      let before = c.few in let more = lines_few now event in
      let long = length-append c.told (lines now event) in omega arith

  -- one event more was made, its lines were counted, and the machine is still on
  pub counted_more : (more : List ℕ) → next.off ≡ false → more ≡ tally_of told_more
      → IsCounted start next all limit (made + 1) more
  counted_more more on counted = record {
    on = on;
    harts = c.harts ∙ sym (harts_after now event);
    clock = clock_after now event ∙ ap (λ n. n + 1) c.clock;
    told = told_more;
    few = few_more;
    counted = counted;
    whole = whole_more;
  }

  -- there is room to count its lines
  pub few_told : limit ≤ 1000000 → length told_more < 2 ^ 64
  few_told most = let few = few_more in omega arith

  -- it shut the machine down
  pub last_off : next.off ≡ true → next ≡ (course_from start (first_events limit all)).last
  last_off off = sym (ap (λ (run : Course). run.last)
      (whole_more ∙ ap (after_lines told_more) (course_off None next left off)))

  pub told_off : next.off ≡ true
      → told_more ≡ (course_from start (first_events limit all)).told
  told_off off = sym (append-nil told_more) ∙ sym (ap (λ (run : Course). run.told)
      (whole_more ∙ ap (after_lines told_more) (course_off None next left off)))

-- all events were made
module _ (start now : State) (all : Script) (limit made : ℕ) (tally : List ℕ)
    (c : IsCounted start now all limit made tally) (e : made ≡ limit) where
  whole_limit : course_from start (first_events limit all)
      ≡ after_lines c.told (course_from now [])
  unfolding first_events
  whole_limit =
      let none : limit - made ≡ 0 = omega arith in
      c.whole
      ∙ ap (λ n. after_lines c.told (course_from now (first_events n (after_events made all)))) none

  pub last_limit : now ≡ (course_from start (first_events limit all)).last
  last_limit = sym (ap (λ (run : Course). run.last)
      (whole_limit ∙ ap (after_lines c.told) (course_none None now c.on)))

  pub told_limit : c.told ≡ (course_from start (first_events limit all)).told
  told_limit = sym (append-nil c.told) ∙ sym (ap (λ (run : Course). run.told)
      (whole_limit ∙ ap (after_lines c.told) (course_none None now c.on)))

-- ---- where it begins

module _ (number : ℕ) (image : Image) (script : Script) (s : State)
    (loaded : image ≡ raw_image (64 * 4096) (made_of number).image)
    (read : script ≡ script_of 1 (made_of number).commands)
    (opens : s ≡ opening 64 1 image []) where
  -- what image and script come to is the run of the number
  pub run_is : course_from s (first_events 1000000 script) ≡ generated_run number
  unfolding course_of generated_start
  run_is =
      ap₂ (λ (t : State) (all : Script). course_from t (first_events 1000000 all))
      (opens ∙ ap (λ (i : Image). opening 64 1 i []) loaded) read

  pub opens_on : s.off ≡ false
  unfolding opening
  opens_on = ap (λ (t : State). t.off) opens

  pub opens_new : s.clock ≡ 0
  unfolding opening
  opens_new = ap (λ (t : State). t.clock) opens

  pub opens_harts : script.harts ≡ length s.harts
  opens_harts =
      ap (λ (t : Script). t.harts) read
      ∙ sym (ap (λ (t : State). length t.harts) opens ∙ harts_opening 64 1 image [] (omega arith))
