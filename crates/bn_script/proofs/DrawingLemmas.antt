-- Events drawn one by one.
use Rattle.std.proofs.Common.{add-one, subst, ◌≡◌, ℕ, zero, suc, ◌+◌, ◌%◌, ◌≤◌, ◌<◌, Bool, true}
use Rattle.std.proofs.Common.{false, nat_lt, List, [], ◌∷◌, ◌++◌, length, drop, get_or, replicate}
use Rattle.std.proofs.Common.{map, Option, Some, None, refl, sym, ◌∙◌, ap, arith}
use Rattle.std.proofs.lemmas.Bool.Decides.{nat_tests}
use Rattle.std.proofs.Math.Nat.{mod-eq_of_lt, mod_self}
use Rattle.std.proofs.lemmas.Grind.{common_steps}
use Rattle.std.specs.List.{range_with_len, flat_map}
use Rattle.std.specs.Prelude.{◌&&◌, ◌==◌, slice_get}
use Rattle.bn_types.specs.declared.event.Event.{Event}
use Rattle.bn_types.specs.declared.event.Event.TheVariants as event
use Rattle.bn_model.specs.declared.command.Command.{Command}
use Rattle.bn_model.specs.declared.command.Command.TheVariants.{Turn, Go, Key, Poke, Peek}
use Rattle.bn_model.specs.Scripts.{IsOrderly, Script, after_event, event_from, events_of}
use Rattle.bn_model.specs.Scripts.{next_event}
use Rattle.bn_model.specs.Scripts.{rounds}
use Rattle.bn_model.proofs.ScriptLemmas.{after-orderly}
use Rattle.bn_script.specs.Drawing.{CanBeDrawn, GoesOn, count_at, event_of, is_lone, is_over}
use Rattle.bn_script.specs.Drawing.{script_at, turn_at}
use Rattle.bn_script.specs.Lines.{count_of}

-- what is left of some turns of one hart
replicate_left : (k i : ℕ) (e : Event) → i < k
    → drop i (replicate k e) ≡ e ∷ drop (suc i) (replicate k e)
replicate_left zero i e within = grind arith
replicate_left (suc k) zero e within = refl
replicate_left (suc k) (suc i) e within = replicate_left k i e (omega arith)

-- and of turns of one hart after the other
round_left : (harts at k i : ℕ) → i < k →
    drop i (map (λ j. event.Turn (j % harts)) (range_with_len at k))
    ≡ event.Turn ((at + i) % harts) ∷
    drop (suc i) (map (λ j. event.Turn (j % harts)) (range_with_len at k))
round_left harts at zero i within = grind arith
round_left harts at (suc k) zero within = let e : at + 0 ≡ at = omega arith in rw e refl
round_left harts at (suc k) (suc i) within =
    let e : at + suc i ≡ at + 1 + i = omega arith in
    rw e (round_left harts (at + 1) k i (omega arith))

one_left : (i : ℕ) (e : Event) → i < 1 → drop i (e ∷ []) ≡ e ∷ drop (suc i) (e ∷ [])
one_left zero e within = refl
one_left (suc i) e within = grind arith

-- the next event of a command
pub command_left : (harts : ℕ) (command : Command) (done : ℕ) → done < count_of command →
    drop done (events_of harts command) ≡
    event_of harts command done ∷ drop (suc done) (events_of harts command)
unfolding events_of
command_left harts (Turn hart count) done within =
    replicate_left count done (event.Turn hart) within
command_left harts (Go count) done within =
    let e : 0 + done ≡ done = omega arith in
    ap (λ (i : ℕ). drop done (rounds harts count)) e ∙ round_left harts 0 count done within
    ∙ ap (λ (i : ℕ). event.Turn (i % harts) ∷ drop (suc done) (rounds harts count)) e
command_left harts (Key byte) done within = one_left done (event.Key byte) within
command_left harts (Poke page offset byte) done within =
    one_left done (event.Poke page offset byte) within
command_left harts (Peek page offset) done within = one_left done (event.Peek page offset) within

rounds_length : (harts at k : ℕ)
    → length (map (λ j. event.Turn (j % harts)) (range_with_len at k)) ≡ k
rounds_length harts at zero = refl
rounds_length harts at (suc k) = ap suc (rounds_length harts (at + 1) k)

-- a command's events are as many as it counts
pub command_length : (harts : ℕ) (command : Command)
    → length (events_of harts command) ≡ count_of command
unfolding events_of
command_length harts (Turn hart count) = grind (arith, common_steps)
command_length harts (Go count) = rounds_length harts 0 count
command_length harts (Key byte) = refl
command_length harts (Poke page offset byte) = refl
command_length harts (Peek page offset) = refl

-- ---- lists in a row

drop_front : {A : Type 0} (i : ℕ) (xs ys : List A) → i ≤ length xs
    → drop i (xs ++ ys) ≡ drop i xs ++ ys
drop_front zero xs ys within = refl
drop_front (suc i) [] ys within = grind arith
drop_front (suc i) (x ∷ xs) ys within = drop_front i xs ys (omega arith)

drop_whole : {A : Type 0} (xs ys : List A) → drop (length xs) (xs ++ ys) ≡ ys
drop_whole [] ys = refl
drop_whole (x ∷ xs) ys = drop_whole xs ys

commands_left : (commands : List Command) (at : ℕ) (command : Command)
    → slice_get commands at ≡ Some command →
    drop at commands ≡ command ∷ drop (suc at) commands
commands_left [] at command h = grind arith
commands_left (first ∷ commands) zero command h = let e : first ≡ command = grind arith in rw e refl
commands_left (first ∷ commands) (suc at) command h = commands_left commands at command h

place_within : (commands : List Command) (at : ℕ) (command : Command)
    → slice_get commands at ≡ Some command → at < length commands
place_within [] at command h = grind arith
place_within (first ∷ commands) zero command h = omega arith
place_within (first ∷ commands) (suc at) command h =
    let l = place_within commands at command h in omega (arith, l)

place_past : (commands : List Command) (at : ℕ) → slice_get commands at ≡ None
    → length commands ≤ at
place_past [] at h = omega arith
place_past (first ∷ commands) zero h = grind arith
place_past (first ∷ commands) (suc at) h = let l = place_past commands at h in omega (arith, l)

-- ---- the events from a place on

events_from : (harts : ℕ) (commands : List Command) (at done : ℕ) → List Event
events_from harts commands at done = drop done (flat_map (events_of harts) (drop at commands))

-- an event within a command
pub event_here : (harts : ℕ) (commands : List Command) (at done : ℕ) (command : Command) →
    slice_get commands at ≡ Some command → done < count_of command →
    drop done (flat_map (events_of harts) (drop at commands))
    ≡ event_of harts command done ∷ drop (suc done) (flat_map (events_of harts) (drop at commands))
event_here harts commands at done command h within =
    let more = flat_map (events_of harts) (drop (suc at) commands) in
    let long = command_length harts command in
    rw (
      commands_left commands at command h,
      drop_front done (events_of harts command) more (omega (arith, long)),
      drop_front (suc done) (events_of harts command) more (omega (arith, long)),
      command_left harts command done within,
    )
    refl

-- past a command's last event
pub events_over : (harts : ℕ) (commands : List Command) (at done : ℕ) (command : Command) →
    slice_get commands at ≡ Some command → done ≡ count_of command →
    drop done (flat_map (events_of harts) (drop at commands)) ≡
    flat_map (events_of harts) (drop (suc at) commands)
events_over harts commands at done command h over =
    let more = flat_map (events_of harts) (drop (suc at) commands) in
    rw (commands_left commands at command h, over, sym (command_length harts command))
    (drop_whole (events_of harts command) more)

pub events_end : (harts : ℕ) (commands : List Command) (at done : ℕ)
    → slice_get commands at ≡ None →
    drop done (flat_map (events_of harts) (drop at commands)) ≡ []
events_end harts commands at done h =
    rw (none_left commands at (place_past commands at h)) (none_dropped done)
  where
    none_left : (commands : List Command) (at : ℕ) → length commands ≤ at → drop at commands ≡ []
    none_left [] zero past = refl
    none_left [] (suc at) past = refl
    none_left (first ∷ commands) zero past = grind arith
    none_left (first ∷ commands) (suc at) past = none_left commands at (omega arith)

    none_dropped : (done : ℕ) → drop {A = Event} done [] ≡ []
    none_dropped zero = refl
    none_dropped (suc done) = refl

-- ---- the script from a place on

abbrev script_by : (harts : ℕ) → List Event → ℕ → Script
script_by harts events turn = record { harts = harts; events = events; turn = turn }

same_script : (harts : ℕ) (events more : List Event) (turn later : ℕ) → events ≡ more
    → turn ≡ later →
    script_by harts events turn ≡ script_by harts more later
same_script harts events more turn later e t =
    ap (λ (x : List Event). script_by harts x turn) e ∙ ap (λ (x : ℕ). script_by harts more x) t

first_turn : (before_end : Bool) → turn_at before_end 0 ≡ 0
first_turn true = refl
first_turn false = refl

within_place : (commands : List Command) (at : ℕ) (command : Command)
    → slice_get commands at ≡ Some command → nat_lt at (length commands) ≡ true
within_place commands at command h =
    let l = place_within commands at command h in grind (arith, nat_tests)

past_place : (commands : List Command) (at : ℕ) → slice_get commands at ≡ None
    → nat_lt at (length commands) ≡ false
past_place commands at h = let l = place_past commands at h in grind (arith, nat_tests)

pub next_here : (harts : ℕ) (commands : List Command) (at done : ℕ) (command : Command) →
    slice_get commands at ≡ Some command → done < count_of command →
    event_of harts command done ≡ next_event (script_at harts commands at done)
next_here harts commands at done command h within =
    ap (λ (es : List Event). event_from es (turn_at (nat_lt at (length commands)) done))
    (sym (event_here harts commands at done command h within))

after_here : (harts : ℕ) (commands : List Command) (at done : ℕ) (command : Command) →
    slice_get commands at ≡ Some command → done < count_of command →
    after_event (script_at harts commands at done) ≡
    script_by harts (drop (suc done) (flat_map (events_of harts) (drop at commands))) 0
after_here harts commands at done command h within =
    rw (event_here harts commands at done command h within, within_place commands at command h) refl

pub rest_within : (harts : ℕ) (commands : List Command) (at done : ℕ) (command : Command) →
    slice_get commands at ≡ Some command → done + 1 < count_of command →
    script_at harts commands at (done + 1) ≡ after_event (script_at harts commands at done)
rest_within harts commands at done command h within =
    same_script harts _ _ _ _
    (ap (λ (n : ℕ). drop n (flat_map (events_of harts) (drop at commands))) (add-one done))
    (ap (λ (b : Bool). turn_at b (done + 1)) (within_place commands at command h))
    ∙ sym (after_here harts commands at done command h (omega (arith, within)))

pub rest_over : (harts : ℕ) (commands : List Command) (at done : ℕ) (command : Command) →
    slice_get commands at ≡ Some command → done < count_of command → count_of command ≤ done + 1 →
    script_at harts commands (at + 1) 0 ≡ after_event (script_at harts commands at done)
rest_over harts commands at done command h within over =
    same_script harts _ _ _ _
    (ap (λ (n : ℕ). flat_map (events_of harts) (drop n commands)) (add-one at)
    ∙ sym (events_over harts commands at (suc done) command h (omega (arith, within, over))))
    (first_turn (nat_lt (at + 1) (length commands)))
    ∙ sym (after_here harts commands at done command h within)

pub next_past : (harts : ℕ) (commands : List Command) (at done : ℕ) → slice_get commands at ≡ None →
    event.Turn done ≡ next_event (script_at harts commands at done)
next_past harts commands at done h =
    rw (events_end harts commands at done h, past_place commands at h) refl

pub rest_past : (harts : ℕ) (commands : List Command) (at done : ℕ) → slice_get commands at ≡ None →
    script_at harts commands at ((done + 1) % harts) ≡
    after_event (script_at harts commands at done)
rest_past harts commands at done h =
    rw (
      events_end harts commands at done h,
      events_end harts commands at ((done + 1) % harts) h,
      past_place commands at h,
    ) refl

-- ---- a script can always go on

pub on_within : (harts : ℕ) (commands : List Command) (at done : ℕ) (command : Command)
    → GoesOn harts commands at done →
    slice_get commands at ≡ Some command → done + 1 < count_of command
    → GoesOn harts commands at (done + 1)
on_within harts commands at done command on h within = record {
  some = on.some;
  few = on.few;
  orders = on.orders;
  place = on.place;
  within = rw h within;
}

pub on_over : (harts : ℕ) (commands : List Command) (at done : ℕ) (command : Command)
    → GoesOn harts commands at done →
    slice_get commands at ≡ Some command → GoesOn harts commands (at + 1) 0
on_over harts commands at done command on h =
    let here = place_within commands at command h in
    record {
      some = on.some;
      few = on.few;
      orders = on.orders;
      place = omega (arith, here);
      within = on.orders (at + 1);
    }

pub on_past : (harts : ℕ) (commands : List Command) (at done : ℕ) → GoesOn harts commands at done →
    slice_get commands at ≡ None → GoesOn harts commands at ((done + 1) % harts)
on_past harts commands at done on h =
    let some : 1 ≤ harts = on.some in
    record {
      some = on.some;
      few = on.few;
      orders = on.orders;
      place = on.place;
      within = rw h (omega (arith, some));
    }

-- ---- one event drawn

pub within_here : (harts : ℕ) (commands : List Command) (at done : ℕ) (command : Command)
    → GoesOn harts commands at done →
    slice_get commands at ≡ Some command → done < count_of command
within_here harts commands at done command on h =
    subst (λ (o : Option Command). done < count_at harts o) h on.within

pub draws_here : (harts : ℕ) (commands : List Command) (at done : ℕ) (command : Command)
    → GoesOn harts commands at done →
    slice_get commands at ≡ Some command
    → event_of harts command done ≡ next_event (script_at harts commands at done)
draws_here harts commands at done command on h =
    next_here harts commands at done command h (within_here harts commands at done command on h)

pub goes_over : (harts : ℕ) (commands : List Command) (at done : ℕ) (command : Command)
    → GoesOn harts commands at done →
    slice_get commands at ≡ Some command → count_of command ≤ done + 1 →
    script_at harts commands (at + 1) 0 ≡ after_event (script_at harts commands at done)
goes_over harts commands at done command on h over =
    rest_over harts commands at done command h (within_here harts commands at done command on h)
    over

pub past_here : (harts : ℕ) (commands : List Command) (at done : ℕ) → GoesOn harts commands at done
    → slice_get commands at ≡ None → done < harts
past_here harts commands at done on h =
    subst (λ (o : Option Command). done < count_at harts o) h on.within

-- ---- reading a list at an index

pub got : (commands : List Command) (at : ℕ) (command : Command) → at < length commands
    → command ≡ get_or commands at command →
    slice_get commands at ≡ Some command
got [] at command within e = grind arith
got (first ∷ commands) zero command within e = ap Some (sym e)
got (first ∷ commands) (suc at) command within e = got commands at command (omega arith) e

pub not_got : (commands : List Command) (at : ℕ) → length commands ≤ at
    → slice_get commands at ≡ None
not_got [] at past = refl
not_got (first ∷ commands) zero past = grind arith
not_got (first ∷ commands) (suc at) past = not_got commands at (omega arith)

-- what is left of a script whose events fit
pub drawn_on : (harts : ℕ) (commands : List Command) (at done next more : ℕ)
    → CanBeDrawn harts commands at done → GoesOn harts commands next more
    → script_at harts commands next more ≡ after_event (script_at harts commands at done)
    → CanBeDrawn harts commands next more
drawn_on harts commands at done next more before on is = record {
  on = on;
  orderly = subst IsOrderly (sym is) (after-orderly _ before.orderly);
}

-- ---- the hart after another

pub hart_more : (hart harts : ℕ) → hart + 1 < harts → hart + 1 ≡ (hart + 1) % harts
hart_more hart harts below = sym (mod-eq_of_lt below)

pub first_hart : (hart harts : ℕ) → hart < harts → harts ≤ hart + 1 → 0 ≡ (hart + 1) % harts
first_hart hart harts below last =
    let all : hart + 1 ≡ harts = omega (arith, below, last) in
    sym (ap (λ (n : ℕ). n % harts) all ∙ mod_self harts)

-- ---- whether events of commands are left

pub lone_here : (harts : ℕ) (commands : List Command) (at done : ℕ) (command : Command)
    → GoesOn harts commands at done → slice_get commands at ≡ Some command
    → is_lone (script_at harts commands at done) ≡ false
unfolding is_lone
lone_here harts commands at done command on h =
    let within = subst (λ (got : Option Command). done < count_at harts got) h on.within in
    ap (λ (events : List Event). is_over events && harts == 1)
    (event_here harts commands at done command h within)

pub lone_past : (harts : ℕ) (commands : List Command) (at done : ℕ)
    → slice_get commands at ≡ None → is_lone (script_at harts commands at done) ≡ (harts == 1)
unfolding is_lone
lone_past harts commands at done h =
    ap (λ (events : List Event). is_over events && harts == 1)
    (events_end harts commands at done h)
