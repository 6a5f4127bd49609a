-- How courses end.
use Rattle.std.proofs.Common.{◌≡◌, ℕ, Bool, true, false, List, [], ◌∷◌, Option, refl, sym, ap}
use Rattle.std.proofs.Common.{subst}
use Rattle.std.proofs.Common.{◌∙◌}
use Rattle.bn_types.specs.declared.ending.Ending.{Ending}
use Rattle.bn_types.specs.declared.ending.Ending.TheVariants as ending
use Rattle.bn_types.specs.declared.event.Event.{Event}
use Rattle.bn_types.specs.declared.finish.Finish.{Finish}
use Rattle.bn_types.specs.declared.finish.Finish.TheVariants as finish
use Rattle.bn_types.specs.declared.status.Status.{Status}
use Rattle.bn_types.specs.declared.status.Status.TheVariants as answer
use Rattle.bn_model.specs.Reporting.{Report, closing, end_line}
use Rattle.bn_model.specs.Running.{Blind, Course, course, state_before}
use Rattle.bn_model.specs.State.{State}
use Rattle.bn_model.specs.Stepping.{step}
use Rattle.bn_model.specs.WholeReports.{finish_status}
use Rattle.bn_model.specs.WholeRuns.{finish_if, finish_of}
use Rattle.bn_model.proofs.RunningLemmas.{course_none, course_off, course_on}
use Rattle.bn_front.specs.Due.{ended, generated, generated_run}

abbrev ending_at : Finish → Ending
ending_at finish.Shutdown = ending.Shutdown
ending_at finish.Limit = ending.Limit

-- a course ends with a shutdown or at its limit, as its last state tells
abbrev EndsAsItStands : Course → Type 0
EndsAsItStands run = run.ending ≡ ending_at (finish_of run)

at-off : (b : Bool) (s : State) → s.off ≡ b
    → ending_at (finish_if b)
    ≡ ending_at
    (finish_of (record { told = []; ending = ending_at (finish_if b); last = s }))
at-off b s e = sym (ap (λ (off : Bool). ending_at (finish_if off)) e)

ends-so : (blind : Option Blind) (s : State) (events : List Event)
    → EndsAsItStands (course blind s events)
ends-so blind s [] = by_off s.off refl where
  by_off : (b : Bool) → s.off ≡ b → EndsAsItStands (course blind s [])
  by_off true off =
      subst EndsAsItStands (sym (course_off blind s [] off)) (at-off true s off)
  by_off false on =
      subst EndsAsItStands (sym (course_none blind s on)) (at-off false s on)
ends-so blind s (event ∷ events) =
    by_off s.off refl (ends-so blind (step (state_before blind s) event) events)
  where
    by_off : (b : Bool) → s.off ≡ b
        → EndsAsItStands (course blind (step (state_before blind s) event) events)
        → EndsAsItStands (course blind s (event ∷ events))
    by_off true off rest =
        subst EndsAsItStands (sym (course_off blind s (event ∷ events) off))
        (at-off true s off)
    by_off false on rest =
        subst EndsAsItStands (sym (course_on blind s event events on)) rest

-- what closes it is its end line
pub closing-ended : (blind : Option Blind) (s : State) (events : List Event)
    → closing (course blind s events).ending (course blind s events).last
    ≡ ended (course blind s events)
closing-ended blind s events = go (course blind s events) (ends-so blind s events)
  where
    by_finish : (f : Finish) (last : State) → ◌≡◌ {A = Report} (closing (ending_at f) last)
        (record { status = finish_status f; text = end_line last f })
    by_finish finish.Shutdown last = refl
    by_finish finish.Limit last = refl

    go : (run : Course) → EndsAsItStands run → closing run.ending run.last ≡ ended run
    go run e = ap (λ (reason : Ending). closing reason run.last) e
        ∙ by_finish (finish_of run) run.last

-- ---- their statuses

-- a run's end line has one of two
pub ended_by : (run : Course) (P : Status → Type 0) → P answer.Ended → P answer.Limit
    → P (ended run).status
ended_by run P one other = by_finish (finish_of run) where
  by_finish : (f : Finish) → P (finish_status f)
  by_finish finish.Shutdown = one
  by_finish finish.Limit = other

-- a summary has one of them too
pub generated_by : (number : ℕ) (P : Status → Type 0) → P answer.Ended → P answer.Limit
    → P (generated number).status
generated_by number P one other = ended_by (generated_run number) P one other
