-- Laws of runs.
use Rattle.std.proofs.Common.{◌≡◌, Bool, true, false, List, [], ◌∷◌, ◌++◌, Option, refl, ap, ◌∙◌}
use Rattle.std.proofs.Common.{sym}
use Rattle.std.proofs.lemmas.List.{append_assoc}
use Rattle.bn_types.specs.declared.ending.Ending.TheVariants.{Shutdown, Limit}
use Rattle.bn_types.specs.declared.event.Event.{Event}
use Rattle.bn_types.specs.declared.line.Line.{Line}
use Rattle.bn_model.specs.Running.{Blind, Course, Run, course, onward, run, state_before}
use Rattle.bn_model.specs.Running.{unless_off}
use Rattle.bn_model.specs.State.{State}
use Rattle.bn_model.specs.Stepping.{step, lines}

-- ---- a course

-- a state that is off makes no events
pub course_off : (blind : Option Blind) (s : State) (es : List Event)
    → s.off ≡ true → course blind s es ≡ record { told = []; ending = Shutdown; last = s }
unfolding course
course_off blind s [] e = rw e refl
course_off blind s (event ∷ es) e = rw e refl

-- no events
pub course_none : (blind : Option Blind) (s : State) → s.off ≡ false
    → course blind s [] ≡ record { told = []; ending = Limit; last = s }
unfolding course
course_none blind s e = rw e refl

-- an event, and the course of the others
pub course_on : (blind : Option Blind) (s : State) (e : Event) (es : List Event) → s.off ≡ false
    → course blind s (e ∷ es)
    ≡ (let before = state_before blind s in
    onward (lines before e) (course blind (step before e) es))
unfolding course
course_on blind s e es on =
    let before : State = state_before blind s in
    ap (λ off. unless_off off s (onward (lines before e) (course blind (step before e) es))) on

-- ---- runs of some events

abbrev onto : List Line → Run → Run
onto told rest = record rest { told = told ++ rest.told }

-- a run of some events and then of others
abbrev pub run_on : Option Blind → Run → List Event → Run
run_on blind first es = onto first.told (run blind first.last es)

pub run-append : (blind : Option Blind) (s : State) (es fs : List Event)
    → run blind s (es ++ fs) ≡ run_on blind (run blind s es) fs
unfolding run
run-append blind s [] fs = refl
run-append blind s (e ∷ es) fs =
    let before = state_before blind s in
    ap (onto (lines before e)) (run-append blind (step before e) es fs)
    ∙ ap (λ (told : List Line).
    record { told = told; last = (run blind (run blind (step before e) es).last fs).last })
    (sym (append_assoc (lines before e) (run blind (step before e) es).told _))
