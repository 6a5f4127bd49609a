-- What holds of every run.
use Rattle.std.specs.Prelude.{◌≡◌, List, ◌++◌, Option}
use Rattle.bn_types.specs.declared.event.Event.{Event}
use Rattle.bn_model.specs.Running.{Blind, Run, run}
use Rattle.bn_model.specs.State.{State}

-- one run after another
abbrev pub run_on : Run → Run → Run
run_on first second = record second { told = first.told ++ second.told }

-- a run of some events and then others is the run of the others from the state that the first leave
abbrev pub RunsAppend : Type 0
RunsAppend =
    (blind : Option Blind) (s : State) (events others : List Event) →
    run blind s (events ++ others) ≡
    run_on (run blind s events) (run blind (run blind s events).last others)
