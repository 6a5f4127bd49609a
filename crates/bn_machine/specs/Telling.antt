-- What a run tells a sink.
use Rattle.std.specs.Prelude.{◌≡◌, ℕ, ◌≤◌, List, Option}
use Rattle.bn_edge.specs.Accounts.{SinkAccount}
use Rattle.bn_edge.specs.Written.{Writes}
use Rattle.bn_types.specs.declared.ending.Ending.{Ending}
use Rattle.bn_types.specs.declared.event.Event.{Event}
use Rattle.bn_model.specs.Running.{Blind, Course, StopsWithin}
use Rattle.bn_model.specs.Scripts.{Script, after_events}
use Rattle.bn_model.specs.Spelling.{text_of}
use Rattle.bn_model.specs.State.{State}

-- a run ends as its course does, in the course's last state, and wrote the course's lines
pub record FinishesRun (run : Course) (reason : Ending) (stopped : State) (old new : SinkAccount)
    : Type 0 where
  pub ending : reason ≡ run.ending
  pub last : stopped ≡ run.last
  pub written : Writes old new (text_of run.told)

-- a run stops after an event whose lines couldn't all be written
pub record StopsRun (blind : Option Blind) (start stopped : State) (events : List Event)
    (old new : SinkAccount) : Type 0
  where
    pub text : List ℕ
    pub stops : StopsWithin blind start stopped events text
    pub written : Writes old new text

-- a script as it is left by a run of at most so many events
pub record IsLeftOf (limit : ℕ) (all script : Script) : Type 0 where
  pub count : ℕ
  pub most : count ≤ limit
  pub is : script ≡ after_events count all
