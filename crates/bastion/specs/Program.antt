-- What the program promises of the words that it is given.
use Rattle.std.specs.Prelude.{◌≡◌, ℕ, ◌⊎◌, List, Option}
use Rattle.bn_types.specs.declared.status.Status.{Status}
use Rattle.bn_types.specs.declared.status.Status.TheVariants.{Memory}
use Rattle.bn_edge.specs.CommandLine.{AreTold}
use Rattle.bn_front.specs.Headline.{CountsStay, Outside, Promise}
use Rattle.bn_front.specs.Stored.{StorageStays}

-- the promise of the words is kept: of those that the command line tells, where it tells them
pub record KeepsPromise (told : Option (List (List ℕ))) (status : Status) (old new : Outside) :
    Type 0 where
  pub words : List (List ℕ)
  pub agrees : AreTold told words
  pub promise : Promise words status old new

-- memory ran out before the words were read, and nothing was called
pub record WantsMemory (status : Status) (old new : Outside) : Type 0 where
  pub answer : status ≡ Memory
  pub desk : new.desk ≡ old.desk
  pub sink : new.sink ≡ old.sink
  pub counts : CountsStay old new
  pub stays : StorageStays old.store new.store

abbrev pub AnswersWords : Option (List (List ℕ)) → Status → (old new : Outside) → Type 0
AnswersWords told status old new = KeepsPromise told status old new ⊎ WantsMemory status old new
