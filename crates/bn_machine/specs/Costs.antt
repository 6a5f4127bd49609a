-- How many table words a turn counts.
use Rattle.std.specs.Prelude.{ℕ, ◌+◌, ◌≤◌}
use Rattle.bn_types.specs.declared.act.Act.{Act}
use Rattle.bn_types.specs.declared.act.Act.TheVariants as act
use Rattle.bn_types.specs.declared.event.Event.{Event}
use Rattle.bn_types.specs.declared.event.Event.TheVariants.{Turn}
use Rattle.bn_model.specs.Deciding.{asked_of}
use Rattle.bn_model.specs.Decision.{Asked, Acting}
use Rattle.bn_model.specs.State.{Hart, State, hart_at}

-- what an instruction asks for counts at most so many, but where it is a secure instruction
abbrev pub CountsAct : Act → (most old new : ℕ) → Type 0
CountsAct (act.Bastion secure) most old new = Unit {0}
CountsAct asked most old new = new ≤ old + most

abbrev pub CountsAsked : Asked → (most old new : ℕ) → Type 0
CountsAsked (Acting asked) most old new = CountsAct asked most old new
CountsAsked asked most old new = new ≤ old + most

unfoldable pub CountsTurn : State → ℕ → Hart → (most old new : ℕ) → Type 0
CountsTurn s h hart most old new = CountsAsked (asked_of s h hart) most old new

-- so does an event
abbrev pub CountsEvent : State → Event → (most old new : ℕ) → Type 0
CountsEvent s (Turn h) most old new = CountsTurn s h (hart_at s h) most old new
CountsEvent s event most old new = new ≤ old + most
