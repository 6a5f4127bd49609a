use Rattle.std.proofs.Common.{◌≡◌, ◌≢◌, ℕ, ◌+◌, ◌<◌, ◌≤◌, None, length}
use Rattle.bn_model.specs.Nesting.{Nested, place}
use Rattle.bn_machine.proofs.tests.memory_unit.place_all.Given as goal

-- the pages before this one are placed, and the others aren't
pub record IsPlacedUpTo (start nest : Nested) (page : ℕ) : Type 0 where
  pub ram : nest.ram ≡ start.ram
  pub frames : length nest.frames ≡ length start.frames
  pub spare : length nest.free + page ≡ length start.free
  pub placed : (p : ℕ) → p < page → place nest p ≢ None
  pub unplaced : (p : ℕ) → page ≤ p → place nest p ≡ None

abbrev pub invariant-loop-number : goal.invariant-loop-number
invariant-loop-number g l = IsPlacedUpTo l.initial.nest l.nest l.number
