-- A commit writes the area that isn't current, and its crashes.
use Rattle.std.specs.Prelude.{◌≡◌, ℕ, Bool, List}
use Rattle.sha2.specs.Sha256.{sha256}
use Rattle.bn_edge.specs.Areas.{Areas, other_area, with_area}
use Rattle.bn_edge.specs.declared.area.Area.{Area}

-- a held place as a value: the current area, and whether a commit failed
pub record HeldPlace : Type 0 where
  pub current : Area
  pub spent : Bool

-- Premise: the two areas aren't two different texts with one digest.
abbrev pub HasNoTwins : Areas → Type 0
HasNoTwins areas = sha256 areas.first ≡ sha256 areas.second → areas.first ≡ areas.second

-- the areas once a text is in the one that isn't current
abbrev pub committed : Area → List ℕ → Areas → Areas
committed current text areas = with_area (other_area current) text areas
