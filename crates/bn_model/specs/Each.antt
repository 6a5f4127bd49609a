-- A change of each element of a list, by its place.
use Rattle.std.specs.Prelude.{ℕ, suc, List, [], ◌∷◌}

-- the first element has the place i
abbrev pub each : {X Y : Type 0} → (ℕ → X → Y) → ℕ → List X → List Y
each change i [] = []
each change i (x ∷ xs) = change i x ∷ each change (suc i) xs
