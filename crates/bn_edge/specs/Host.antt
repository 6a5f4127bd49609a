-- What is read of the host's files.
use Rattle.std.specs.Prelude.{◌≡◌, ℕ, List, take, Option, IfSome}

-- bytes are the first `most` of those that a file had left, where they are known, or all where
-- there are fewer
abbrev pub IsFrontOf : Option (List ℕ) → ℕ → List ℕ → Type 0
IsFrontOf known most bytes = IfSome known (λ all. bytes ≡ take most all)
