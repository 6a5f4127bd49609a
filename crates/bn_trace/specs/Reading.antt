-- What the readers of fields give, in the terms of the definitions.
use Rattle.std.specs.Prelude.{ℕ, Result, Ok, Err}

-- a reader's value as the definitions have it, and its error as it is
abbrev pub given : {A B : Type 0} → (A → B) → Result A ℕ → Result B ℕ
given view (Ok read) = Ok (view read)
given view (Err left) = Err left
