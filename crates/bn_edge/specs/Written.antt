-- What stands written in an object of the outside, which may not tell it.
use Rattle.std.specs.Prelude.{◌≡◌, ◌≢◌, ℕ, List, [], ◌++◌, Option, Some, None}
use Rattle.bn_edge.specs.Accounts.{SinkAccount}

-- what is written once more bytes were appended
abbrev pub appended : Option (List ℕ) → List ℕ → Option (List ℕ)
appended None piece = None
appended (Some all) piece = Some (all ++ piece)

-- a text was appended to what a sink has written
abbrev pub Writes : SinkAccount → SinkAccount → List ℕ → Type 0
Writes old new text = new.written ≡ appended old.written text

-- a proper front of a text was appended
pub record WritesFront (old new : SinkAccount) (text : List ℕ) : Type 0 where
  pub front : List ℕ
  pub rest : List ℕ
  pub split : front ++ rest ≡ text
  pub proper : rest ≢ []
  pub written : Writes old new front
