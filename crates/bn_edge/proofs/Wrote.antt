-- A piece that is written in several writes.
use Rattle.std.proofs.Common.{◌≡◌, ℕ, List, [], ◌++◌, Option, Some, None, take, drop, refl, sym, ap}
use Rattle.std.proofs.Common.{◌∙◌, ◌-◌, length, arith}
use Rattle.std.proofs.lemmas.List.{append-nil, append_assoc, take-append-drop, take_all}
use Rattle.std.proofs.lemmas.List.{length-drop}
use Rattle.bn_edge.specs.Accounts.{SinkAccount}
use Rattle.bn_edge.specs.Counts.{Stays}
use Rattle.bn_edge.specs.Written.{Writes, appended}

-- a front of a piece was appended, and a rest is left
pub record HasWritten (old now : SinkAccount) (piece rest : List ℕ) : Type 0 where
  pub front : List ℕ
  pub split : front ++ rest ≡ piece
  pub written : Writes old now front

pub appended-append : (old : Option (List ℕ)) (a b : List ℕ)
    → appended (appended old a) b ≡ appended old (a ++ b)
appended-append None a b = refl
appended-append (Some all) a b = ap Some (append_assoc all a b)

pub appended-nil : (old : Option (List ℕ)) → appended old [] ≡ old
appended-nil None = refl
appended-nil (Some all) = ap Some (append-nil all)

pub nothing_written : (old : SinkAccount) (piece : List ℕ) → HasWritten old old piece piece
nothing_written old piece =
    record { front = []; split = refl; written = sym (appended-nil old.written) }

-- what is left after count bytes, as a range of a slice gives it
pub rest_is_drop : (rest : List ℕ) (count : ℕ)
    → take (length rest - count) (drop count rest) ≡ drop count rest
rest_is_drop rest count =
    let size = length-drop count rest in
    take_all (length rest - count) (drop count rest) (omega arith)

-- one more write
pub written_more : (old now later : SinkAccount) (piece rest : List ℕ) (count : ℕ)
    → HasWritten old now piece rest
    → Writes now later (take count rest)
    → HasWritten old later piece (take (length rest - count) (drop count rest))
written_more old now later piece rest count h e = record {
  front = h.front ++ take count rest;
  split = ap (λ l. h.front ++ take count rest ++ l) (rest_is_drop rest count)
      ∙ append_assoc h.front (take count rest) (drop count rest)
      ∙ ap (λ l. h.front ++ l) (take-append-drop count rest)
      ∙ h.split;
  written = e ∙ ap (λ o. appended o (take count rest)) h.written
      ∙ appended-append old.written h.front (take count rest);
}

-- a count that stayed twice stayed
pub stays_on : (old mid new : ℕ) → Stays old mid → Stays mid new → Stays old new
stays_on old mid new first then can = let same = first can in then (rw same can) ∙ same
