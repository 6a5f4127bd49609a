-- How a run of a vault's calls goes on.
use Rattle.std.proofs.Common.{inl, inr, ⊎_elim}
use Rattle.bn_edge.specs.Accounts.{VaultAccount}
use Rattle.bn_edge.specs.Areas.{Areas}
use Rattle.bn_edge.specs.Crashes.{LeavesOnly}

-- a weaker property
pub weaker : (old new : VaultAccount) (P Q : Areas → Type 0) → LeavesOnly old new P
    → ((c : Areas) → P c → Q c) → LeavesOnly old new Q
weaker old new P Q only more = record {
  later = only.later;
  each = λ c left. more c (only.each c left);
  before = λ t c le left.
      ⊎_elim (λ past. inl past) (λ has. inr (more c has)) (only.before t c le left);
}
