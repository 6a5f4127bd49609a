-- What is known of an object of the outside: what it tells, and what it counts.
use Rattle.std.specs.Prelude.{ℕ, List, Option}
use Rattle.bn_edge.specs.Areas.{Areas}

-- a desk: its files, each by its name, where it tells them (of several with one name the first
-- counts), how often a name wasn't there, and how often reading failed
pub record DeskAccount : Type 0 where
  pub files : Option (List (List ℕ × List ℕ))
  pub misses : ℕ
  pub faults : ℕ

-- a sink: the bytes that were written, where it tells them, and how often writing failed
pub record SinkAccount : Type 0 where
  pub written : Option (List ℕ)
  pub faults : ℕ

-- a vault: its areas as a read gives them, where it tells them; what a crash at this moment may
-- leave; the moment, as a number that never falls; what a crash at some moment from that one on
-- might have left, in a call or between two; and how often a call failed
pub record VaultAccount : Type 1 where
  pub areas : Option Areas
  pub may_leave : Areas → Type 0
  pub moment : ℕ
  pub left_since : ℕ → Areas → Type 0
  pub faults : ℕ

-- a chip: its register, where it tells it, and how often a call failed
pub record ChipAccount : Type 0 where
  pub register : Option (List ℕ)
  pub faults : ℕ
