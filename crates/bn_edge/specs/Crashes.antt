-- What a crash may leave of a vault's areas, at this moment and at each moment since an earlier
-- one. A set of areas is a predicate, and a moment a number that never falls.
use Rattle.std.specs.Prelude.{◌≡◌, ◌↔◌, ℕ, ◌≤◌, ◌⊎◌, Option, Some, None}
use Rattle.bn_edge.specs.Accounts.{VaultAccount}
use Rattle.bn_edge.specs.Areas.{Areas}

-- a crash leaves the same as before
abbrev pub LeavesTheSame : VaultAccount → VaultAccount → Type 0
LeavesTheSame old new = (c : Areas) → new.may_leave c ↔ old.may_leave c

-- or at least nothing more
abbrev pub LeavesNoMore : VaultAccount → VaultAccount → Type 0
LeavesNoMore old new = (c : Areas) → new.may_leave c → old.may_leave c

-- each new outcome of a crash is an old outcome after a step
abbrev pub Follows : (Areas → Areas → Type 0) → VaultAccount → VaultAccount → Type 0
Follows step old new =
    (c : Areas) → new.may_leave c → (before : Areas) × old.may_leave before × step before c

-- a crash leaves what a read gives and nothing else, where that is told
abbrev pub LeavesWhatIsRead : Option Areas → (Areas → Type 0) → Type 0
LeavesWhatIsRead None may_leave = Unit {0}
LeavesWhatIsRead (Some areas) may_leave = (c : Areas) → may_leave c → c ≡ areas

-- Time goes on: a crash since t might have left what it might have left before, or what it may
-- leave now.
pub record Elapses (old new : VaultAccount) : Type 0 where
  pub later : old.moment ≤ new.moment
  pub nothing_else : (t : ℕ) (c : Areas) → t ≤ old.moment → new.left_since t c
      → old.left_since t c ⊎ new.may_leave c
  pub keeps : (t : ℕ) (c : Areas) → t ≤ old.moment → old.left_since t c → new.left_since t c

-- A crash at any moment since old leaves areas that have P.
pub record LeavesOnly (old new : VaultAccount) (P : Areas → Type 0) : Type 0 where
  pub later : old.moment ≤ new.moment
  pub each : (c : Areas) → new.left_since old.moment c → P c
  -- for a run that began earlier
  pub before : (t : ℕ) (c : Areas) → t ≤ old.moment → new.left_since t c → old.left_since t c ⊎ P c

-- the vault tells these areas, and a crash leaves nothing else
pub record IsStable (vault : VaultAccount) (a : Areas) : Type 0 where
  pub told : vault.areas ≡ Some a
  pub only : (c : Areas) → vault.may_leave c → c ≡ a
