-- What holds of every walk.
use Rattle.std.specs.Prelude.{◌≡◌, ◌≢◌, ℕ, ◌≤◌, List, Option, Ok, Err, slice_get, length}
use Rattle.std.specs.List.{All}
use Rattle.bn_types.specs.Visible.{state_at}
use Rattle.bn_types.specs.declared.gpn.Gpn.{Gpn}
use Rattle.bn_types.specs.declared.page_state.PageState.TheVariants.{Free}
use Rattle.bn_model.specs.Walking.{Landing, Refused, leaf_of, tables_read, walked}

-- each of these pages is in RAM, and no live module declares it
abbrev pub AllFree : List (Option (List ℕ)) → List Gpn → Type 0
AllFree pages tables = All (λ page. state_at pages page.0 ≡ Free) tables

-- these pages have the same bytes, or are owned, in both
abbrev pub AgreeOn : List (Option (List ℕ)) → List (Option (List ℕ)) → List Gpn → Type 0
AgreeOn pages others tables =
    All (λ page. slice_get pages page.0 ≡ slice_get others page.0) tables

-- a page that isn't free stays so
abbrev pub NoneFreed : List (Option (List ℕ)) → List (Option (List ℕ)) → Type 0
NoneFreed pages others = (g : ℕ) → state_at pages g ≢ Free → state_at others g ≢ Free

-- a walk reads entries from free pages alone
abbrev pub WalksReadFreePages : Type 0
WalksReadFreePages =
    (pages : List (Option (List ℕ))) (satp va : ℕ) → AllFree pages (tables_read pages satp va)

-- a walk reads at most three entries
abbrev pub WalksReadThreeTables : Type 0
WalksReadThreeTables =
    (pages : List (Option (List ℕ))) (satp va : ℕ) → length (tables_read pages satp va) ≤ 3

-- a walk that isn't refused depends on the pages alone whose entries it reads
abbrev pub WalksAreLocal : Type 0
WalksAreLocal =
    (pages others : List (Option (List ℕ))) (satp va : ℕ) →
    AgreeOn pages others (tables_read pages satp va) →
    leaf_of pages satp va ≢ Err Refused →
    walked others satp va ≡ walked pages satp va

-- so does a walk that is refused, as long as no page becomes free
abbrev pub RefusedWalksAreLocal : Type 0
RefusedWalksAreLocal =
    (pages others : List (Option (List ℕ))) (satp va : ℕ) →
    AgreeOn pages others (tables_read pages satp va) →
    NoneFreed pages others →
    walked others satp va ≡ walked pages satp va

-- a leaf is the same on pages that agree on the tables that led to it
abbrev pub LeavesAreLocal : Type 0
LeavesAreLocal =
    (pages others : List (Option (List ℕ))) (satp va : ℕ) (leaf : Landing) →
    leaf_of pages satp va ≡ Ok leaf →
    AgreeOn pages others leaf.tables →
    leaf_of others satp va ≡ Ok leaf
