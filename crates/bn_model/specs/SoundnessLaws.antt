-- Where soundness comes from, and what keeps it.
use Rattle.std.specs.Prelude.{◌≡◌, ℕ, ◌*◌, ◌^◌, ◌<◌, ◌≤◌, length, List}
use Rattle.std.specs.List.{All}
use Rattle.bn_types.specs.declared.event.Event.{Event}
use Rattle.bn_types.specs.declared.record.Record.{Record}
use Rattle.bn_model.specs.Blanking.{blank}
use Rattle.bn_model.specs.Opening.{Image, opening}
use Rattle.bn_model.specs.Records.{AreRecords}
use Rattle.bn_model.specs.Rows.{enclaves, owners}
use Rattle.bn_model.specs.Soundness.{AreAsleep, AreStates, HasClaims, HasFewAcceptances, HasIds}
use Rattle.bn_model.specs.Soundness.{HaveModes, IsHart, IsPc, IsRow, IsSound}
use Rattle.bn_model.specs.State.{State}
use Rattle.bn_model.specs.Stepping.{Fits, step}

-- ---- where it comes from

-- 1 to 4 harts, 1 to 4,096 pages, the bytes of just as many, an entry at a multiple of 4, and
-- records in good order
pub record FitsOpening (pages harts : ℕ) (image : Image) (records : List Record) : Type 0 where
  pub some_harts : 1 ≤ harts
  pub few_harts : harts ≤ 4
  pub some_pages : 1 ≤ pages
  pub few_pages : pages ≤ 4096
  pub size : length image.bytes ≡ 4096 * pages
  pub bytes : All (λ byte. byte < 2 ^ 8) image.bytes
  pub entry : IsPc image.entry
  pub good_order : AreRecords records

-- a run begins in a sound state
abbrev pub OpeningIsSound : Type 0
OpeningIsSound =
    (pages harts : ℕ) (image : Image) (records : List Record)
    → FitsOpening pages harts image records →
    IsSound (opening pages harts image records)

-- ---- what keeps it

-- zeroing the secrets of a resting module
abbrev pub BlankingKeepsSound : Type 0
BlankingKeepsSound = (m : ℕ) (s : State) → IsSound s → IsSound (blank m s)

-- ids ascend below the next one, and identities differ
abbrev pub KeepsIds : Type 0
KeepsIds = (s : State) (event : Event) → Fits s event → IsSound s →
    HasIds (enclaves (step s event).rows) (step s event).next

-- declarations don't collide, and each acceptance from a live module goes to its offer
abbrev pub KeepsClaims : Type 0
KeepsClaims =
    (s : State) (event : Event) → Fits s event → IsSound s →
    HasClaims (enclaves (step s event).rows) (owners (step s event).rows)
    (length (step s event).pages)

-- a page is accepted at most four times
abbrev pub KeepsAcceptances : Type 0
KeepsAcceptances = (s : State) (event : Event) → Fits s event → IsSound s →
    HasFewAcceptances (owners (step s event).rows)

-- harts and rows agree on who runs, and rows on who waits for whom
abbrev pub KeepsStates : Type 0
KeepsStates = (s : State) (event : Event) → Fits s event → IsSound s →
    AreStates (step s event).harts (step s event).rows

-- a hart that isn't started runs no module
abbrev pub KeepsAsleep : Type 0
KeepsAsleep = (s : State) (event : Event) → Fits s event → IsSound s
    → AreAsleep (step s event).harts

-- a hart that runs a module is in its mode
abbrev pub KeepsModes : Type 0
KeepsModes = (s : State) (event : Event) → Fits s event → IsSound s →
    HaveModes (step s event).harts (step s event).rows

-- frames, entries and identities of rows have their shapes and ranges
abbrev pub KeepsRows : Type 0
KeepsRows = (s : State) (event : Event) → Fits s event → IsSound s → All IsRow (step s event).rows

-- registers, addresses and CSRs of harts have their shapes and ranges
abbrev pub KeepsHarts : Type 0
KeepsHarts = (s : State) (event : Event) → Fits s event → IsSound s →
    All (IsHart (step s event).clock) (step s event).harts

-- pages, keys and records have their sizes and ranges
pub record AreStored (s : State) : Type 0 where
  pub some_pages : 1 ≤ length s.pages
  pub few_pages : length s.pages ≤ 4096
  pub pages : All (λ (page : List ℕ). (length page ≡ 4096) × All (λ byte. byte < 2 ^ 8) page)
      s.pages
  pub few_keys : length s.keys ≤ 256
  pub keys : All (λ key. key < 2 ^ 8) s.keys
  pub records : AreRecords s.records

abbrev pub KeepsStored : Type 0
KeepsStored = (s : State) (event : Event) → Fits s event → IsSound s → AreStored (step s event)

-- every event keeps soundness
abbrev pub KeepsSound : Type 0
KeepsSound = (s : State) (event : Event) → Fits s event → IsSound s → IsSound (step s event)
