-- What holds of every state that a run reaches.
use Rattle.std.specs.Prelude.{◌≡◌, ◌≢◌, ℕ, zero, suc, ◌+◌, ◌%◌, ◌^◌, ◌<◌, ◌≤◌, ◌⊎◌, Bool, true}
use Rattle.std.specs.Prelude.{false, ◌&&◌, count_by, length, List, [], ◌∷◌, Option, Some, None}
use Rattle.std.specs.Prelude.{slice_index}
use Rattle.std.specs.List.{All}
use Rattle.bn_types.specs.Registers.{zero_frame}
use Rattle.bn_types.specs.declared.decl.Decl.{Decl}
use Rattle.bn_types.specs.declared.digest.Digest.{Digest}
use Rattle.bn_types.specs.declared.mod_id.ModId.{ModId}
use Rattle.bn_types.specs.declared.mode.Mode.{Mode}
use Rattle.bn_types.specs.declared.regs.Regs.{Regs}
use Rattle.bn_types.specs.declared.row.Row.{Row}
use Rattle.bn_types.specs.declared.row_state.RowState.{RowState}
use Rattle.bn_types.specs.declared.row_state.RowState.TheVariants.{Idle, Running, Waiting, Stopped}
use Rattle.bn_types.specs.declared.saved_frame.SavedFrame.{SavedFrame}
use Rattle.bn_types.specs.declared.sort.Sort.TheVariants.{Private, Offer, Accept}
use Rattle.bn_model.specs.declared.owner.Owner.{Owner}
use Rattle.bn_model.specs.CsrFile.{CsrFile, HasCsrForms}
use Rattle.bn_model.specs.Launching.{includes, is_accept, names_partner}
use Rattle.bn_model.specs.Owners.{Claim, claims, is_live, is_on, is_own}
use Rattle.bn_model.specs.Records.{AreRecords}
use Rattle.bn_model.specs.Rows.{Enclave, enclaves, owners, row_of}
use Rattle.bn_model.specs.State.{Hart, State, hart_in, untrusted}

-- x is one of some things
abbrev pub Has : {A : Type 0} → A → List A → Type 0
Has x [] = ⊥
Has x (y ∷ ys) = (x ≡ y) ⊎ Has x ys

-- ---- ids and identities

-- ids strictly ascend, above one and below another
abbrev pub Ascend : (low : ℕ) → List Enclave → (next : ℕ) → Type 0
Ascend low [] next = Unit {0}
Ascend low (first ∷ rest) next =
    (low < first.id.0) × (first.id.0 < next) × Ascend first.id.0 rest next

-- no other live module has this identity
abbrev pub IsOnly : Digest → List Enclave → Type 0
IsOnly who [] = Unit {0}
IsOnly who (first ∷ rest) = (first.judged.digest ≢ who) × IsOnly who rest

abbrev pub AreDistinct : List Enclave → Type 0
AreDistinct [] = Unit {0}
AreDistinct (first ∷ rest) = IsOnly first.judged.digest rest × AreDistinct rest

pub record HasIds (live : List Enclave) (next : ℕ) : Type 0 where
  -- there are at most 15 live modules
  pub few : length live ≤ 15
  -- their ids strictly ascend, are at least 1 and below the next id
  pub ascend : Ascend zero live next
  -- the next id is from 1 to 65,536
  pub first : 1 ≤ next
  pub last : next ≤ 65536
  -- no two have one identity
  pub distinct : AreDistinct live

-- ---- declarations

-- virtual pages strictly ascend, from one on, and are below 2^52
abbrev pub VirtualPagesAscend : (least : ℕ) → List Decl → Type 0
VirtualPagesAscend least [] = Unit {0}
VirtualPagesAscend least (first ∷ rest) =
    (least ≤ first.vpn.0) × (first.vpn.0 < 2 ^ 52) × VirtualPagesAscend (first.vpn.0 + 1) rest

abbrev pub ReachesNone : (page : ℕ) → List Decl → Type 0
ReachesNone page [] = Unit {0}
ReachesNone page (first ∷ rest) = (first.gpn.0 ≢ page) × ReachesNone page rest

-- guest pages differ, and lie in a RAM of so many pages
abbrev pub GuestPagesDiffer : (ram : ℕ) → List Decl → Type 0
GuestPagesDiffer ram [] = Unit {0}
GuestPagesDiffer ram (first ∷ rest) =
    (first.gpn.0 < ram) × ReachesNone first.gpn.0 rest × GuestPagesDiffer ram rest

pub record AreOrdered (ram : ℕ) (decls : List Decl) : Type 0 where
  pub virtual : VirtualPagesAscend zero decls
  pub guest : GuestPagesDiffer ram decls

abbrev pub EachOrdered : (ram : ℕ) → List Owner → Type 0
EachOrdered ram [] = Unit {0}
EachOrdered ram (first ∷ rest) = AreOrdered ram first.decls.items × EachOrdered ram rest

-- a declaration on a page that a live module offers to this identity, with rights that include its
-- own
pub record IsOfferedBy (offering : Enclave) (who : Digest) (decl : Decl) : Type 0 where
  pub offer : Decl
  pub declared : Has offer offering.judged.decls.items
  pub sort : offer.sort ≡ Offer
  pub page : offer.gpn ≡ decl.gpn
  pub rights : includes offer.rights decl.rights ≡ true
  pub partner : names_partner offer.mask offering.judged.partners.items who ≡ true

pub record HasClaims (live : List Enclave) (own : List Owner) (ram : ℕ) : Type 0 where
  -- within a module virtual pages ascend, and guest pages differ and lie in RAM
  pub ordered : EachOrdered ram own
  -- a page with a private declaration has no other declaration
  pub alone :
      (one other : Claim) → Has one (claims own) → Has other (claims own) →
      one.decl.sort ≡ Private → other.decl.gpn ≡ one.decl.gpn → other ≡ one
  -- a page has at most one offer
  pub one_offer :
      (one other : Claim) → Has one (claims own) → Has other (claims own) →
      one.decl.sort ≡ Offer → other.decl.sort ≡ Offer → other.decl.gpn ≡ one.decl.gpn →
      other ≡ one
  -- a page that is accepted from a module that isn't live is nobody's own
  pub orphan :
      (one other : Claim) → Has one (claims own) → Has other (claims own) →
      one.decl.sort ≡ Accept → is_live own one.decl.source.0 ≡ false →
      is_own other.decl.sort ≡ true → other.decl.gpn ≢ one.decl.gpn
  -- a page that is accepted from a live module is offered by it, to this identity, with these
  -- rights
  pub accepted :
      (one offering : Enclave) (decl : Decl) → Has one live → Has decl one.judged.decls.items →
      decl.sort ≡ Accept → Has offering live → offering.id ≡ decl.source →
      IsOfferedBy offering one.judged.digest decl
  -- it is accepted from a module that was launched before
  pub sources :
      (one : Claim) → Has one (claims own) → one.decl.sort ≡ Accept →
      (1 ≤ one.decl.source.0) × (one.decl.source.0 < one.owner.0)

abbrev pub accepts : ℕ → Claim → Bool
accepts page claim = is_accept claim.decl.sort && is_on page claim

-- a page is accepted at most four times
abbrev pub HasFewAcceptances : List Owner → Type 0
HasFewAcceptances own = (page : ℕ) → count_by (accepts page) (claims own) ≤ 4

-- ---- who runs, waits and is called

-- the way from a waiting module to the one that it called, and so on, ends at one that runs or is
-- stopped
pub data Ends (states : ℕ → Option RowState) : ℕ → Type 0 where
  AtRunning : (id hart : ℕ) → states id ≡ Some (Running hart) → Ends states id
  AtStopped : (id : ℕ) → states id ≡ Some Stopped → Ends states id
  Through : (id : ℕ) (callee : ModId) → states id ≡ Some (Waiting callee) →
      Ends states callee.0 → Ends states id

abbrev pub state_if_some : Option Row → Option RowState
state_if_some None = None
state_if_some (Some row) = Some row.state

abbrev pub state_at : List Row → ℕ → Option RowState
state_at rows id = state_if_some (row_of rows id)

abbrev pub caller_if_some : Option Row → ℕ
caller_if_some None = zero
caller_if_some (Some row) = row.caller.0

abbrev pub caller_at : List Row → ℕ → ℕ
caller_at rows id = caller_if_some (row_of rows id)

abbrev pub module_of : List Hart → ℕ → ℕ
module_of harts h = (hart_in harts h).current.0

-- runs: the module of each hart; states and callers: of each id
pub record AreSwitched (runs : ℕ → ℕ) (states : ℕ → Option RowState) (callers : ℕ → ℕ) : Type
    0 where
  -- a row runs on a hart exactly where that hart's module is this row's
  pub running : (id h : ℕ) → states id ≡ Some (Running h) → runs h ≡ id
  pub current : (h m : ℕ) → runs h ≡ suc m → states (suc m) ≡ Some (Running h)
  -- a waiting row's callee has it as its caller, and isn't idle
  pub waiting :
      (id : ℕ) (callee : ModId) → states id ≡ Some (Waiting callee) → callers callee.0 ≡ id
  pub called : (id c : ℕ) → callers id ≡ suc c → states (suc c) ≡ Some (Waiting (record { 0 = id }))
  pub idle : (id : ℕ) → states id ≡ Some Idle → callers id ≡ zero
  pub ends : (id : ℕ) (callee : ModId) → states id ≡ Some (Waiting callee) → Ends states callee.0
  -- no row has the id 0
  pub not_zero : states zero ≡ None

abbrev pub AreStates : List Hart → List Row → Type 0
AreStates harts rows = AreSwitched (module_of harts) (state_at rows) (caller_at rows)

-- a hart that isn't started runs no module
abbrev pub AreAsleep : List Hart → Type 0
AreAsleep harts = All (λ (hart : Hart). hart.started ≡ false → hart.current ≡ untrusted) harts

-- ---- frames

-- a saved frame is zeros where the row's registers are elsewhere, and has the row's mode where they
-- aren't
abbrev pub SavedFits : RowState → Mode → SavedFrame → Type 0
SavedFits Idle mode frame = frame ≡ zero_frame
SavedFits (Running hart) mode frame = frame ≡ zero_frame
SavedFits (Waiting callee) mode frame = frame.mode ≡ mode
SavedFits Stopped mode frame = frame.mode ≡ mode

-- a back frame is zeros where the untrusted world doesn't wait for the row
abbrev pub BackFits : (caller : ℕ) → RowState → SavedFrame → Type 0
BackFits zero Idle frame = frame ≡ zero_frame
BackFits zero (Running hart) frame = Unit {0}
BackFits zero (Waiting callee) frame = Unit {0}
BackFits zero Stopped frame = Unit {0}
BackFits (suc c) state frame = frame ≡ zero_frame

pub record HasFrames (row : Row) : Type 0 where
  pub saved : SavedFits row.state row.judged.mode row.saved
  pub back : BackFits row.caller.0 row.state row.back

-- a hart that runs a module is in its mode
abbrev pub HasModeOf : Option Row → Mode → Type 0
HasModeOf None mode = Unit {0}
HasModeOf (Some row) mode = mode ≡ row.judged.mode

abbrev pub HaveModes : List Hart → List Row → Type 0
HaveModes harts rows = All (λ (hart : Hart). HasModeOf (row_of rows hart.current.0) hart.mode) harts

-- ---- registers, addresses and CSRs

pub record AreRegisters (regs : Regs) : Type 0 where
  pub count : length regs.x ≡ 32
  -- x0 is 0
  pub zero : slice_index regs.x 0 ≡ 0
  pub small : All (λ value. value < 2 ^ 64) regs.x

-- instructions stand at multiples of 4
pub record IsPc (pc : ℕ) : Type 0 where
  pub aligned : pc % 4 ≡ 0
  pub small : pc < 2 ^ 64

pub record IsFrame (frame : SavedFrame) : Type 0 where
  pub regs : AreRegisters frame.regs
  pub pc : IsPc frame.pc

-- the numbers that CSRs keep have 64 bits
pub record AreCsrs (c : CsrFile) : Type 0 where
  pub forms : HasCsrForms c
  pub base : c.stvec_base < 2 ^ 64
  pub scratch : c.sscratch < 2 ^ 64
  pub sepc : c.sepc < 2 ^ 64
  pub cause : c.scause < 2 ^ 64
  pub value : c.stval < 2 ^ 64
  pub satp : c.satp < 2 ^ 64

pub record IsHart (clock : ℕ) (hart : Hart) : Type 0 where
  pub regs : AreRegisters hart.regs
  pub pc : IsPc hart.pc
  pub csrs : AreCsrs hart.csrs
  pub timer : hart.timer < 2 ^ 64
  -- no more instructions were completed than events were made
  pub retired : hart.retired ≤ clock
  pub small : hart.retired < 2 ^ 64

pub record IsRow (row : Row) : Type 0 where
  pub frames : HasFrames row
  pub saved : IsFrame row.saved
  pub back : IsFrame row.back
  pub entries : All IsPc row.judged.entries.items
  -- an identity has 32 bytes
  pub identity : length row.judged.digest.0 ≡ 32
  pub digest : All (λ byte. byte < 2 ^ 8) row.judged.digest.0
  -- its offers go to at most four partners
  pub partners : length row.judged.partners.items ≤ 4

-- ---- the whole

pub record IsSound (s : State) : Type 0 where
  pub ids : HasIds (enclaves s.rows) s.next
  pub claims : HasClaims (enclaves s.rows) (owners s.rows) (length s.pages)
  pub acceptances : HasFewAcceptances (owners s.rows)
  pub states : AreStates s.harts s.rows
  pub asleep : AreAsleep s.harts
  pub modes : HaveModes s.harts s.rows
  pub rows : All IsRow s.rows
  pub harts : All (IsHart s.clock) s.harts
  -- there are 1 to 4 harts
  pub some_harts : 1 ≤ length s.harts
  pub few_harts : length s.harts ≤ 4
  -- there are 1 to 4,096 pages of 4,096 bytes each
  pub some_pages : 1 ≤ length s.pages
  pub few_pages : length s.pages ≤ 4096
  pub pages :
      All (λ (page : List ℕ). (length page ≡ 4096) × All (λ byte. byte < 2 ^ 8) page) s.pages
  -- at most 256 keys wait, a byte each
  pub few_keys : length s.keys ≤ 256
  pub keys : All (λ key. key < 2 ^ 8) s.keys
  pub records : AreRecords s.records
