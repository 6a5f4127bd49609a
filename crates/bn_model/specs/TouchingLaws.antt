-- Whom the pages belong to that an event touches, and which pages it changes.
use Rattle.std.specs.Prelude.{◌≡◌, ◌≢◌, ℕ, ◌⊎◌, true, List, Some}
use Rattle.bn_types.specs.Numbers.{page_at}
use Rattle.bn_types.specs.declared.decl.Decl.{Decl}
use Rattle.bn_types.specs.declared.event.Event.{Event}
use Rattle.bn_types.specs.declared.kind.Kind.{Kind}
use Rattle.bn_types.specs.declared.kind.Kind.TheVariants.{Fetch, Load, Store}
use Rattle.bn_types.specs.declared.row.Row.{Row}
use Rattle.bn_types.specs.declared.sort.Sort.TheVariants.{Private, Offer, Accept}
use Rattle.bn_model.specs.Bits.{is_set}
use Rattle.bn_model.specs.Soundness.{Has}
use Rattle.bn_model.specs.State.{State}
use Rattle.bn_model.specs.Stepping.{step}
use Rattle.bn_model.specs.Touching.{Touch, touch}

-- ---- touches

-- no live module declares the page
abbrev pub IsUnowned : State → ℕ → Type 0
IsUnowned s page =
    (row : Row) (decl : Decl) → Has row s.rows → Has decl row.judged.decls.items → decl.gpn.0 ≢ page

-- a module of this id is live
pub record IsLive (s : State) (id : ℕ) : Type 0 where
  pub row : Row
  pub live : Has row s.rows
  pub whose : row.id.0 ≡ id

-- bit 0 of a declaration's rights is load, bit 1 store, bit 2 fetch
abbrev pub right_number : Kind → ℕ
right_number Load = 0
right_number Store = 1
right_number Fetch = 2

-- a live module touches a page that it declares, at the declared virtual page and with the
-- declared right; a page that it accepts, only while the module lives that offers it
pub record IsDeclared (s : State) (touched : Touch) : Type 0 where
  pub row : Row
  pub live : Has row s.rows
  pub whose : row.id.0 ≡ touched.who.0
  pub inside : touched.who.0 ≢ 0
  pub decl : Decl
  pub declared : Has decl row.judged.decls.items
  pub virtual : touched.vpn ≡ Some decl.vpn.0
  pub guest : touched.page.0 ≡ decl.gpn.0
  pub right : is_set decl.rights.0 (right_number touched.kind) ≡ true
  pub backed : decl.sort ≡ Accept → IsLive s decl.source.0

-- whatever is touched has no owners, or is declared by the module that touches it
abbrev pub TouchesAreAdmitted : Type 0
TouchesAreAdmitted =
    (s : State) (event : Event) (touched : Touch) → Has touched (touch s event) →
    IsUnowned s touched.page.0 ⊎ IsDeclared s touched

-- ---- changes

-- some touches store to a page
pub record IsStored (touches : List Touch) (page : ℕ) : Type 0 where
  pub touched : Touch
  pub among : Has touched touches
  pub reaches : touched.page.0 ≡ page
  pub kind : touched.kind ≡ Store

-- it is a private or offered page of a module that has its row before and none after
pub record IsGivenUp (before after : List Row) (page : ℕ) : Type 0 where
  pub row : Row
  pub lived : Has row before
  pub gone : (other : Row) → Has other after → other.id.0 ≢ row.id.0
  pub decl : Decl
  pub declared : Has decl row.judged.decls.items
  pub own : (decl.sort ≡ Private) ⊎ (decl.sort ≡ Offer)
  pub reaches : decl.gpn.0 ≡ page

-- an event changes no page but those that it stores to and those of modules that it removes
abbrev pub ChangesAreTouched : Type 0
ChangesAreTouched =
    (s : State) (event : Event) (page : ℕ) →
    (page_at (step s event).pages page ≡ page_at s.pages page) ⊎
    (IsStored (touch s event) page ⊎ IsGivenUp s.rows (step s event).rows page)
