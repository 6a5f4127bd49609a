-- The index of owned pages: how many declarations of live modules each page has.
use Rattle.std.specs.Prelude.{◌≡◌, ℕ, ◌<◌, ◌≤◌, Bool, true, false, not, count_by, length, List}
use Rattle.std.specs.Prelude.{◌==◌, ◌&&◌, slice_index}
use Rattle.std.specs.List.{All, filter, list_any}
use Rattle.bn_types.specs.declared.decl.Decl.{Decl}
use Rattle.bn_types.specs.declared.row.Row.{Row}
use Rattle.bn_model.specs.declared.owner.Owner.{Owner}
use Rattle.bn_model.specs.Evicting.{is_among, is_given_up}
use Rattle.bn_model.specs.Launching.{is_same_page}
use Rattle.bn_model.specs.Owners.{claims, claims_by, is_module, is_on, is_own}

-- the live modules with what they declare, and how many pages RAM has
pub record Entered : Type 0 where
  pub live : List Owner
  pub ram : ℕ

pub record IsCounted (live : List Owner) (numbers : List ℕ) : Type 0 where
  -- a page past RAM has no declarations
  pub counts : (page : ℕ) → slice_index numbers page ≡ count_by (is_on page) (claims live)
  -- a module declares at most 64 pages
  pub few : All (λ (owner : Owner). length owner.decls.items ≤ 64) live

-- ---- a module less

abbrev pub is_other : ℕ → Owner → Bool
is_other id owner = not (is_module id owner)

-- the others than a module
abbrev pub owners_without : ℕ → List Owner → List Owner
owners_without id live = filter (is_other id) live

abbrev pub is_left : List Row → Owner → Bool
is_left gone owner = not (is_among gone owner.id.0)

-- the others than the modules of some rows
abbrev pub owners_left : List Row → List Owner → List Owner
owners_left gone live = filter (is_left gone) live

-- how many declarations of a page go with an owner where it is the module that goes
abbrev pub count_if : Bool → ℕ → List Decl → ℕ
count_if true page decls = count_by (is_same_page page) decls
count_if false page decls = 0

-- these declarations are of pages of RAM
abbrev pub LieInRam : (ram : ℕ) → List Decl → Type 0
LieInRam ram decls = All (λ (decl : Decl). decl.gpn.0 < ram) decls

-- a declaration of the page as one of the module's own
abbrev pub is_own_on : ℕ → Decl → Bool
is_own_on page decl = is_own decl.sort && (decl.gpn.0 == page)

-- a module whose row goes has the page as its own
abbrev pub gives_up : List Row → ℕ → Owner → Bool
gives_up gone page owner = list_any (is_given_up gone page) (claims_by owner)
