-- Who owns a guest page: the declarations of live modules for it.
use Rattle.std.specs.Prelude.{ℕ, ◌==◌, Bool, true, false, ◌&&◌, List, flat_map, map}
use Rattle.std.specs.List.{filter, list_any}
use Rattle.bn_types.specs.declared.decl.Decl.{Decl}
use Rattle.bn_types.specs.declared.mod_id.ModId.{ModId}
use Rattle.bn_types.specs.declared.sort.Sort.{Sort}
use Rattle.bn_types.specs.declared.sort.Sort.TheVariants.{Private, Offer, Accept}
use Rattle.bn_model.specs.declared.owner.Owner.{Owner}

-- a declaration, and the module that makes it
pub record Claim : Type 0 where
  pub owner : ModId
  pub decl : Decl

abbrev pub claim_by : ModId → Decl → Claim
claim_by owner decl = record { owner = owner; decl = decl }

abbrev pub claims_by : Owner → List Claim
claims_by owner = map (claim_by owner.id) owner.decls.items

-- all declarations of live modules
unfoldable pub claims : List Owner → List Claim
claims owners = flat_map claims_by owners

abbrev pub is_on : ℕ → Claim → Bool
is_on page claim = claim.decl.gpn.0 == page

-- the declarations for a page
abbrev pub owners_of_page : List Owner → ℕ → List Claim
owners_of_page owners page = filter (is_on page) (claims owners)

abbrev pub is_owned : List Owner → ℕ → Bool
is_owned owners page = list_any (is_on page) (claims owners)

-- ---- whose a page is

abbrev pub is_private : Sort → Bool
is_private Private = true
is_private Offer = false
is_private Accept = false

-- a module's own pages are its private pages and those that it offers
abbrev pub is_own : Sort → Bool
is_own Private = true
is_own Offer = true
is_own Accept = false

-- a declaration makes the page private
abbrev pub is_private_at : ℕ → Decl → Bool
is_private_at page decl = is_private decl.sort && (decl.gpn.0 == page)

abbrev pub is_private_of : ℕ → ℕ → Claim → Bool
is_private_of id page claim = (claim.owner.0 == id) && is_private claim.decl.sort && is_on page
    claim

-- module `id` declares the page as private
abbrev pub is_private_page : List Owner → ℕ → ℕ → Bool
is_private_page owners id page = list_any (is_private_of id page) (claims owners)

-- ---- the modules

abbrev pub is_module : ℕ → Owner → Bool
is_module id owner = owner.id.0 == id

abbrev pub is_live : List Owner → ℕ → Bool
is_live owners id = list_any (is_module id) owners
