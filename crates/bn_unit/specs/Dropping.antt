-- Which translations leave when modules come and go.
use Rattle.std.specs.Prelude.{◌≡◌, ℕ, zero, suc, Bool, true, false, List, [], ◌∷◌}
use Rattle.std.specs.List.{list_any}
use Rattle.bn_types.specs.declared.decl.Decl.{Decl}
use Rattle.bn_types.specs.declared.row.Row.{Row}
use Rattle.bn_types.specs.declared.sort.Sort.TheVariants.{Accept}
use Rattle.bn_model.specs.declared.owner.Owner.{Owner}
use Rattle.bn_model.specs.Evicting.{is_given_up}
use Rattle.bn_model.specs.Owners.{Claim, claims, is_live, is_own}
use Rattle.bn_model.specs.Soundness.{Has}
use Rattle.bn_tlb.specs.Caching.{Cache, after_drop, is_of, touches}

-- ---- a module comes

-- what leads to a declared page, or was walked through one, leaves
abbrev pub cache_without : List Decl → Cache → Cache
cache_without [] m = m
cache_without (decl ∷ decls) m = cache_without decls (after_drop (touches decl.gpn.0) m)

-- ---- modules go

-- a private or offered page of a module that goes
abbrev pub is_left_by : List Row → List Owner → ℕ → Bool
is_left_by gone live page = list_any (is_given_up gone page) (claims live)

abbrev pub cache_if : (given : Bool) → (page : ℕ) → Cache → Cache
cache_if true page m = after_drop (touches page) m
cache_if false page m = m

-- what leads to one of the first pages that are left, or was walked through one, leaves
abbrev pub cache_left : List Row → List Owner → (count : ℕ) → Cache → Cache
cache_left gone live zero m = m
cache_left gone live (suc page) m =
    cache_if (is_left_by gone live page) page (cache_left gone live page m)

-- what the modules of these rows held leaves
abbrev pub cache_of_others : List Row → Cache → Cache
cache_of_others [] m = m
cache_of_others (row ∷ gone) m = cache_of_others gone (after_drop (is_of row.id.0) m)

-- a page that is accepted from a live module is that module's own
pub record AreOffered (live : List Owner) : Type 0 where
  pub offered :
      (claim : Claim) → Has claim (claims live) → claim.decl.sort ≡ Accept →
      is_live live claim.decl.source.0 ≡ true → (offer : Claim) × Has offer (claims live)
      × (offer.owner ≡ claim.decl.source) × (is_own offer.decl.sort ≡ true)
      × (offer.decl.gpn ≡ claim.decl.gpn)
