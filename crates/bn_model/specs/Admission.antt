-- The rule of admission: which accesses a live module's declarations allow (after Bastion's shadow
-- access check).
use Rattle.std.specs.Prelude.{ℕ, zero, suc, ◌==◌, Bool, true, false, not, ◌&&◌, find, List, Option}
use Rattle.std.specs.Prelude.{Some, None}
use Rattle.bn_types.specs.declared.decl.Decl.{Decl}
use Rattle.bn_types.specs.declared.kind.Kind.{Kind}
use Rattle.bn_types.specs.declared.kind.Kind.TheVariants.{Fetch, Load, Store}
use Rattle.bn_types.specs.declared.rights.Rights.{Rights}
use Rattle.bn_types.specs.declared.sort.Sort.{Sort}
use Rattle.bn_types.specs.declared.sort.Sort.TheVariants.{Private, Offer, Accept}
use Rattle.bn_model.specs.declared.owner.Owner.{Owner}
use Rattle.bn_model.specs.Bits.{is_set}
use Rattle.bn_model.specs.Owners.{is_live, is_module, is_owned}

-- bit 0 of the rights is load, bit 1 store, bit 2 fetch
abbrev pub has_right : Kind → Rights → Bool
has_right Load rights = is_set rights.0 0
has_right Store rights = is_set rights.0 1
has_right Fetch rights = is_set rights.0 2

-- ---- what a module declares

abbrev pub is_at : ℕ → Decl → Bool
is_at vpn decl = decl.vpn.0 == vpn

abbrev pub declared_by : ℕ → Option Owner → Option Decl
declared_by vpn None = None
declared_by vpn (Some owner) = find (is_at vpn) owner.decls.items

-- what a module declares of a virtual page; the untrusted world, module 0, declares nothing
abbrev pub declaration : List Owner → ℕ → ℕ → Option Decl
declaration owners zero vpn = None
declaration owners (suc id) vpn = declared_by vpn (find (is_module (suc id)) owners)

-- ---- the rule

-- an acceptance holds while the module lives that offers the page
abbrev pub is_backed : List Owner → Sort → ℕ → Bool
is_backed owners Private source = true
is_backed owners Offer source = true
is_backed owners Accept source = is_live owners source

-- a declared virtual page leads to its own guest page alone
abbrev pub admits_declared : List Owner → ℕ → Kind → Decl → Bool
admits_declared owners page kind decl =
    (decl.gpn.0 == page) && has_right kind decl.rights && is_backed owners decl.sort decl.source.0

-- a module runs no code outside its own pages
abbrev pub may_leave : ℕ → Kind → Bool
may_leave zero kind = true
may_leave (suc id) Fetch = false
may_leave (suc id) Load = true
may_leave (suc id) Store = true

abbrev pub admits_by : List Owner → ℕ → ℕ → Kind → Option Decl → Bool
admits_by owners id page kind (Some decl) = admits_declared owners page kind decl
admits_by owners id page kind None = not (is_owned owners page) && may_leave id kind

-- an access of module `id` at a virtual page that leads to a guest page
unfoldable pub admits : List Owner → (id vpn page : ℕ) → Kind → Bool
admits owners id vpn page kind = admits_by owners id page kind (declaration owners id vpn)
