-- Laws of accesses to memory: what they depend on, and how they come out.
use Rattle.std.proofs.Common.{◌≡◌, ℕ, ◌%◌, ◌<◌, Bool, true, false, nat_lt, List, length, Option}
use Rattle.std.proofs.Common.{Some, None, Result, Ok, Err, refl, ap, ◌∙◌, ltb-true}
use Rattle.bn_types.specs.declared.asker.Asker.{Asker}
use Rattle.bn_types.specs.declared.cause.Cause.{Cause}
use Rattle.bn_types.specs.declared.fault.Fault.{Fault}
use Rattle.bn_types.specs.declared.kind.Kind.{Kind}
use Rattle.bn_types.specs.declared.width.Width.{Width}
use Rattle.bn_model.specs.declared.owner.Owner.{Owner}
use Rattle.bn_model.specs.declared.place.Place.{Place}
use Rattle.bn_model.specs.Accessing.{access, is_aligned, place_by_walk, place_if_admitted}
use Rattle.bn_model.specs.Accessing.{place_if_aligned, place_if_in_ram, place_on, walk_by}
use Rattle.bn_model.specs.Admission.{admits}
use Rattle.bn_model.specs.Memory.{Memory, visible}
use Rattle.bn_model.specs.Walking.{Landing, guest_page, vpn_of, walk_of}

-- ---- what an access depends on

-- two memories of one size, with the same owners and the same bytes where nobody owns them
pub record AreAlike (m n : Memory) : Type 0 where
  pub owners : m.owners ≡ n.owners
  pub size : length m.pages ≡ length n.pages
  pub seen : visible m ≡ visible n

in-ram-alike : (b : Bool) (m n : Memory) → AreAlike m n → (who : Asker) (kind : Kind) (va page : ℕ)
    → place_if_in_ram b m who kind va page ≡ place_if_in_ram b n who kind va page
in-ram-alike false m n alike who kind va page = refl
in-ram-alike true m n alike who kind va page =
    ap (λ (owners : List Owner). place_if_admitted
    (admits owners who.«module».0 (vpn_of va) page kind) kind va page) alike.owners

on-alike : (m n : Memory) → AreAlike m n → (who : Asker) (kind : Kind) (va : ℕ) (page : Option ℕ)
    → place_on m who kind va page ≡ place_on n who kind va page
on-alike m n alike who kind va None = refl
on-alike m n alike who kind va (Some page) =
    ap (λ (size : ℕ). place_if_in_ram (nat_lt page size) m who kind va page) alike.size
    ∙ in-ram-alike (nat_lt page (length n.pages)) m n alike who kind va page

walk-alike : (m n : Memory) → AreAlike m n
    → (who : Asker) (kind : Kind) (va : ℕ) (walk : Result Landing Cause)
    → place_by_walk m who kind va walk ≡ place_by_walk n who kind va walk
walk-alike m n alike who kind va (Err cause) = refl
walk-alike m n alike who kind va (Ok landing) =
    on-alike m n alike who kind va (guest_page landing.ppn)

aligned-alike : (b : Bool) (m n : Memory) → AreAlike m n → (who : Asker) (kind : Kind) (va : ℕ)
    → place_if_aligned b m who kind va ≡ place_if_aligned b n who kind va
aligned-alike false m n alike who kind va = refl
aligned-alike true m n alike who kind va =
    ap (λ (pages : List (Option (List ℕ))). place_by_walk m who kind va
    (walk_of pages who.satp va kind who.mode who.sum who.mxr)) alike.seen
    ∙ walk-alike m n alike who kind va (walk_by n who kind va)

pub access-alike : (m n : Memory) → AreAlike m n
    → (who : Asker) (kind : Kind) (va : ℕ) (width : Width)
    → access m who kind va width ≡ access n who kind va width
unfolding access
access-alike m n alike who kind va width =
    aligned-alike (is_aligned kind va width) m n alike who kind va

-- ---- how an access comes out

-- it fails, or it reaches a page of RAM that the rule of admission lets it reach
pub access-cases : (P : Result Place Fault → Type 0) (m : Memory) (who : Asker) (kind : Kind)
    (va : ℕ) (width : Width)
    → ((fault : Fault) → P (Err fault))
    → ((page : ℕ) → page < length m.pages
    → admits m.owners who.«module».0 (vpn_of va) page kind ≡ true
    → P (Ok (record { page = record { 0 = page }; offset = va % 4096 })))
    → P (access m who kind va width)
unfolding access
access-cases P m who kind va width fails reaches = by_alignment (is_aligned kind va width)
  where
    by_admission : (page : ℕ) → page < length m.pages → (b : Bool)
        → admits m.owners who.«module».0 (vpn_of va) page kind ≡ b
        → P (place_if_admitted b kind va page)
    by_admission page within false e = fails _
    by_admission page within true e = reaches page within e

    by_ram : (page : ℕ) → (b : Bool) → nat_lt page (length m.pages) ≡ b
        → P (place_if_in_ram b m who kind va page)
    by_ram page false e = fails _
    by_ram page true e =
        by_admission page (ltb-true page (length m.pages) e)
        (admits m.owners who.«module».0 (vpn_of va) page kind) refl

    by_page : (page : Option ℕ) → P (place_on m who kind va page)
    by_page None = fails _
    by_page (Some page) = by_ram page (nat_lt page (length m.pages)) refl

    by_walk : (walk : Result Landing Cause) → P (place_by_walk m who kind va walk)
    by_walk (Err cause) = fails _
    by_walk (Ok landing) = by_page (guest_page landing.ppn)

    by_alignment : (b : Bool) → P (place_if_aligned b m who kind va)
    by_alignment false = fails _
    by_alignment true = by_walk (walk_by m who kind va)
