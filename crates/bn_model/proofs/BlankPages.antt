-- What blanking leaves of memory: what the untrusted world sees, and what other modules reach.
use Rattle.std.proofs.Common.{◌≡◌, ℕ, ◌%◌, Bool, true, false, List, [], length, set, Result, Ok}
use Rattle.std.proofs.Common.{◌&&◌, Option, flat_map, refl, sym, ap, ◌∙◌}
use Rattle.sha2.specs.Sha256.{sha256}
use Rattle.bn_types.specs.Numbers.{number_at, page_at, with_number}
use Rattle.bn_types.specs.declared.asker.Asker.{Asker}
use Rattle.bn_types.specs.declared.digest.Digest.{Digest}
use Rattle.bn_types.specs.declared.fault.Fault.{Fault}
use Rattle.bn_types.specs.declared.kind.Kind.{Kind}
use Rattle.bn_types.specs.declared.width.Width.{Width}
use Rattle.bn_model.specs.declared.owner.Owner.{Owner}
use Rattle.bn_model.specs.declared.place.Place.{Place}
use Rattle.bn_model.specs.Accessing.{access, answer_of_load, pages_with}
use Rattle.bn_model.specs.Blanking.{blank, blank_if, blank_page, blank_pages, blank_row, blanked}
use Rattle.bn_model.specs.Blanking.{rests}
use Rattle.bn_model.specs.Each.{each}
use Rattle.bn_model.specs.Evicting.{zeros_if}
use Rattle.bn_model.specs.Memory.{readable_if, readable_page, visible}
use Rattle.bn_model.specs.Owners.{is_live, is_owned, is_private_page}
use Rattle.bn_model.specs.Reporting.{bytes_if_free, public_digest}
use Rattle.bn_model.specs.Rows.{owners}
use Rattle.bn_model.specs.State.{State, memory}
use Rattle.bn_model.specs.Walking.{vpn_of}
use Rattle.bn_model.proofs.AccessLemmas.{AreAlike, access-alike, access-cases}
use Rattle.bn_model.proofs.ClaimLemmas.{ArePrivate, admitted-other, owned-private}
use Rattle.bn_model.proofs.EachLemmas.{each-each, each-same, each-set, get_or-kept, length-each}
use Rattle.bn_model.proofs.RowLemmas.{Keeps, owners-with_row}

pub keeps-blank : Keeps blank_row
keeps-blank = record { same = λ row. refl }

pub owners-blanked : (m : ℕ) (s : State) → owners (blanked m s).rows ≡ owners s.rows
owners-blanked m s = owners-with_row m blank_row keeps-blank s.rows

pub length-blanked : (owners : List Owner) (m : ℕ) (pages : List (List ℕ))
    → length (blank_pages owners m pages) ≡ length pages
unfolding blank_pages
length-blanked owners m pages = length-each (blank_page owners m) 0 pages

-- ---- what the untrusted world sees

readable-blanked : (private owned : Bool) → (private ≡ true → owned ≡ true) → (bytes : List ℕ)
    → readable_if owned (zeros_if private bytes) ≡ readable_if owned bytes
readable-blanked true true implies bytes = refl
readable-blanked true false implies bytes = let e = implies refl in cc
readable-blanked false owned implies bytes = refl

seen-blanked : (owners : List Owner) (m : ℕ) (pages : List (List ℕ))
    → visible (record { pages = blank_pages owners m pages; owners = owners })
    ≡ visible (record { pages = pages; owners = owners })
unfolding visible blank_pages
seen-blanked owners m pages =
    each-each (readable_page owners) (blank_page owners m) 0 pages
    ∙ each-same (λ k bytes. readable_page owners k (blank_page owners m k bytes))
    (readable_page owners)
    (λ k bytes. readable-blanked (is_private_page owners m k) (is_owned owners k)
    (owned-private owners m k) bytes) 0 pages

pub visible-blanked : (m : ℕ) (s : State) → visible (memory (blanked m s)) ≡ visible (memory s)
visible-blanked m s =
    ap (λ (os : List Owner). visible
    (record { pages = blank_pages (owners s.rows) m s.pages; owners = os }))
    (owners-blanked m s)
    ∙ seen-blanked (owners s.rows) m s.pages

seen-digest : List (Option (List ℕ)) → Digest
seen-digest pages = record { 0 = sha256 (flat_map bytes_if_free pages) }

digest-blanked : (m : ℕ) (s : State) → public_digest (blanked m s) ≡ public_digest s
unfolding public_digest seen-digest
digest-blanked m s = ap seen-digest (visible-blanked m s)

pub digest-blank : (m : ℕ) (s : State) → public_digest (blank m s) ≡ public_digest s
unfolding blank
digest-blank m s = by_guard (is_live (owners s.rows) m && rests m s)
  where
    by_guard : (b : Bool) → public_digest (blank_if b m s) ≡ public_digest s
    by_guard true = digest-blanked m s
    by_guard false = refl

pub alike-blanked : (m : ℕ) (s : State) → AreAlike (memory (blanked m s)) (memory s)
alike-blanked m s = record {
  owners = owners-blanked m s;
  size = length-blanked (owners s.rows) m s.pages;
  seen = visible-blanked m s;
}

pub access-blanked : (m : ℕ) (s : State) (who : Asker) (kind : Kind) (va : ℕ) (width : Width)
    → access (memory (blanked m s)) who kind va width ≡ access (memory s) who kind va width
access-blanked m s who kind va width =
    access-alike (memory (blanked m s)) (memory s) (alike-blanked m s) who kind va width

-- ---- what other modules reach

-- a page that isn't private to the module keeps its bytes
pub page-blanked : (owners : List Owner) (m page : ℕ) (pages : List (List ℕ))
    → is_private_page owners m page ≡ false
    → page_at (blank_pages owners m pages) page ≡ page_at pages page
unfolding blank_pages
page-blanked owners m page pages public =
    get_or-kept (blank_page owners m) page pages []
    (λ bytes. ap (λ (b : Bool). zeros_if b bytes) public)

-- a load of whoever isn't the module gives the same number
pub load-blanked : (m : ℕ) (s : State) → ArePrivate (owners s.rows)
    → (who : Asker) (kind : Kind) (va : ℕ) (width : Width)
    → (who.«module».0 ≡ m → ⊥)
    → answer_of_load (blanked m s).pages width (access (memory (blanked m s)) who kind va width)
    ≡ answer_of_load s.pages width (access (memory s) who kind va width)
load-blanked m s alone who kind va width other =
    ap (answer_of_load (blanked m s).pages width) (access-blanked m s who kind va width)
    ∙ access-cases
    (λ (place : Result Place Fault). answer_of_load (blanked m s).pages width place
    ≡ answer_of_load s.pages width place)
    (memory s) who kind va width (λ fault. refl)
    (λ page within admitted.
    ap (λ (bytes : List ℕ). Ok (number_at width bytes (va % 4096)))
    (page-blanked (owners s.rows) m page s.pages
    (admitted-other (owners s.rows) alone m who.«module».0 (vpn_of va) page kind other admitted)))

pub set-blanked : (owners : List Owner) (m : ℕ) (pages : List (List ℕ)) (page : ℕ) (bytes : List ℕ)
    → is_private_page owners m page ≡ false
    → blank_pages owners m (set pages page bytes) ≡ set (blank_pages owners m pages) page bytes
unfolding blank_pages
set-blanked owners m pages page bytes public =
    each-set (blank_page owners m) page pages bytes
    ∙ ap (λ (b : Bool). set (each (blank_page owners m) 0 pages) page (zeros_if b bytes)) public

-- a write to a page that isn't private to the module
pub store-blanked : (owners : List Owner) (m : ℕ) (pages : List (List ℕ)) (width : Width)
    (value : ℕ) (place : Place)
    → is_private_page owners m place.page.0 ≡ false
    → blank_pages owners m (pages_with pages width value place)
    ≡ pages_with (blank_pages owners m pages) width value place
store-blanked owners m pages width value place public =
    set-blanked owners m pages place.page.0
    (with_number width (page_at pages place.page.0) place.offset value) public
    ∙ ap (λ (bytes : List ℕ). set (blank_pages owners m pages) place.page.0
    (with_number width bytes place.offset value))
    (sym (page-blanked owners m place.page.0 pages public))
