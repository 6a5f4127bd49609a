-- Which pages of a module are zeroed, by its declarations one after another.
use Rattle.std.specs.Prelude.{◌≡◌, ℕ, ◌<◌, Bool, true, false, List, slice_set}
use Rattle.std.specs.List.{All, list_any}
use Rattle.bn_types.specs.Numbers.{zero_page}
use Rattle.bn_types.specs.declared.decl.Decl.{Decl}
use Rattle.bn_model.specs.declared.owner.Owner.{Owner}
use Rattle.bn_model.specs.Each.{each}
use Rattle.bn_model.specs.Evicting.{zeros_if}
use Rattle.bn_model.specs.Owners.{is_owned, is_private, is_private_at}

abbrev pub zeroed_page : List Decl → ℕ → List ℕ → List ℕ
zeroed_page decls page bytes = zeros_if (list_any (is_private_at page) decls) bytes

-- the pages that these declarations make private are zeros
unfoldable pub zeroed_pages : List Decl → List (List ℕ) → List (List ℕ)
zeroed_pages decls pages = each (zeroed_page decls) 0 pages

abbrev pub zeroed_if : Bool → ℕ → List (List ℕ) → List (List ℕ)
zeroed_if true page pages = slice_set pages page zero_page
zeroed_if false page pages = pages

-- the page of this declaration is zeros, if the declaration is private
abbrev pub after_decl : Decl → List (List ℕ) → List (List ℕ)
after_decl decl pages = zeroed_if (is_private decl.sort) decl.gpn.0 pages

-- a declaration of a live module for a page of RAM
pub record IsHeld (ram : ℕ) (live : List Owner) (decl : Decl) : Type 0 where
  pub inside : decl.gpn.0 < ram
  pub owned : is_owned live decl.gpn.0 ≡ true

abbrev pub AreHeld : ℕ → List Owner → List Decl → Type 0
AreHeld ram live decls = All (IsHeld ram live) decls
