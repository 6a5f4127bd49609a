-- What a launch needs of the pages that it reads, and of what it found.
use Rattle.std.specs.Prelude.{◌≡◌, ◌≢◌, ℕ, ◌^◌, ◌<◌, length, List, Option, Some, None, slice_get}
use Rattle.std.specs.List.{All}
use Rattle.bn_types.specs.Visible.{state_at}
use Rattle.bn_types.specs.declared.decl.Decl.{Decl}
use Rattle.bn_types.specs.declared.gpn.Gpn.{Gpn}
use Rattle.bn_types.specs.declared.page_state.PageState.TheVariants.{Outside, Owned}
use Rattle.bn_types.specs.declared.seg_page.SegPage.{SegPage}
use Rattle.bn_model.specs.SegmentLaws.{AreBytes}

-- a page that can be read has 4,096 bytes
abbrev pub IsWhole : Option (Option (List ℕ)) → Type 0
IsWhole None = Unit {0}
IsWhole (Some None) = Unit {0}
IsWhole (Some (Some bytes)) = (length bytes ≡ 4096) × AreBytes bytes

abbrev pub IsWholePage : Option (List ℕ) → Type 0
IsWholePage page = IsWhole (Some page)

abbrev pub AreWhole : List (Option (List ℕ)) → Type 0
AreWhole pages = (page : ℕ) → IsWhole (slice_get pages page)

abbrev pub page_number : Option Gpn → Option ℕ
page_number None = None
page_number (Some page) = Some page.0

-- these declarations are of pages of RAM
abbrev pub LieInRam : List (Option (List ℕ)) → List Decl → Type 0
LieInRam pages decls = All (λ (decl : Decl). state_at pages decl.gpn.0 ≢ Outside) decls

-- none of their own pages has owners
abbrev pub AreTheirs : List (Option (List ℕ)) → List Decl → Type 0
AreTheirs pages decls = All (λ (decl : Decl). state_at pages decl.gpn.0 ≢ Owned) decls

abbrev pub HaveVpns : List SegPage → Type 0
HaveVpns pages = All (λ (page : SegPage). page.vpn.0 < 2 ^ 52) pages
