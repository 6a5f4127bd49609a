-- A launch: ten tests in their order, each over the whole segment before the next, and the module
-- that it makes (after Bastion; the order is this project's own).
use Rattle.std.specs.Prelude.{ℕ, ◌*◌, ◌%◌, ◌==◌, Bool, true, false, nat_le, not, ◌&&◌, ◌||◌, find}
use Rattle.std.specs.Prelude.{drop, flat_map, length, List, [], ◌∷◌, ◌++◌, map, replicate}
use Rattle.std.specs.Prelude.{slice_get, slice_index_or, take, Option, Some, None, is_some, Result}
use Rattle.std.specs.Prelude.{Ok, Err, unwrap_or}
use Rattle.std.specs.List.{list_all, list_any, range_with_len}
use Rattle.std.specs.Str.{bytes_eq}
use Rattle.sha2.specs.Sha256.{sha256}
use Rattle.bn_types.specs.Visible.{state_at}
use Rattle.bn_types.specs.declared.decl.Decl.{Decl}
use Rattle.bn_types.specs.declared.digest.Digest.{Digest}
use Rattle.bn_types.specs.declared.gpn.Gpn.{Gpn}
use Rattle.bn_types.specs.declared.judged.Judged.{Judged}
use Rattle.bn_types.specs.declared.kind.Kind.TheVariants.{Fetch, Load, Store}
use Rattle.bn_types.specs.declared.launch_refused.LaunchRefused.{LaunchRefused}
use Rattle.bn_types.specs.declared.launch_refused.LaunchRefused.TheVariants as refused
use Rattle.bn_types.specs.declared.mod_id.ModId.{ModId}
use Rattle.bn_types.specs.declared.page_state.PageState.{PageState}
use Rattle.bn_types.specs.declared.page_state.PageState.TheVariants.{Outside, Owned, Free}
use Rattle.bn_types.specs.declared.rights.Rights.{Rights}
use Rattle.bn_types.specs.declared.seg_fault.SegFault.{SegFault}
use Rattle.bn_types.specs.declared.seg_page.SegPage.{SegPage}
use Rattle.bn_types.specs.declared.segment.Segment.{Segment}
use Rattle.bn_types.specs.declared.sort.Sort.{Sort}
use Rattle.bn_types.specs.declared.sort.Sort.TheVariants.{Private, Offer, Accept}
use Rattle.bn_model.specs.Admission.{has_right}
use Rattle.bn_model.specs.Bits.{is_set}
use Rattle.bn_model.specs.Owners.{is_own}
use Rattle.bn_model.specs.Rows.{Enclave}
use Rattle.bn_model.specs.Segments.{segment_of}
use Rattle.bn_model.specs.Walking.{Landing, WalkFault, guest_page, leaf_of}

abbrev pub refused_unless : {A : Type 0} → Bool → LaunchRefused → Result A LaunchRefused → Result A
    LaunchRefused
refused_unless true refusal next = next
refused_unless false refusal next = Err refusal

-- ---- where an address leads

abbrev pub page_in_ram : PageState → ℕ → Option ℕ
page_in_ram Outside page = None
page_in_ram Owned page = Some page
page_in_ram Free page = Some page

abbrev pub page_if_in_ram : List (Option (List ℕ)) → Option ℕ → Option ℕ
page_if_in_ram pages None = None
page_if_in_ram pages (Some page) = page_in_ram (state_at pages page) page

abbrev pub page_of_leaf : List (Option (List ℕ)) → Result Landing WalkFault → Option ℕ
page_of_leaf pages (Err walk_fault) = None
page_of_leaf pages (Ok landing) = page_if_in_ram pages (guest_page landing.ppn)

-- the page of RAM to which the structural walk of an address leads
unfoldable pub page_of_address : List (Option (List ℕ)) → (satp va : ℕ) → Option ℕ
page_of_address pages satp va = page_of_leaf pages (leaf_of pages satp va)

-- ---- the text

-- a segment's text, and the page on which it stands
pub record Text : Type 0 where
  pub page : Gpn
  pub bytes : List ℕ

-- a multiple of 8 from which 1,232 bytes stand in one page
unfoldable pub is_text_address : ℕ → Bool
is_text_address at = (at % 8 == 0) && nat_le (at % 4096) 2864

abbrev pub free_page : PageState → ℕ → Option ℕ
free_page Outside page = None
free_page Owned page = None
free_page Free page = Some page

abbrev pub page_if_free : List (Option (List ℕ)) → Option ℕ → Option ℕ
page_if_free pages None = None
page_if_free pages (Some page) = free_page (state_at pages page) page

abbrev pub bytes_if_readable : Option (Option (List ℕ)) → List ℕ
bytes_if_readable None = []
bytes_if_readable (Some None) = []
bytes_if_readable (Some (Some bytes)) = bytes

-- the bytes of a page that can be read
abbrev pub bytes_on : List (Option (List ℕ)) → ℕ → List ℕ
bytes_on pages page = bytes_if_readable (slice_get pages page)

unfoldable pub text_bytes : List (Option (List ℕ)) → (page at : ℕ) → List ℕ
text_bytes pages page at = take 1232 (drop (at % 4096) (bytes_on pages page))

abbrev pub text_if_mapped : List (Option (List ℕ)) → ℕ → Option ℕ → Result Text LaunchRefused
text_if_mapped pages at None = Err refused.Unmapped
text_if_mapped pages at (Some page) =
    Ok (record { page = record { 0 = page }; bytes = text_bytes pages page at })

abbrev pub text_at : List (Option (List ℕ)) → (satp at : ℕ) → Result Text LaunchRefused
text_at pages satp at =
    refused_unless (is_text_address at) refused.Address
    (text_if_mapped pages at (page_if_free pages (page_of_address pages satp at)))

-- ---- the declarations

-- the virtual address at which a virtual page begins
abbrev pub address_of_page : ℕ → ℕ
address_of_page vpn = vpn * 4096

unfoldable pub is_reached : List (Option (List ℕ)) → ℕ → SegPage → Bool
is_reached pages satp page = is_some (page_of_address pages satp (address_of_page page.vpn.0))

-- a declaration names the page to which its virtual page leads now
unfoldable pub decl_of : List (Option (List ℕ)) → ℕ → SegPage → Decl
decl_of pages satp page = record {
  vpn = page.vpn;
  gpn = record { 0 = unwrap_or (page_of_address pages satp (address_of_page page.vpn.0)) 0 };
  sort = page.sort;
  rights = page.rights;
  mask = page.mask;
  source = record { 0 = 0 };
}

abbrev pub is_owned_state : PageState → Bool
is_owned_state Outside = false
is_owned_state Owned = true
is_owned_state Free = false

unfoldable pub takes_owned : List (Option (List ℕ)) → Decl → Bool
takes_owned pages decl = is_own decl.sort && is_owned_state (state_at pages decl.gpn.0)

abbrev pub is_same_page : ℕ → Decl → Bool
is_same_page page decl = decl.gpn.0 == page

-- two declarations reach one guest page
unfoldable pub have_alias : List Decl → Bool
have_alias [] = false
have_alias (decl ∷ decls) = list_any (is_same_page decl.gpn.0) decls || have_alias decls

abbrev pub decls_unless_refused : List (Option (List ℕ)) → Bool → List Decl → Result (List Decl)
    LaunchRefused
decls_unless_refused pages are_reached decls =
    refused_unless are_reached refused.NoPage (
    refused_unless (not (list_any (takes_owned pages) decls)) refused.Owned (
    refused_unless (not (have_alias decls)) refused.Alias (Ok decls)))

abbrev pub decls_of : List (Option (List ℕ)) → ℕ → Segment → Result (List Decl) LaunchRefused
decls_of pages satp segment =
    decls_unless_refused pages (list_all (is_reached pages satp) segment.pages.items)
    (map (decl_of pages satp) segment.pages.items)

-- ---- the identity

abbrev pub bytes_if_own : Bool → List ℕ → List ℕ
bytes_if_own true bytes = bytes
bytes_if_own false bytes = []

-- a module's private and offered pages are measured
unfoldable pub measured_bytes : List (Option (List ℕ)) → Decl → List ℕ
measured_bytes pages decl = bytes_if_own (is_own decl.sort) (bytes_on pages decl.gpn.0)

-- the text and the measured pages in the order of their declarations, by SHA-256 (FIPS 180-4)
unfoldable pub identity : List (Option (List ℕ)) → List ℕ → List Decl → Digest
identity pages text decls = record { 0 = sha256 (text ++ flat_map (measured_bytes pages) decls) }

abbrev pub is_identity : Digest → Digest → Bool
is_identity who other = bytes_eq other.0 who.0

-- ---- offers

abbrev pub is_offer : Sort → Bool
is_offer Private = false
is_offer Offer = true
is_offer Accept = false

abbrev pub is_accept : Sort → Bool
is_accept Private = false
is_accept Offer = false
is_accept Accept = true

abbrev pub zero_digest : Digest
zero_digest = record { 0 = replicate 32 0 }

-- bit i of the mask names partner i
abbrev pub is_named_partner : ℕ → List Digest → Digest → ℕ → Bool
is_named_partner mask partners who i = is_set mask i && is_identity who
    (slice_index_or partners i zero_digest)

unfoldable pub names_partner : ℕ → List Digest → Digest → Bool
names_partner mask partners who =
    list_any (is_named_partner mask partners who) (range_with_len 0 (length partners))

-- whoever has the outer rights has the inner ones
unfoldable pub includes : (outer inner : Rights) → Bool
includes outer inner =
    (not (has_right Load inner) || has_right Load outer) &&
    (not (has_right Store inner) || has_right Store outer) &&
    (not (has_right Fetch inner) || has_right Fetch outer)

-- a declaration offers a page to an identity with these rights
unfoldable pub is_offered : List Digest → Digest → ℕ → Rights → Decl → Bool
is_offered partners who page rights decl =
    is_offer decl.sort && (decl.gpn.0 == page) && includes decl.rights rights &&
    names_partner decl.mask partners who

unfoldable pub offers : Digest → ℕ → Rights → Enclave → Bool
offers who page rights enclave =
    list_any (is_offered enclave.judged.partners.items who page rights) enclave.judged.decls.items

abbrev pub id_if_some : Option Enclave → Option ModId
id_if_some None = None
id_if_some (Some enclave) = Some enclave.id

-- the module that offers a page to an identity with these rights
unfoldable pub offerer : List Enclave → Digest → ℕ → Rights → Option ModId
offerer enclaves who page rights = id_if_some (find (offers who page rights) enclaves)

abbrev pub is_backed_decl : Sort → Option ModId → Bool
is_backed_decl Private source = true
is_backed_decl Offer source = true
is_backed_decl Accept source = is_some source

unfoldable pub has_source : List Enclave → Digest → Decl → Bool
has_source enclaves who decl =
    is_backed_decl decl.sort (offerer enclaves who decl.gpn.0 decl.rights)

abbrev pub source_if : Sort → Option ModId → ModId
source_if Private source = record { 0 = 0 }
source_if Offer source = record { 0 = 0 }
source_if Accept source = unwrap_or source (record { 0 = 0 })

-- an acceptance keeps the id of the module that offers the page
unfoldable pub with_source : List Enclave → Digest → Decl → Decl
with_source enclaves who decl =
    record decl { source = source_if decl.sort (offerer enclaves who decl.gpn.0 decl.rights) }

-- ---- the whole

abbrev pub has_identity : Digest → Enclave → Bool
has_identity who enclave = is_identity who enclave.judged.digest

abbrev pub judged_of : List Enclave → Segment → List Decl → Digest → Judged
judged_of enclaves segment decls who = record {
  digest = who;
  mode = segment.mode;
  entries = segment.entries;
  decls = record { items = map (with_source enclaves who) decls };
  partners = segment.partners;
}

-- 15 modules are live at most, and the ids of a run end at 65,535
abbrev pub judgement_by_identity : List Enclave → ℕ → Segment → List Decl → Digest → Result Judged
    LaunchRefused
judgement_by_identity enclaves next segment decls who =
    refused_unless (list_all (has_source enclaves who) decls) refused.NotOffered (
    refused_unless (not (list_any (has_identity who) enclaves)) refused.Duplicate (
    refused_unless (not (nat_le 15 (length enclaves))) refused.TableFull (
    refused_unless (not (nat_le 65536 next)) refused.IdsSpent (
    Ok (judged_of enclaves segment decls who)))))

abbrev pub judgement_by_decls :
    List Enclave → ℕ → List (Option (List ℕ)) → List ℕ → Segment → Result (List Decl) LaunchRefused
    →
    Result Judged LaunchRefused
judgement_by_decls enclaves next pages text segment (Err refusal) = Err refusal
judgement_by_decls enclaves next pages text segment (Ok decls) =
    judgement_by_identity enclaves next segment decls (identity pages text decls)

abbrev pub judgement_by_segment :
    List Enclave → ℕ → List (Option (List ℕ)) → ℕ → List ℕ → Result Segment SegFault →
    Result Judged LaunchRefused
judgement_by_segment enclaves next pages satp text (Err seg_fault) = Err (refused.Segment seg_fault)
judgement_by_segment enclaves next pages satp text (Ok segment) =
    judgement_by_decls enclaves next pages text segment (decls_of pages satp segment)

abbrev pub judgement_by_text :
    List Enclave → ℕ → List (Option (List ℕ)) → ℕ → Result Text LaunchRefused → Result Judged
    LaunchRefused
judgement_by_text enclaves next pages satp (Err refusal) = Err refusal
judgement_by_text enclaves next pages satp (Ok text) =
    judgement_by_segment enclaves next pages satp text.bytes (segment_of text.bytes)

-- what a launch comes to beside these live modules: the text stands at a virtual address, the pages
-- are as the untrusted world reads them, and `next` is the id that it would give
unfoldable pub judgement : List Enclave → ℕ → List (Option (List ℕ)) → (satp at : ℕ) → Result
    Judged LaunchRefused
judgement enclaves next pages satp at =
    judgement_by_text enclaves next pages satp (text_at pages satp at)
