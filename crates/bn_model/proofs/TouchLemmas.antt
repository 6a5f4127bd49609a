-- Whom the pages belong to that an event touches.
use Rattle.std.proofs.Common.{◌≡◌, ◌≢◌, ℕ, zero, suc, ◌==◌, ◌⊎◌, Bool, true, false, not, find}
use Rattle.std.proofs.Common.{flat_map, List, [], ◌∷◌, ◌++◌, map, Option, Some, None, is_some}
use Rattle.std.proofs.Common.{option_map, unwrap_or, Result, Ok, Err, slice_get, inl, inr, refl}
use Rattle.std.proofs.Common.{sym, ap, subst, ◌∙◌, eqb-true, eq-eqb}
use Rattle.std.proofs.lemmas.Bool.{and_parts, both_ways, false_from_ne_true, not-true}
use Rattle.std.proofs.lemmas.Option.{none-some, same_Some}
use Rattle.std.specs.List.{list_all, list_any}
use Rattle.bn_types.specs.Visible.{state_at, state_of}
use Rattle.bn_types.specs.declared.act.Act.{Act}
use Rattle.bn_types.specs.declared.act.Act.TheVariants as act
use Rattle.bn_types.specs.declared.asker.Asker.{Asker}
use Rattle.bn_types.specs.declared.decl.Decl.{Decl}
use Rattle.bn_types.specs.declared.event.Event.TheVariants.{Turn, Key, Poke, Peek}
use Rattle.bn_types.specs.declared.fault.Fault.{Fault}
use Rattle.bn_types.specs.declared.gpn.Gpn.{Gpn}
use Rattle.bn_types.specs.declared.kind.Kind.{Kind}
use Rattle.bn_types.specs.declared.kind.Kind.TheVariants.{Fetch, Load, Store}
use Rattle.bn_types.specs.declared.launch_refused.LaunchRefused.TheVariants as refused
use Rattle.bn_types.specs.declared.mod_id.ModId.{ModId}
use Rattle.bn_types.specs.declared.mode.Mode.{Mode}
use Rattle.bn_types.specs.declared.mode.Mode.TheVariants.{U, S}
use Rattle.bn_types.specs.declared.page_state.PageState.{PageState}
use Rattle.bn_types.specs.declared.page_state.PageState.TheVariants.{Outside, Owned, Free}
use Rattle.bn_types.specs.declared.rights.Rights.{Rights}
use Rattle.bn_types.specs.declared.row.Row.{Row}
use Rattle.bn_types.specs.declared.seg_fault.SegFault.{SegFault}
use Rattle.bn_types.specs.declared.seg_page.SegPage.{SegPage}
use Rattle.bn_types.specs.declared.secure.Secure.{Secure}
use Rattle.bn_types.specs.declared.secure.Secure.TheVariants as secure
use Rattle.bn_types.specs.declared.segment.Segment.{Segment}
use Rattle.bn_types.specs.declared.sort.Sort.{Sort}
use Rattle.bn_types.specs.declared.width.Width.{Width}
use Rattle.bn_types.specs.declared.width.Width.TheVariants.{B4}
use Rattle.bn_model.specs.declared.owner.Owner.{Owner}
use Rattle.bn_model.specs.declared.place.Place.{Place}
use Rattle.bn_model.specs.Accessing.{access, is_aligned}
use Rattle.bn_model.specs.Admission.{admits, admits_by, declaration, declared_by, has_right, is_at}
use Rattle.bn_model.specs.Admission.{is_backed, may_leave}
use Rattle.bn_model.specs.Bits.{is_set}
use Rattle.bn_model.specs.Deciding.{asked_of}
use Rattle.bn_model.specs.Decision.{Asked, Nothing, Interrupted, Unfetched, Resuming, Unknown}
use Rattle.bn_model.specs.Decision.{Acting}
use Rattle.bn_model.specs.Launching.{address_of_page, decl_of, decls_of, decls_unless_refused}
use Rattle.bn_model.specs.Launching.{free_page, have_alias, is_owned_state, is_reached}
use Rattle.bn_model.specs.Launching.{is_text_address, page_if_free, page_in_ram, page_of_address}
use Rattle.bn_model.specs.Launching.{page_of_leaf, page_if_in_ram, refused_unless, takes_owned}
use Rattle.bn_model.specs.Launching.{text_at, text_if_mapped}
use Rattle.bn_model.specs.Memory.{readable_if, readable_page, visible}
use Rattle.bn_model.specs.Owners.{claim_by, claims, claims_by, is_live, is_module, is_on, is_own}
use Rattle.bn_model.specs.Owners.{is_owned}
use Rattle.bn_model.specs.Rows.{has_id, owner_of, owners, row_of}
use Rattle.bn_model.specs.Soundness.{Has}
use Rattle.bn_model.specs.State.{Hart, State, asker, hart_at, memory, value_of}
use Rattle.bn_model.specs.Stepping.{seen_page}
use Rattle.bn_model.specs.Touching.{Touch, direct, launch_if_kernel, measured_if, touch}
use Rattle.bn_model.specs.Touching.{touch_of_access, touch_of_act, touch_of_asked, touch_of_decl}
use Rattle.bn_model.specs.Touching.{touch_of_decls, touch_of_device, touch_of_fetch}
use Rattle.bn_model.specs.Touching.{touch_of_launch, touch_of_page, touch_of_place, touch_of_secure}
use Rattle.bn_model.specs.Touching.{touch_of_segment, touch_of_text, touch_of_walk, walk_if}
use Rattle.bn_model.specs.TouchingLaws.{IsDeclared, IsLive, IsUnowned, TouchesAreAdmitted}
use Rattle.bn_model.specs.TouchingLaws.{right_number}
use Rattle.bn_model.specs.Walking.{Landing, WalkFault, guest_page, leaf_of, tables_read, vpn_of}
use Rattle.bn_model.proofs.AccessLemmas.{access-cases}
use Rattle.bn_model.proofs.ClaimLemmas.{three-true}
use Rattle.bn_model.proofs.EachLemmas.{get-each}
use Rattle.bn_model.proofs.MembershipLemmas.{all-has, append-has, flat_map-has, has-any, has-find}
use Rattle.bn_model.proofs.MembershipLemmas.{has-flat_map, has-map, list_all-has, map-has}
use Rattle.bn_model.proofs.RowLemmas.{is_live-row_of, row_of-id}
use Rattle.bn_model.proofs.TestLemmas.{find-map, find-passes}
use Rattle.bn_model.proofs.WalkFacts.{walked-free}

-- ---- pages without owners

claimed : (rows : List Row) (row : Row) (decl : Decl) → Has row rows
    → Has decl row.judged.decls.items
    → Has (claim_by row.id decl) (claims (owners rows))
unfolding claims owners
claimed rows row decl live declared =
    has-flat_map claims_by (map owner_of rows) (owner_of row) (claim_by row.id decl)
    (has-map owner_of rows row live)
    (has-map (claim_by row.id) row.judged.decls.items decl declared)

unowned : (s : State) (page : ℕ) → is_owned (owners s.rows) page ≡ false → IsUnowned s page
unowned s page free row decl live declared is =
    both_ways (is_owned (owners s.rows) page) free
    (has-any (is_on page) (claims (owners s.rows)) (claim_by row.id decl)
    (claimed s.rows row decl live declared) (eq-eqb decl.gpn.0 page is))

-- a page that the untrusted world can read
free-page : (os : List Owner) (pages : List (List ℕ)) (page : ℕ)
    → state_at (visible (record { pages = pages; owners = os })) page ≡ Free
    → is_owned os page ≡ false
unfolding visible
free-page os pages page e =
    by_content (slice_get pages page)
    (ap state_of (sym (get-each (readable_page os) page pages)) ∙ e)
  where
    by_owned : (b : Bool) → is_owned os page ≡ b → (bytes : List ℕ)
        → state_of (Some (readable_if b bytes)) ≡ Free → is_owned os page ≡ false
    by_owned true is bytes e = cc
    by_owned false is bytes e = is

    by_content : (content : Option (List ℕ))
        → state_of (option_map (readable_page os page) content) ≡ Free → is_owned os page ≡ false
    by_content None e = cc
    by_content (Some bytes) e = by_owned (is_owned os page) refl bytes e

-- ---- what a module declares

record DeclaredAt (rows : List Row) (id vpn : ℕ) (decl : Decl) : Type 0 where
  row : Row
  live : Has row rows
  whose : row.id.0 ≡ id
  inside : id ≢ 0
  declared : Has decl row.judged.decls.items
  virtual : decl.vpn.0 ≡ vpn

owner-found : (rows : List Row) (id : ℕ)
    → find (is_module id) (owners rows) ≡ option_map owner_of (row_of rows id)
unfolding owners
owner-found rows id = find-map (is_module id) (has_id id) owner_of (λ row. refl) rows

declared-row : (rows : List Row) (id vpn : ℕ) (decl : Decl)
    → declaration (owners rows) id vpn ≡ Some decl → DeclaredAt rows id vpn decl
declared-row rows zero vpn decl e = absurd (none-some decl e)
declared-row rows (suc k) vpn decl e =
    by_row (row_of rows (suc k)) refl (ap (declared_by vpn) (sym (owner-found rows (suc k))) ∙ e)
  where
    by_row : (o : Option Row) → row_of rows (suc k) ≡ o
        → declared_by vpn (option_map owner_of o) ≡ Some decl → DeclaredAt rows (suc k) vpn decl
    by_row None is d = absurd (none-some decl d)
    by_row (Some row) is d = record {
      row = row;
      live = has-find (has_id (suc k)) rows row is;
      whose = row_of-id rows (suc k) row is;
      inside = λ f. cc;
      declared = has-find (is_at vpn) row.judged.decls.items decl d;
      virtual = eqb-true decl.vpn.0 vpn (find-passes (is_at vpn) row.judged.decls.items decl d);
    }

right-bit : (kind : Kind) (rights : Rights)
    → has_right kind rights ≡ is_set rights.0 (right_number kind)
right-bit Load rights = refl
right-bit Store rights = refl
right-bit Fetch rights = refl

-- ---- launches

-- a page that an address reaches lies in RAM
in-ram : (pages : List (Option (List ℕ))) (satp va g : ℕ) → page_of_address pages satp va ≡ Some g
    → state_at pages g ≢ Outside
unfolding page_of_address
in-ram pages satp va g e = by_leaf (leaf_of pages satp va) e
  where
    by_state : (page : ℕ) (state : PageState) → state_at pages page ≡ state
        → page_in_ram state page ≡ Some g → state_at pages g ≢ Outside
    by_state page Outside is d = absurd (none-some g d)
    by_state page Owned is d =
        λ out. let f : Owned ≡ Outside =
        sym is ∙ ap (state_at pages) (same_Some page g d) ∙ out in cc
    by_state page Free is d =
        λ out. let f : Free ≡ Outside =
        sym is ∙ ap (state_at pages) (same_Some page g d) ∙ out in cc

    by_page : (page : Option ℕ) → page_if_in_ram pages page ≡ Some g → state_at pages g ≢ Outside
    by_page None d = absurd (none-some g d)
    by_page (Some page) d = by_state page (state_at pages page) refl d

    by_leaf : (leaf : Result Landing WalkFault) → page_of_leaf pages leaf ≡ Some g
        → state_at pages g ≢ Outside
    by_leaf (Err walk_fault) d = absurd (none-some g d)
    by_leaf (Ok landing) d = by_page (guest_page landing.ppn) d

-- a declaration's page lies in RAM where its address reaches one
reached-page : (pages : List (Option (List ℕ))) (satp : ℕ) (page : SegPage)
    → is_reached pages satp page ≡ true
    → state_at pages (decl_of pages satp page).gpn.0 ≢ Outside
unfolding is_reached decl_of
reached-page pages satp page e =
    by_page (page_of_address pages satp (address_of_page page.vpn.0)) refl e
  where
    by_page : (o : Option ℕ) → page_of_address pages satp (address_of_page page.vpn.0) ≡ o
        → is_some o ≡ true
        → state_at pages (unwrap_or o 0) ≢ Outside
    by_page None is d = cc
    by_page (Some g) is d = in-ram pages satp (address_of_page page.vpn.0) g is

-- of the three states of a page one is left
is-free : (state : PageState) → state ≢ Outside → is_owned_state state ≡ false → state ≡ Free
is-free Outside inside owned = absurd (inside refl)
is-free Owned inside owned = cc
is-free Free inside owned = refl

-- a page that a module would own has no owners yet
taken-free : (pages : List (Option (List ℕ))) (decl : Decl) → takes_owned pages decl ≡ false
    → is_own decl.sort ≡ true
    → is_owned_state (state_at pages decl.gpn.0) ≡ false
unfolding takes_owned
taken-free pages decl none own =
    false_from_ne_true (is_owned_state (state_at pages decl.gpn.0))
    (λ owned. both_ways (takes_owned pages decl) none (rw (own, owned) refl))

-- ---- what an event touches

module _ (s : State) where
  abbrev Good : Touch → Type 0
  Good t = IsUnowned s t.page.0 ⊎ IsDeclared s t

  abbrev AreGood : List Touch → Type 0
  AreGood touches = (t : Touch) → Has t touches → Good t

  abbrev seen : List (Option (List ℕ))
  seen = visible (memory s)

  none-good : AreGood []
  none-good t h = absurd h

  both-good : (first second : List Touch) → AreGood first → AreGood second
      → AreGood (first ++ second)
  both-good first second one two t h = by_part (append-has first second t h)
    where
      by_part : Has t first ⊎ Has t second → Good t
      by_part (inl left) = one t left
      by_part (inr right) = two t right

  one-good : (it : Touch) → Good it → AreGood (it ∷ [])
  one-good it good t (inl is) = subst Good (sym is) good
  one-good it good t (inr h) = absurd h

  free-good : (kind : Kind) (page : Gpn) → state_at seen page.0 ≡ Free → Good (direct kind page)
  free-good kind page free = inl (unowned s page.0 (free-page (owners s.rows) s.pages page.0 free))

  -- ---- accesses

  walk-good : (satp va : ℕ) → AreGood (touch_of_walk seen satp va)
  walk-good satp va t h =
      let found = map-has (direct Load) (tables_read seen satp va) t h in
      let page : Gpn = found.0 in
      subst Good (sym found.2)
      (free-good Load page
      (all-has (λ (g : Gpn). state_at seen g.0 ≡ Free) (tables_read seen satp va) page
      (walked-free seen satp va) found.1))

  walk-if-good : (b : Bool) (satp va : ℕ) → AreGood (walk_if b seen satp va)
  walk-if-good false satp va = none-good
  walk-if-good true satp va = walk-good satp va

  live-row : (id : ℕ) → is_live (owners s.rows) id ≡ true → IsLive s id
  live-row id e = by_row (row_of s.rows id) refl (sym (is_live-row_of id s.rows) ∙ e)
    where
      by_row : (o : Option Row) → row_of s.rows id ≡ o → is_some o ≡ true → IsLive s id
      by_row None is d = cc
      by_row (Some row) is d = record {
        row = row;
        live = has-find (has_id id) s.rows row is;
        whose = row_of-id s.rows id row is;
      }

  admitted : (who : ModId) (vpn page : ℕ) (kind : Kind)
      → admits (owners s.rows) who.0 vpn page kind ≡ true
      → Good (record { who = who; vpn = Some vpn; page = record { 0 = page }; kind = kind })
  unfolding admits
  admitted who vpn page kind e = by_decl (declaration (owners s.rows) who.0 vpn) refl e
    where
      by_decl : (o : Option Decl) → declaration (owners s.rows) who.0 vpn ≡ o
          → admits_by (owners s.rows) who.0 page kind o ≡ true
          → Good (record { who = who; vpn = Some vpn; page = record { 0 = page }; kind = kind })
      by_decl None is d =
          inl
          (unowned s page
          (not-true (is_owned (owners s.rows) page)
          (and_parts (not (is_owned (owners s.rows) page)) (may_leave who.0 kind) d).0))
      by_decl (Some decl) is d =
          let at = declared-row s.rows who.0 vpn decl is in
          let tests =
          three-true (decl.gpn.0 == page) (has_right kind decl.rights)
          (is_backed (owners s.rows) decl.sort decl.source.0) d in
          inr (record {
            row = at.row;
            live = at.live;
            whose = at.whose;
            inside = at.inside;
            decl = decl;
            declared = at.declared;
            virtual = ap (λ (v : ℕ). Some v) (sym at.virtual);
            guest = sym (eqb-true decl.gpn.0 page tests.0);
            right = sym (right-bit kind decl.rights) ∙ tests.1;
            backed = λ accepts. live-row decl.source.0
                (ap (λ (sort : Sort). is_backed (owners s.rows) sort decl.source.0) (sym accepts)
                ∙ tests.2);
          })

  place-good : (who : Asker) (kind : Kind) (va : ℕ) (width : Width)
      → AreGood (touch_of_place who kind va (access (memory s) who kind va width))
  place-good who kind va width =
      access-cases (λ (place : Result Place Fault). AreGood (touch_of_place who kind va place))
      (memory s) who kind va width
      (λ fault. none-good)
      (λ page within admits_it. one-good _ (admitted who.«module» (vpn_of va) page kind admits_it))

  access-good : (who : Asker) (kind : Kind) (va : ℕ) (width : Width)
      → AreGood (touch_of_access (memory s) who kind va width)
  access-good who kind va width =
      both-good (walk_if (is_aligned kind va width) seen who.satp va)
      (touch_of_place who kind va (access (memory s) who kind va width))
      (walk-if-good (is_aligned kind va width) who.satp va) (place-good who kind va width)

  -- ---- launches

  module _ (satp : ℕ) where
    measured-good : (decl : Decl) (own : Bool) → is_own decl.sort ≡ own
        → takes_owned seen decl ≡ false → state_at seen decl.gpn.0 ≢ Outside
        → AreGood (measured_if own decl.gpn)
    measured-good decl false is none inside = none-good
    measured-good decl true is none inside =
        one-good (direct Load decl.gpn)
        (free-good Load decl.gpn
        (is-free (state_at seen decl.gpn.0) inside (taken-free seen decl none is)))

    taken : (pages : List SegPage) → list_all (is_reached seen satp) pages ≡ true
        → list_any (takes_owned seen) (map (decl_of seen satp) pages) ≡ false
        → AreGood (flat_map touch_of_decl (map (decl_of seen satp) pages))
    taken pages reached none t h =
        let found = flat_map-has touch_of_decl (map (decl_of seen satp) pages) t h in
        let decl : Decl = found.0 in
        let made = map-has (decl_of seen satp) pages decl found.1 in
        measured-good decl (is_own decl.sort) refl
        (false_from_ne_true (takes_owned seen decl)
        (λ takes. both_ways (list_any (takes_owned seen) (map (decl_of seen satp) pages)) none
        (has-any (takes_owned seen) (map (decl_of seen satp) pages) decl found.1 takes)))
        (subst (λ (d : Decl). state_at seen d.gpn.0 ≢ Outside) (sym made.2)
        (reached-page seen satp made.0
        (list_all-has (is_reached seen satp) pages made.0 reached made.1)))
        t found.2

    unless-good : (decls : List Decl) (reached : Bool)
        → (reached ≡ true → list_any (takes_owned seen) decls ≡ false
        → AreGood (flat_map touch_of_decl decls))
        → AreGood (touch_of_decls (decls_unless_refused seen reached decls))
    unless-good decls false good = none-good
    unless-good decls true good = by_owned (list_any (takes_owned seen) decls) refl
      where
        by_alias : (b : Bool) → AreGood (flat_map touch_of_decl decls)
            → AreGood (touch_of_decls (refused_unless b refused.Alias (Ok decls)))
        by_alias false measured = none-good
        by_alias true measured = measured

        by_owned : (b : Bool) → list_any (takes_owned seen) decls ≡ b
            → AreGood (touch_of_decls (refused_unless (not b) refused.Owned
            (refused_unless (not (have_alias decls)) refused.Alias (Ok decls))))
        by_owned true is = none-good
        by_owned false is = by_alias (not (have_alias decls)) (good refl is)

    decls-good : (segment : Segment) → AreGood (touch_of_decls (decls_of seen satp segment))
    decls-good segment =
        unless-good (map (decl_of seen satp) segment.pages.items)
        (list_all (is_reached seen satp) segment.pages.items) (taken segment.pages.items)

    walks-good : (pages : List SegPage) → AreGood (flat_map (touch_of_page seen satp) pages)
    walks-good pages t h =
        let found = flat_map-has (touch_of_page seen satp) pages t h in
        let page : SegPage = found.0 in
        walk-good satp (address_of_page page.vpn.0) t found.2

    segment-good : (r : Result Segment SegFault) → AreGood (touch_of_segment seen satp r)
    segment-good (Err seg_fault) = none-good
    segment-good (Ok segment) =
        both-good (flat_map (touch_of_page seen satp) segment.pages.items)
        (touch_of_decls (decls_of seen satp segment))
        (walks-good segment.pages.items) (decls-good segment)

    text-good : (at : ℕ) → AreGood (touch_of_text seen satp (text_at seen satp at))
    text-good at = by_address (is_text_address at)
      where
        by_state : (page : ℕ) (state : PageState) → state_at seen page ≡ state
            → AreGood (touch_of_text seen satp (text_if_mapped seen at (free_page state page)))
        by_state page Outside is = none-good
        by_state page Owned is = none-good
        by_state page Free is =
            both-good (direct Load (record { 0 = page }) ∷ []) _
            (one-good (direct Load (record { 0 = page })) (free-good Load (record { 0 = page }) is))
            (segment-good _)

        by_page : (page : Option ℕ)
            → AreGood (touch_of_text seen satp (text_if_mapped seen at (page_if_free seen page)))
        by_page None = none-good
        by_page (Some page) = by_state page (state_at seen page) refl

        by_address : (b : Bool)
            → AreGood (touch_of_text seen satp (refused_unless b refused.Address
            (text_if_mapped seen at (page_if_free seen (page_of_address seen satp at)))))
        by_address false = none-good
        by_address true = by_page (page_of_address seen satp at)

    launch-good : (at : ℕ) → AreGood (touch_of_launch seen satp at)
    launch-good at =
        both-good (walk_if (is_text_address at) seen satp at)
        (touch_of_text seen satp (text_at seen satp at))
        (walk-if-good (is_text_address at) satp at) (text-good at)

    kernel-good : (current : ℕ) (mode : Mode) (at : ℕ)
        → AreGood (launch_if_kernel current mode seen satp at)
    kernel-good zero U at = none-good
    kernel-good zero S at = launch-good at
    kernel-good (suc m) mode at = none-good

  -- ---- turns

  secure-good : (hart : Hart) (asked : Secure) → AreGood (touch_of_secure s hart asked)
  secure-good hart (secure.Launch rd at) =
      kernel-good hart.csrs.satp hart.current.0 hart.mode (value_of hart at)
  secure-good hart asked = none-good

  act-good : (h : ℕ) (hart : Hart) (asked : Act) → AreGood (touch_of_act s h hart asked)
  act-good h hart (act.LoadAt va width signed rd) = access-good (asker h hart) Load va width
  act-good h hart (act.StoreAt va width value) = access-good (asker h hart) Store va width
  act-good h hart (act.Bastion asked) = secure-good hart asked
  act-good h hart asked = none-good

  fetch-good : (h : ℕ) (hart : Hart) → AreGood (touch_of_fetch s h hart)
  fetch-good h hart = access-good (asker h hart) Fetch hart.pc B4

  asked-good : (h : ℕ) (hart : Hart) (asked : Asked) → AreGood (touch_of_asked s h hart asked)
  asked-good h hart Nothing = none-good
  asked-good h hart (Interrupted cause) = none-good
  asked-good h hart (Unfetched fault) = fetch-good h hart
  asked-good h hart (Resuming id) = fetch-good h hart
  asked-good h hart Unknown = fetch-good h hart
  asked-good h hart (Acting asked) =
      both-good (touch_of_fetch s h hart) (touch_of_act s h hart asked) (fetch-good h hart)
      (act-good h hart asked)

  device-good : (kind : Kind) (page : Gpn) (content : Option (Option (List ℕ)))
      → slice_get seen page.0 ≡ content → AreGood (touch_of_device kind page content)
  device-good kind page None is = none-good
  device-good kind page (Some None) is = none-good
  device-good kind page (Some (Some bytes)) is =
      one-good (direct kind page) (free-good kind page (ap state_of is))

pub touches-are-admitted : TouchesAreAdmitted
unfolding touch
touches-are-admitted s (Turn h) = asked-good s h (hart_at s h) (asked_of s h (hart_at s h))
touches-are-admitted s (Key byte) = none-good s
touches-are-admitted s (Poke page offset byte) = device-good s Store page (seen_page s page) refl
touches-are-admitted s (Peek page offset) = device-good s Load page (seen_page s page) refl
