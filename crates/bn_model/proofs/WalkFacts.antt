-- What holds of every walk.
use Rattle.std.proofs.Common.{◌≡◌, ◌≢◌, ℕ, zero, suc, ◌+◌, ◌*◌, ◌%◌, ◌^◌, ◌==◌, ◌<◌, ◌≤◌, Bool}
use Rattle.std.proofs.Common.{true, false, List, ◌∷◌, [], length, Option, Some, None, Result, Ok}
use Rattle.std.proofs.Common.{Err, IfOk, slice_get, refl, sym, ◌∙◌, ap, subst, arith, eqb-true}
use Rattle.std.proofs.lemmas.List.Elements.{All-nil, All-cons, All-head, All-tail}
use Rattle.bn_types.specs.declared.gpn.Gpn.{Gpn}
use Rattle.bn_types.specs.declared.page_state.PageState.TheVariants.{Free, Owned, Outside}
use Rattle.bn_types.specs.Visible.{state_of, state_at, word_of}
use Rattle.bn_model.specs.Entries.{EntryKind, Invalid, LeafEntry, Pointer, entry_kind, is_aligned}
use Rattle.bn_model.specs.Entries.{kind_by_flags, leaf_kind, pointer_kind, ppn_of}
use Rattle.bn_model.specs.CsrFile.{satp_mode}
use Rattle.bn_model.specs.Walking.{Entry, Landing, NoLeaf, Refused, TableEntry, Unread, WalkEnd}
use Rattle.bn_model.specs.Walking.{WalkFault, Walk, ends, entry_at, entry_of_word, entry_on}
use Rattle.bn_model.specs.Walking.{is_canonical, landing_of, leaf_end, leaf_of, root_of}
use Rattle.bn_model.specs.Walking.{tables_read, through, vpn_of, walk_bare, walk_by_mode, walk_from}
use Rattle.bn_model.specs.Walking.{walk_on, walk_sv39, walked}
use Rattle.bn_model.specs.WalkLaws.{AgreeOn, AllFree, NoneFreed}

-- ## An entry

-- an entry lies on a free page, and its kind is that of its word
record IsEntry (pages : List (Option (List ℕ))) (level : ℕ) (page : Gpn) (word : ℕ)
    (kind : EntryKind) : Type 0 where
  free : state_at pages page.0 ≡ Free
  has_kind : kind ≡ entry_kind level word

is_entry : (pages : List (Option (List ℕ))) (level offset : ℕ) (page : Gpn) (word : ℕ)
    (kind : EntryKind) (on : Option ℕ) → Entry page word kind ≡ entry_on pages level offset on
    → IsEntry pages level page word kind
is_entry pages level offset page word kind None e = absurd cc
is_entry pages level offset page word kind (Some g) e = by_content (slice_get pages g) refl e
  where
    by_content : (content : Option (Option (List ℕ))) → slice_get pages g ≡ content
        → Entry page word kind ≡ entry_of_word level g (word_of content offset)
        → IsEntry pages level page word kind
    by_content None is e = absurd cc
    by_content (Some None) is e = absurd cc
    by_content (Some (Some bytes)) is e = record {
      free = ap (λ (n : ℕ). state_at pages n) (let same : page.0 ≡ g = cc in same) ∙ ap state_of is;
      has_kind = cc;
    }

-- ## Each walk from an entry on

-- each level reads one table at most
pub on-few : (pages : List (Option (List ℕ))) (va level : ℕ) (here : TableEntry)
    → length (walk_on pages va level here).tables ≤ level + 1
unfolding walk_on
on-few pages va level Unread = omega arith
on-few pages va level (Entry page word Invalid) = omega arith
on-few pages va level (Entry page word LeafEntry) = omega arith
on-few pages va zero (Entry page word Pointer) = omega arith
on-few pages va (suc level) (Entry page word Pointer) =
    omega (arith, on-few pages va level (entry_at pages va level (ppn_of word)))

with-page : (pages : List (Option (List ℕ))) (va level ppn : ℕ) (page : Gpn) (word : ℕ)
    (kind : EntryKind) (tables : List Gpn) → Entry page word kind ≡ entry_at pages va level ppn
    → AllFree pages tables → AllFree pages (page ∷ tables)
with-page pages va level ppn page word kind tables e free =
    All-cons (λ (page : Gpn). state_at pages page.0 ≡ Free) page tables
    (is_entry pages level _ page word kind _ e).free free

none-read : (pages : List (Option (List ℕ))) → AllFree pages []
none-read pages = All-nil (λ page. state_at pages page.0 ≡ Free)

-- what is read is free
pub on-free : (pages : List (Option (List ℕ))) (va level ppn : ℕ) (here : TableEntry)
    → here ≡ entry_at pages va level ppn → AllFree pages (walk_on pages va level here).tables
unfolding walk_on
on-free pages va level ppn Unread e = none-read pages
on-free pages va level ppn (Entry page word Invalid) e =
    with-page pages va level ppn page word Invalid [] e (none-read pages)
on-free pages va level ppn (Entry page word LeafEntry) e =
    with-page pages va level ppn page word LeafEntry [] e (none-read pages)
on-free pages va zero ppn (Entry page word Pointer) e =
    with-page pages va 0 ppn page word Pointer [] e (none-read pages)
on-free pages va (suc level) ppn (Entry page word Pointer) e =
    with-page pages va (suc level) ppn page word Pointer _ e
    (on-free pages va level (ppn_of word) (entry_at pages va level (ppn_of word)) refl)

leaf_kind-aligned : (aligned : Bool) → LeafEntry ≡ leaf_kind aligned → aligned ≡ true
leaf_kind-aligned true e = refl
leaf_kind-aligned false e = absurd cc

kind-aligned : (level entry : ℕ) (bad leaf : Bool) → LeafEntry ≡ kind_by_flags level entry bad leaf
    → is_aligned level entry ≡ true
kind-aligned level entry true leaf e = absurd cc
kind-aligned level entry false true e = leaf_kind-aligned _ e
kind-aligned zero entry false false e = absurd cc
kind-aligned (suc level) entry false false e = absurd (pointer-no _ e)
  where
    pointer-no : (leaf_flags : Bool) → LeafEntry ≡ pointer_kind (suc level) leaf_flags → ⊥
    pointer-no true e = cc
    pointer-no false e = cc

filled : (level ppn vpn : ℕ) → level ≤ 2 → ppn < 2 ^ 44 → ppn % 2 ^ (9 * level) ≡ 0
    → ppn + vpn % 2 ^ (9 * level) < 2 ^ 44
filled zero ppn vpn few fits aligned = omega arith
filled (suc zero) ppn vpn few fits aligned = omega arith
filled (suc (suc zero)) ppn vpn few fits aligned = omega arith
filled (suc (suc (suc level))) ppn vpn few fits aligned = absurd (omega arith)

leaf-ppn : (va level word : ℕ) → level ≤ 2 → LeafEntry ≡ entry_kind level word
    → (leaf_end va level word).ppn < 2 ^ 44
leaf-ppn va level word few k =
    filled level (ppn_of word) (vpn_of va) few (omega arith)
    (eqb-true _ 0 (kind-aligned level word _ _ k))

-- a leaf's page has a number of 44 bits
pub on-ppn : (pages : List (Option (List ℕ))) (va level ppn : ℕ) (here : TableEntry)
    → here ≡ entry_at pages va level ppn → level ≤ 2
    → IfOk (walk_on pages va level here).found (λ end. end.ppn < 2 ^ 44)
unfolding walk_on
on-ppn pages va level ppn Unread e few = tt
on-ppn pages va level ppn (Entry page word Invalid) e few = tt
on-ppn pages va level ppn (Entry page word LeafEntry) e few =
    leaf-ppn va level word few (is_entry pages level _ page word LeafEntry _ e).has_kind
on-ppn pages va zero ppn (Entry page word Pointer) e few = tt
on-ppn pages va (suc level) ppn (Entry page word Pointer) e few =
    on-ppn pages va level (ppn_of word) (entry_at pages va level (ppn_of word)) refl (omega arith)

-- ## The same walk on other pages

page-is : (level g : ℕ) (page : Gpn) (word : ℕ) (kind : EntryKind) (there : Option ℕ)
    → Entry page word kind ≡ entry_of_word level g there → page.0 ≡ g
page-is level g page word kind None e = absurd cc
page-is level g page word kind (Some number) e = cc

-- an entry is the same where its page is
entry-kept : (pages others : List (Option (List ℕ))) (level offset : ℕ) (page : Gpn) (word : ℕ)
    (kind : EntryKind) (on : Option ℕ) → Entry page word kind ≡ entry_on pages level offset on
    → slice_get pages page.0 ≡ slice_get others page.0
    → Entry page word kind ≡ entry_on others level offset on
entry-kept pages others level offset page word kind None e same = absurd cc
entry-kept pages others level offset page word kind (Some g) e same =
    let q : page.0 ≡ g = page-is level g page word kind _ e in
    e ∙ ap (λ (content : Option (Option (List ℕ))). entry_of_word level g (word_of content offset))
    (ap (slice_get pages) (sym q) ∙ same ∙ ap (slice_get others) q)

shut : (pages : List (Option (List ℕ))) (level g offset : ℕ) (content : Option (Option (List ℕ)))
    → slice_get pages g ≡ content → Unread ≡ entry_of_word level g (word_of content offset)
    → state_at pages g ≢ Free
shut pages level g offset None is e = λ free. let h : Outside ≡ Free = sym (ap state_of is)
    ∙ free in cc
shut pages level g offset (Some None) is e = λ free. let h : Owned ≡ Free = sym (ap state_of is)
    ∙ free in cc
shut pages level g offset (Some (Some bytes)) is e = absurd cc

still_shut : (others : List (Option (List ℕ))) (level g offset : ℕ)
    (content : Option (Option (List ℕ))) → slice_get others g ≡ content → state_at others g ≢ Free
    → Unread ≡ entry_of_word level g (word_of content offset)
still_shut others level g offset None is not_free = refl
still_shut others level g offset (Some None) is not_free = refl
still_shut others level g offset (Some (Some bytes)) is not_free =
    absurd (not_free (ap state_of is))

unread-kept : (pages others : List (Option (List ℕ))) (level offset : ℕ) (on : Option ℕ)
    → Unread ≡ entry_on pages level offset on → NoneFreed pages others
    → Unread ≡ entry_on others level offset on
unread-kept pages others level offset None e none_freed = refl
unread-kept pages others level offset (Some g) e none_freed =
    still_shut others level g offset (slice_get others g) refl
    (none_freed g (shut pages level g offset (slice_get pages g) refl e))

module _ (pages others : List (Option (List ℕ))) (va : ℕ) where
  kept : (level ppn : ℕ) (page : Gpn) (word : ℕ) (kind : EntryKind) (tables : List Gpn)
      → Entry page word kind ≡ entry_at pages va level ppn → AgreeOn pages others (page ∷ tables)
      → entry_at others va level ppn ≡ Entry page word kind
  kept level ppn page word kind tables e agree =
      sym (entry-kept pages others level _ page word kind _ e
      (All-head (λ (page : Gpn). slice_get pages page.0 ≡ slice_get others page.0) page tables
      agree))

  -- a walk is the same on pages that agree on those it reads
  on-local : (level ppn : ℕ) (here : TableEntry) → here ≡ entry_at pages va level ppn
      → AgreeOn pages others (walk_on pages va level here).tables
      → ((walk_on pages va level here).found ≡ Err Refused → NoneFreed pages others)
      → walk_from others va level ppn ≡ walk_on pages va level here
  unfolding walk_on
  on-local level ppn Unread e agree none_freed =
      ap (walk_on others va level) (sym (unread-kept pages others level _ _ e (none_freed refl)))
  on-local level ppn (Entry page word Invalid) e agree none_freed =
      ap (walk_on others va level) (kept level ppn page word Invalid [] e agree)
  on-local level ppn (Entry page word LeafEntry) e agree none_freed =
      ap (walk_on others va level) (kept level ppn page word LeafEntry [] e agree)
  on-local zero ppn (Entry page word Pointer) e agree none_freed =
      ap (walk_on others va 0) (kept 0 ppn page word Pointer [] e agree)
  on-local (suc level) ppn (Entry page word Pointer) e agree none_freed =
      let below : TableEntry = entry_at pages va level (ppn_of word) in
      ap (walk_on others va (suc level)) (kept (suc level) ppn page word Pointer _ e agree) ∙
      ap (through page) (on-local level (ppn_of word) below refl
      (All-tail (λ (page : Gpn). slice_get pages page.0 ≡ slice_get others page.0) page _ agree)
      none_freed)

-- ## Each walk of an address

walked-by : (pages : List (Option (List ℕ))) (satp va : ℕ) (P : Walk → Type 0) → P (walk_bare va)
    → P (ends (Err NoLeaf)) → P (walk_from pages va 2 (root_of satp)) → P (walked pages satp va)
unfolding walked
walked-by pages satp va P bare none from = go (satp_mode satp == 0)
  where
    in_sv39 : (canonical : Bool) → P (walk_sv39 pages satp va canonical)
    in_sv39 true = from
    in_sv39 false = none

    go : (bare : Bool) → P (walk_by_mode pages satp va bare)
    go true = bare
    go false = in_sv39 (is_canonical va)

pub walked-few : (pages : List (Option (List ℕ))) (satp va : ℕ)
    → length (tables_read pages satp va) ≤ 3
walked-few pages satp va =
    walked-by pages satp va (λ walk. length walk.tables ≤ 3) (omega arith) (omega arith)
    (on-few pages va 2 (entry_at pages va 2 (root_of satp)))

pub walked-free : (pages : List (Option (List ℕ))) (satp va : ℕ)
    → AllFree pages (tables_read pages satp va)
walked-free pages satp va =
    walked-by pages satp va (λ walk. AllFree pages walk.tables) (none-read pages) (none-read pages)
    (on-free pages va 2 (root_of satp) (entry_at pages va 2 (root_of satp)) refl)

ok-landing : (Q : WalkEnd → Type 0) (tables : List Gpn) (found : Result WalkEnd WalkFault)
    → IfOk found Q → IfOk (landing_of tables found)
    (λ leaf. Q (record { ppn = leaf.ppn; flags = leaf.flags; bare = leaf.bare }))
ok-landing Q tables (Ok end) h = h
ok-landing Q tables (Err fault) h = tt

pub walked-ppn : (pages : List (Option (List ℕ))) (satp va : ℕ)
    → IfOk (leaf_of pages satp va) (λ leaf. leaf.bare ≡ false → leaf.ppn < 2 ^ 44)
walked-ppn pages satp va =
    ok-landing (λ end. end.bare ≡ false → end.ppn < 2 ^ 44) (tables_read pages satp va)
    (walked pages satp va).found
    (walked-by pages satp va (λ walk. IfOk walk.found (λ end. end.bare ≡ false → end.ppn < 2 ^ 44))
    (λ e. absurd cc) tt (weaker _
    (on-ppn pages va 2 (root_of satp) (entry_at pages va 2 (root_of satp)) refl (omega arith))))
  where
    weaker : (found : Result WalkEnd WalkFault) → IfOk found (λ end. end.ppn < 2 ^ 44)
        → IfOk found (λ end. end.bare ≡ false → end.ppn < 2 ^ 44)
    weaker (Ok end) h = λ e. h
    weaker (Err fault) h = tt

pub walked-local : (pages others : List (Option (List ℕ))) (satp va : ℕ)
    → AgreeOn pages others (tables_read pages satp va)
    → (leaf_of pages satp va ≡ Err Refused → NoneFreed pages others)
    → walked others satp va ≡ walked pages satp va
unfolding walked
walked-local pages others satp va agree none_freed =
    go (satp_mode satp == 0) agree
    (λ refused. none_freed (ap (landing_of (tables_read pages satp va)) refused))
  where
    in_sv39 : (canonical : Bool) → AgreeOn pages others (walk_sv39 pages satp va canonical).tables
        → ((walk_sv39 pages satp va canonical).found ≡ Err Refused → NoneFreed pages others)
        → walk_sv39 others satp va canonical ≡ walk_sv39 pages satp va canonical
    in_sv39 true agree none_freed =
        on-local pages others va 2 (root_of satp) (entry_at pages va 2 (root_of satp)) refl agree
        none_freed
    in_sv39 false agree none_freed = refl

    go : (bare : Bool) → AgreeOn pages others (walk_by_mode pages satp va bare).tables
        → ((walk_by_mode pages satp va bare).found ≡ Err Refused → NoneFreed pages others)
        → walk_by_mode others satp va bare ≡ walk_by_mode pages satp va bare
    go true agree none_freed = refl
    go false agree none_freed = in_sv39 (is_canonical va) agree none_freed

-- a leaf's tables are those that its walk read
landing-tables : (tables : List Gpn) (found : Result WalkEnd WalkFault) (leaf : Landing)
    → landing_of tables found ≡ Ok leaf → tables ≡ leaf.tables
landing-tables tables (Ok end) leaf e = cc
landing-tables tables (Err fault) leaf e = absurd cc

pub leaf-local : (pages others : List (Option (List ℕ))) (satp va : ℕ) (leaf : Landing)
    → leaf_of pages satp va ≡ Ok leaf → AgreeOn pages others leaf.tables
    → leaf_of others satp va ≡ Ok leaf
leaf-local pages others satp va leaf e agree =
    ap (λ (walk : Walk). landing_of walk.tables walk.found)
    (walked-local pages others satp va
    (subst (AgreeOn pages others) (sym (landing-tables _ (walked pages satp va).found leaf e))
    agree) (λ refused. absurd (let h : Ok leaf ≡ Err Refused = sym e ∙ refused in cc))) ∙
    e
