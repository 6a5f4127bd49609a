-- The pages of a module that are zeroed, one declaration after another.
use Rattle.std.proofs.Common.{◌≡◌, ℕ, ◌<◌, ◌==◌, ◌&&◌, ◌||◌, Bool, true, false, List, [], ◌∷◌}
use Rattle.std.proofs.Common.{◌++◌, length, Some, None, not, inl, inr, is_some, refl, sym}
use Rattle.std.proofs.Common.{ap, ap₂, subst, ◌∙◌, eq-eqb, ne_eqb}
use Rattle.std.proofs.lemmas.List.Elements.{All-cons, All-nil}
use Rattle.std.proofs.lemmas.List.Folds.{list_any-append}
use Rattle.std.specs.List.{All, list_any}
use Rattle.bn_types.specs.Numbers.{zero_page}
use Rattle.bn_types.specs.declared.decl.Decl.{Decl}
use Rattle.bn_types.specs.declared.row.Row.{Row}
use Rattle.bn_model.specs.declared.owner.Owner.{Owner}
use Rattle.bn_model.specs.Blanking.{blank, blank_if, blank_page, blank_pages, blank_row}
use Rattle.bn_model.specs.Blanking.{rests, runs}
use Rattle.bn_model.specs.Evicting.{zeros_if}
use Rattle.bn_model.specs.Owners.{claim_by, claims, claims_by, is_live, is_on, is_owned, is_private}
use Rattle.bn_model.specs.Owners.{is_private_at}
use Rattle.bn_model.specs.Rows.{enclaves, has_id, owner_of, owners, row_of, with_row}
use Rattle.bn_model.specs.Soundness.{AreOrdered, Ascend, EachOrdered, GuestPagesDiffer, Has}
use Rattle.bn_model.specs.State.{State}
use Rattle.bn_model.proofs.BlankLemmas.{blank-dead, blank-rests}
use Rattle.bn_model.proofs.EachLemmas.{each-kept, each-more, each-same}
use Rattle.bn_model.proofs.MembershipLemmas.{has-any, has-find, has-flat_map, has-map}
use Rattle.bn_model.proofs.PrivateRows.{private-row}
use Rattle.bn_model.proofs.RowLemmas.{is_live-row_of}
use Rattle.bn_machine.specs.Zeroing.{AreHeld, IsHeld, after_decl, zeroed_if, zeroed_page}
use Rattle.bn_machine.specs.Zeroing.{zeroed_pages}

-- ---- one declaration more

any-more : (decls : List Decl) (decl : Decl) (page : ℕ)
    → list_any (is_private_at page) (decls ++ decl ∷ [])
    ≡ (list_any (is_private_at page) decls || is_private_at page decl)
any-more decls decl page =
    list_any-append (is_private_at page) decls (decl ∷ [])
    ∙ ap (λ (b : Bool). list_any (is_private_at page) decls || b)
    (or-false (is_private_at page decl))
  where
    or-false : (b : Bool) → (b || false) ≡ b
    or-false true = refl
    or-false false = refl

pub zeroed-none : (pages : List (List ℕ)) → zeroed_pages [] pages ≡ pages
unfolding zeroed_pages
zeroed-none pages = each-kept (zeroed_page []) (λ k bytes. refl) 0 pages

private-there : (decls : List Decl) (decl : Decl) → is_private decl.sort ≡ true
    → (bytes : List ℕ)
    → zeroed_page (decls ++ decl ∷ []) decl.gpn.0 bytes ≡ zero_page
private-there decls decl private bytes =
    ap (λ (b : Bool). zeros_if b bytes)
    (any-more decls decl decl.gpn.0
    ∙ ap₂ (λ (sort here : Bool). list_any (is_private_at decl.gpn.0) decls || (sort && here))
    private (eq-eqb decl.gpn.0 decl.gpn.0 refl)
    ∙ or-true (list_any (is_private_at decl.gpn.0) decls))
  where
    or-true : (b : Bool) → (b || true) ≡ true
    or-true true = refl
    or-true false = refl

same-elsewhere : (decls : List Decl) (decl : Decl) (page : ℕ) (bytes : List ℕ)
    → is_private_at page decl ≡ false
    → zeroed_page decls page bytes ≡ zeroed_page (decls ++ decl ∷ []) page bytes
same-elsewhere decls decl page bytes public =
    ap (λ (b : Bool). zeros_if b bytes)
    (sym (any-more decls decl page
    ∙ ap (λ (b : Bool). list_any (is_private_at page) decls || b) public
    ∙ or-false (list_any (is_private_at page) decls)))
  where
    or-false : (b : Bool) → (b || false) ≡ b
    or-false true = refl
    or-false false = refl

and-false : (b : Bool) → (b && false) ≡ false
and-false true = refl
and-false false = refl

zeroed-by : (sort : Bool) (decls : List Decl) (decl : Decl) (pages : List (List ℕ))
    → is_private decl.sort ≡ sort
    → zeroed_if sort decl.gpn.0 (zeroed_pages decls pages)
    ≡ zeroed_pages (decls ++ decl ∷ []) pages
unfolding zeroed_pages
zeroed-by true decls decl pages is =
    each-more (zeroed_page decls) (zeroed_page (decls ++ decl ∷ [])) decl.gpn.0 zero_page pages
    (private-there decls decl is)
    (λ page bytes apart. same-elsewhere decls decl page bytes
    (ap (λ (b : Bool). is_private decl.sort && b)
    (ne_eqb decl.gpn.0 page (λ e. apart (sym e)))
    ∙ and-false (is_private decl.sort)))
zeroed-by false decls decl pages is =
    each-same (zeroed_page decls) (zeroed_page (decls ++ decl ∷ []))
    (λ page bytes. same-elsewhere decls decl page bytes
    (ap (λ (b : Bool). b && (decl.gpn.0 == page)) is)) 0 pages

pub zeroed-more : (decls : List Decl) (decl : Decl) (pages : List (List ℕ))
    → after_decl decl (zeroed_pages decls pages) ≡ zeroed_pages (decls ++ decl ∷ []) pages
zeroed-more decls decl pages = zeroed-by (is_private decl.sort) decls decl pages refl

-- ---- what a row declares

pub zeroed-row : (low : ℕ) (rows : List Row) (next : ℕ) → Ascend low (enclaves rows) next
    → (id : ℕ) (row : Row) → row_of rows id ≡ Some row → (pages : List (List ℕ))
    → zeroed_pages row.judged.decls.items pages ≡ blank_pages (owners rows) id pages
unfolding zeroed_pages blank_pages
zeroed-row low rows next ids id row found pages =
    each-same (zeroed_page row.judged.decls.items) (blank_page (owners rows) id)
    (λ page bytes. ap (λ (b : Bool). zeros_if b bytes)
    (sym (private-row low rows next ids id page row found))) 0 pages

row-owner : (rows : List Row) (id : ℕ) (row : Row) → row_of rows id ≡ Some row
    → Has (owner_of row) (owners rows)
unfolding owners
row-owner rows id row found = has-map owner_of rows row (has-find (has_id id) rows row found)

ordered-owner : (ram : ℕ) (own : List Owner) (owner : Owner) → EachOrdered ram own
    → Has owner own → AreOrdered ram owner.decls.items
ordered-owner ram [] owner ordered has = absurd has
ordered-owner ram (first ∷ rest) owner ordered (inl is) =
    subst (λ (o : Owner). AreOrdered ram o.decls.items) (sym is) ordered.0
ordered-owner ram (first ∷ rest) owner ordered (inr later) =
    ordered-owner ram rest owner ordered.1 later

inside-ram : (ram : ℕ) (decls : List Decl) → GuestPagesDiffer ram decls → (decl : Decl)
    → Has decl decls → decl.gpn.0 < ram
inside-ram ram [] differ decl has = absurd has
inside-ram ram (first ∷ rest) differ decl (inl is) =
    subst (λ (d : Decl). d.gpn.0 < ram) (sym is) differ.0
inside-ram ram (first ∷ rest) differ decl (inr later) = inside-ram ram rest differ.2 decl later

owned-decl : (own : List Owner) (owner : Owner) (decl : Decl) → Has owner own
    → Has decl owner.decls.items → is_owned own decl.gpn.0 ≡ true
unfolding claims
owned-decl own owner decl has declares =
    has-any (is_on decl.gpn.0) (claims own) (claim_by owner.id decl)
    (has-flat_map claims_by own owner (claim_by owner.id decl) has
    (has-map (claim_by owner.id) owner.decls.items decl declares))
    (eq-eqb decl.gpn.0 decl.gpn.0 refl)

all-by : {X : Type 0} (P : X → Type 0) (xs : List X) → ((x : X) → Has x xs → P x) → All P xs
all-by P [] holds = All-nil P
all-by P (x ∷ xs) holds = All-cons P x xs (holds x (inl refl)) (all-by P xs (λ y has. holds y (inr has)))

pub held-row : (ram : ℕ) (rows : List Row) (id : ℕ) (row : Row) → EachOrdered ram (owners rows)
    → row_of rows id ≡ Some row → AreHeld ram (owners rows) row.judged.decls.items
held-row ram rows id row ordered found =
    let has = row-owner rows id row found in
    all-by (IsHeld ram (owners rows)) row.judged.decls.items
    (λ decl declares. record {
      inside = inside-ram ram row.judged.decls.items
          (ordered-owner ram (owners rows) (owner_of row) ordered has).guest decl declares;
      owned = owned-decl (owners rows) (owner_of row) decl has declares;
    })

-- the declarations of a live module of a sound state
pub held-in : (s : State) (id : ℕ) (row : Row) (ram : ℕ) (live : List Owner) (decls : List Decl)
    → EachOrdered (length s.pages) (owners s.rows) → length s.pages ≡ ram → live ≡ owners s.rows
    → row_of s.rows id ≡ Some row → decls ≡ row.judged.decls.items
    → AreHeld ram live decls
held-in s id row ram live decls ordered count own found is =
    subst (λ (n : ℕ). AreHeld n live decls) count
    (subst (λ (os : List Owner). AreHeld (length s.pages) os decls) (sym own)
    (subst (AreHeld (length s.pages) (owners s.rows)) (sym is)
    (held-row (length s.pages) s.rows id row ordered found)))

pub held-by : (ram others : ℕ) (live owners : List Owner) (decl : Decl) → ram ≡ others
    → live ≡ owners → IsHeld others owners decl → IsHeld ram live decl
held-by ram others live owners decl same own held =
    subst (λ (n : ℕ). IsHeld n live decl) (sym same)
    (subst (λ (os : List Owner). IsHeld others os decl) (sym own) held)

-- ---- the whole

pub blank-running : (m : ℕ) (s : State) → list_any (runs m) s.harts ≡ true → blank m s ≡ s
unfolding blank
blank-running m s run =
    ap (λ (b : Bool). blank_if (is_live (owners s.rows) m && not b) m s) run
    ∙ ap (λ (b : Bool). blank_if b m s) (and-false (is_live (owners s.rows) m))

pub blank-missing : (m : ℕ) (s : State) → row_of s.rows m ≡ None → blank m s ≡ s
blank-missing m s none = blank-dead m s (is_live-row_of m s.rows ∙ ap is_some none)

pub rests-unless : (m : ℕ) (s : State) → list_any (runs m) s.harts ≡ false → rests m s ≡ true
rests-unless m s run = ap not run

pub blank-parts : (m : ℕ) (s : State) (pages : List (List ℕ)) → rests m s ≡ true
    → pages ≡ blank_pages (owners s.rows) m s.pages
    → record s { pages = pages; rows = with_row m blank_row s.rows } ≡ blank m s
blank-parts m s pages rest is =
    ap (λ (ps : List (List ℕ)). let t : State = record s {
      pages = ps;
      rows = with_row m blank_row s.rows;
    } in t) is
    ∙ sym (blank-rests m s rest)
