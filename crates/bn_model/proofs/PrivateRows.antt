-- The private pages of a module, by its row.
use Rattle.std.proofs.Common.{◌≡◌, ℕ, ◌<◌, ◌≤◌, ◌==◌, ◌&&◌, ◌||◌, Bool, true, false, cond, List, []}
use Rattle.std.proofs.Common.{◌∷◌, map, Option, Some, refl, ap, ap₂, ◌∙◌, arith}
use Rattle.std.proofs.Common.{eqb-true, eq-eqb}
use Rattle.std.proofs.lemmas.Bool.{both_ways, false_from_ne_true}
use Rattle.std.proofs.lemmas.Option.{none-some}
use Rattle.std.specs.List.{list_any}
use Rattle.bn_types.specs.declared.decl.Decl.{Decl}
use Rattle.bn_types.specs.declared.mod_id.ModId.{ModId}
use Rattle.bn_types.specs.declared.row.Row.{Row}
use Rattle.bn_model.specs.declared.owner.Owner.{Owner}
use Rattle.bn_model.specs.Owners.{claim_by, is_private, is_private_at, is_private_of}
use Rattle.bn_model.specs.Owners.{is_private_page}
use Rattle.bn_model.specs.Rows.{enclaves, has_id, owner_of, owners, row_of}
use Rattle.bn_model.specs.Soundness.{Ascend}
use Rattle.bn_model.proofs.ClaimLemmas.{is_private_for, private-for, private-pages}

or-false : (b : Bool) → (b || false) ≡ b
or-false true = refl
or-false false = refl

own-declarations : (id page : ℕ) (owner : ModId) (decls : List Decl) → owner.0 ≡ id
    → list_any (is_private_of id page) (map (claim_by owner) decls)
    ≡ list_any (is_private_at page) decls
own-declarations id page owner [] is = refl
own-declarations id page owner (decl ∷ decls) is =
    ap₂ (λ (mine rest : Bool). (mine && is_private decl.sort && (decl.gpn.0 == page)) || rest)
    (eq-eqb owner.0 id is) (own-declarations id page owner decls is)

own-pages : (id page : ℕ) (row : Row) → row.id.0 ≡ id
    → is_private_for id page (owner_of row) ≡ list_any (is_private_at page) row.judged.decls.items
unfolding is_private_for
own-pages id page row is = own-declarations id page row.id row.judged.decls.items is

others-pages : (id page : ℕ) (owner : Owner) → (owner.id.0 ≡ id → ⊥)
    → is_private_for id page owner ≡ false
others-pages id page owner apart =
    false_from_ne_true (is_private_for id page owner)
    (λ e. apart (private-for id page owner e))

none-later : (id page from : ℕ) (rows : List Row) (next : ℕ) → Ascend from (enclaves rows) next
    → id ≤ from → list_any (is_private_for id page) (owners rows) ≡ false
unfolding enclaves owners
none-later id page from [] next ids below = refl
none-later id page from (row ∷ rows) next ids below =
    let above : from < row.id.0 = ids.0 in
    ap₂ (λ (here later : Bool). here || later)
    (others-pages id page (owner_of row) (λ is. omega arith))
    (none-later id page row.id.0 rows next ids.2 (omega arith))

by-row : (id page low : ℕ) (rows : List Row) (next : ℕ) → Ascend low (enclaves rows) next
    → (row : Row) → row_of rows id ≡ Some row
    → list_any (is_private_for id page) (owners rows)
    ≡ list_any (is_private_at page) row.judged.decls.items
unfolding enclaves owners
by-row id page low [] next ids row found = absurd (none-some row found)
by-row id page low (first ∷ rest) next ids row found =
    by_test (has_id id first) refl found (λ deeper. by-row id page first.id.0 rest next ids.2 row deeper)
  where
    by_test : (b : Bool) → has_id id first ≡ b → cond b (Some first) (row_of rest id) ≡ Some row
        → (row_of rest id ≡ Some row → list_any (is_private_for id page) (owners rest)
        ≡ list_any (is_private_at page) row.judged.decls.items)
        → list_any (is_private_for id page) (owners (first ∷ rest))
        ≡ list_any (is_private_at page) row.judged.decls.items
    by_test true is e deeper =
        let id_is : first.id.0 ≡ id = eqb-true first.id.0 id is in
        ap₂ (λ (here later : Bool). here || later) (own-pages id page first id_is)
        (none-later id page first.id.0 rest next ids.2 (omega arith))
        ∙ or-false (list_any (is_private_at page) first.judged.decls.items)
        ∙ ap (λ (r : Row). list_any (is_private_at page) r.judged.decls.items) (same first row e)
      where
        same : (one other : Row) → ◌≡◌ {A = Option Row} (Some one) (Some other) → one ≡ other
        same one other equal = cc
    by_test false is e deeper =
        ap (λ (here : Bool). here || list_any (is_private_for id page) (owners rest))
        (others-pages id page (owner_of first)
        (λ id_is. both_ways (has_id id first) is (eq-eqb first.id.0 id id_is)))
        ∙ deeper e

-- the private pages of a module are those that its row declares so
pub private-row : (low : ℕ) (rows : List Row) (next : ℕ) → Ascend low (enclaves rows) next
    → (id page : ℕ) (row : Row) → row_of rows id ≡ Some row
    → is_private_page (owners rows) id page ≡ list_any (is_private_at page) row.judged.decls.items
private-row low rows next ids id page row found =
    private-pages (owners rows) id page ∙ by-row id page low rows next ids row found
