-- What a change of one row leaves of all rows.
use Rattle.std.proofs.Common.{◌≡◌, ℕ, ◌==◌, ◌||◌, Bool, true, false, cond, List, [], ◌∷◌, ◌++◌}
use Rattle.std.proofs.Common.{length, map, Option, Some, None, is_some, option_map, refl, sym, ap}
use Rattle.std.proofs.Common.{ap₂, ◌∙◌, eqb-true, ne_eqb}
use Rattle.std.proofs.lemmas.Bool.{or_parts}
use Rattle.std.proofs.lemmas.List.{length-map, map-append}
use Rattle.bn_types.specs.declared.mod_id.ModId.{ModId}
use Rattle.bn_types.specs.declared.row.Row.{Row}
use Rattle.bn_model.specs.declared.owner.Owner.{Owner}
use Rattle.bn_model.specs.Owners.{is_live}
use Rattle.bn_model.specs.Rows.{Enclave, enclave_of, enclaves, owner_of, owners, has_id, row_of}
use Rattle.bn_model.specs.Rows.{change_if, change_at, with_row}
use Rattle.bn_model.proofs.TestLemmas.{find-map, find-passes}

-- a change that leaves what never changes of a row
pub record Keeps (change : Row → Row) : Type 0 where
  pub same : (row : Row) → enclave_of (change row) ≡ enclave_of row

pub id-kept : (change : Row → Row) → Keeps change → (row : Row) → (change row).id ≡ row.id
id-kept change keeps row = ap (λ (enclave : Enclave). enclave.id) (keeps.same row)

has_id-kept : (change : Row → Row) → Keeps change → (id : ℕ) (row : Row)
    → has_id id (change row) ≡ has_id id row
has_id-kept change keeps id row = ap (λ (m : ModId). m.0 == id) (id-kept change keeps row)

enclave-if : (b : Bool) (change : Row → Row) → Keeps change → (row : Row)
    → enclave_of (change_if b change row) ≡ enclave_of row
enclave-if true change keeps row = keeps.same row
enclave-if false change keeps row = refl

pub keeps-at : (id : ℕ) (change : Row → Row) → Keeps change → Keeps (change_at id change)
keeps-at id change keeps = record { same = λ row. enclave-if (has_id id row) change keeps row }

-- ---- all rows

enclaves-map : (change : Row → Row) → Keeps change → (rows : List Row)
    → enclaves (map change rows) ≡ enclaves rows
unfolding enclaves
enclaves-map change keeps [] = refl
enclaves-map change keeps (row ∷ rows) =
    ap₂ (λ (e : Enclave) (es : List Enclave). e ∷ es) (keeps.same row)
    (enclaves-map change keeps rows)

pub enclaves-with_row : (id : ℕ) (change : Row → Row) → Keeps change → (rows : List Row)
    → enclaves (with_row id change rows) ≡ enclaves rows
unfolding with_row
enclaves-with_row id change keeps rows =
    enclaves-map (change_at id change) (keeps-at id change keeps) rows

-- what admission needs of a row is a part of what never changes
abbrev pub owner_by : Enclave → Owner
owner_by enclave = record { id = enclave.id; decls = enclave.judged.decls }

pub owners-enclaves : (rows : List Row) → owners rows ≡ map owner_by (enclaves rows)
unfolding owners enclaves
owners-enclaves [] = refl
owners-enclaves (row ∷ rows) = ap (λ (os : List Owner). owner_of row ∷ os) (owners-enclaves rows)

pub owners-with_row : (id : ℕ) (change : Row → Row) → Keeps change → (rows : List Row)
    → owners (with_row id change rows) ≡ owners rows
owners-with_row id change keeps rows =
    owners-enclaves (with_row id change rows)
    ∙ ap (map owner_by) (enclaves-with_row id change keeps rows)
    ∙ sym (owners-enclaves rows)

pub length-with_row : (id : ℕ) (change : Row → Row) (rows : List Row)
    → length (with_row id change rows) ≡ length rows
unfolding with_row
length-with_row id change rows = length-map rows (change_at id change)

pub with_row-append : (id : ℕ) (change : Row → Row) (rows others : List Row)
    → with_row id change (rows ++ others) ≡ with_row id change rows ++ with_row id change others
unfolding with_row
with_row-append id change rows others = map-append (change_at id change) rows others

-- ---- a row by its id

pub row_of-with_row : (id : ℕ) (change : Row → Row) → Keeps change → (i : ℕ) (rows : List Row)
    → row_of (with_row id change rows) i ≡ option_map (change_at id change) (row_of rows i)
unfolding with_row
row_of-with_row id change keeps i rows =
    find-map (has_id i) (has_id i) (change_at id change)
    (has_id-kept (change_at id change) (keeps-at id change keeps) i) rows

-- the row that is found has the id
pub row_of-id : (rows : List Row) (id : ℕ) (row : Row) → row_of rows id ≡ Some row → row.id.0 ≡ id
row_of-id rows id row e = eqb-true row.id.0 id (find-passes (has_id id) rows row e)

-- the row that is changed
pub row_of-same : (id : ℕ) (change : Row → Row) → Keeps change → (rows : List Row)
    → row_of (with_row id change rows) id ≡ option_map change (row_of rows id)
row_of-same id change keeps rows = row_of-with_row id change keeps id rows
    ∙ by_row (row_of rows id) refl
  where
    by_row : (found : Option Row) → row_of rows id ≡ found
        → option_map (change_at id change) found ≡ option_map change found
    by_row None e = refl
    by_row (Some row) e =
        ap (λ (b : Bool). Some (change_if b change row)) (find-passes (has_id id) rows row e)

-- another row
pub row_of-other : (id : ℕ) (change : Row → Row) → Keeps change → (i : ℕ) (rows : List Row)
    → (i ≡ id → ⊥)
    → row_of (with_row id change rows) i ≡ row_of rows i
row_of-other id change keeps i rows other = row_of-with_row id change keeps i rows
    ∙ by_row (row_of rows i) refl
  where
    by_row : (found : Option Row) → row_of rows i ≡ found
        → option_map (change_at id change) found ≡ found
    by_row None e = refl
    by_row (Some row) e =
        ap (λ (b : Bool). Some (change_if b change row))
        (ne_eqb row.id.0 id (λ (is : row.id.0 ≡ id). other (sym (row_of-id rows i row e) ∙ is)))

-- what a look-up tells is the same, where it is the same of the changed row
pub seen-same : {A : Type 0} (F : Option Row → A) (id : ℕ) (change : Row → Row) → Keeps change
    → ((row : Row) → F (Some (change row)) ≡ F (Some row)) → (i : ℕ) (rows : List Row)
    → F (row_of (with_row id change rows) i) ≡ F (row_of rows i)
seen-same F id change keeps same i rows =
    ap F (row_of-with_row id change keeps i rows) ∙ by_row (row_of rows i)
  where
    by_test : (b : Bool) (row : Row) → F (Some (change_if b change row)) ≡ F (Some row)
    by_test true row = same row
    by_test false row = refl

    by_row : (found : Option Row) → F (option_map (change_at id change) found) ≡ F found
    by_row None = refl
    by_row (Some row) = by_test (has_id id row) row

-- a module is live where it has a row
pub is_live-row_of : (id : ℕ) (rows : List Row)
    → is_live (owners rows) id ≡ is_some (row_of rows id)
unfolding owners
is_live-row_of id [] = refl
is_live-row_of id (row ∷ rows) = by_test (has_id id row) (is_live-row_of id rows)
  where
    by_test : (b : Bool) → is_live (owners rows) id ≡ is_some (row_of rows id)
        → (b || is_live (owners rows) id) ≡ is_some (cond b (Some row) (row_of rows id))
    by_test true e = refl
    by_test false e = e

-- no row is changed where the module isn't live
pub with_row-dead : (id : ℕ) (change : Row → Row) (rows : List Row)
    → is_live (owners rows) id ≡ false → with_row id change rows ≡ rows
unfolding with_row owners
with_row-dead id change [] dead = refl
with_row-dead id change (row ∷ rows) dead =
    let parts = or_parts (has_id id row) (is_live (owners rows) id) dead in
    ap₂ (λ (r : Row) (rs : List Row). r ∷ rs) (ap (λ (b : Bool). change_if b change row) parts.0)
    (with_row-dead id change rows parts.1)

-- ---- two changes

changes-comm : (b c : Bool) (f g : Row → Row) (row : Row) → (b ≡ true → c ≡ true → ⊥)
    → change_if b f (change_if c g row) ≡ change_if c g (change_if b f row)
changes-comm true true f g row apart = absurd (apart refl refl)
changes-comm true false f g row apart = refl
changes-comm false c f g row apart = refl

at-comm : (i j : ℕ) (f g : Row → Row) → Keeps f → Keeps g → (i ≡ j → ⊥) → (row : Row)
    → change_at i f (change_at j g row) ≡ change_at j g (change_at i f row)
at-comm i j f g keeps_f keeps_g apart row =
    ap (λ (b : Bool). change_if b f (change_at j g row))
    (has_id-kept (change_at j g) (keeps-at j g keeps_g) i row)
    ∙ changes-comm (has_id i row) (has_id j row) f g row
    (λ e d. apart (sym (eqb-true row.id.0 i e) ∙ eqb-true row.id.0 j d))
    ∙ sym (ap (λ (b : Bool). change_if b g (change_at i f row))
    (has_id-kept (change_at i f) (keeps-at i f keeps_f) j row))

-- changes of two rows, in any order
pub with_row-comm : (i j : ℕ) (f g : Row → Row) → Keeps f → Keeps g → (i ≡ j → ⊥)
    → (rows : List Row)
    → with_row i f (with_row j g rows) ≡ with_row j g (with_row i f rows)
unfolding with_row
with_row-comm i j f g keeps_f keeps_g apart [] = refl
with_row-comm i j f g keeps_f keeps_g apart (row ∷ rows) =
    ap₂ (λ (r : Row) (rs : List Row). r ∷ rs) (at-comm i j f g keeps_f keeps_g apart row)
    (with_row-comm i j f g keeps_f keeps_g apart rows)

at-twice : (id : ℕ) (f g : Row → Row) → Keeps g → (row : Row)
    → change_at id f (change_at id g row) ≡ change_at id (λ r. f (g r)) row
at-twice id f g keeps row =
    ap (λ (b : Bool). change_if b f (change_at id g row))
    (has_id-kept (change_at id g) (keeps-at id g keeps) id row)
    ∙ by_test (has_id id row)
  where
    by_test : (b : Bool) → change_if b f (change_if b g row) ≡ change_if b (λ r. f (g r)) row
    by_test true = refl
    by_test false = refl

-- two changes of one row
pub with_row-twice : (id : ℕ) (f g : Row → Row) → Keeps g → (rows : List Row)
    → with_row id f (with_row id g rows) ≡ with_row id (λ r. f (g r)) rows
unfolding with_row
with_row-twice id f g keeps [] = refl
with_row-twice id f g keeps (row ∷ rows) =
    ap₂ (λ (r : Row) (rs : List Row). r ∷ rs) (at-twice id f g keeps row)
    (with_row-twice id f g keeps rows)

pub with_row-same : (id : ℕ) (f g : Row → Row) → ((row : Row) → f row ≡ g row) → (rows : List Row)
    → with_row id f rows ≡ with_row id g rows
unfolding with_row
with_row-same id f g same [] = refl
with_row-same id f g same (row ∷ rows) =
    ap₂ (λ (r : Row) (rs : List Row). r ∷ rs) (by_test (has_id id row))
    (with_row-same id f g same rows)
  where
    by_test : (b : Bool) → change_if b f row ≡ change_if b g row
    by_test true = same row
    by_test false = refl
