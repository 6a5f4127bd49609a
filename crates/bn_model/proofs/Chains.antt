-- Which rows go with a module that is evicted.
use Rattle.std.proofs.Common.{◌≡◌, ℕ, zero, suc, ◌<◌, ◌≤◌, ◌⊎◌, Bool, true, false, cond, not, List}
use Rattle.std.proofs.Common.{[], ◌∷◌, filter, find, length, Option, Some, None, inl, inr, refl}
use Rattle.std.proofs.Common.{sym, ap, ◌∙◌, arith, eqb-true, ne_eqb}
use Rattle.std.proofs.lemmas.Bool.{or_cases, or_left, or_right}
use Rattle.std.proofs.lemmas.Option.{none-some}
use Rattle.bn_types.specs.declared.row.Row.{Row}
use Rattle.bn_model.specs.Evicting.{chain, chain_from, is_among, is_other, rows_without}
use Rattle.bn_model.specs.Rows.{has_id, row_of}
use Rattle.bn_model.specs.Soundness.{caller_at, caller_if_some}
use Rattle.bn_model.proofs.RowLemmas.{row_of-id}
use Rattle.bn_model.proofs.Switches.{by_same}
use Rattle.bn_model.proofs.TestLemmas.{find-filter, find-passes}

-- ---- the rows without one

none-thinned : {X : Type 0} (p : X → Bool) (b : Bool) (y : X) (rest : List X) → p y ≡ b
    → find p rest ≡ None
    → find p (cond (not b) (y ∷ rest) rest) ≡ None
none-thinned p true y rest e none = none
none-thinned p false y rest e none = ap (λ (c : Bool). cond c (Some y) (find p rest)) e ∙ none

-- nothing passes a test that all that pass it were taken out by
find-thinned : {X : Type 0} (p : X → Bool) (xs : List X)
    → find p (filter (λ x. not (p x)) xs) ≡ None
find-thinned p [] = refl
find-thinned p (x ∷ xs) =
    none-thinned p (p x) x (filter (λ y. not (p y)) xs) refl (find-thinned p xs)

fewer : {X : Type 0} (b : Bool) (y x : X) (rest others : List X) (found : Option X)
    → length rest ≤ length others
    → (found ≡ Some x → length rest < length others) → cond b (Some y) found ≡ Some x
    → length (cond (not b) (y ∷ rest) rest) < length (y ∷ others)
fewer true y x rest others found most deeper e = omega (arith, most)
fewer false y x rest others found most deeper e = omega (arith, deeper e)

thinned-step : {X : Type 0} (b : Bool) (y : X) (rest others : List X) → length rest ≤ length others
    → length (cond b (y ∷ rest) rest) ≤ length (y ∷ others)
thinned-step true y rest others most = omega (arith, most)
thinned-step false y rest others most = omega (arith, most)

pub length-thinned : {X : Type 0} (q : X → Bool) (xs : List X) → length (filter q xs) ≤ length xs
length-thinned q [] = omega arith
length-thinned q (x ∷ xs) = thinned-step (q x) x (filter q xs) xs (length-thinned q xs)

found-fewer : {X : Type 0} (p : X → Bool) (xs : List X) (x : X) → find p xs ≡ Some x
    → length (filter (λ y. not (p y)) xs) < length xs
found-fewer p [] x e = absurd (none-some x e)
found-fewer p (y ∷ ys) x e =
    fewer (p y) y x (filter (λ z. not (p z)) ys) ys (find p ys) (length-thinned (λ z. not (p z)) ys)
    (found-fewer p ys x) e

without-same : (id : ℕ) (rows : List Row) → row_of (rows_without id rows) id ≡ None
without-same id rows = find-thinned (has_id id) rows

without-other : (id i : ℕ) (rows : List Row) → (i ≡ id → ⊥)
    → row_of (rows_without id rows) i ≡ row_of rows i
without-other id i rows other =
    find-filter (has_id i) (is_other id)
    (λ row e. ap not (ne_eqb row.id.0 id (λ is. other (sym (eqb-true row.id.0 i e) ∙ is)))) rows

without-none : (id i : ℕ) (rows : List Row) → row_of rows i ≡ None
    → row_of (rows_without id rows) i ≡ None
without-none id i rows none =
    by_same i id (λ is. ap (row_of (rows_without id rows)) is ∙ without-same id rows)
    (λ other. without-other id i rows other ∙ none)

fewer-without : (id n : ℕ) (rows : List Row) (row : Row) → row_of rows id ≡ Some row
    → length rows ≤ suc n → length (rows_without id rows) ≤ n
fewer-without id n rows row e most =
    let less = found-fewer (has_id id) rows row e in omega (arith, most, less)

-- ---- the chain

no-row : {row : Row} (o : Option Row) → o ≡ None → o ≡ Some row → ⊥
no-row {row} o none some = none-some row (sym none ∙ some)

row_before : (rows : List Row) (id : ℕ) (row : Row) (i : ℕ) → row_of rows id ≡ Some row
    → has_id i row ≡ true → i ≡ id
row_before rows id row i e is = sym (eqb-true row.id.0 i is) ∙ row_of-id rows id row e

first-among : (rows : List Row) (id : ℕ) (row : Row) (gone : List Row) → row_of rows id ≡ Some row
    → is_among (row ∷ gone) id ≡ true
first-among rows id row gone e =
    or_left (has_id id row) (is_among gone id) (find-passes (has_id id) rows row e)

chain-in-step : (go : ℕ → List Row) (rows : List Row) (id i : ℕ)
    → ((c : ℕ) → is_among (go c) i ≡ true → row_of (rows_without id rows) i ≡ None → ⊥)
    → (o : Option Row) → row_of rows id ≡ o → is_among (chain_from go o) i ≡ true
    → row_of rows i ≡ None → ⊥
chain-in-step go rows id i deeper None e among none = cc
chain-in-step go rows id i deeper (Some row) e among none =
    by_part (or_cases (has_id i row) (is_among (go row.caller.0) i) among)
  where
    by_part : (has_id i row ≡ true) ⊎ (is_among (go row.caller.0) i ≡ true) → ⊥
    by_part (inl is) = no-row (row_of rows i) none
        (ap (row_of rows) (row_before rows id row i e is) ∙ e)
    by_part (inr later) = deeper row.caller.0 later (without-none id i rows none)

-- whoever is in it has a row
pub chain-in : (n : ℕ) (rows : List Row) (id i : ℕ) → is_among (chain n rows id) i ≡ true
    → row_of rows i ≡ None → ⊥
unfolding chain
chain-in zero rows id i among none = cc
chain-in (suc n) rows id i among none =
    chain-in-step (chain n (rows_without id rows)) rows id i
    (λ c. chain-in n (rows_without id rows) c i) (row_of rows id) refl among none

-- whoever is in a chain of the rows without one is another
chain-apart : (n : ℕ) (rows : List Row) (id c i : ℕ)
    → is_among (chain n (rows_without id rows) c) i ≡ true → i ≡ id → ⊥
chain-apart n rows id c i among is =
    chain-in n (rows_without id rows) c i among
    (ap (row_of (rows_without id rows)) is ∙ without-same id rows)

caller-without : (id i : ℕ) (rows : List Row) → (i ≡ id → ⊥)
    → caller_at (rows_without id rows) i ≡ caller_at rows i
caller-without id i rows other = ap caller_if_some (without-other id i rows other)

chain-first : (n : ℕ) (rows : List Row) (id : ℕ) (row : Row) → length rows ≤ n
    → row_of rows id ≡ Some row → is_among (chain n rows id) id ≡ true
unfolding chain
chain-first zero [] id row most e = absurd (none-some row e)
chain-first zero (first ∷ rest) id row most e = absurd (omega arith)
chain-first (suc n) rows id row most e =
    ap (λ (o : Option Row). is_among (chain_from (chain n (rows_without id rows)) o) id) e
    ∙ first-among rows id row (chain n (rows_without id rows) row.caller.0) e

-- ---- with a row goes its caller

up-step : (n : ℕ) (rows : List Row) (id i c : ℕ) → length rows ≤ suc n
    → ((k : ℕ) → length (rows_without id rows) ≤ n
    → is_among (chain n (rows_without id rows) k) i ≡ true → caller_at (rows_without id rows) i ≡ c
    → (is_among (chain n (rows_without id rows) k) c ≡ true) ⊎
    (row_of (rows_without id rows) c ≡ None))
    → (o : Option Row) → row_of rows id ≡ o
    → is_among (chain_from (chain n (rows_without id rows)) o) i ≡ true → caller_at rows i ≡ c
    → (is_among (chain_from (chain n (rows_without id rows)) o) c ≡ true) ⊎ (row_of rows c ≡ None)
up-step n rows id i c most deeper None e among calls = absurd cc
up-step n rows id i c most deeper (Some row) e among calls =
    by_part (or_cases (has_id i row) (is_among (gone row.caller.0) i) among)
  where
    gone : ℕ → List Row
    gone k = chain n (rows_without id rows) k

    fits : length (rows_without id rows) ≤ n
    fits = fewer-without id n rows row e most

    -- the first row, or one that isn't there any more
    ended : row_of (rows_without id rows) c ≡ None
        → (is_among (row ∷ gone row.caller.0) c ≡ true) ⊎ (row_of rows c ≡ None)
    ended none =
        by_same c id
        (λ is. inl (ap (is_among (row ∷ gone row.caller.0)) is
        ∙ first-among rows id row (gone row.caller.0) e))
        (λ other. inr (sym (without-other id c rows other) ∙ none))

    by_caller : c ≡ row.caller.0 → (o : Option Row) → row_of (rows_without id rows) c ≡ o
        → (is_among (row ∷ gone row.caller.0) c ≡ true) ⊎ (row_of rows c ≡ None)
    by_caller is None none = ended none
    by_caller is (Some other) found =
        inl (or_right (has_id c row) (is_among (gone row.caller.0) c)
        (ap (λ (k : ℕ). is_among (gone k) c) (sym is)
        ∙ chain-first n (rows_without id rows) c other fits found))

    by_rest : (is_among (gone row.caller.0) c ≡ true) ⊎ (row_of (rows_without id rows) c ≡ None)
        → (is_among (row ∷ gone row.caller.0) c ≡ true) ⊎ (row_of rows c ≡ None)
    by_rest (inl there) = inl (or_right (has_id c row) (is_among (gone row.caller.0) c) there)
    by_rest (inr none) = ended none

    by_part : (has_id i row ≡ true) ⊎ (is_among (gone row.caller.0) i ≡ true)
        → (is_among (row ∷ gone row.caller.0) c ≡ true) ⊎ (row_of rows c ≡ None)
    by_part (inl is) =
        by_caller (sym calls
        ∙ ap caller_if_some (ap (row_of rows) (row_before rows id row i e is) ∙ e))
        (row_of (rows_without id rows) c) refl
    by_part (inr later) =
        by_rest (deeper row.caller.0 fits later
        (caller-without id i rows (chain-apart n rows id row.caller.0 i later) ∙ calls))

pub chain-up : (n : ℕ) (rows : List Row) (id i c : ℕ) → length rows ≤ n
    → is_among (chain n rows id) i ≡ true → caller_at rows i ≡ c
    → (is_among (chain n rows id) c ≡ true) ⊎ (row_of rows c ≡ None)
unfolding chain
chain-up zero rows id i c most among calls = absurd cc
chain-up (suc n) rows id i c most among calls =
    up-step n rows id i c most (λ k fits. chain-up n (rows_without id rows) k i c fits)
    (row_of rows id) refl among calls

-- ---- whoever goes is the first, or called one that goes

down-step : (n : ℕ) (rows : List Row) (id i : ℕ)
    → ((k : ℕ) → is_among (chain n (rows_without id rows) k) i ≡ true
    → (i ≡ k) ⊎ ((j : ℕ) × (is_among (chain n (rows_without id rows) k) j ≡ true) ×
    (caller_at (rows_without id rows) j ≡ i)))
    → (o : Option Row) → row_of rows id ≡ o
    → is_among (chain_from (chain n (rows_without id rows)) o) i ≡ true
    → (i ≡ id) ⊎ ((j : ℕ) × (is_among (chain_from (chain n (rows_without id rows)) o) j ≡ true) ×
    (caller_at rows j ≡ i))
down-step n rows id i deeper None e among = absurd cc
down-step n rows id i deeper (Some row) e among =
    by_part (or_cases (has_id i row) (is_among (gone row.caller.0) i) among)
  where
    gone : ℕ → List Row
    gone k = chain n (rows_without id rows) k

    by_rest : (i ≡ row.caller.0) ⊎
        ((j : ℕ) × (is_among (gone row.caller.0) j ≡ true) ×
        (caller_at (rows_without id rows) j ≡ i))
        → (i ≡ id) ⊎ ((j : ℕ) × (is_among (row ∷ gone row.caller.0) j ≡ true) ×
        (caller_at rows j ≡ i))
    by_rest (inl is) =
        inr (id, first-among rows id row (gone row.caller.0) e, ap caller_if_some e ∙ sym is)
    by_rest (inr found) =
        inr (
          found.0,
          or_right (has_id found.0 row) (is_among (gone row.caller.0) found.0) found.1,
          sym (caller-without id found.0 rows (chain-apart n rows id row.caller.0 found.0 found.1))
              ∙ found.2,
        )

    by_part : (has_id i row ≡ true) ⊎ (is_among (gone row.caller.0) i ≡ true)
        → (i ≡ id) ⊎ ((j : ℕ) × (is_among (row ∷ gone row.caller.0) j ≡ true) ×
        (caller_at rows j ≡ i))
    by_part (inl is) = inl (row_before rows id row i e is)
    by_part (inr later) = by_rest (deeper row.caller.0 later)

pub chain-down : (n : ℕ) (rows : List Row) (id i : ℕ) → is_among (chain n rows id) i ≡ true
    → (i ≡ id) ⊎ ((j : ℕ) × (is_among (chain n rows id) j ≡ true) × (caller_at rows j ≡ i))
unfolding chain
chain-down zero rows id i among = absurd cc
chain-down (suc n) rows id i among =
    down-step n rows id i (λ k. chain-down n (rows_without id rows) k i) (row_of rows id) refl among
