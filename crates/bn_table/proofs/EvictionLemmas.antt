-- Rows that go with a module: how they are found one after another, and what they leave.
use Rattle.std.proofs.Common.{◌≡◌, ℕ, zero, suc, ◌+◌, ◌<◌, ◌≤◌, ◌==◌, ◌&&◌, ◌||◌, ◌⊎◌, Bool}
use Rattle.std.proofs.Common.{true, false, not, cond, List, [], ◌∷◌, ◌++◌, length, take, drop}
use Rattle.std.proofs.Common.{get_or, filter, Option, Some, None, inl, inr, refl, sym, ap}
use Rattle.std.proofs.Common.{subst, ◌∙◌, arith, eqb-true, ne_eqb, append_assoc}
use Rattle.std.specs.List.{position, position_or_len}
use Rattle.std.specs.Prelude.{nat_lt}
use Rattle.std.proofs.lemmas.Bool.{both_ways, cases_Bool, eqb-false, ltb-false}
use Rattle.std.proofs.lemmas.Bool.Decides.{nat_tests}
use Rattle.std.proofs.lemmas.List.{append-nil}
use Rattle.std.proofs.lemmas.List.Folds.{find_at, list_any-append}
use Rattle.std.proofs.lemmas.List.Quantifiers.{position-Some}
use Rattle.std.proofs.lemmas.Option.{slice_get_past}
use Rattle.bn_types.specs.declared.mod_id.ModId.{ModId}
use Rattle.bn_types.specs.declared.reg.Reg.{Reg}
use Rattle.bn_types.specs.declared.row.Row.{Row}
use Rattle.bn_types.specs.declared.row_state.RowState.{RowState}
use Rattle.bn_types.specs.declared.row_state.RowState.TheVariants.{Idle, Running, Waiting, Stopped}
use Rattle.bn_model.specs.Deciding.{decision_by_state, decision_of_evict}
use Rattle.bn_model.specs.Decision.{Evict}
use Rattle.bn_model.specs.Evicting.{chain, chain_from, evicted_rows, is_among, is_other, rows_left}
use Rattle.bn_model.specs.Evicting.{rows_without, stays}
use Rattle.bn_model.specs.Rows.{enclaves, has_id, row_of}
use Rattle.bn_model.specs.Soundness.{Ascend, caller_at, caller_if_some, state_at, state_if_some}
use Rattle.bn_model.proofs.Chains.{chain-down, length-thinned}
use Rattle.bn_model.proofs.RestingLemmas.{left-row}
use Rattle.bn_model.proofs.RowLemmas.{row_of-id}
use Rattle.bn_model.proofs.StatesKept.{row_of-gone}
use Rattle.bn_table.specs.Evictions.{AreApart, Differ, decision_if_refused}
use Rattle.bn_table.specs.Tables.{IsTable, Tabled}

-- ---- ids that differ

differ-above : (id low : ℕ) (rows : List Row) (next : ℕ) → id ≤ low
    → Ascend low (enclaves rows) next → Differ id rows
unfolding enclaves
differ-above id low [] next below ids = tt
differ-above id low (row ∷ rows) next below ids =
    let above : low < row.id.0 = ids.0 in
    (λ is. absurd (omega arith), differ-above id row.id.0 rows next (omega arith) ids.2)

apart-ascend : (low : ℕ) (rows : List Row) (next : ℕ) → Ascend low (enclaves rows) next
    → AreApart rows
unfolding enclaves
apart-ascend low [] next ids = tt
apart-ascend low (row ∷ rows) next ids = (
  differ-above row.id.0 row.id.0 rows next (omega arith) ids.2,
  apart-ascend row.id.0 rows next ids.2,
)

pub table-apart : (m : Tabled) → IsTable m → AreApart m.rows
table-apart m table = apart-ascend zero m.rows m.next table.ascend

differ-if : (b : Bool) (id : ℕ) (row : Row) (rows : List Row) → (row.id.0 ≡ id → ⊥)
    → Differ id rows → Differ id (cond b (row ∷ rows) rows)
differ-if true id row rows other rest = (other, rest)
differ-if false id row rows other rest = rest

differ-filter : (p : Row → Bool) (id : ℕ) (rows : List Row) → Differ id rows
    → Differ id (filter p rows)
differ-filter p id [] h = tt
differ-filter p id (row ∷ rows) h =
    differ-if (p row) id row (filter p rows) h.0 (differ-filter p id rows h.1)

apart-if : (b : Bool) (row : Row) (rows : List Row) → Differ row.id.0 rows → AreApart rows
    → AreApart (cond b (row ∷ rows) rows)
apart-if true row rows differ rest = (differ, rest)
apart-if false row rows differ rest = rest

apart-filter : (p : Row → Bool) (rows : List Row) → AreApart rows → AreApart (filter p rows)
apart-filter p [] h = tt
apart-filter p (row ∷ rows) h =
    apart-if (p row) row (filter p rows) (differ-filter p row.id.0 rows h.0)
    (apart-filter p rows h.1)

pub apart-without : (id : ℕ) (rows now : List Row) → now ≡ rows_without id rows → AreApart rows
    → AreApart now
apart-without id rows now e h = subst AreApart (sym e) (apart-filter (is_other id) rows h)

-- ---- the row of an id is taken out

without-differ : (id : ℕ) (rows : List Row) → Differ id rows → rows_without id rows ≡ rows
without-differ id [] h = refl
without-differ id (row ∷ rows) h =
    ap (λ (b : Bool). cond (not b) (row ∷ rows_without id rows) (rows_without id rows))
    (ne_eqb row.id.0 id h.0)
    ∙ ap (λ (rest : List Row). row ∷ rest) (without-differ id rows h.1)

taken-at : (id i : ℕ) (rows : List Row) (d : Row) → AreApart rows → i < length rows
    → has_id id (get_or rows i d) ≡ true
    → ((k : ℕ) → k < i → has_id id (get_or rows k d) ≡ false)
    → take i rows ++ drop (suc i) rows ≡ rows_without id rows
taken-at id i [] d apart inside here before = absurd (omega arith)
taken-at id zero (row ∷ rows) d apart inside here before =
    sym (ap (λ (b : Bool). cond (not b) (row ∷ rows_without id rows) (rows_without id rows)) here
    ∙ without-differ id rows
    (subst (λ (n : ℕ). Differ n rows) (eqb-true row.id.0 id here) apart.0))
taken-at id (suc i) (row ∷ rows) d apart inside here before =
    ap (λ (rest : List Row). row ∷ rest)
    (taken-at id i rows d apart.1 (omega arith) here
    (λ k below. before (suc k) (omega arith)))
    ∙ sym (ap (λ (b : Bool). cond (not b) (row ∷ rows_without id rows) (rows_without id rows))
    (before zero (omega arith)))

found-at : (id i : ℕ) (rows : List Row) (d : Row) → i < length rows
    → has_id id (get_or rows i d) ≡ true
    → ((k : ℕ) → k < i → has_id id (get_or rows k d) ≡ false)
    → row_of rows id ≡ Some (get_or rows i d)
found-at id i [] d inside here before = absurd (omega arith)
found-at id zero (row ∷ rows) d inside here before =
    ap (λ (b : Bool). cond b (Some row) (row_of rows id)) here
found-at id (suc i) (row ∷ rows) d inside here before =
    ap (λ (b : Bool). cond b (Some row) (row_of rows id)) (before zero (omega arith))
    ∙ found-at id i rows d (omega arith) here (λ k below. before (suc k) (omega arith))

pub taken-row : (id i : ℕ) (rows : List Row) (row : Row) → Some i ≡ position (has_id id) rows
    → row ≡ get_or rows i row → Some row ≡ row_of rows id
taken-row id i rows row at is =
    let known = position-Some (has_id id) rows i row (sym at) in
    ap (λ (r : Row). Some r) is ∙ sym (found-at id i rows row known.0 known.1 known.2)

pub taken-rest : (id i : ℕ) (rows : List Row) (row : Row) → AreApart rows
    → Some i ≡ position (has_id id) rows → take i rows ++ drop (suc i) rows ≡ rows_without id rows
taken-rest id i rows row apart at =
    let known = position-Some (has_id id) rows i row (sym at) in
    taken-at id i rows row apart known.0 known.1 known.2

pub missed-row : (id : ℕ) (rows : List Row) → None ≡ position (has_id id) rows
    → None ≡ row_of rows id
missed-row id rows none =
    by_place (nat_lt (position_or_len (has_id id) rows) (length rows)) refl
    (sym none) where
      by_place : (b : Bool) → nat_lt (position_or_len (has_id id) rows) (length rows) ≡ b
          → cond b (Some (position_or_len (has_id id) rows)) None ≡ None
          → None ≡ row_of rows id
      by_place true test e = absurd cc
      by_place false test e =
          sym (find_at (has_id id) rows
          ∙ slice_get_past rows (position_or_len (has_id id) rows) past) where
            past : length rows ≤ position_or_len (has_id id) rows
            past = ltb-false (position_or_len (has_id id) rows) (length rows) test

differ-missed : (id : ℕ) (rows : List Row) → row_of rows id ≡ None → Differ id rows
differ-missed id [] none = tt
differ-missed id (row ∷ rows) none = by_test (has_id id row) refl none (differ-missed id rows) where
  by_test : (b : Bool) → has_id id row ≡ b → cond b (Some row) (row_of rows id) ≡ None
      → (row_of rows id ≡ None → Differ id rows)
      → Differ id (row ∷ rows)
  by_test true test e deeper = absurd cc
  by_test false test e deeper = (eqb-false row.id.0 id test, deeper e)

pub missed-rest : (id : ℕ) (rows : List Row) → None ≡ position (has_id id) rows
    → rows ≡ rows_without id rows
missed-rest id rows none =
    sym (without-differ id rows (differ-missed id rows (sym (missed-row id rows none))))

-- ---- one row more of a chain

chain-found : (n : ℕ) (rows rest : List Row) (id : ℕ) (row : Row) → row_of rows id ≡ Some row
    → rest ≡ rows_without id rows → chain (suc n) rows id ≡ row ∷ chain n rest row.caller.0
unfolding chain
chain-found n rows rest id row found e =
    ap (chain_from (chain n (rows_without id rows))) found
    ∙ ap (λ (others : List Row). row ∷ chain n others row.caller.0) (sym e)

chain-missed : (n : ℕ) (rows : List Row) (id : ℕ) → row_of rows id ≡ None → chain n rows id ≡ []
unfolding chain
chain-missed zero rows id none = refl
chain-missed (suc n) rows id none = ap (chain_from (chain n (rows_without id rows))) none

pub chain-begin : (rows gone : List Row) (id : ℕ) → gone ≡ []
    → gone ++ chain (length rows) rows id ≡ evicted_rows rows id
unfolding evicted_rows
chain-begin rows gone id none = ap (λ (xs : List Row). xs ++ chain (length rows) rows id) none

pub chain-more : (all gone now rows rest : List Row) (id : ℕ) (row : Row)
    → gone ++ chain (length rows) rows id ≡ all → Some row ≡ row_of rows id
    → rest ≡ rows_without id rows → length rest + 1 ≡ length rows → now ≡ gone ++ row ∷ []
    → now ++ chain (length rest) rest row.caller.0 ≡ all
chain-more all gone now rows rest id row before found e count pushed =
    let size : length rows ≡ suc (length rest) = omega (arith, count) in
    ap (λ (xs : List Row). xs ++ chain (length rest) rest row.caller.0) pushed
    ∙ append_assoc gone (row ∷ []) (chain (length rest) rest row.caller.0)
    ∙ ap (λ (xs : List Row). gone ++ xs)
    (sym (ap (λ (n : ℕ). chain n rows id) size
    ∙ chain-found (length rest) rows rest id row (sym found) e))
    ∙ before

pub chain-end : (all gone rows : List Row) (id : ℕ) → gone ++ chain (length rows) rows id ≡ all
    → None ≡ row_of rows id → gone ≡ all
chain-end all gone rows id before none =
    sym (append-nil gone)
    ∙ ap (λ (xs : List Row). gone ++ xs) (sym (chain-missed (length rows) rows id (sym none)))
    ∙ before

pub chain-spent : (all gone rows : List Row) (id : ℕ) → gone ++ chain (length rows) rows id ≡ all
    → length rows ≤ 0 → gone ≡ all
chain-spent all gone [] id before none = chain-end all gone [] id before refl
chain-spent all gone (row ∷ rows) id before none = absurd (omega arith)

-- ---- one row less of the others

filter-all : {X : Type 0} (p : X → Bool) (xs : List X) → ((x : X) → p x ≡ true) → filter p xs ≡ xs
filter-all p [] all = refl
filter-all p (x ∷ xs) all =
    ap (λ (b : Bool). cond b (x ∷ filter p xs) (filter p xs)) (all x)
    ∙ ap (λ (rest : List _). x ∷ rest) (filter-all p xs all)

pub left-begin : (rows gone : List Row) → gone ≡ [] → rows ≡ rows_left gone rows
unfolding rows_left
left-begin rows gone none =
    sym (filter-all (stays []) rows (λ row. refl))
    ∙ ap (λ (xs : List Row). filter (stays xs) rows) (sym none)

pub left-end : (rows : List Row) (id : ℕ) → None ≡ row_of rows id → rows_without id rows ≡ rows
left-end rows id none = without-differ id rows (differ-missed id rows (sym none))

filter-both : {X : Type 0} (p q both : X → Bool) → ((x : X) → both x ≡ (q x && p x))
    → (xs : List X) → filter p (filter q xs) ≡ filter both xs
filter-both p q both each [] = refl
filter-both p q both each (x ∷ xs) =
    by_tests (q x) (p x) refl refl (filter-both p q both each xs) where
      by_tests : (b c : Bool) → q x ≡ b → p x ≡ c → filter p (filter q xs) ≡ filter both xs
          → filter p (cond (q x) (x ∷ filter q xs) (filter q xs))
          ≡ cond (both x) (x ∷ filter both xs) (filter both xs)
      by_tests false c at other rest =
          rw (each x, at) rest
      by_tests true true at other rest =
          rw (each x, at, other) (ap (λ (ys : List _). x ∷ ys) rest)
      by_tests true false at other rest =
          rw (each x, at, other) rest

same-other : (gone : List Row) (row : Row) (id : ℕ) (x : Row) → row.id.0 ≡ id
    → stays (gone ++ row ∷ []) x ≡ (stays gone x && is_other id x)
same-other gone row id x is =
    ap not (list_any-append (has_id x.id.0) gone (row ∷ []))
    ∙ by_test (is_among gone x.id.0) where
      swapped : (row.id.0 == x.id.0) ≡ (x.id.0 == id)
      swapped = grind (arith, nat_tests)

      by_test : (b : Bool) → not (b || ((row.id.0 == x.id.0) || false))
          ≡ (not b && not (x.id.0 == id))
      by_test true = refl
      by_test false = rw swapped (last (x.id.0 == id)) where
        last : (b : Bool) → not (b || false) ≡ not b
        last true = refl
        last false = refl

pub left-more : (rows gone now rest after : List Row) (id : ℕ) (row : Row)
    → rest ≡ rows_left gone rows → Some row ≡ row_of rest id → after ≡ rows_without id rest
    → now ≡ gone ++ row ∷ [] → after ≡ rows_left now rows
unfolding rows_left
left-more rows gone now rest after id row before found e pushed =
    e
    ∙ ap (rows_without id) before
    ∙ filter-both (is_other id) (stays gone) (stays (gone ++ row ∷ []))
    (λ x. same-other gone row id x (row_of-id rest id row (sym found))) rows
    ∙ ap (λ (xs : List Row). filter (stays xs) rows) (sym pushed)

-- ---- a table without them

abbrev Rests : Option RowState → Type 0
Rests None = ⊥
Rests (Some Idle) = Unit {0}
Rests (Some (Running hart)) = ⊥
Rests (Some (Waiting callee)) = ⊥
Rests (Some Stopped) = Unit {0}

-- only a module that rests is evicted
rests-evicted : (row : Option Row) → ((rd : Reg) (id count : ℕ)
    → decision_of_evict rd id count row ≡ decision_if_refused rd id count None)
    → Rests (state_if_some row)
rests-evicted None e = absurd cc (e (record { 0 = 0 }) 0 0)
rests-evicted (Some row) e = by_state row.state (e (record { 0 = 0 }) 0 0) where
  by_state : (state : RowState) → decision_by_state (record { 0 = 0 }) 0 0 state
      ≡ Evict (record { 0 = 0 }) 0 0
      → Rests (Some state)
  by_state Idle is = tt
  by_state (Running hart) is = cc
  by_state (Waiting callee) is = cc
  by_state Stopped is = tt

ascend-lower : (above below : ℕ) (rows : List Row) (next : ℕ) → below ≤ above
    → Ascend above (enclaves rows) next → Ascend below (enclaves rows) next
unfolding enclaves
ascend-lower above below [] next le ids = tt
ascend-lower above below (row ∷ rows) next le ids =
    let one : above < row.id.0 = ids.0 in (omega arith, ids.1, ids.2)

ascend-if : (b : Bool) (low : ℕ) (row : Row) (rows : List Row) (next : ℕ) → low < row.id.0
    → row.id.0 < next → Ascend row.id.0 (enclaves rows) next
    → Ascend low (enclaves (cond b (row ∷ rows) rows)) next
unfolding enclaves
ascend-if true low row rows next above below rest = (above, below, rest)
ascend-if false low row rows next above below rest =
    ascend-lower row.id.0 low rows next (omega arith) rest

ascend-filter : (p : Row → Bool) (low : ℕ) (rows : List Row) (next : ℕ)
    → Ascend low (enclaves rows) next → Ascend low (enclaves (filter p rows)) next
unfolding enclaves
ascend-filter p low [] next ids = tt
ascend-filter p low (row ∷ rows) next ids =
    ascend-if (p row) low row (filter p rows) next ids.0 ids.1
    (ascend-filter p row.id.0 rows next ids.2)

left-few : (gone rows : List Row) → length (rows_left gone rows) ≤ length rows
unfolding rows_left
left-few gone rows = length-thinned (stays gone) rows

left-ascend : (gone rows : List Row) (next : ℕ) → Ascend zero (enclaves rows) next
    → Ascend zero (enclaves (rows_left gone rows)) next
unfolding rows_left
left-ascend gone rows next ids = ascend-filter (stays gone) zero rows next ids

gone-way : (rows : List Row) (id i : ℕ) → is_among (evicted_rows rows id) i ≡ true
    → (i ≡ id) ⊎ ((j : ℕ) × (is_among (evicted_rows rows id) j ≡ true) × (caller_at rows j ≡ i))
unfolding evicted_rows
gone-way rows id i among = chain-down (length rows) rows id i among

rests-waits_not : (o : Option RowState) → Rests o → (callee : ModId) → o ≡ Some (Waiting callee) → ⊥
rests-waits_not None h callee e = h
rests-waits_not (Some Idle) h callee e = cc
rests-waits_not (Some (Running hart)) h callee e = h
rests-waits_not (Some (Waiting other)) h callee e = h
rests-waits_not (Some Stopped) h callee e = cc

same-callee : (i j : ℕ) → Some (Waiting (record { 0 = j })) ≡ Some (Waiting (record { 0 = i }))
    → j ≡ i
same-callee i j e = ap (λ (m : ModId). m.0) (same_waits (record { 0 = j }) (record { 0 = i }) e)
  where
    same_waits : (a b : ModId) → Some (Waiting a) ≡ Some (Waiting b) → a ≡ b
    same_waits a b e = cc

-- with a module goes whoever is called by it
caller-stays : (m : Tabled) (id i c : ℕ) → IsTable m → Rests (state_at m.rows id)
    → is_among (evicted_rows m.rows id) i ≡ false → caller_at m.rows i ≡ suc c
    → is_among (evicted_rows m.rows id) (suc c) ≡ true → ⊥
caller-stays m id i c table rests kept calls among = by_way (gone-way m.rows id (suc c) among) where
  waits : state_at m.rows (suc c) ≡ Some (Waiting (record { 0 = i }))
  waits = table.called i c calls

  by_way : (suc c ≡ id) ⊎
      ((j : ℕ) × (is_among (evicted_rows m.rows id) j ≡ true) × (caller_at m.rows j ≡ suc c))
      → ⊥
  by_way (inl is) =
      rests-waits_not (state_at m.rows id) rests (record { 0 = i })
      (ap (state_at m.rows) (sym is) ∙ waits)
  by_way (inr found) =
      let same : found.0 ≡ i =
      same-callee i found.0 (sym (table.called found.0 c found.2) ∙ waits) in
      both_ways (is_among (evicted_rows m.rows id) i) kept
      (ap (is_among (evicted_rows m.rows id)) (sym same) ∙ found.1)

module _ (m : Tabled) (id : ℕ) (table : IsTable m) (rests : Rests (state_at m.rows id)) where
  gone : List Row
  gone = evicted_rows m.rows id

  left : List Row
  left = rows_left gone m.rows

  idle-left : (i : ℕ) → state_at left i ≡ Some Idle → caller_at left i ≡ zero
  unfolding gone left
  idle-left i e = by_among (cases_Bool (is_among gone i)) where
    by_among : (is_among gone i ≡ true) ⊎ (is_among gone i ≡ false) → caller_at left i ≡ zero
    by_among (inl among) = ap caller_if_some (row_of-gone gone m.rows i among)
    by_among (inr kept) =
        let same : row_of left i ≡ row_of m.rows i = left-row gone m.rows i kept in
        ap caller_if_some same ∙ table.idle i (sym (ap state_if_some same) ∙ e)

  called-left : (i c : ℕ) → caller_at left i ≡ suc c
      → state_at left (suc c) ≡ Some (Waiting (record { 0 = i }))
  unfolding gone left
  called-left i c e = by_among (cases_Bool (is_among gone i)) where
    by_caller : is_among gone i ≡ false → caller_at m.rows i ≡ suc c
        → (is_among gone (suc c) ≡ true) ⊎ (is_among gone (suc c) ≡ false)
        → state_at left (suc c) ≡ Some (Waiting (record { 0 = i }))
    by_caller kept calls (inl among) = absurd (caller-stays m id i c table rests kept calls among)
    by_caller kept calls (inr there) =
        ap state_if_some (left-row gone m.rows (suc c) there) ∙ table.called i c calls

    by_among : (is_among gone i ≡ true) ⊎ (is_among gone i ≡ false)
        → state_at left (suc c) ≡ Some (Waiting (record { 0 = i }))
    by_among (inl among) =
        absurd (omega (arith, sym (ap caller_if_some (row_of-gone gone m.rows i among)) ∙ e))
    by_among (inr kept) =
        by_caller kept (sym (ap caller_if_some (left-row gone m.rows i kept)) ∙ e)
        (cases_Bool (is_among gone (suc c)))

  table-left : IsTable (record { rows = left; next = m.next })
  unfolding gone left
  table-left = record {
    few = omega (arith, left-few gone m.rows, table.few);
    first = table.first;
    last = table.last;
    ascend = left-ascend gone m.rows m.next table.ascend;
    idle = idle-left;
    called = called-left;
  }

pub left-table : (m : Tabled) (id : ℕ) (now : List Row) → IsTable m
    → now ≡ rows_left (evicted_rows m.rows id) m.rows
    → ((rd : Reg) (k count : ℕ) → decision_of_evict rd k count (row_of m.rows id)
    ≡ decision_if_refused rd k count None)
    → IsTable (record { rows = now; next = m.next })
unfolding left gone
left-table m id now table e evicts =
    subst (λ (rows : List Row). IsTable (record { rows = rows; next = m.next })) (sym e)
    (table-left m id table (rests-evicted (row_of m.rows id) evicts))
