-- What the counts of declarations say when a module goes, and which modules are left.
use Rattle.std.proofs.Common.{◌≡◌, cond, ℕ, suc, ◌+◌, ◌≤◌, ◌<◌, ◌==◌, Bool, true, false, not}
use Rattle.std.proofs.Common.{◌&&◌, ◌||◌, List, [], ◌∷◌, ◌++◌, length, filter, take, drop, get_or}
use Rattle.std.proofs.Common.{◌⊎◌, inl, inr, refl, sym, ap, ◌∙◌, arith, add-one, append-nil}
use Rattle.std.proofs.Common.{drop-cons, drop_of_length-le, eq-eqb, take_all}
use Rattle.std.specs.Prelude.{count_by, slice_index}
use Rattle.std.proofs.lemmas.Bool.{cases_lt}
use Rattle.std.proofs.lemmas.Bool.Decides.{nat_tests}
use Rattle.std.proofs.lemmas.List.{get_or_past}
use Rattle.std.proofs.lemmas.List.Elements.{All-filter, filter_more}
use Rattle.std.proofs.lemmas.List.Folds.{list_any-append}
use Rattle.std.proofs.lemmas.List.Sums.{count_by_more_yes}
use Rattle.bn_types.specs.declared.decl.Decl.{Decl}
use Rattle.bn_types.specs.declared.row.Row.{Row}
use Rattle.bn_model.specs.declared.owner.Owner.{Owner}
use Rattle.bn_model.specs.Evicting.{is_among, rows_left, stays}
use Rattle.bn_model.specs.Launching.{is_same_page}
use Rattle.bn_model.specs.Owners.{is_module}
use Rattle.bn_model.specs.Rows.{has_id, owner_of, owners}
use Rattle.bn_model.proofs.TestLemmas.{filter-map}
use Rattle.bn_shadow.specs.Counting.{IsCounted, count_if, is_left, is_other, owners_left}
use Rattle.bn_shadow.specs.Counting.{owners_without}
use Rattle.bn_shadow.proofs.CountLemmas.{count-take, counted, counted-append, counted-one, declared}

-- those before place i are without the module, and those from there on as they were
abbrev pub between : ℕ → ℕ → List Owner → List Owner
between id i live = owners_without id (take i live) ++ drop i live

pub between-end : (id i : ℕ) (live : List Owner) → length live ≤ i
    → between id i live ≡ owners_without id live
between-end id i live past =
    ap (λ (front : List Owner). owners_without id front ++ drop i live) (take_all i live past)
    ∙ ap (λ (back : List Owner). owners_without id live ++ back) (drop_of_length-le live past)
    ∙ append-nil (owners_without id live)

between-now : (id i page : ℕ) (live : List Owner) (owner : Owner) → i < length live
    → owner ≡ get_or live i owner
    → counted page (between id i live) ≡
    counted page (owners_without id (take i live)) + (declared page owner
    + counted page (drop (i + 1) live))
between-now id i page live owner inside is =
    let rest : drop i live ≡ owner ∷ drop (i + 1) live =
    drop-cons live i owner inside
    ∙ ap (λ (first : Owner). first ∷ drop (suc i) live) (sym is)
    ∙ ap (λ (n : ℕ). owner ∷ drop n live) (sym (add-one i)) in
    counted-append page (owners_without id (take i live)) (drop i live)
    ∙ ap (λ (back : List Owner). counted page (owners_without id (take i live))
    + counted page back) rest
    ∙ ap (λ (n : ℕ). counted page (owners_without id (take i live)) + n)
    (counted-append page (owner ∷ []) (drop (i + 1) live)
    ∙ ap (λ (n : ℕ). n + counted page (drop (i + 1) live)) (counted-one page owner))

kept-more : (id i page : ℕ) (live : List Owner) (owner : Owner) (b : Bool) → i < length live
    → owner ≡ get_or live i owner → is_module id owner ≡ b
    → counted page (owners_without id (take (i + 1) live)) ≡
    counted page (owners_without id (take i live)) + cond b 0 (declared page owner)
kept-more id i page live owner b inside is test =
    ap (counted page) (filter_more (is_other id) live i owner inside)
    ∙ ap (λ (o : Owner). counted page (owners_without id (take i live)
    ++ cond (is_other id o) (o ∷ []) [])) (sym is)
    ∙ ap (λ (t : Bool). counted page (owners_without id (take i live)
    ++ cond (not t) (owner ∷ []) [])) test
    ∙ by_test b where
      by_test : (t : Bool)
          → counted page (owners_without id (take i live) ++ cond (not t) (owner ∷ []) []) ≡
          counted page (owners_without id (take i live)) + cond t 0 (declared page owner)
      by_test true =
          ap (counted page) (append-nil (owners_without id (take i live))) ∙ omega arith
      by_test false =
          counted-append page (owners_without id (take i live)) (owner ∷ [])
          ∙ ap (λ (n : ℕ). counted page (owners_without id (take i live)) + n)
          (counted-one page owner)

pub between-more : (id i page : ℕ) (live : List Owner) (owner : Owner) (old new : ℕ)
    → i < length live → owner ≡ get_or live i owner → old ≡ counted page (between id i live)
    → new + count_if (is_module id owner) page owner.decls.items ≡ old
    → new ≡ counted page (between id (i + 1) live)
between-more id i page live owner old new inside is before less =
    by_test (is_module id owner) refl less where
      by_test : (b : Bool) → is_module id owner ≡ b
          → new + count_if b page owner.decls.items ≡ old
          → new ≡ counted page (between id (i + 1) live)
      by_test true test e =
          let now = between-now id i page live owner inside is in
          let then = kept-more id i page live owner true inside is test in
          let both = counted-append page (owners_without id (take (i + 1) live))
          (drop (i + 1) live) in
          omega (arith, e, before, now, then, both)
      by_test false test e =
          let now = between-now id i page live owner inside is in
          let then = kept-more id i page live owner false inside is test in
          let both = counted-append page (owners_without id (take (i + 1) live))
          (drop (i + 1) live) in
          omega (arith, e, before, now, then, both)

pub between-fits : (id i page : ℕ) (live : List Owner) (owner : Owner) (old : ℕ)
    → i < length live → owner ≡ get_or live i owner → old ≡ counted page (between id i live)
    → count_if (is_module id owner) page owner.decls.items ≤ old
between-fits id i page live owner old inside is before =
    by_test (is_module id owner) where
      by_test : (b : Bool) → count_if b page owner.decls.items ≤ old
      by_test true =
          let now = between-now id i page live owner inside is in omega (arith, before, now)
      by_test false = omega arith

-- ---- declarations counted out one after another

-- the next one to be counted out has been counted
pub still-counted : (decls : List Decl) (counts before : List ℕ) (i : ℕ) (d : Decl) (page : ℕ)
    → i < length decls → (get_or decls i d).gpn.0 ≡ page
    → slice_index counts page + count_by (is_same_page page) (take i decls)
    ≡ slice_index before page
    → count_by (is_same_page page) decls ≤ slice_index before page
    → 1 ≤ slice_index counts page
still-counted decls counts before i d page inside is so_far most =
    let here : is_same_page page (get_or decls i d) ≡ true =
    eq-eqb (get_or decls i d).gpn.0 page is in
    let next = count_by_more_yes (is_same_page page) decls i d inside here in
    let front = count-take (is_same_page page) decls (i + 1) in
    omega (arith, so_far, most, next, front)

pub counted-inside : (counts : List ℕ) (page : ℕ) → 1 ≤ slice_index counts page
    → page < length counts
counted-inside counts page some = by_place (cases_lt page (length counts)) where
  by_place : (page < length counts) ⊎ (length counts ≤ page) → page < length counts
  by_place (inl inside) = inside
  by_place (inr past) = absurd (omega (arith, some, get_or_past counts page 0 past))

pub counted-less : (live now : List Owner) (id : ℕ) (old new : List ℕ) → IsCounted live old
    → now ≡ owners_without id live
    → ((page : ℕ) → slice_index new page ≡ counted page (owners_without id live))
    → IsCounted now new
counted-less live now id old new h e each = rw e (record {
  counts = each;
  few = All-filter (is_other id) (λ (o : Owner). length o.decls.items ≤ 64) live h.few;
})

-- ---- modules that go one after another

filter-all : {X : Type 0} (p : X → Bool) (xs : List X) → ((x : X) → p x ≡ true) → filter p xs ≡ xs
filter-all p [] all = refl
filter-all p (x ∷ xs) all =
    ap (λ (b : Bool). cond b (x ∷ filter p xs) (filter p xs)) (all x)
    ∙ ap (λ (rest : List _). x ∷ rest) (filter-all p xs all)

pub left-none : (live : List Owner) → owners_left [] live ≡ live
left-none live = filter-all (is_left []) live (λ owner. refl)

filter-both : {X : Type 0} (p q both : X → Bool) → ((x : X) → both x ≡ (q x && p x))
    → (xs : List X) → filter p (filter q xs) ≡ filter both xs
filter-both p q both each [] = refl
filter-both p q both each (x ∷ xs) =
    by_tests (q x) (p x) refl refl (filter-both p q both each xs) where
      by_tests : (b c : Bool) → q x ≡ b → p x ≡ c → filter p (filter q xs) ≡ filter both xs
          → filter p (cond (q x) (x ∷ filter q xs) (filter q xs))
          ≡ cond (both x) (x ∷ filter both xs) (filter both xs)
      by_tests false c at other rest = rw (each x, at) rest
      by_tests true true at other rest =
          rw (each x, at, other) (ap (λ (ys : List _). x ∷ ys) rest)
      by_tests true false at other rest = rw (each x, at, other) rest

both-left : (gone : List Row) (row : Row) (owner : Owner)
    → is_left (gone ++ row ∷ []) owner ≡ (is_left gone owner && is_other row.id.0 owner)
both-left gone row owner =
    ap not (list_any-append (has_id owner.id.0) gone (row ∷ []))
    ∙ by_test (is_among gone owner.id.0) where
      swapped : (row.id.0 == owner.id.0) ≡ (owner.id.0 == row.id.0)
      swapped = grind (arith, nat_tests)

      last : (b : Bool) → not (b || false) ≡ not b
      last true = refl
      last false = refl

      by_test : (b : Bool) → not (b || ((row.id.0 == owner.id.0) || false))
          ≡ (not b && not (owner.id.0 == row.id.0))
      by_test true = refl
      by_test false = rw swapped (last (owner.id.0 == row.id.0))

pub left-more : (gone : List Row) (row : Row) (live : List Owner)
    → owners_without row.id.0 (owners_left gone live) ≡ owners_left (gone ++ row ∷ []) live
left-more gone row live =
    filter-both (is_other row.id.0) (is_left gone) (is_left (gone ++ row ∷ []))
    (both-left gone row) live

-- the modules of the rows that an eviction leaves
pub owners-left : (gone rows : List Row) → owners_left gone (owners rows) ≡
    owners (rows_left gone rows)
unfolding owners rows_left
owners-left gone rows = filter-map (is_left gone) (stays gone) owner_of (λ row. refl) rows
