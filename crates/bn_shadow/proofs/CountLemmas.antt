-- What the counts of declarations say, and how they grow.
use Rattle.std.proofs.Common.{◌≡◌, cond, ℕ, ◌+◌, ◌*◌, ◌≤◌, ◌<◌, Bool, true, false, ◌||◌, List, []}
use Rattle.std.proofs.Common.{◌∷◌, ◌++◌, length, map, replicate, ◌⊎◌, inl, inr, refl, sym}
use Rattle.std.proofs.Common.{ap, ◌∙◌, arith, take, drop}
use Rattle.std.proofs.lemmas.List.Sums.{count_by-le-length}
use Rattle.std.specs.Prelude.{◌==◌, not, count_by, flat_map, slice_index}
use Rattle.std.specs.List.{All, list_any}
use Rattle.std.proofs.lemmas.Bool.{cases_lt}
use Rattle.std.proofs.lemmas.Bool.Decides.{nat_tests}
use Rattle.std.proofs.lemmas.List.{append-nil, get_or-replicate, get_or_past, length-append}
use Rattle.std.proofs.lemmas.List.{take-append-drop}
use Rattle.std.proofs.lemmas.List.{length-map, length-replicate}
use Rattle.std.proofs.lemmas.List.Concat.{flat_map-append}
use Rattle.std.proofs.lemmas.List.Elements.{All-nil, All-push, All-tail}
use Rattle.std.proofs.lemmas.List.Recursion.{is_count_by}
use Rattle.bn_types.specs.declared.decl.Decl.{Decl}
use Rattle.bn_types.specs.declared.mod_id.ModId.{ModId}
use Rattle.bn_model.specs.declared.owner.Owner.{Owner}
use Rattle.bn_model.specs.Launching.{is_same_page}
use Rattle.bn_model.specs.Owners.{Claim, claim_by, claims, claims_by, is_on, is_owned}
use Rattle.bn_shadow.specs.Counting.{IsCounted}

-- how many pass, by recursion
abbrev tally : {X : Type 0} → (X → Bool) → List X → ℕ
tally p [] = 0
tally p (x ∷ xs) = cond (p x) (1 + tally p xs) (tally p xs)

tally-count : {X : Type 0} (p : X → Bool) (xs : List X) → tally p xs ≡ count_by p xs
tally-count p xs = is_count_by (tally p) p refl (λ x ys. refl) xs

-- ---- nothing is declared

counts-none : (n page : ℕ) → slice_index (replicate {A = ℕ} n 0) page ≡ 0
counts-none n page = go (cases_lt page n) where
  go : (page < n) ⊎ (n ≤ page) → slice_index (replicate {A = ℕ} n 0) page ≡ 0
  go (inl lt) = get_or-replicate n page 0 0 lt
  go (inr past) =
      let size : length (replicate {A = ℕ} n 0) ≡ n = length-replicate n 0 in
      get_or_past (replicate {A = ℕ} n 0) page 0 (omega arith)

pub counted-empty : (live : List Owner) (counts : List ℕ) (n : ℕ) → live ≡ []
    → counts ≡ replicate n 0 → IsCounted live counts
unfolding claims
counted-empty live counts n none zeros =
    rw (none, zeros)
    (record {
      counts = counts-none n;
      few = All-nil (λ (owner : Owner). length owner.decls.items ≤ 64);
    })

-- ---- a page is owned where it is counted

any-tally : {X : Type 0} (p : X → Bool) (xs : List X) → list_any p xs ≡ not (tally p xs == 0)
any-tally p [] = refl
any-tally p (x ∷ xs) = go (p x) (any-tally p xs) where
  some : (n : ℕ) → true ≡ not ((1 + n) == 0)
  some n = grind (arith, nat_tests)

  go : (b : Bool) → list_any p xs ≡ not (tally p xs == 0)
      → (b || list_any p xs) ≡ not (cond b (1 + tally p xs) (tally p xs) == 0)
  go true rest = some (tally p xs)
  go false rest = rest

pub owned-counted : (live : List Owner) (counts : List ℕ) (page : ℕ) → IsCounted live counts
    → not (slice_index counts page == 0) ≡ is_owned live page
owned-counted live counts page h =
    ap (λ (k : ℕ). not (k == 0)) (h.counts page ∙ sym (tally-count (is_on page) (claims live)))
    ∙ sym (any-tally (is_on page) (claims live))

-- ---- one module more

claims-more : (live : List Owner) (owner : Owner)
    → claims (live ++ owner ∷ []) ≡ claims live ++ claims_by owner
unfolding claims
claims-more live owner =
    flat_map-append claims_by live (owner ∷ [])
    ∙ ap (λ (last : List Claim). flat_map claims_by live ++ last) (append-nil (claims_by owner))

tally-append : {X : Type 0} (p : X → Bool) (xs ys : List X)
    → tally p (xs ++ ys) ≡ tally p xs + tally p ys
tally-append p [] ys = omega arith
tally-append p (x ∷ xs) ys = go (p x) (tally-append p xs ys) where
  go : (b : Bool) → tally p (xs ++ ys) ≡ tally p xs + tally p ys
      → cond b (1 + tally p (xs ++ ys)) (tally p (xs ++ ys)) ≡
      cond b (1 + tally p xs) (tally p xs) + tally p ys
  go true rest = omega (arith, rest)
  go false rest = rest

tally-claims : (id : ModId) (page : ℕ) (decls : List Decl)
    → tally (is_on page) (map (claim_by id) decls) ≡ tally (is_same_page page) decls
tally-claims id page [] = refl
tally-claims id page (decl ∷ decls) =
    ap (λ (n : ℕ). cond (decl.gpn.0 == page) (1 + n) n) (tally-claims id page decls)

count-more : (live : List Owner) (owner : Owner) (page : ℕ)
    → count_by (is_on page) (claims (live ++ owner ∷ [])) ≡
    count_by (is_on page) (claims live) + count_by (is_same_page page) owner.decls.items
count-more live owner page =
    let all = tally-count (is_on page) (claims live ++ claims_by owner) in
    let both = tally-append (is_on page) (claims live) (claims_by owner) in
    let old = tally-count (is_on page) (claims live) in
    let own = tally-claims owner.id page owner.decls.items in
    let new = tally-count (is_same_page page) owner.decls.items in
    ap (count_by (is_on page)) (claims-more live owner) ∙ omega (arith, all, both, old, own, new)

pub counted-more : (live now : List Owner) (owner : Owner) (old new : List ℕ) → IsCounted live old
    → now ≡ live ++ owner ∷ [] → length owner.decls.items ≤ 64
    → ((page : ℕ) → slice_index new page ≡
    slice_index old page + count_by (is_same_page page) owner.decls.items)
    → IsCounted now new
counted-more live now owner old new h e few each = rw e (record {
  counts = λ page. each page
      ∙ (ap (λ (n : ℕ). n + count_by (is_same_page page) owner.decls.items) (h.counts page)
      ∙ sym (count-more live owner page));
  few = All-push (λ (o : Owner). length o.decls.items ≤ 64) live owner h.few few;
})

-- ---- a page has few declarations

pub claims_few : (live : List Owner) → All (λ (owner : Owner). length owner.decls.items ≤ 64) live
    → length (claims live) ≤ 64 * length live
unfolding claims
claims_few [] h = omega arith
claims_few (owner ∷ live) h =
    let first : length owner.decls.items ≤ 64 = h 0 owner (omega arith) in
    let rest = claims_few live
    (All-tail (λ (o : Owner). length o.decls.items ≤ 64) owner live h) in
    omega (
      arith,
      rest,
      length-append (claims_by owner) (flat_map claims_by live),
      length-map owner.decls.items (claim_by owner.id),
    )

-- a page has fewer than 65,536 declarations, also with 64 more
pub counted-room : (live : List Owner) (counts : List ℕ) (page more : ℕ) → IsCounted live counts
    → length live < 15 → more ≤ 64
    → slice_index counts page + more < 65536
counted-room live counts page more h room few =
    omega (
      arith,
      h.counts page,
      claims_few live h.few,
      count_by-le-length (is_on page) (claims live),
    )

-- ---- declarations of several modules

-- declarations of a page among those of some modules
abbrev pub counted : ℕ → List Owner → ℕ
counted page live = count_by (is_on page) (claims live)

abbrev pub declared : ℕ → Owner → ℕ
declared page owner = count_by (is_same_page page) owner.decls.items

claims-append : (front back : List Owner) → claims (front ++ back) ≡ claims front ++ claims back
unfolding claims
claims-append front back = flat_map-append claims_by front back

pub counted-append : (page : ℕ) (front back : List Owner)
    → counted page (front ++ back) ≡ counted page front + counted page back
counted-append page front back =
    let all = tally-count (is_on page) (claims front ++ claims back) in
    let both = tally-append (is_on page) (claims front) (claims back) in
    let one = tally-count (is_on page) (claims front) in
    let two = tally-count (is_on page) (claims back) in
    ap (count_by (is_on page)) (claims-append front back) ∙ omega (arith, all, both, one, two)

pub counted-one : (page : ℕ) (owner : Owner) → counted page (owner ∷ []) ≡ declared page owner
unfolding claims
counted-one page owner =
    let one = tally-count (is_on page) (claims_by owner) in
    let same = tally-claims owner.id page owner.decls.items in
    let two = tally-count (is_same_page page) owner.decls.items in
    ap (count_by (is_on page)) (append-nil (claims_by owner)) ∙ (sym one ∙ (same ∙ two))

pub count-take : {X : Type 0} (p : X → Bool) (xs : List X) (n : ℕ)
    → count_by p (take n xs) ≤ count_by p xs
count-take p xs n =
    let both = tally-append p (take n xs) (drop n xs) in
    let all = tally-count p (take n xs ++ drop n xs) in
    let front = tally-count p (take n xs) in
    let same = ap (count_by p) (take-append-drop n xs) in
    omega (arith, both, all, front, same)
