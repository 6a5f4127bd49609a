-- A page is accepted at most four times.
use Rattle.std.proofs.Common.{◌≡◌, ℕ, zero, suc, ◌+◌, ◌<◌, ◌≤◌, ◌==◌, ◌&&◌, ◌||◌, ◌⊎◌, Bool, true}
use Rattle.std.proofs.Common.{false, cond, not, filter, flat_map, length, get_or, List, [], ◌∷◌}
use Rattle.std.proofs.Common.{◌++◌, map, inl, inr, refl, sym, ap, subst, ◌∙◌, arith, eqb-true}
use Rattle.std.proofs.lemmas.Bool.{and_parts, cases_Bool, not-true}
use Rattle.std.proofs.lemmas.List.Sums.{length-filter}
use Rattle.std.specs.Cmp.Lexicographic.{bytes_decides}
use Rattle.std.specs.List.{list_any, range_with_len}
use Rattle.std.specs.Prelude.{count_by}
use Rattle.bn_types.specs.declared.decl.Decl.{Decl}
use Rattle.bn_types.specs.declared.digest.Digest.{Digest}
use Rattle.bn_types.specs.declared.gpn.Gpn.{Gpn}
use Rattle.bn_types.specs.declared.mod_id.ModId.{ModId}
use Rattle.bn_types.specs.declared.row.Row.{Row}
use Rattle.bn_types.specs.declared.sort.Sort.{Sort}
use Rattle.bn_types.specs.declared.sort.Sort.TheVariants.{Private, Offer, Accept}
use Rattle.bn_model.specs.Bits.{is_set}
use Rattle.bn_model.specs.Launching.{has_identity, is_accept, is_identity, is_named_partner}
use Rattle.bn_model.specs.Launching.{names_partner, zero_digest}
use Rattle.bn_model.specs.Owners.{Claim, claim_by, claims, claims_by, is_live, is_own}
use Rattle.bn_model.specs.Rows.{Enclave, enclave_of}
use Rattle.bn_model.specs.Soundness.{AreDistinct, Ascend, GuestPagesDiffer, Has}
use Rattle.bn_model.specs.Soundness.{HasClaims, IsOfferedBy, IsOnly, ReachesNone, accepts}
use Rattle.bn_model.proofs.ClaimsKept.{IsNew}
use Rattle.bn_model.proofs.LiveClaims.{has-parts, live-has, makes, one-of-id, owned}
use Rattle.bn_model.proofs.MembershipLemmas.{any-has, has-any}
use Rattle.bn_model.proofs.RowLemmas.{owner_by}

-- ---- as many, in parts

tally-if : {X : Type 0} (b : Bool) (x : X) (xs : List X) (n : ℕ)
    → length (cond b (x ∷ xs) xs) ≡ cond b 1 0 + length xs
tally-if true x xs n = omega arith
tally-if false x xs n = omega arith

passing : {X : Type 0} → (X → Bool) → List X → ℕ
passing p xs = length (filter p xs)

passing-cons : {X : Type 0} (p : X → Bool) (x : X) (xs : List X)
    → passing p (x ∷ xs) ≡ cond (p x) 1 0 + passing p xs
unfolding passing
passing-cons p x xs = tally-if (p x) x (filter p xs) 0

passing-append : {X : Type 0} (p : X → Bool) (xs ys : List X)
    → passing p (xs ++ ys) ≡ passing p xs + passing p ys
unfolding passing
passing-append p [] ys = omega arith
passing-append p (x ∷ xs) ys =
    let one : length (cond (p x) (x ∷ filter p (xs ++ ys)) (filter p (xs ++ ys))) ≡
    cond (p x) 1 0 + length (filter p (xs ++ ys)) = tally-if (p x) x (filter p (xs ++ ys)) 0 in
    let two : length (filter p (xs ++ ys)) ≡ length (filter p xs) + length (filter p ys) =
    passing-append p xs ys in
    let three : length (cond (p x) (x ∷ filter p xs) (filter p xs)) ≡
    cond (p x) 1 0 + length (filter p xs) = tally-if (p x) x (filter p xs) 0 in
    omega arith

-- the acceptances of a page by each module
pub tally : ℕ → List Enclave → ℕ
tally page [] = 0
tally page (e ∷ es) = passing (accepts page) (claims_by (owner_by e)) + tally page es

tally-claims : (page : ℕ) (live : List Enclave)
    → passing (accepts page) (flat_map claims_by (owned live)) ≡ tally page live
unfolding tally passing
tally-claims page [] = refl
tally-claims page (e ∷ es) =
    passing-append (accepts page) (claims_by (owner_by e)) (flat_map claims_by (owned es))
    ∙ ap (λ (n : ℕ). length (filter (accepts page) (claims_by (owner_by e))) + n)
    (tally-claims page es)

tally-append : (page : ℕ) (live : List Enclave) (new : Enclave)
    → tally page (live ++ new ∷ []) ≡
    tally page live + passing (accepts page) (claims_by (owner_by new))
unfolding tally
tally-append page [] new = omega arith
tally-append page (e ∷ es) new = let deeper = tally-append page es new in omega arith

tally-if-left : (b : Bool) (page : ℕ) (row : Row) (left : List Row) (all : ℕ)
    → tally page (map enclave_of left) ≤ all
    → tally page (map enclave_of (cond b (row ∷ left) left)) ≤
    passing (accepts page) (claims_by (owner_by (enclave_of row))) + all
unfolding tally
tally-if-left true page row left all most = omega arith
tally-if-left false page row left all most = omega arith

pub tally-left : (page : ℕ) (p : Row → Bool) (rows : List Row)
    → tally page (map enclave_of (filter p rows)) ≤ tally page (map enclave_of rows)
unfolding tally
tally-left page p [] = omega arith
tally-left page p (row ∷ rows) =
    tally-if-left (p row) page row (filter p rows) (tally page (map enclave_of rows))
    (tally-left page p rows)

-- ---- a module accepts a page once

accepts-decl : ℕ → Decl → Bool
accepts-decl page decl = is_accept decl.sort && (decl.gpn.0 == page)

accepting : ℕ → Enclave → Bool
accepting page e = list_any (accepts-decl page) e.judged.decls.items

none-accepted : (id : ModId) (page : ℕ) (decls : List Decl)
    → list_any (accepts-decl page) decls ≡ false
    → passing (accepts page) (map (claim_by id) decls) ≡ 0
unfolding passing accepts-decl
none-accepted id page [] e = refl
none-accepted id page (decl ∷ decls) e =
    by_test (accepts-decl page decl) (list_any (accepts-decl page) decls) refl e
    (none-accepted id page decls)
  where
    by_test : (a b : Bool) → accepts page (claim_by id decl) ≡ a → (a || b) ≡ false
        → (b ≡ false → length (filter (accepts page) (map (claim_by id) decls)) ≡ 0)
        → length (filter (accepts page) (map (claim_by id) (decl ∷ decls))) ≡ 0
    by_test true b is e deeper = absurd cc
    by_test false b is e deeper =
        ap (λ (t : Bool).
        length (cond t (claim_by id decl ∷ filter (accepts page) (map (claim_by id) decls))
        (filter (accepts page) (map (claim_by id) decls)))) is ∙ deeper e

reaches-none : (page : ℕ) (decls : List Decl) → ReachesNone page decls
    → list_any (accepts-decl page) decls ≡ false
unfolding accepts-decl
reaches-none page [] none = refl
reaches-none page (decl ∷ decls) none =
    by_test (is_accept decl.sort) (decl.gpn.0 == page) refl (reaches-none page decls none.1)
  where
    by_test : (a b : Bool) → (decl.gpn.0 == page) ≡ b → list_any (accepts-decl page) decls ≡ false
        → ((a && b) || list_any (accepts-decl page) decls) ≡ false
    by_test true true is e = absurd (none.0 (eqb-true decl.gpn.0 page is))
    by_test true false is e = e
    by_test false b is e = e

once : (id : ModId) (page ram : ℕ) (decls : List Decl) → GuestPagesDiffer ram decls
    → passing (accepts page) (map (claim_by id) decls) ≤
    cond (list_any (accepts-decl page) decls) 1 0
unfolding passing accepts-decl
once id page ram [] differ = omega arith
once id page ram (decl ∷ decls) differ =
    by_test (is_accept decl.sort) (decl.gpn.0 == page) refl (once id page ram decls differ.2)
  where
    rest : List Claim
    rest = filter (accepts page) (map (claim_by id) decls)

    by_test : (a b : Bool) → (decl.gpn.0 == page) ≡ b
        → length rest ≤ cond (list_any (accepts-decl page) decls) 1 0
        → length (cond (a && b) (claim_by id decl ∷ rest) rest) ≤
        cond ((a && b) || list_any (accepts-decl page) decls) 1 0
    by_test true true is most =
        let none : length rest ≡ 0 =
        none-accepted id page decls
        (ap (λ (n : ℕ). list_any (accepts-decl n) decls) (sym (eqb-true decl.gpn.0 page is))
        ∙ reaches-none decl.gpn.0 decls differ.1) in
        omega arith
    by_test true false is most = most
    by_test false b is most = most

tally-most : (page ram : ℕ) (live : List Enclave)
    → ((e : Enclave) → Has e live → GuestPagesDiffer ram e.judged.decls.items)
    → tally page live ≤ passing (accepting page) live
unfolding tally passing accepting
tally-most page ram [] differ = omega arith
tally-most page ram (e ∷ es) differ =
    let here : length (filter (accepts page) (map (claim_by e.id) e.judged.decls.items)) ≤
    cond (list_any (accepts-decl page) e.judged.decls.items) 1 0 =
    once e.id page ram e.judged.decls.items (differ e (inl refl)) in
    let later : tally page es ≤ length (filter (accepting page) es) =
    tally-most page ram es (λ x h. differ x (inr h)) in
    let all : length (filter (accepting page) (e ∷ es)) ≡
    cond (list_any (accepts-decl page) e.judged.decls.items) 1 0 +
    length (filter (accepting page) es) =
    tally-if (list_any (accepts-decl page) e.judged.decls.items) e (filter (accepting page) es) 0 in
    omega arith

-- ---- few identities for many modules

same-digest : (d : Digest) (e : Enclave) → has_identity d e ≡ true → e.judged.digest.0 ≡ d.0
same-digest d e is = (bytes_decides e.judged.digest.0 d.0).0 is

digest-is : (one other : Digest) → one.0 ≡ other.0 → one ≡ other
digest-is one other e = ap (λ (bytes : List ℕ). let d : Digest = record { 0 = bytes } in d) e

other-of : Digest → Enclave → Bool
other-of d e = not (has_identity d e)

all-others : (d who : Digest) (es : List Enclave) → who.0 ≡ d.0 → IsOnly who es
    → length (filter (other-of d) es) ≡ length es
unfolding other-of
all-others d who [] same only = refl
all-others d who (e ∷ es) same only =
    by_test (has_identity d e) refl (all-others d who es same only.1)
  where
    by_test : (b : Bool) → has_identity d e ≡ b → length (filter (other-of d) es) ≡ length es
        → length (cond (not b) (e ∷ filter (other-of d) es) (filter (other-of d) es)) ≡
        suc (length es)
    by_test true is deeper =
        absurd (only.0 (digest-is e.judged.digest who (same-digest d e is ∙ sym same)))
    by_test false is deeper = ap suc deeper

one-out : (d : Digest) (es : List Enclave) → AreDistinct es
    → length es ≤ suc (length (filter (other-of d) es))
unfolding other-of
one-out d [] distinct = omega arith
one-out d (e ∷ es) distinct = by_test (has_identity d e) refl (one-out d es distinct.1)
  where
    by_test : (b : Bool) → has_identity d e ≡ b → length es ≤ suc (length (filter (other-of d) es))
        → suc (length es) ≤
        suc (length (cond (not b) (e ∷ filter (other-of d) es) (filter (other-of d) es)))
    by_test true is deeper =
        let all : length (filter (other-of d) es) ≡ length es =
        all-others d e.judged.digest es (same-digest d e is) distinct.0 in
        omega arith
    by_test false is deeper = omega arith

only-kept : (b : Bool) (who : Digest) (e : Enclave) (left : List Enclave)
    → (e.judged.digest ≡ who → ⊥) → IsOnly who left → IsOnly who (cond b (e ∷ left) left)
only-kept true who e left other deeper = (other, deeper)
only-kept false who e left other deeper = deeper

only-filter : (p : Enclave → Bool) (who : Digest) (es : List Enclave) → IsOnly who es
    → IsOnly who (filter p es)
only-filter p who [] only = tt
only-filter p who (e ∷ es) only =
    only-kept (p e) who e (filter p es) only.0 (only-filter p who es only.1)

distinct-kept : (b : Bool) (e : Enclave) (left : List Enclave) → IsOnly e.judged.digest left
    → AreDistinct left → AreDistinct (cond b (e ∷ left) left)
distinct-kept true e left only deeper = (only, deeper)
distinct-kept false e left only deeper = deeper

distinct-filter : (p : Enclave → Bool) (es : List Enclave) → AreDistinct es
    → AreDistinct (filter p es)
distinct-filter p [] distinct = tt
distinct-filter p (e ∷ es) distinct =
    distinct-kept (p e) e (filter p es) (only-filter p e.judged.digest es distinct.0)
    (distinct-filter p es distinct.1)

filtered-if : {X : Type 0} (p : X → Bool) (b : Bool) (y x : X) (left ys : List X) → p y ≡ b
    → (Has x left → Has x ys × (p x ≡ true)) → Has x (cond b (y ∷ left) left)
    → Has x (y ∷ ys) × (p x ≡ true)
filtered-if p true y x left ys e deeper (inl is) = (inl is, ap p is ∙ e)
filtered-if p true y x left ys e deeper (inr h) = let d = deeper h in (inr d.0, d.1)
filtered-if p false y x left ys e deeper h = let d = deeper h in (inr d.0, d.1)

filtered : {X : Type 0} (p : X → Bool) (xs : List X) (x : X) → Has x (filter p xs)
    → Has x xs × (p x ≡ true)
filtered p [] x h = absurd h
filtered p (y ∷ ys) x h = filtered-if p (p y) y x (filter p ys) ys refl (filtered p ys x) h

named-by : List Digest → Enclave → Bool
named-by ds e = list_any (λ d. has_identity d e) ds

rest-named : (d : Digest) (ds : List Digest) (e : Enclave)
    → (has_identity d e || list_any (λ x. has_identity x e) ds) ≡ true → has_identity d e ≡ false
    → list_any (λ x. has_identity x e) ds ≡ true
rest-named d ds e named other =
    sym (ap (λ (b : Bool). b || list_any (λ x. has_identity x e) ds) other) ∙ named

-- modules of different identities, all of some list, are no more than the list
few-named : (ds : List Digest) (es : List Enclave) → AreDistinct es
    → ((e : Enclave) → Has e es → named-by ds e ≡ true) → length es ≤ length ds
unfolding named-by other-of
few-named [] [] distinct named = omega arith
few-named [] (e ∷ es) distinct named = let f = named e (inl refl) in absurd cc
few-named (d ∷ ds) es distinct named =
    let fewer : length (filter (other-of d) es) ≤ length ds =
    few-named ds (filter (other-of d) es) (distinct-filter (other-of d) es distinct)
    (λ e has. let from = filtered (other-of d) es e has in
    rest-named d ds e (named e from.0) (not-true (has_identity d e) from.1)) in
    let one : length es ≤ suc (length (filter (other-of d) es)) = one-out d es distinct in
    omega arith

-- ---- who accepts a page is named by its offer

in-range : (a n i : ℕ) → Has i (range_with_len a n) → i < a + n
in-range a zero i h = absurd h
in-range a (suc n) i (inl is) = omega arith
in-range a (suc n) i (inr h) = let below = in-range (a + 1) n i h in omega arith

has-at : {X : Type 0} (xs : List X) (i : ℕ) (d : X) → i < length xs → Has (get_or xs i d) xs
has-at [] i d below = absurd (omega arith)
has-at (x ∷ xs) zero d below = inl refl
has-at (x ∷ xs) (suc i) d below = inr (has-at xs i d (omega arith))

named : (mask : ℕ) (partners : List Digest) (e : Enclave)
    → names_partner mask partners e.judged.digest ≡ true → named-by partners e ≡ true
unfolding names_partner named-by
named mask partners e is =
    let found = any-has (is_named_partner mask partners e.judged.digest)
    (range_with_len 0 (length partners)) is in
    let below : found.0 < 0 + length partners = in-range 0 (length partners) found.0 found.1 in
    let partner : Digest = get_or partners found.0 zero_digest in
    let same : partner.0 ≡ e.judged.digest.0 =
    (bytes_decides partner.0 e.judged.digest.0).0
    (and_parts (is_set mask found.0) (is_identity e.judged.digest partner) found.2).1 in
    has-any (λ d. has_identity d e) partners partner
    (has-at partners found.0 zero_digest (omega arith))
    ((bytes_decides e.judged.digest.0 partner.0).1 (sym same))

module _ (live : List Enclave) (next ram : ℕ) (ids : Ascend zero live next)
    (h : HasClaims live (owned live) ram)
    (offering : Enclave) (has : Has offering live) (offer : Decl)
    (declared : Has offer offering.judged.decls.items) (sort : offer.sort ≡ Offer) where
  -- an acceptance of the same page goes to this offer
  same-offer : (e : Enclave) (decl : Decl) → Has e live → Has decl e.judged.decls.items
      → decl.sort ≡ Accept → decl.gpn ≡ offer.gpn
      → (is_live (owned live) decl.source.0 ≡ true) ⊎ (is_live (owned live) decl.source.0 ≡ false)
      → named-by offering.judged.partners.items e ≡ true
  same-offer e decl there made accept same (inr dead) =
      absurd (h.orphan (claim_by e.id decl) (claim_by offering.id offer)
      (makes live e decl there made) (makes live offering offer has declared) accept dead
      (ap is_own sort) (sym same))
  same-offer e decl there made accept same (inl alive) =
      subst (λ (x : Enclave). named-by x.judged.partners.items e ≡ true) whose
      (named offered.offer.mask source.0.judged.partners.items e offered.partner)
    where
      source : (x : Enclave) × Has x live × (x.id.0 ≡ decl.source.0)
      source = live-has live decl.source.0 alive

      offered : IsOfferedBy source.0 e.judged.digest decl
      offered = h.accepted e source.0 decl there made accept source.1
          (ap (λ (n : ℕ). let m : ModId = record { 0 = n } in m) source.2)

      one : claim_by offering.id offer ≡ claim_by source.0.id offered.offer
      one =
          h.one_offer (claim_by source.0.id offered.offer) (claim_by offering.id offer)
          (makes live source.0 offered.offer source.1 offered.declared)
          (makes live offering offer has declared) offered.sort sort (sym same ∙ sym offered.page)

      whose : source.0 ≡ offering
      whose = one-of-id zero live next ids source.0 offering source.1 has
          (ap (λ (c : Claim). c.owner.0) (sym one))

accept-sort : (sort : Sort) → is_accept sort ≡ true → sort ≡ Accept
accept-sort Private e = absurd cc
accept-sort Offer e = absurd cc
accept-sort Accept e = refl

page-is : (g : Gpn) (page : ℕ) → g.0 ≡ page → g ≡ record { 0 = page }
page-is g page e = ap (λ (n : ℕ). let p : Gpn = record { 0 = n } in p) e

-- what a module accepts of a page
record IsAccepting (page : ℕ) (e : Enclave) : Type 0 where
  decl : Decl
  declared : Has decl e.judged.decls.items
  sort : decl.sort ≡ Accept
  on : decl.gpn ≡ record { 0 = page }

accepting-is : (page : ℕ) (e : Enclave) → accepting page e ≡ true → IsAccepting page e
unfolding accepting accepts-decl
accepting-is page e is =
    let found = any-has (accepts-decl page) e.judged.decls.items is in
    let parts = and_parts (is_accept found.0.sort) (found.0.gpn.0 == page) found.2 in
    record {
      decl = found.0;
      declared = found.1;
      sort = accept-sort found.0.sort parts.0;
      on = page-is found.0.gpn page (eqb-true found.0.gpn.0 page parts.1);
    }

small-enough : (a b c : ℕ) → a ≤ b → b ≤ c → c ≤ 4 → a ≤ 4
small-enough a b c f g h = omega arith

passing-most : {X : Type 0} (p : X → Bool) (xs : List X) (n : ℕ) → length (filter p xs) ≤ n
    → passing p xs ≤ n
unfolding passing
passing-most p xs n most = most

kept : (page : ℕ) (live : List Enclave) (new : Enclave) → tally page live ≤ 4
    → passing (accepts page) (map (claim_by new.id) new.judged.decls.items) ≡ 0
    → tally page (live ++ new ∷ []) ≤ 4
kept page live new before none =
    let sum : tally page (live ++ new ∷ []) ≡
    tally page live + passing (accepts page) (claims_by (owner_by new)) =
    tally-append page live new in
    omega arith

-- ---- the point of soundness

pub few-tally : (live : List Enclave) (page : ℕ)
    → count_by (accepts page) (claims (owned live)) ≡ tally page live
unfolding claims passing
few-tally live page =
    sym (length-filter (accepts page) (flat_map claims_by (owned live))) ∙ tally-claims page live

module _ (live : List Enclave) (next ram : ℕ) (new : Enclave) (ids : Ascend zero live next)
    (h : HasClaims live (owned live) ram) (n : IsNew live next ram new)
    (distinct : AreDistinct (live ++ new ∷ []))
    (few : (e : Enclave) → Has e live → length e.judged.partners.items ≤ 4)
    (differ : (e : Enclave) → Has e (live ++ new ∷ [])
    → GuestPagesDiffer ram e.judged.decls.items) where
  -- where the new module accepts the page
  new-accepts : (page : ℕ) → IsAccepting page new → tally page (live ++ new ∷ []) ≤ 4
  new-accepts page a =
      let most : tally page (live ++ new ∷ []) ≤ passing (accepting page) (live ++ new ∷ []) =
      tally-most page ram (live ++ new ∷ []) differ in
      let count : length (filter (accepting page) (live ++ new ∷ [])) ≤
      length offering.judged.partners.items =
      few-named offering.judged.partners.items (filter (accepting page) (live ++ new ∷ []))
      (distinct-filter (accepting page) (live ++ new ∷ []) distinct) all-named in
      let four : length offering.judged.partners.items ≤ 4 = few offering found.1 in
      bound most count four
    where
      found : (e : Enclave) × Has e live × (e.id ≡ a.decl.source) ×
          IsOfferedBy e new.judged.digest a.decl
      found = n.offered a.decl a.declared a.sort

      offering : Enclave
      offering = found.0

      bound : tally page (live ++ new ∷ []) ≤ passing (accepting page) (live ++ new ∷ [])
          → length (filter (accepting page) (live ++ new ∷ [])) ≤
          length offering.judged.partners.items
          → length offering.judged.partners.items ≤ 4 → tally page (live ++ new ∷ []) ≤ 4
      bound most count four =
          small-enough (tally page (live ++ new ∷ [])) (passing (accepting page) (live ++ new ∷ []))
          (length offering.judged.partners.items) most
          (passing-most (accepting page) (live ++ new ∷ []) (length offering.judged.partners.items)
          count) four

      by_part : (e : Enclave) → Has e live ⊎ Has e (new ∷ []) → IsAccepting page e
          → named-by offering.judged.partners.items e ≡ true
      by_part e (inl old) b =
          same-offer live next ram ids h offering found.1 found.3.offer found.3.declared
          found.3.sort e b.decl old b.declared b.sort
          (b.on ∙ sym a.on ∙ sym found.3.page) (cases_Bool (is_live (owned live) b.decl.source.0))
      by_part e (inr (inl is)) b =
          subst (λ (x : Enclave). named-by offering.judged.partners.items x ≡ true) (sym is)
          (named found.3.offer.mask offering.judged.partners.items new found.3.partner)
      by_part e (inr (inr none)) b = absurd none

      all-named : (e : Enclave) → Has e (filter (accepting page) (live ++ new ∷ []))
          → named-by offering.judged.partners.items e ≡ true
      all-named e has =
          let from = filtered (accepting page) (live ++ new ∷ []) e has in
          by_part e (has-parts live (new ∷ []) e from.0) (accepting-is page e from.1)

  pub launched-few : (page : ℕ) → tally page live ≤ 4 → tally page (live ++ new ∷ []) ≤ 4
  unfolding accepting
  launched-few page before = by_test (accepting page new) refl
    where
      by_test : (b : Bool) → accepting page new ≡ b → tally page (live ++ new ∷ []) ≤ 4
      by_test true is = new-accepts page (accepting-is page new is)
      by_test false is = kept page live new before
          (none-accepted new.id page new.judged.decls.items is)
