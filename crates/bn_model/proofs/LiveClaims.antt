-- The declarations of live modules, one by one.
use Rattle.std.proofs.Common.{◌≡◌, ℕ, ◌<◌, ◌⊎◌, Bool, true, false, cond, List, [], ◌∷◌}
use Rattle.std.proofs.Common.{◌++◌, map, filter, flat_map, inl, inr, refl, sym, ap, ap₂, subst, ◌∙◌}
use Rattle.std.proofs.Common.{arith, eqb-true, eq-eqb}
use Rattle.bn_types.specs.declared.decl.Decl.{Decl}
use Rattle.bn_types.specs.declared.mod_id.ModId.{ModId}
use Rattle.bn_model.specs.declared.owner.Owner.{Owner}
use Rattle.bn_model.specs.Deciding.{is_enclave}
use Rattle.bn_model.specs.Owners.{Claim, claim_by, claims, claims_by, is_live, is_module}
use Rattle.bn_model.specs.Rows.{Enclave}
use Rattle.bn_model.specs.Soundness.{Ascend, Has}
use Rattle.bn_model.proofs.MembershipLemmas.{any-has, has-any, has-flat_map, has-map}
use Rattle.bn_model.proofs.RowLemmas.{owner_by}
use Rattle.bn_model.proofs.TestLemmas.{any-map}

-- ---- elements

pub has-parts : {X : Type 0} (xs ys : List X) (x : X) → Has x (xs ++ ys) → Has x xs ⊎ Has x ys
has-parts [] ys x h = inr h
has-parts (z ∷ zs) ys x (inl is) = inl (inl is)
has-parts (z ∷ zs) ys x (inr h) = later (has-parts zs ys x h)
  where
    later : Has x zs ⊎ Has x ys → Has x (z ∷ zs) ⊎ Has x ys
    later (inl there) = inl (inr there)
    later (inr there) = inr there

pub from-map : {X Y : Type 0} (f : X → Y) (xs : List X) (y : Y) → Has y (map f xs)
    → (x : X) × Has x xs × (y ≡ f x)
from-map f [] y h = absurd h
from-map f (x ∷ xs) y (inl is) = (x, inl refl, is)
from-map f (x ∷ xs) y (inr h) = let deeper = from-map f xs y h in (deeper.0, inr deeper.1, deeper.2)

from-flat_map : {X Y : Type 0} (f : X → List Y) (xs : List X) (y : Y) → Has y (flat_map f xs)
    → (x : X) × Has x xs × Has y (f x)
from-flat_map f [] y h = absurd h
from-flat_map {X} f (x ∷ xs) y h =
    by_part (has-parts (f x) (flat_map f xs) y h) (from-flat_map f xs y)
  where
    by_part : Has y (f x) ⊎ Has y (flat_map f xs)
        → (Has y (flat_map f xs) → (z : X) × Has z xs × Has y (f z))
        → (z : X) × Has z (x ∷ xs) × Has y (f z)
    by_part (inl here) deeper = (x, inl refl, here)
    by_part (inr there) deeper = let found = deeper there in (found.0, inr found.1, found.2)

kept-has : {X : Type 0} (b : Bool) (y x : X) (left ys : List X) → (Has x left → Has x ys)
    → Has x (cond b (y ∷ left) left) → Has x (y ∷ ys)
kept-has true y x left ys deeper (inl is) = inl is
kept-has true y x left ys deeper (inr h) = inr (deeper h)
kept-has false y x left ys deeper h = inr (deeper h)

pub from-filter : {X : Type 0} (p : X → Bool) (xs : List X) (x : X) → Has x (filter p xs) → Has x xs
from-filter p [] x h = absurd h
from-filter p (y ∷ ys) x h = kept-has (p y) y x (filter p ys) ys (from-filter p ys x) h

-- ---- declarations

-- what a declaration's module is
pub record IsMade (live : List Enclave) (claim : Claim) : Type 0 where
  pub by : Enclave
  pub has : Has by live
  pub declared : Has claim.decl by.judged.decls.items
  pub owner : claim.owner ≡ by.id

abbrev pub owned : List Enclave → List Owner
owned live = map owner_by live

made-by : (live : List Enclave) (owner : Owner) (claim : Claim) → Has owner (owned live)
    → Has claim (claims_by owner) → IsMade live claim
made-by live owner claim has h =
    let one = from-map owner_by live owner has in
    let two = from-map (claim_by owner.id) owner.decls.items claim h in
    record {
      by = one.0;
      has = one.1;
      declared = subst (λ (d : Decl). Has d one.0.judged.decls.items)
          (sym (ap (λ (c : Claim). c.decl) two.2))
          (subst (λ (o : Owner). Has two.0 o.decls.items) one.2 two.1);
      owner = ap (λ (c : Claim). c.owner) two.2 ∙ ap (λ (o : Owner). o.id) one.2;
    }

pub made : (live : List Enclave) (claim : Claim) → Has claim (claims (owned live))
    → IsMade live claim
unfolding claims
made live claim h =
    let found = from-flat_map claims_by (owned live) claim h in
    made-by live found.0 claim found.1 found.2

pub makes : (live : List Enclave) (by : Enclave) (decl : Decl) → Has by live
    → Has decl by.judged.decls.items → Has (claim_by by.id decl) (claims (owned live))
unfolding claims
makes live by decl has declared =
    has-flat_map claims_by (owned live) (owner_by by) (claim_by by.id decl)
    (has-map owner_by live by has)
    (has-map (claim_by by.id) by.judged.decls.items decl declared)

-- a declaration by its parts
pub claim-parts : (one other : Claim) → one.owner ≡ other.owner → one.decl ≡ other.decl
    → one ≡ other
claim-parts one other owners decls = ap₂ (λ (m : ModId) (d : Decl). claim_by m d) owners decls

pub makes-claim : (live : List Enclave) (claim : Claim) → IsMade live claim
    → Has claim (claims (owned live))
makes-claim live claim m =
    subst (λ (c : Claim). Has c (claims (owned live)))
    (claim-parts (claim_by m.by.id claim.decl) claim (sym m.owner) refl)
    (makes live m.by claim.decl m.has m.declared)

-- ---- live modules

pub live-has : (live : List Enclave) (id : ℕ) → is_live (owned live) id ≡ true
    → (e : Enclave) × Has e live × (e.id.0 ≡ id)
live-has live id h =
    let found = any-has (is_enclave id) live
    (sym (any-map (is_module id) (is_enclave id) owner_by (λ e. refl) live) ∙ h) in
    (found.0, found.1, eqb-true found.0.id.0 id found.2)

pub has-live : (live : List Enclave) (id : ℕ) (e : Enclave) → Has e live → e.id.0 ≡ id
    → is_live (owned live) id ≡ true
has-live live id e has is =
    any-map (is_module id) (is_enclave id) owner_by (λ e. refl) live
    ∙ has-any (is_enclave id) live e has (eq-eqb e.id.0 id is)

-- its id lies between the bounds
pub has-between : (low : ℕ) (live : List Enclave) (next : ℕ) → Ascend low live next → (e : Enclave)
    → Has e live → (low < e.id.0) × (e.id.0 < next)
has-between low [] next ids e h = absurd h
has-between low (first ∷ rest) next ids e (inl is) =
    subst (λ (x : Enclave). (low < x.id.0) × (x.id.0 < next)) (sym is) (ids.0, ids.1)
has-between low (first ∷ rest) next ids e (inr later) =
    let deeper = has-between first.id.0 rest next ids.2 e later in
    let one : low < first.id.0 = ids.0 in
    let two : first.id.0 < e.id.0 = deeper.0 in
    (omega arith, deeper.1)

-- no two modules have one id
pub one-of-id : (low : ℕ) (live : List Enclave) (next : ℕ) → Ascend low live next
    → (one other : Enclave) → Has one live → Has other live
    → one.id.0 ≡ other.id.0 → one ≡ other
one-of-id low [] next ids one other h k e = absurd h
one-of-id low (first ∷ rest) next ids one other (inl is) (inl be) e = is ∙ sym be
one-of-id low (first ∷ rest) next ids one other (inl is) (inr later) e =
    let below : first.id.0 < other.id.0 = (has-between first.id.0 rest next ids.2 other later).0 in
    let same : one.id.0 ≡ first.id.0 = ap (λ (x : Enclave). x.id.0) is in
    absurd (omega arith)
one-of-id low (first ∷ rest) next ids one other (inr later) (inl be) e =
    let below : first.id.0 < one.id.0 = (has-between first.id.0 rest next ids.2 one later).0 in
    let same : other.id.0 ≡ first.id.0 = ap (λ (x : Enclave). x.id.0) be in
    absurd (omega arith)
one-of-id low (first ∷ rest) next ids one other (inr h) (inr k) e =
    one-of-id first.id.0 rest next ids.2 one other h k e
