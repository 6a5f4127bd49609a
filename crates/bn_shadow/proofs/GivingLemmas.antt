-- Which pages are given up, module by module.
use Rattle.std.proofs.Common.{◌≡◌, ℕ, Bool, true, false, ◌&&◌, ◌||◌, List, [], ◌∷◌, ◌++◌, refl, sym}
use Rattle.std.proofs.Common.{ap}
use Rattle.std.proofs.Common.{◌∙◌}
use Rattle.std.proofs.lemmas.Bool.{and_parts, both_ways, false_from_ne_true}
use Rattle.std.proofs.lemmas.List.Folds.{list_any-append}
use Rattle.std.specs.List.{list_any}
use Rattle.bn_types.specs.declared.decl.Decl.{Decl}
use Rattle.bn_types.specs.declared.row.Row.{Row}
use Rattle.bn_model.specs.declared.owner.Owner.{Owner}
use Rattle.bn_model.specs.Evicting.{is_among, is_given_up}
use Rattle.bn_model.specs.Owners.{Claim, claim_by, claims, claims_by, is_on, is_own, is_owned}
use Rattle.bn_model.proofs.MembershipLemmas.{any-implies}
use Rattle.bn_model.proofs.TestLemmas.{any-map}
use Rattle.bn_shadow.specs.Counting.{gives_up, is_own_on}

-- a claim is some module's
pub any_claim : (gone : List Row) (page : ℕ) (live : List Owner)
    → list_any (is_given_up gone page) (claims live)
    ≡ list_any (gives_up gone page) live
unfolding claims
any_claim gone page [] = refl
any_claim gone page (owner ∷ live) =
    list_any-append (is_given_up gone page) (claims_by owner) (claims live)
    ∙ ap (λ (b : Bool). list_any (is_given_up gone page) (claims_by owner) || b)
    (any_claim gone page live)

none : {X : Type 0} (xs : List X) → list_any (λ (x : X). false) xs ≡ false
none [] = refl
none (x ∷ xs) = none xs

with-test : (b : Bool) (page : ℕ) (decls : List Decl)
    → list_any (λ (decl : Decl). b && is_own_on page decl) decls
    ≡ (b && list_any (is_own_on page) decls)
with-test true page decls = refl
with-test false page decls = none decls

three : (a b c : Bool) → ((a && b) && c) ≡ (a && (b && c))
three true b c = refl
three false b c = refl

pub any_decl : (gone : List Row) (page : ℕ) (owner : Owner)
    → list_any (is_given_up gone page) (claims_by owner)
    ≡ (is_among gone owner.id.0 && list_any (is_own_on page) owner.decls.items)
any_decl gone page owner =
    any-map (is_given_up gone page)
    (λ (decl : Decl). is_among gone owner.id.0 && is_own_on page decl) (claim_by owner.id)
    (λ decl. three (is_among gone owner.id.0) (is_own decl.sort) (is_on page (claim_by owner.id decl)))
    owner.decls.items
    ∙ with-test (is_among gone owner.id.0) page owner.decls.items

given-on : (gone : List Row) (page : ℕ) (claim : Claim) → is_given_up gone page claim ≡ true
    → is_on page claim ≡ true
given-on gone page claim e =
    (and_parts (is_among gone claim.owner.0 && is_own claim.decl.sort) (is_on page claim) e).1

-- a page that is given up is owned
pub given_owned : (gone : List Row) (page : ℕ) (live : List Owner) → is_owned live page ≡ false
    → list_any (is_given_up gone page) (claims live) ≡ false
given_owned gone page live free =
    false_from_ne_true (list_any (is_given_up gone page) (claims live))
    (λ e. both_ways (is_owned live page) free
    (any-implies (is_given_up gone page) (is_on page) (given-on gone page) (claims live) e))
