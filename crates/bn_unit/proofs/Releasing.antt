-- Pages that are given up, one after another.
use Rattle.std.proofs.Common.{◌≡◌, ℕ, zero, suc, ◌+◌, ◌<◌, List, [], ◌∷◌, length}
use Rattle.std.proofs.Common.{get_or, refl, sym, ap, ◌∙◌, arith}
use Rattle.std.proofs.lemmas.List.{set-get_or}
use Rattle.std.specs.Prelude.{slice_set}
use Rattle.bn_types.specs.Numbers.{page_at}
use Rattle.bn_types.specs.declared.row.Row.{Row}
use Rattle.bn_model.specs.declared.owner.Owner.{Owner}
use Rattle.bn_model.specs.Each.{each}
use Rattle.std.proofs.Common.{◌&&◌, true}
use Rattle.std.proofs.lemmas.Bool.{and_parts}
use Rattle.std.specs.List.{list_any}
use Rattle.bn_model.specs.Evicting.{is_among, is_given_up, page_left, pages_left}
use Rattle.bn_model.specs.Owners.{claims, is_on, is_own, is_owned}
use Rattle.bn_model.proofs.MembershipLemmas.{any-implies}
use Rattle.bn_model.proofs.EachLemmas.{get_or-each, length-each}
use Rattle.bn_model.proofs.MixedLists.{mixed, mixed_all, set-mixed}

-- a page that is set to itself
pub set_same : (pages : List (List ℕ)) (page : ℕ) → slice_set pages page (page_at pages page) ≡ pages
set_same pages page = set-get_or pages page []

mixed-at : {X : Type 0} (i : ℕ) (new old : List X) (d : X) → length new ≡ length old
    → get_or (mixed i new old) i d ≡ get_or old i d
mixed-at zero new old d e = refl
mixed-at (suc i) [] [] d e = refl
mixed-at (suc i) (x ∷ new) (y ∷ old) d e = mixed-at i new old d (omega arith)
mixed-at (suc i) [] (y ∷ old) d e = absurd (omega arith)
mixed-at (suc i) (x ∷ new) [] d e = absurd (omega arith)

-- one page more is as the eviction leaves it
pub left-more : (gone : List Row) (live : List Owner) (old now : List (List ℕ)) (i : ℕ)
    → i < length old → now ≡ mixed i (pages_left gone live old) old
    → slice_set now i (page_left gone live i (page_at now i))
    ≡ mixed (i + 1) (pages_left gone live old) old
unfolding pages_left
left-more gone live old now i inside e =
    let f : ℕ → List ℕ → List ℕ = page_left gone live in
    let size : length (each f 0 old) ≡ length old = length-each f 0 old in
    ap (λ (pages : List (List ℕ)). slice_set pages i (f i (page_at pages i))) e
    ∙ ap (λ (page : List ℕ). slice_set (mixed i (each f 0 old) old) i (f i page))
    (mixed-at i (each f 0 old) old [] size)
    ∙ ap (λ (page : List ℕ). slice_set (mixed i (each f 0 old) old) i page)
    (sym (get_or-each f i old [] [] inside))
    ∙ set-mixed i (each f 0 old) old [] (omega (arith, size)) size

pub left-all : (gone : List Row) (live : List Owner) (old now : List (List ℕ)) (n : ℕ)
    → n ≡ length old → now ≡ mixed n (pages_left gone live old) old → now ≡ pages_left gone live old
unfolding pages_left
left-all gone live old now n size e =
    e ∙ mixed_all n (each (page_left gone live) 0 old) old
    (length-each (page_left gone live) 0 old ∙ sym size) (sym size)

-- a page that is given up is owned
pub given-owned : (gone : List Row) (page : ℕ) (live : List Owner)
    → list_any (is_given_up gone page) (claims live) ≡ true → is_owned live page ≡ true
given-owned gone page live given =
    any-implies (is_given_up gone page) (is_on page)
    (λ claim yes.
    (and_parts (is_among gone claim.owner.0 && is_own claim.decl.sort) (is_on page claim) yes).1)
    (claims live) given
