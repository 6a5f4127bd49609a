-- A list that is being overwritten from its front.
use Rattle.std.proofs.Common.{◌≡◌, ℕ, zero, suc, ◌+◌, ◌<◌, List, [], ◌∷◌, ◌++◌, take, drop, length}
use Rattle.std.proofs.Common.{get_or, set, refl, ap, arith, add-one}
use Rattle.std.proofs.lemmas.List.{append-nil, take_all, drop_all}

-- the first i elements are new
abbrev pub mixed : {A : Type 0} → ℕ → List A → List A → List A
mixed i new old = take i new ++ drop i old

pub mixed_none : {A : Type 0} (new old : List A) → mixed 0 new old ≡ old
mixed_none new old = refl

pub mixed_all : {A : Type 0} (n : ℕ) (new old : List A) → length new ≡ n → length old ≡ n
    → mixed n new old ≡ new
mixed_all n new old e f =
    rw (take_all n new (omega arith), drop_all n old (omega arith)) (append-nil new)

set-mixed_suc : {A : Type 0} (i : ℕ) (new old : List A) (d : A) → i < length new
    → length new ≡ length old
    → set (mixed i new old) i (get_or new i d) ≡ mixed (suc i) new old
set-mixed_suc zero (x ∷ new) (y ∷ old) d h e = refl
set-mixed_suc (suc i) (x ∷ new) (y ∷ old) d h e =
    ap (λ l. x ∷ l) (set-mixed_suc i new old d (omega arith) (omega arith))
set-mixed_suc i [] old d h e = absurd (omega arith)
set-mixed_suc i (x ∷ new) [] d h e = absurd (omega arith)

-- one more is written
pub set-mixed : {A : Type 0} (i : ℕ) (new old : List A) (d : A) → i < length new
    → length new ≡ length old
    → set (mixed i new old) i (get_or new i d) ≡ mixed (i + 1) new old
set-mixed i new old d h e = rw add-one (set-mixed_suc i new old d h e)
