-- Laws of lists that are searched or thinned out by a test.
use Rattle.std.proofs.Common.{◌≡◌, ◌||◌, Bool, true, false, cond, List, [], ◌∷◌, ◌++◌, map, find}
use Rattle.std.proofs.Common.{filter, flat_map, Option, Some, None, option_map, refl, ap, ap₂, ◌∙◌}
use Rattle.std.proofs.lemmas.List.Folds.{list_any-append}
use Rattle.std.specs.List.{list_any}

cond-option_map : {X Y : Type 0} (f : Y → X) (b : Bool) (y : Y) (rest : Option X)
    (others : Option Y)
    → rest ≡ option_map f others → cond b (Some (f y)) rest ≡ option_map f (cond b (Some y) others)
cond-option_map f true y rest others e = refl
cond-option_map f false y rest others e = e

-- a search after a change of each element that the test doesn't see
pub find-map : {X Y : Type 0} (p : X → Bool) (q : Y → Bool) (f : Y → X)
    → ((y : Y) → p (f y) ≡ q y) → (ys : List Y) → find p (map f ys) ≡ option_map f (find q ys)
find-map p q f same [] = refl
find-map {X} p q f same (y ∷ ys) =
    ap (λ (b : Bool). cond b (Some (f y)) (find p (map f ys))) (same y)
    ∙ cond-option_map f (q y) y (find p (map f ys)) (find q ys) (find-map p q f same ys)

cond-found : {X : Type 0} (p : X → Bool) (b : Bool) (y x : X) (rest : Option X)
    → p y ≡ b → (rest ≡ Some x → p x ≡ true) → cond b (Some y) rest ≡ Some x → p x ≡ true
cond-found p true y x rest e deeper is = cc
cond-found p false y x rest e deeper is = deeper is

-- what is found passes the test
pub find-passes : {X : Type 0} (p : X → Bool) (xs : List X) (x : X) → find p xs ≡ Some x
    → p x ≡ true
find-passes p [] x e = cc
find-passes p (y ∷ ys) x e =
    cond-found p (p y) y x (find p ys) refl (find-passes p ys x) e

pub any-map : {X Y : Type 0} (p : X → Bool) (q : Y → Bool) (f : Y → X)
    → ((y : Y) → p (f y) ≡ q y) → (ys : List Y) → list_any p (map f ys) ≡ list_any q ys
any-map p q f same [] = refl
any-map p q f same (y ∷ ys) =
    ap₂ (λ (b c : Bool). b || c) (same y) (any-map p q f same ys)

pub any-same : {X : Type 0} (p q : X → Bool) → ((x : X) → p x ≡ q x) → (xs : List X)
    → list_any p xs ≡ list_any q xs
any-same p q same [] = refl
any-same p q same (x ∷ xs) = ap₂ (λ (b c : Bool). b || c) (same x) (any-same p q same xs)

cond-map : {X Y : Type 0} (f : Y → X) (b : Bool) (y : Y) (rest : List X) (others : List Y)
    → rest ≡ map f others → cond b (f y ∷ rest) rest ≡ map f (cond b (y ∷ others) others)
cond-map f true y rest others e = ap (λ (xs : List _). f y ∷ xs) e
cond-map f false y rest others e = e

pub filter-map : {X Y : Type 0} (p : X → Bool) (q : Y → Bool) (f : Y → X)
    → ((y : Y) → p (f y) ≡ q y) → (ys : List Y) → filter p (map f ys) ≡ map f (filter q ys)
filter-map p q f same [] = refl
filter-map p q f same (y ∷ ys) =
    ap (λ (b : Bool). cond b (f y ∷ filter p (map f ys)) (filter p (map f ys))) (same y)
    ∙ cond-map f (q y) y (filter p (map f ys)) (filter q ys) (filter-map p q f same ys)

cond-same : {X : Type 0} (b : Bool) (x : X) (rest others : List X)
    → rest ≡ others → cond b (x ∷ rest) rest ≡ cond b (x ∷ others) others
cond-same b x rest others e = ap (λ (xs : List _). cond b (x ∷ xs) xs) e

pub filter-same : {X : Type 0} (p q : X → Bool) → ((x : X) → p x ≡ q x) → (xs : List X)
    → filter p xs ≡ filter q xs
filter-same p q same [] = refl
filter-same p q same (x ∷ xs) =
    ap (λ (b : Bool). cond b (x ∷ filter p xs) (filter p xs)) (same x)
    ∙ cond-same (q x) x (filter p xs) (filter q xs) (filter-same p q same xs)

pub any-flat_map : {X Y : Type 0} (p : Y → Bool) (f : X → List Y) (xs : List X)
    → list_any p (flat_map f xs) ≡ list_any (λ x. list_any p (f x)) xs
any-flat_map p f [] = refl
any-flat_map p f (x ∷ xs) =
    list_any-append p (f x) (flat_map f xs)
    ∙ ap (λ (b : Bool). list_any p (f x) || b) (any-flat_map p f xs)

cond-append : {X : Type 0} (b : Bool) (y : X) (rest others : Option X) → rest ≡ others
    → cond b (Some y) rest ≡ cond b (Some y) others
cond-append b y rest others e = ap (λ (o : Option _). cond b (Some y) o) e

-- one more element that the test doesn't pass
pub find-push : {X : Type 0} (p : X → Bool) (xs : List X) (x : X) → p x ≡ false
    → find p (xs ++ x ∷ []) ≡ find p xs
find-push p [] x e = ap (λ (b : Bool). cond b (Some x) None) e
find-push p (y ∷ ys) x e =
    cond-append (p y) y (find p (ys ++ x ∷ [])) (find p ys) (find-push p ys x e)

find-if : {X : Type 0} (p : X → Bool) (b c : Bool) (y : X) (ys : List X) (others : Option X)
    → (b ≡ true → c ≡ true)
    → p y ≡ b → find p ys ≡ others → find p (cond c (y ∷ ys) ys) ≡ cond b (Some y) others
find-if p true true y ys others implies is e = ap (λ (t : Bool). cond t (Some y) (find p ys)) is
find-if p true false y ys others implies is e = let f = implies refl in cc
find-if p false true y ys others implies is e = ap (λ (t : Bool). cond t (Some y) (find p ys)) is
    ∙ e
find-if p false false y ys others implies is e = e

-- a filter that keeps all that the test passes
pub find-filter : {X : Type 0} (p q : X → Bool) → ((x : X) → p x ≡ true → q x ≡ true)
    → (xs : List X) → find p (filter q xs) ≡ find p xs
find-filter p q implies [] = refl
find-filter p q implies (x ∷ xs) =
    find-if p (p x) (q x) x (filter q xs) (find p xs) (implies x) refl (find-filter p q implies xs)
