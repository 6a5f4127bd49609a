-- Laws of the elements of a list.
use Rattle.std.proofs.Common.{◌≡◌, ◌||◌, ◌⊎◌, Bool, true, false, cond, List, [], ◌∷◌, ◌++◌, map}
use Rattle.std.proofs.Common.{filter, find, flat_map, Option, Some, inl, inr, refl, sym, ap, subst}
use Rattle.std.proofs.Common.{◌∙◌}
use Rattle.std.proofs.lemmas.Bool.{and_parts, or_right}
use Rattle.std.proofs.lemmas.List.Elements.{All-head, All-tail}
use Rattle.std.proofs.lemmas.Option.{none-some, same_Some}
use Rattle.std.specs.List.{All, list_all, list_any}
use Rattle.bn_model.specs.Soundness.{Has}

pub any-has : {X : Type 0} (p : X → Bool) (xs : List X) → list_any p xs ≡ true → (x : X)
    × Has x xs × (p x ≡ true)
any-has p [] e = cc
any-has p (x ∷ xs) e = by_test (p x) refl e (any-has p xs)
  where
    by_test : (b : Bool) → p x ≡ b → (b || list_any p xs) ≡ true
        → (list_any p xs ≡ true → (y : _) × Has y xs × (p y ≡ true)) → (y : _) × Has y (x ∷ xs)
        × (p y ≡ true)
    by_test true is e deeper = (x, inl refl, is)
    by_test false is e deeper = let found = deeper e in (found.0, inr found.1, found.2)

pub has-any : {X : Type 0} (p : X → Bool) (xs : List X) (x : X) → Has x xs → p x ≡ true
    → list_any p xs ≡ true
has-any p [] x h e = absurd h
has-any p (y ∷ ys) x (inl is) e =
    ap (λ (b : Bool). b || list_any p ys) (ap p (sym is) ∙ e)
has-any p (y ∷ ys) x (inr h) e = or_right (p y) (list_any p ys) (has-any p ys x h e)

-- whoever passes one test passes another
pub any-implies : {X : Type 0} (p q : X → Bool) → ((x : X) → p x ≡ true → q x ≡ true)
    → (xs : List X)
    → list_any p xs ≡ true → list_any q xs ≡ true
any-implies p q implies xs e =
    let found = any-has p xs e in
    has-any q xs found.0 found.1 (implies found.0 found.2)

has-found : {X : Type 0} (b : Bool) (y x : X) (ys : List X) (rest : Option X)
    → (rest ≡ Some x → Has x ys) → cond b (Some y) rest ≡ Some x → Has x (y ∷ ys)
has-found true y x ys rest deeper is = inl (sym (same_Some y x is))
has-found false y x ys rest deeper is = inr (deeper is)

pub has-find : {X : Type 0} (p : X → Bool) (xs : List X) (x : X) → find p xs ≡ Some x → Has x xs
has-find p [] x e = absurd (none-some x e)
has-find p (y ∷ ys) x e = has-found (p y) y x ys (find p ys) (has-find p ys x) e

pub has-map : {X Y : Type 0} (f : X → Y) (xs : List X) (x : X) → Has x xs → Has (f x) (map f xs)
has-map f [] x h = absurd h
has-map f (y ∷ ys) x (inl is) = inl (ap f is)
has-map f (y ∷ ys) x (inr h) = inr (has-map f ys x h)

pub has-left : {X : Type 0} (xs ys : List X) (x : X) → Has x xs → Has x (xs ++ ys)
has-left [] ys x h = absurd h
has-left (z ∷ zs) ys x (inl is) = inl is
has-left (z ∷ zs) ys x (inr h) = inr (has-left zs ys x h)

pub has-right : {X : Type 0} (xs ys : List X) (x : X) → Has x ys → Has x (xs ++ ys)
has-right [] ys x h = h
has-right (z ∷ zs) ys x h = inr (has-right zs ys x h)

pub has-flat_map : {X Y : Type 0} (f : X → List Y) (xs : List X) (x : X) (y : Y) → Has x xs
    → Has y (f x) → Has y (flat_map f xs)
has-flat_map f [] x y h k = absurd h
has-flat_map f (z ∷ zs) x y (inl is) k =
    has-left (f z) (flat_map f zs) y (subst (λ (w : _). Has y (f w)) is k)
has-flat_map f (z ∷ zs) x y (inr h) k =
    has-right (f z) (flat_map f zs) y (has-flat_map f zs x y h k)

-- ---- where an element comes from

pub append-has : {X : Type 0} (xs ys : List X) (x : X) → Has x (xs ++ ys) → Has x xs ⊎ Has x ys
append-has [] ys x h = inr h
append-has (z ∷ zs) ys x (inl is) = inl (inl is)
append-has (z ∷ zs) ys x (inr h) = by_part (append-has zs ys x h)
  where
    by_part : Has x zs ⊎ Has x ys → Has x (z ∷ zs) ⊎ Has x ys
    by_part (inl left) = inl (inr left)
    by_part (inr right) = inr right

pub map-has : {X Y : Type 0} (f : X → Y) (xs : List X) (y : Y) → Has y (map f xs) → (x : X)
    × Has x xs × (y ≡ f x)
map-has f [] y h = absurd h
map-has f (x ∷ xs) y (inl is) = (x, inl refl, is)
map-has f (x ∷ xs) y (inr h) = let found = map-has f xs y h in (found.0, inr found.1, found.2)

pub flat_map-has : {X Y : Type 0} (f : X → List Y) (xs : List X) (y : Y) → Has y (flat_map f xs)
    → (x : X) × Has x xs × Has y (f x)
flat_map-has f [] y h = absurd h
flat_map-has f (x ∷ xs) y h = by_part (append-has (f x) (flat_map f xs) y h) (flat_map-has f xs y)
  where
    by_part : Has y (f x) ⊎ Has y (flat_map f xs)
        → (Has y (flat_map f xs) → (z : _) × Has z xs × Has y (f z))
        → (z : _) × Has z (x ∷ xs) × Has y (f z)
    by_part (inl here) deeper = (x, inl refl, here)
    by_part (inr there) deeper = let found = deeper there in (found.0, inr found.1, found.2)

has-kept : {X : Type 0} (p : X → Bool) (b : Bool) (y x : X) (ys : List X) → p y ≡ b
    → (Has x (filter p ys) → Has x ys × (p x ≡ true))
    → Has x (cond b (y ∷ filter p ys) (filter p ys))
    → Has x (y ∷ ys) × (p x ≡ true)
has-kept p true y x ys is deeper (inl e) = (inl e, ap p e ∙ is)
has-kept p true y x ys is deeper (inr h) = let rest = deeper h in (inr rest.0, rest.1)
has-kept p false y x ys is deeper h = let rest = deeper h in (inr rest.0, rest.1)

pub filter-has : {X : Type 0} (p : X → Bool) (xs : List X) (x : X) → Has x (filter p xs) → Has x xs
    × (p x ≡ true)
filter-has p [] x h = absurd h
filter-has p (y ∷ ys) x h = has-kept p (p y) y x ys refl (filter-has p ys x) h

-- ---- what holds of all elements holds of one

pub all-has : {X : Type 0} (P : X → Type 0) (xs : List X) (x : X) → All P xs → Has x xs → P x
all-has P [] x all h = absurd h
all-has P (y ∷ ys) x all (inl is) = subst P (sym is) (All-head P y ys all)
all-has P (y ∷ ys) x all (inr h) = all-has P ys x (All-tail P y ys all) h

pub list_all-has : {X : Type 0} (p : X → Bool) (xs : List X) (x : X) → list_all p xs ≡ true
    → Has x xs → p x ≡ true
list_all-has p [] x all h = absurd h
list_all-has p (y ∷ ys) x all (inl is) = ap p is ∙ (and_parts (p y) (list_all p ys) all).0
list_all-has p (y ∷ ys) x all (inr h) =
    list_all-has p ys x (and_parts (p y) (list_all p ys) all).1 h
