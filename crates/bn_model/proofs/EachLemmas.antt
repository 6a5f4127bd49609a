-- Laws of a change of each element by its place.
use Rattle.std.proofs.Common.{◌≡◌, ℕ, zero, suc, ◌+◌, ◌<◌, ◌≤◌, List, [], ◌∷◌, length, get_or, set}
use Rattle.std.proofs.Common.{slice_get, Some, option_map, refl, sym, ap, ap₂, ◌∙◌, arith, zero-add}
use Rattle.bn_model.specs.Each.{each}

pub length-each : {X Y : Type 0} (f : ℕ → X → Y) (i : ℕ) (xs : List X)
    → length (each f i xs) ≡ length xs
length-each f i [] = refl
length-each f i (x ∷ xs) = ap suc (length-each f (suc i) xs)

-- two changes are one
pub each-each : {X Y Z : Type 0} (f : ℕ → Y → Z) (g : ℕ → X → Y) (i : ℕ) (xs : List X)
    → each f i (each g i xs) ≡ each (λ k x. f k (g k x)) i xs
each-each f g i [] = refl
each-each f g i (x ∷ xs) = ap (λ (zs : List _). f i (g i x) ∷ zs) (each-each f g (suc i) xs)

pub each-same : {X Y : Type 0} (f g : ℕ → X → Y) → ((k : ℕ) (x : X) → f k x ≡ g k x)
    → (i : ℕ) (xs : List X) → each f i xs ≡ each g i xs
each-same f g same i [] = refl
each-same f g same i (x ∷ xs) =
    ap₂ (λ (y : _) (ys : List _). y ∷ ys) (same i x) (each-same f g same (suc i) xs)

get-from : {X Y : Type 0} (f : ℕ → X → Y) (i k : ℕ) (xs : List X)
    → slice_get (each f i xs) k ≡ option_map (f (i + k)) (slice_get xs k)
get-from f i k [] = refl
get-from f i zero (x ∷ xs) =
    let place : i ≡ i + 0 = omega arith in
    ap (λ (n : ℕ). Some (f n x)) place
get-from f i (suc k) (x ∷ xs) =
    let place : suc i + k ≡ i + suc k = omega arith in
    get-from f (suc i) k xs ∙ ap (λ (n : ℕ). option_map (f n) (slice_get xs k)) place

-- an element, by its place
pub get-each : {X Y : Type 0} (f : ℕ → X → Y) (k : ℕ) (xs : List X)
    → slice_get (each f 0 xs) k ≡ option_map (f k) (slice_get xs k)
get-each f k xs = get-from f 0 k xs ∙ ap (λ (n : ℕ). option_map (f n) (slice_get xs k)) (zero-add k)

or-from : {X Y : Type 0} (f : ℕ → X → Y) (i k : ℕ) (xs : List X) (d : X) (e : Y)
    → k < length xs → get_or (each f i xs) k e ≡ f (i + k) (get_or xs k d)
or-from f i k [] d e within = absurd (omega arith)
or-from f i zero (x ∷ xs) d e within =
    let place : i ≡ i + 0 = omega arith in
    ap (λ (n : ℕ). f n x) place
or-from f i (suc k) (x ∷ xs) d e within =
    let place : suc i + k ≡ i + suc k = omega arith in
    let deeper : k < length xs = omega arith in
    or-from f (suc i) k xs d e deeper ∙ ap (λ (n : ℕ). f n (get_or xs k d)) place

pub get_or-each : {X Y : Type 0} (f : ℕ → X → Y) (k : ℕ) (xs : List X) (d : X) (e : Y)
    → k < length xs → get_or (each f 0 xs) k e ≡ f k (get_or xs k d)
get_or-each f k xs d e within =
    or-from f 0 k xs d e within ∙ ap (λ (n : ℕ). f n (get_or xs k d)) (zero-add k)

kept-from : {X : Type 0} (f : ℕ → X → X) (i k : ℕ) (xs : List X) (d : X)
    → ((x : X) → f (i + k) x ≡ x) → get_or (each f i xs) k d ≡ get_or xs k d
kept-from f i k [] d kept = refl
kept-from f i zero (x ∷ xs) d kept =
    let place : i ≡ i + 0 = omega arith in
    ap (λ (n : ℕ). f n x) place ∙ kept x
kept-from {X} f i (suc k) (x ∷ xs) d kept =
    let place : suc i + k ≡ i + suc k = omega arith in
    kept-from f (suc i) k xs d (λ (y : X). ap (λ (n : ℕ). f n y) place ∙ kept y)

-- an element at a place where nothing is changed
pub get_or-kept : {X : Type 0} (f : ℕ → X → X) (k : ℕ) (xs : List X) (d : X)
    → ((x : X) → f k x ≡ x) → get_or (each f 0 xs) k d ≡ get_or xs k d
get_or-kept {X} f k xs d kept =
    kept-from f 0 k xs d (λ (x : X). ap (λ (n : ℕ). f n x) (zero-add k) ∙ kept x)

set-from : {X Y : Type 0} (f : ℕ → X → Y) (i k : ℕ) (xs : List X) (y : X)
    → each f i (set xs k y) ≡ set (each f i xs) k (f (i + k) y)
set-from f i k [] y = refl
set-from f i zero (x ∷ xs) y =
    let place : i ≡ i + 0 = omega arith in
    ap (λ (n : ℕ). f n y ∷ each f (suc i) xs) place
set-from f i (suc k) (x ∷ xs) y =
    let place : suc i + k ≡ i + suc k = omega arith in
    ap (λ (ys : List _). f i x ∷ ys)
    (set-from f (suc i) k xs y ∙ ap (λ (n : ℕ). set (each f (suc i) xs) k (f n y)) place)

-- a change of one element first
pub each-set : {X Y : Type 0} (f : ℕ → X → Y) (k : ℕ) (xs : List X) (y : X)
    → each f 0 (set xs k y) ≡ set (each f 0 xs) k (f k y)
each-set f k xs y = set-from f 0 k xs y ∙ ap (λ (n : ℕ). set (each f 0 xs) k (f n y)) (zero-add k)

-- no change at all
pub each-kept : {X : Type 0} (f : ℕ → X → X) → ((k : ℕ) (x : X) → f k x ≡ x)
    → (i : ℕ) (xs : List X) → each f i xs ≡ xs
each-kept f kept i [] = refl
each-kept f kept i (x ∷ xs) =
    ap₂ (λ (y : _) (ys : List _). y ∷ ys) (kept i x) (each-kept f kept (suc i) xs)

later-same : {X Y : Type 0} (f g : ℕ → X → Y) (i : ℕ) (xs : List X)
    → ((k : ℕ) (x : X) → i ≤ k → f k x ≡ g k x) → each f i xs ≡ each g i xs
later-same f g i [] same = refl
later-same f g i (x ∷ xs) same =
    ap₂ (λ (y : _) (ys : List _). y ∷ ys) (same i x (omega arith))
    (later-same f g (suc i) xs (λ k z from. same k z (omega arith)))

more-from : {X Y : Type 0} (f g : ℕ → X → Y) (i k : ℕ) (y : Y) (xs : List X)
    → ((x : X) → g (i + k) x ≡ y) → ((j : ℕ) (x : X) → (j ≡ i + k → ⊥) → f j x ≡ g j x)
    → set (each f i xs) k y ≡ each g i xs
more-from f g i k y [] there elsewhere = refl
more-from f g i zero y (x ∷ xs) there elsewhere =
    let place : i ≡ i + 0 = omega arith in
    ap₂ (λ (z : _) (zs : List _). z ∷ zs)
    (sym (ap (λ (n : ℕ). g n x) place ∙ there x))
    (later-same f g (suc i) xs (λ j z from. elsewhere j z (λ is. omega arith)))
more-from f g i (suc k) y (x ∷ xs) there elsewhere =
    let place : suc i + k ≡ i + suc k = omega arith in
    ap₂ (λ (z : _) (zs : List _). z ∷ zs)
    (elsewhere i x (λ is. omega arith))
    (more-from f g (suc i) k y xs (λ z. ap (λ (n : ℕ). g n z) place ∙ there z)
    (λ j z apart. elsewhere j z (λ is. apart (is ∙ sym place))))

-- a change that does this at one place, and what another does at all others
pub each-more : {X Y : Type 0} (f g : ℕ → X → Y) (k : ℕ) (y : Y) (xs : List X)
    → ((x : X) → g k x ≡ y) → ((j : ℕ) (x : X) → (j ≡ k → ⊥) → f j x ≡ g j x)
    → set (each f 0 xs) k y ≡ each g 0 xs
each-more f g k y xs there elsewhere =
    more-from f g 0 k y xs (λ x. ap (λ (n : ℕ). g n x) (zero-add k) ∙ there x)
    (λ j x apart. elsewhere j x (λ is. apart (is ∙ sym (zero-add k))))
