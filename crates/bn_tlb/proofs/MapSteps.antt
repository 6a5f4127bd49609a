-- A list whose elements are changed one after another.
use Rattle.std.proofs.Common.{◌≡◌, ℕ, ◌+◌, ◌-◌, ◌<◌, ◌≤◌, List, length, map, take, drop, get_or}
use Rattle.std.proofs.Common.{set, sym, ap, ◌∙◌, arith}
use Rattle.std.proofs.lemmas.List.{get_or-append_right, get_or-drop, get_or-map, length-map}
use Rattle.std.proofs.lemmas.List.{length-take-le}
use Rattle.bn_model.proofs.MixedLists.{mixed, set-mixed}

read-mixed : {X : Type 0} (new old : List X) (i : ℕ) (d : X) → i ≤ length new
    → get_or (mixed i new old) i d ≡ get_or old i d
read-mixed new old i d below =
    let front : length (take i new) ≡ i = length-take-le i new below in
    let none : i - i ≡ 0 = omega arith in
    let same : i + 0 ≡ i = omega arith in
    get_or-append_right (take i new) (drop i old) i i d front (omega arith)
    ∙ ap (λ (n : ℕ). get_or (drop i old) n d) none
    ∙ get_or-drop i old 0 d
    ∙ ap (λ (n : ℕ). get_or old n d) same

-- the next one is changed
pub map-step : {X : Type 0} (change : X → X) (old now : List X) (i : ℕ) (d y : X)
    → now ≡ mixed i (map change old) old → i < length old
    → y ≡ change (get_or now i d) → set now i y ≡ mixed (i + 1) (map change old) old
map-step change old now i d y e below changed =
    let size : length (map change old) ≡ length old = length-map old change in
    let here : get_or now i d ≡ get_or old i d =
    ap (λ (xs : List _). get_or xs i d) e ∙ read-mixed (map change old) old i d (omega arith) in
    let new : y ≡ get_or (map change old) i y = changed ∙ ap change here
    ∙ sym (get_or-map change old i d y below) in
    ap (λ (xs : List _). set xs i y) e
    ∙ ap (set (mixed i (map change old) old) i) new
    ∙ set-mixed i (map change old) old y (omega arith) size
