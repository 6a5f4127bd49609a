-- Events from the state without the secrets of a resting module.
use Rattle.std.proofs.Common.{◌≡◌, ℕ, zero, ◌<◌, ◌&&◌, Bool, true, false, List, [], ◌∷◌, length}
use Rattle.std.proofs.Common.{Option, refl, sym, ap, ap₂, subst, ◌∙◌, arith}
use Rattle.std.proofs.lemmas.Bool.{both_ways, false_from_ne_true}
use Rattle.bn_types.specs.declared.event.Event.{Event}
use Rattle.bn_types.specs.declared.event.Event.TheVariants.{Turn, Key, Poke, Peek}
use Rattle.bn_types.specs.declared.row.Row.{Row}
use Rattle.bn_model.specs.declared.owner.Owner.{Owner}
use Rattle.bn_model.specs.Blanking.{blank, blank_if, blank_page, blank_pages, blank_row, blanked}
use Rattle.bn_model.specs.Blanking.{rests}
use Rattle.bn_model.specs.BlankingLaws.{RestsIn}
use Rattle.bn_model.specs.Deciding.{decision_of, decision_of_hart}
use Rattle.bn_model.specs.Decision.{Decision}
use Rattle.bn_model.specs.Evicting.{zeros_if}
use Rattle.bn_model.specs.Owners.{is_live, is_private_page}
use Rattle.bn_model.specs.Rows.{owners}
use Rattle.bn_model.specs.Soundness.{IsSound}
use Rattle.bn_model.specs.State.{State, hart_at}
use Rattle.bn_model.specs.Stepping.{Fits, after_tick, after_turn, lines, lines_of_turn, peek_line}
use Rattle.bn_model.specs.Stepping.{poke_line, step}
use Rattle.bn_model.proofs.BlankDecisions.{decision-blanked}
use Rattle.bn_model.proofs.BlankSteps.{StoresElsewhere, poke-blanked, rests-apart}
use Rattle.bn_model.proofs.BlankSteps.{seen_page-blanked, starts-others, turn-blanked}
use Rattle.bn_model.proofs.BlankStores.{stores-elsewhere}
use Rattle.bn_model.proofs.ClaimLemmas.{live-private}
use Rattle.bn_model.proofs.EachLemmas.{each-kept}
use Rattle.bn_model.proofs.IdLemmas.{live-between}
use Rattle.bn_model.proofs.RowLemmas.{with_row-dead}

-- ---- the guard

dead-pages : (os : List Owner) (m : ℕ) → is_live os m ≡ false → (pages : List (List ℕ))
    → blank_pages os m pages ≡ pages
unfolding blank_pages
dead-pages os m dead pages = each-kept (blank_page os m) kept 0 pages
  where
    kept : (page : ℕ) (bytes : List ℕ) → blank_page os m page bytes ≡ bytes
    kept page bytes =
        ap (λ (b : Bool). zeros_if b bytes)
        (false_from_ne_true (is_private_page os m page)
        (λ e. both_ways (is_live os m) dead (live-private os m page e)))

-- a module that isn't live has no secrets
pub dead-blanked : (m : ℕ) (s : State) → is_live (owners s.rows) m ≡ false → blanked m s ≡ s
dead-blanked m s dead =
    ap₂ (λ (pages : List (List ℕ)) (rows : List Row). record s { pages = pages; rows = rows })
    (dead-pages (owners s.rows) m dead s.pages) (with_row-dead m blank_row s.rows dead)

-- where no hart runs the module, the guard of blanking makes no difference
pub blank-rests : (m : ℕ) (s : State) → rests m s ≡ true → blank m s ≡ blanked m s
unfolding blank
blank-rests m s rest =
    ap (λ (b : Bool). blank_if (is_live (owners s.rows) m && b) m s) rest
    ∙ by_life (is_live (owners s.rows) m) refl
  where
    by_life : (b : Bool) → is_live (owners s.rows) m ≡ b → blank_if (b && true) m s ≡ blanked m s
    by_life true e = refl
    by_life false e = sym (dead-blanked m s e)

pub blank-dead : (m : ℕ) (s : State) → is_live (owners s.rows) m ≡ false → blank m s ≡ s
unfolding blank
blank-dead m s dead = ap (λ (b : Bool). blank_if (b && rests m s) m s) dead

-- ---- lines

decision_of-blanked : (m : ℕ) (s : State) (h : ℕ) → h < length s.harts → IsSound s
    → rests m s ≡ true
    → decision_of (blanked m s) h ≡ decision_of s h
unfolding decision_of
decision_of-blanked m s h within sound rest =
    decision-blanked m s sound.claims.alone h (hart_at s h) (rests-apart m s h rest within)

-- what a turn comes to doesn't depend on a resting module's secrets
pub decision-blank : (m : ℕ) (s : State) (h : ℕ) → h < length s.harts → IsSound s
    → rests m s ≡ true → decision_of (blank m s) h ≡ decision_of s h
decision-blank m s h within sound rest =
    ap (λ (t : State). decision_of t h) (blank-rests m s rest)
    ∙ decision_of-blanked m s h within sound rest

lines-blanked : (m : ℕ) (s : State) (e : Event) → Fits s e → IsSound s → rests m s ≡ true
    → lines (blanked m s) e ≡ lines s e
unfolding lines
lines-blanked m s (Turn h) fits sound rest =
    ap (lines_of_turn s.clock s.next h (hart_at s h)) (decision_of-blanked m s h fits sound rest)
lines-blanked m s (Key byte) fits sound rest = refl
lines-blanked m s (Poke page offset byte) fits sound rest =
    ap (λ (seen : Option (Option (List ℕ))). poke_line seen s.clock page offset byte ∷ [])
    (seen_page-blanked m s page)
lines-blanked m s (Peek page offset) fits sound rest =
    ap (λ (seen : Option (Option (List ℕ))). peek_line seen s.clock page offset ∷ [])
    (seen_page-blanked m s page)

pub blank-lines : (m : ℕ) (s : State) (e : Event) → Fits s e → IsSound s → rests m s ≡ true
    → lines (blank m s) e ≡ lines s e
blank-lines m s e fits sound rest =
    ap (λ (t : State). lines t e) (blank-rests m s rest) ∙ lines-blanked m s e fits sound rest

-- ---- steps

pub below-next : (m : ℕ) (s : State) → IsSound s → is_live (owners s.rows) m ≡ true → s.next ≡ m → ⊥
below-next m s sound live is =
    let found = live-between zero m s.rows s.next sound.ids.ascend live in
    let below = found.1 in
    omega arith

turn-step : (m : ℕ) (s : State) (h : ℕ) → h < length s.harts → IsSound s → RestsIn m s
    → (d : Decision)
    → decision_of_hart s h (hart_at s h) ≡ d → rests m (after_turn s h (hart_at s h) d) ≡ true
    → after_turn (blanked m s) h (hart_at s h) d ≡ blanked m (after_turn s h (hart_at s h) d)
turn-step m s h within sound resting d is rest =
    let apart : (hart_at s h).current.0 ≡ m → ⊥ = rests-apart m s h resting.rest within in
    turn-blanked m s h (hart_at s h) apart d
    (subst (StoresElsewhere m (owners s.rows)) is
    (stores-elsewhere m s sound.claims.alone h (hart_at s h) apart))
    (starts-others m s h (hart_at s h) d within (below-next m s sound resting.live) rest)

step-blanked : (m : ℕ) (s : State) (e : Event) → Fits s e → IsSound s → RestsIn m s
    → rests m (step s e) ≡ true
    → step (blanked m s) e ≡ blanked m (step s e)
unfolding step decision_of
step-blanked m s (Turn h) fits sound resting rest =
    ap (after_turn (blanked m s) h (hart_at s h))
    (decision-blanked m s sound.claims.alone h (hart_at s h)
    (rests-apart m s h resting.rest fits))
    ∙ turn-step m s h fits sound resting (decision_of_hart s h (hart_at s h)) refl rest
step-blanked m s (Key byte) fits sound resting rest = refl
step-blanked m s (Poke page offset byte) fits sound resting rest =
    ap (λ (pages : List (List ℕ)). after_tick (record (blanked m s) { pages = pages }))
    (poke-blanked m s page offset byte)
step-blanked m s (Peek page offset) fits sound resting rest = refl

pub blank-step : (m : ℕ) (s : State) (e : Event) → Fits s e → IsSound s → RestsIn m s
    → rests m (step s e) ≡ true
    → step (blank m s) e ≡ blank m (step s e)
blank-step m s e fits sound resting rest =
    ap (λ (t : State). step t e) (blank-rests m s resting.rest)
    ∙ step-blanked m s e fits sound resting rest
    ∙ sym (blank-rests m (step s e) rest)
