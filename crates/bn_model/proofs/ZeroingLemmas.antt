-- Runs from the state without the secrets of a resting module.
use Rattle.std.proofs.Common.{◌≡◌, ℕ, zero, suc, ◌<◌, ◌==◌, ◌&&◌, ◌||◌, Bool, true, false, not}
use Rattle.std.proofs.Common.{List, [], ◌∷◌, ◌++◌, map, set, Option, refl, sym, ap}
use Rattle.std.proofs.Common.{ap₂, subst, ◌∙◌, arith, ne_eqb}
use Rattle.std.proofs.lemmas.List.{map-append}
use Rattle.std.proofs.lemmas.List.Folds.{list_any-append}
use Rattle.std.specs.List.{list_any}
use Rattle.bn_types.specs.Numbers.{page_at}
use Rattle.bn_types.specs.declared.cause.Cause.{Cause}
use Rattle.bn_types.specs.declared.event.Event.{Event}
use Rattle.bn_types.specs.declared.event.Event.TheVariants.{Turn, Key, Poke, Peek}
use Rattle.bn_types.specs.declared.line.Line.{Line}
use Rattle.bn_types.specs.declared.mod_id.ModId.{ModId}
use Rattle.bn_types.specs.declared.row.Row.{Row}
use Rattle.bn_model.specs.declared.owner.Owner.{Owner}
use Rattle.bn_model.specs.Blanking.{blank, blank_row, blanked, rests, runs}
use Rattle.bn_model.specs.BlankingLaws.{AllFit, IsUnseen, RestingHidesSecrets}
use Rattle.bn_model.specs.BlankingLaws.{RestsOn, RunsHideSecrets}
use Rattle.bn_model.specs.BlankingLaws.{ZeroingChangesNothing}
use Rattle.bn_model.specs.Deciding.{decision_of, decision_of_hart}
use Rattle.bn_model.specs.Decision.{Decision, Trap, Deny, Launch, Call, Return, Resume, Evict}
use Rattle.bn_model.specs.Evicting.{evicted_rows, is_among, rows_left}
use Rattle.bn_model.specs.Owners.{is_live, is_module, is_private_page}
use Rattle.bn_model.specs.Rows.{new_row, owner_of, owners, row_of, saved_of, with_row}
use Rattle.bn_model.specs.Running.{Blind, Run, run, state_before}
use Rattle.bn_model.specs.SoundnessLaws.{KeepsSound}
use Rattle.bn_model.specs.Soundness.{IsSound}
use Rattle.bn_model.specs.State.{Hart, State, frame_of, hart_after_resume, hart_after_return}
use Rattle.bn_model.specs.State.{hart_at}
use Rattle.bn_model.specs.Stepping.{Fits, after_trap_in, after_turn, frame_of_call, lines, step}
use Rattle.bn_model.specs.Switching.{frame_of_caller, row_after_resume, row_after_stop}
use Rattle.bn_model.specs.Walking.{access_fault}
use Rattle.bn_model.proofs.BeforeLemmas.{blank-before, fit-by, harts-before, harts-blank}
use Rattle.bn_model.proofs.BeforeLemmas.{next-before, rests-before, rests-by, sound-before}
use Rattle.bn_model.proofs.BlankDecisions.{decision-blanked}
use Rattle.bn_model.proofs.BlankLemmas.{blank-dead, blank-lines, blank-rests, blank-step}
use Rattle.bn_model.proofs.BlankPages.{owners-blanked, page-blanked}
use Rattle.bn_model.proofs.BlankSteps.{call-owners, rests-apart, return-owners}
use Rattle.bn_model.proofs.ClaimLemmas.{live-left}
use Rattle.bn_model.proofs.IdLemmas.{live-between}
use Rattle.bn_model.proofs.RowLemmas.{owners-with_row}

-- an event's lines before those of the others
abbrev onward : List Line → Run → Run
onward told rest = record rest { told = told ++ rest.told }

-- ---- an id never comes back

trap-owners : (current : ℕ) (s : State) (h : ℕ) (hart : Hart) (cause : Cause) (value : ℕ)
    → owners (after_trap_in current s h hart cause value).rows ≡ owners s.rows
trap-owners zero s h hart cause value = refl
trap-owners (suc k) s h hart cause value =
    owners-with_row (suc k) (row_after_stop (frame_of hart)) (record { same = λ row. refl }) s.rows

trap-next : (current : ℕ) (s : State) (h : ℕ) (hart : Hart) (cause : Cause) (value : ℕ)
    → (after_trap_in current s h hart cause value).next ≡ s.next
trap-next zero s h hart cause value = refl
trap-next (suc k) s h hart cause value = refl

dead-owners : (m : ℕ) (os others : List Owner) → others ≡ os → is_live os m ≡ false
    → is_live others m ≡ false
dead-owners m os others same dead = ap (λ (list : List Owner). is_live list m) same ∙ dead

dead-launch : (m : ℕ) (rows : List Row) (row : Row) → (row.id.0 ≡ m → ⊥)
    → is_live (owners rows) m ≡ false
    → is_live (owners (rows ++ row ∷ [])) m ≡ false
unfolding owners
dead-launch m rows row apart dead =
    ap (λ (os : List Owner). is_live os m) (map-append owner_of rows (row ∷ []))
    ∙ list_any-append (is_module m) (map owner_of rows) (owner_of row ∷ [])
    ∙ ap₂ (λ (b c : Bool). b || (c || false)) dead (ne_eqb row.id.0 m apart)

dead-evict : (m : ℕ) (gone rows : List Row) → is_live (owners rows) m ≡ false
    → is_live (owners (rows_left gone rows)) m ≡ false
dead-evict m gone rows dead =
    live-left gone rows m ∙ ap (λ (b : Bool). not (is_among gone m) && b) dead
    ∙ none (is_among gone m)
  where
    none : (b : Bool) → (not b && false) ≡ false
    none true = refl
    none false = refl

turn-next : (m : ℕ) (s : State) (h : ℕ) (hart : Hart) (d : Decision) → m < s.next
    → m < (after_turn s h hart d).next
turn-next m s h hart (Trap cause value) below =
    subst (λ (n : ℕ). m < n) (sym (trap-next hart.current.0 s h hart cause value)) below
turn-next m s h hart (Deny kind va) below =
    subst (λ (n : ℕ). m < n) (sym (trap-next hart.current.0 s h hart (access_fault kind) va)) below
turn-next m s h hart (Launch rd judged) below = omega arith
turn-next m s h hart decision below = below

turn-dead : (m : ℕ) (s : State) (h : ℕ) (hart : Hart) (d : Decision) → m < s.next
    → is_live (owners s.rows) m ≡ false
    → is_live (owners (after_turn s h hart d).rows) m ≡ false
turn-dead m s h hart (Trap cause value) below dead =
    dead-owners m _ _ (trap-owners hart.current.0 s h hart cause value) dead
turn-dead m s h hart (Deny kind va) below dead =
    dead-owners m _ _ (trap-owners hart.current.0 s h hart (access_fault kind) va) dead
turn-dead m s h hart (Launch rd judged) below dead =
    dead-launch m s.rows (new_row s.next judged) (λ (is : s.next ≡ m). omega arith) dead
turn-dead m s h hart (Call rd callee entry) below dead =
    dead-owners m _ _ (call-owners hart.current.0 h callee (frame_of_call hart rd) s.rows) dead
turn-dead m s h hart (Return caller pc) below dead =
    dead-owners m _ _ (return-owners caller.0 h hart.current.0 s.rows) dead
turn-dead m s h hart (Resume id) below dead =
    dead-owners m _ _
    (owners-with_row id.0 (row_after_resume h) (record { same = λ row. refl }) s.rows) dead
turn-dead m s h hart (Evict rd id count) below dead =
    dead-evict m (evicted_rows s.rows id) s.rows dead
turn-dead m s h hart decision below dead = dead

-- the ids that were given go on being below the next
pub step-next : (m : ℕ) (s : State) (e : Event) → m < s.next → m < (step s e).next
unfolding step
step-next m s (Turn h) below = turn-next m s h (hart_at s h) (decision_of s h) below
step-next m s (Key byte) below = below
step-next m s (Poke page offset byte) below = below
step-next m s (Peek page offset) below = below

-- a module that went doesn't come back
pub step-dead : (m : ℕ) (s : State) (e : Event) → m < s.next → is_live (owners s.rows) m ≡ false
    → is_live (owners (step s e).rows) m ≡ false
unfolding step
step-dead m s (Turn h) below dead = turn-dead m s h (hart_at s h) (decision_of s h) below dead
step-dead m s (Key byte) below dead = dead
step-dead m s (Poke page offset byte) below dead = dead
step-dead m s (Peek page offset) below dead = dead

-- ---- a run from the blanked state

-- live or gone, a module that rests before and after an event takes no part in it
pub any-step : (m : ℕ) (s : State) (e : Event) → Fits s e → IsSound s → m < s.next → rests m s ≡ true
    → rests m (step s e) ≡ true
    → step (blank m s) e ≡ blank m (step s e)
any-step m s e fits sound below rest after = by_life (is_live (owners s.rows) m) refl
  where
    by_life : (b : Bool) → is_live (owners s.rows) m ≡ b → step (blank m s) e ≡ blank m (step s e)
    by_life true live = blank-step m s e fits sound (record { live = live; rest = rest }) after
    by_life false dead =
        ap (λ (t : State). step t e) (blank-dead m s dead)
        ∙ sym (blank-dead m (step s e) (step-dead m s e below dead))

pub run-blanked : KeepsSound → (blind : Option Blind) (m : ℕ) (s : State) (events : List Event)
    → AllFit blind s events → IsSound s → m < s.next → rests m s ≡ true → RestsOn blind m s events
    → run blind (blank m s) events
    ≡ record (run blind s events) { last = blank m (run blind s events).last }
unfolding run
run-blanked keeps blind m s [] fit sound below rest on = refl
run-blanked keeps blind m s (event ∷ events) fit sound below rest on =
    let before : State = state_before blind s in
    let sound_here : IsSound before = sound-before blind s sound in
    let rest_here : rests m before ≡ true = rests-before m blind s ∙ rest in
    let below_here : m < before.next =
    subst (λ (n : ℕ). m < n) (sym (next-before blind s)) below in
    ap (λ (t : State). onward (lines t event) (run blind (step t event) events))
    (blank-before blind m s)
    ∙ ap₂ (λ (told : List Line) (t : State). onward told (run blind t events))
    (blank-lines m before event fit.0 sound_here rest_here)
    (any-step m before event fit.0 sound_here below_here rest_here on.0)
    ∙ ap (onward (lines before event))
    (run-blanked keeps blind m (step before event) events fit.1
    (keeps before event fit.0 sound_here) (step-next m before event below_here) on.0 on.1)

pub sound-last : KeepsSound → (blind : Option Blind) (s : State) (events : List Event)
    → AllFit blind s events → IsSound s → IsSound (run blind s events).last
unfolding run
sound-last keeps blind s [] fit sound = sound
sound-last keeps blind s (event ∷ events) fit sound =
    let before : State = state_before blind s in
    sound-last keeps blind (step before event) events fit.1
    (keeps before event fit.0 (sound-before blind s sound))

rests-last : (blind : Option Blind) (m : ℕ) (s : State) (events : List Event) → rests m s ≡ true
    → RestsOn blind m s events → rests m (run blind s events).last ≡ true
unfolding run
rests-last blind m s [] rest on = rest
rests-last blind m s (event ∷ events) rest on =
    rests-last blind m (step (state_before blind s) event) events on.0 on.1

pub live-below : (m : ℕ) (s : State) → IsSound s → is_live (owners s.rows) m ≡ true → m < s.next
live-below m s sound live = (live-between zero m s.rows s.next sound.ids.ascend live).1

pub zeroing : KeepsSound → ZeroingChangesNothing
zeroing keeps blind s events m fit sound resting on =
    let last : State = (run blind s events).last in
    record {
      same = run-blanked keeps blind m s events fit sound (live-below m s sound resting.live)
          resting.rest on;
      next = λ next fits.
          sym (ap (λ (t : State). lines t next) (blank-before blind m last)
          ∙ blank-lines m (state_before blind last) next
          (fit-by last (state_before blind last) next (sym (harts-before blind last)) fits)
          (sound-before blind last (sound-last keeps blind s events fit sound))
          (rests-before m blind last ∙ rests-last blind m s events resting.rest on));
    }

-- ---- two states that differ in secrets

same-harts : (m : ℕ) (s t : State) → blank m s ≡ blank m t → s.harts ≡ t.harts
same-harts m s t same =
    sym (harts-blank m s) ∙ ap (λ (u : State). u.harts) same ∙ harts-blank m t

runs-set : (m : ℕ) (harts : List Hart) (h : ℕ) (one other : Hart) → one.current ≡ other.current
    → list_any (runs m) (set harts h one) ≡ list_any (runs m) (set harts h other)
runs-set m [] h one other same = refl
runs-set m (hart ∷ harts) zero one other same =
    ap (λ (current : ModId). (current.0 == m) || list_any (runs m) harts) same
runs-set m (hart ∷ harts) (suc h) one other same =
    ap (λ (b : Bool). runs m hart || b) (runs-set m harts h one other same)

trap-rests : (m current : ℕ) (s : State) (h : ℕ) (hart : Hart) (cause : Cause) (value : ℕ)
    → (after_trap_in current (blanked m s) h hart cause value).harts
    ≡ (after_trap_in current s h hart cause value).harts
trap-rests m zero s h hart cause value = refl
trap-rests m (suc k) s h hart cause value = refl

-- whether a module rests after a turn doesn't depend on its secrets, also where it starts in it
turn-rests : (m : ℕ) (s : State) (h : ℕ) (hart : Hart) (d : Decision)
    → rests m (after_turn (blanked m s) h hart d) ≡ rests m (after_turn s h hart d)
turn-rests m s h hart (Trap cause value) =
    ap (λ (harts : List Hart). not (list_any (runs m) harts))
    (trap-rests m hart.current.0 s h hart cause value)
turn-rests m s h hart (Deny kind va) =
    ap (λ (harts : List Hart). not (list_any (runs m) harts))
    (trap-rests m hart.current.0 s h hart (access_fault kind) va)
turn-rests m s h hart (Return caller pc) =
    ap not (runs-set m s.harts h
    (hart_after_return hart caller
    (frame_of_caller caller.0 (with_row m blank_row s.rows) hart.current.0))
    (hart_after_return hart caller (frame_of_caller caller.0 s.rows hart.current.0)) refl)
turn-rests m s h hart (Resume id) =
    ap not (runs-set m s.harts h
    (hart_after_resume hart id (saved_of (row_of (with_row m blank_row s.rows) id.0)))
    (hart_after_resume hart id (saved_of (row_of s.rows id.0))) refl)
turn-rests m s h hart decision = refl

pub step-rests : (m : ℕ) (s : State) (e : Event) → Fits s e → IsSound s → rests m s ≡ true
    → rests m (step (blanked m s) e) ≡ rests m (step s e)
unfolding step decision_of
step-rests m s (Turn h) fits sound rest =
    ap (λ (d : Decision). rests m (after_turn (blanked m s) h (hart_at s h) d))
    (decision-blanked m s sound.claims.alone h (hart_at s h) (rests-apart m s h rest fits))
    ∙ turn-rests m s h (hart_at s h) (decision_of_hart s h (hart_at s h))
step-rests m s (Key byte) fits sound rest = refl
step-rests m s (Poke page offset byte) fits sound rest = refl
step-rests m s (Peek page offset) fits sound rest = refl

trap-off : (m current : ℕ) (s : State) (h : ℕ) (hart : Hart) (cause : Cause) (value : ℕ)
    → (after_trap_in current (blanked m s) h hart cause value).off
    ≡ (after_trap_in current s h hart cause value).off
trap-off m zero s h hart cause value = refl
trap-off m (suc k) s h hart cause value = refl

turn-off : (m : ℕ) (s : State) (h : ℕ) (hart : Hart) (d : Decision)
    → (after_turn (blanked m s) h hart d).off ≡ (after_turn s h hart d).off
turn-off m s h hart (Trap cause value) = trap-off m hart.current.0 s h hart cause value
turn-off m s h hart (Deny kind va) = trap-off m hart.current.0 s h hart (access_fault kind) va
turn-off m s h hart decision = refl

-- whether an event shuts the machine down doesn't depend on a resting module's secrets
pub step-off : (m : ℕ) (s : State) (e : Event) → Fits s e → IsSound s → rests m s ≡ true
    → (step (blanked m s) e).off ≡ (step s e).off
unfolding step decision_of
step-off m s (Turn h) fits sound rest =
    ap (λ (d : Decision). (after_turn (blanked m s) h (hart_at s h) d).off)
    (decision-blanked m s sound.claims.alone h (hart_at s h) (rests-apart m s h rest fits))
    ∙ turn-off m s h (hart_at s h) (decision_of_hart s h (hart_at s h))
step-off m s (Key byte) fits sound rest = refl
step-off m s (Poke page offset byte) fits sound rest = refl
step-off m s (Peek page offset) fits sound rest = refl

-- so the other state's module rests too
other-rests : (m : ℕ) (s t : State) (e : Event) → Fits s e → IsSound s → IsSound t → m < s.next
    → rests m s ≡ true → rests m t ≡ true
    → blank m s ≡ blank m t → rests m (step s e) ≡ true → rests m (step t e) ≡ true
other-rests m s t e fits sound_s sound_t below rest_s rest_t same after =
    sym (step-rests m t e (fit-by s t e (same-harts m s t same) fits) sound_t rest_t)
    ∙ ap (λ (u : State). rests m (step u e)) (sym (blank-rests m t rest_t) ∙ sym same)
    ∙ ap (rests m) (any-step m s e fits sound_s below rest_s after)
    ∙ rests-by m (blank m (step s e)).harts (step s e).harts (harts-blank m (step s e))
    ∙ after

-- two sound states that differ in a module's secrets, which was launched and rests in both
record AreNear (m : ℕ) (s t : State) : Type 0 where
  sound : IsSound s
  sound_other : IsSound t
  below : m < s.next
  below_other : m < t.next
  rest : rests m s ≡ true
  rest_other : rests m t ≡ true
  same : blank m s ≡ blank m t

near-before : (blind : Option Blind) (m : ℕ) (s t : State) → AreNear m s t
    → AreNear m (state_before blind s) (state_before blind t)
near-before blind m s t near = record {
  sound = sound-before blind s near.sound;
  sound_other = sound-before blind t near.sound_other;
  below = subst (λ (n : ℕ). m < n) (sym (next-before blind s)) near.below;
  below_other = subst (λ (n : ℕ). m < n) (sym (next-before blind t)) near.below_other;
  rest = rests-before m blind s ∙ near.rest;
  rest_other = rests-before m blind t ∙ near.rest_other;
  same = sym (blank-before blind m s) ∙ ap (state_before blind) near.same ∙ blank-before blind m t;
}

near-after : KeepsSound → (m : ℕ) (s t : State) (e : Event) → AreNear m s t → Fits s e
    → Fits t e → rests m (step s e) ≡ true → AreNear m (step s e) (step t e)
near-after keeps m s t e near fits fits_other after =
    let after_other : rests m (step t e) ≡ true =
    other-rests m s t e fits near.sound near.sound_other near.below near.rest near.rest_other
    near.same after in
    record {
      sound = keeps s e fits near.sound;
      sound_other = keeps t e fits_other near.sound_other;
      below = step-next m s e near.below;
      below_other = step-next m t e near.below_other;
      rest = after;
      rest_other = after_other;
      same = sym (any-step m s e fits near.sound near.below near.rest after)
          ∙ ap (λ (u : State). step u e) near.same
          ∙ any-step m t e fits_other near.sound_other near.below_other near.rest_other
          after_other;
    }

-- all events fit the other state, and its module rests on
other-run : KeepsSound → (blind : Option Blind) (m : ℕ) (s t : State) (events : List Event)
    → AllFit blind s events → AreNear m s t → RestsOn blind m s events
    → AllFit blind t events × RestsOn blind m t events
other-run keeps blind m s t [] fit near on = (tt, tt)
other-run keeps blind m s t (event ∷ events) fit near on =
    let here : State = state_before blind s in
    let there : State = state_before blind t in
    let both : AreNear m here there = near-before blind m s t near in
    let fits : Fits there event =
    fit-by here there event (same-harts m here there both.same) fit.0 in
    let later : AreNear m (step here event) (step there event) =
    near-after keeps m here there event both fit.0 fits on.0 in
    let rest = other-run keeps blind m (step here event) (step there event) events fit.1 later on.1
    in ((fits, rest.0), (later.rest_other, rest.1))

same-page : (m : ℕ) (s t : State) → rests m s ≡ true → rests m t ≡ true → blank m s ≡ blank m t
    → (page : ℕ)
    → is_private_page (owners s.rows) m page ≡ false → page_at s.pages page ≡ page_at t.pages page
same-page m s t rest_s rest_t same page public =
    let both : blanked m s ≡ blanked m t = sym (blank-rests m s rest_s) ∙ same
    ∙ blank-rests m t rest_t in
    let own : owners s.rows ≡ owners t.rows =
    sym (owners-blanked m s) ∙ ap (λ (u : State). owners u.rows) both ∙ owners-blanked m t in
    sym (page-blanked (owners s.rows) m page s.pages public)
    ∙ ap (λ (u : State). page_at u.pages page) both
    ∙ page-blanked (owners t.rows) m page t.pages
    (ap (λ (os : List Owner). is_private_page os m page) (sym own) ∙ public)

pub hides-secrets : KeepsSound → RestingHidesSecrets
hides-secrets keeps blind s other events m fit sound_s sound_t alike on =
    let near : AreNear m s other = record {
      sound = sound_s;
      sound_other = sound_t;
      below = live-below m s sound_s alike.rest.live;
      below_other = live-below m other sound_t alike.rest_other.live;
      rest = alike.rest.rest;
      rest_other = alike.rest_other.rest;
      same = alike.alike;
    } in
    let there : AllFit blind other events × RestsOn blind m other events =
    other-run keeps blind m s other events fit near on in
    let last_s : State = (run blind s events).last in
    let last_t : State = (run blind other events).last in
    let zero_s : IsUnseen blind m s events = zeroing keeps blind s events m fit sound_s alike.rest on
    in
    let zero_t : IsUnseen blind m other events =
    zeroing keeps blind other events m there.0 sound_t alike.rest_other there.1 in
    let one : run blind (blank m s) events ≡ run blind (blank m other) events =
    ap (λ (u : State). run blind u events) alike.alike in
    let last : blank m last_s ≡ blank m last_t =
    ap (λ (r : Run). r.last) (sym zero_s.same ∙ one ∙ zero_t.same) in
    record {
      told = ap (λ (r : Run). r.told) (sym zero_s.same ∙ one ∙ zero_t.same);
      next = λ next fits.
          zero_s.next next fits
          ∙ ap (λ (u : State). lines (state_before blind u) next) last
          ∙ sym (zero_t.next next
          (fit-by last_s last_t next (same-harts m last_s last_t last) fits));
      pages = λ page public.
          same-page m last_s last_t (rests-last blind m s events alike.rest.rest on)
          (rests-last blind m other events alike.rest_other.rest there.1) last page public;
    }

-- ---- in a run

pub fit-split : (blind : Option Blind) (s : State) (events others : List Event)
    → AllFit blind s (events ++ others)
    → AllFit blind s events × AllFit blind (run blind s events).last others
unfolding run
fit-split blind s [] others fit = (tt, fit)
fit-split blind s (event ∷ events) others fit =
    let deeper = fit-split blind (step (state_before blind s) event) events others fit.1 in
    ((fit.0, deeper.0), deeper.1)

pub hides-in-run : KeepsSound → RunsHideSecrets
hides-in-run keeps blind start all sound fit = (
  (λ s m events others comes resting on.
      let parts = fit-split blind start comes.made (events ++ others)
      (subst (AllFit blind start) comes.split fit) in
      let sound_here : IsSound s =
      subst IsSound (sym comes.stands) (sound-last keeps blind start comes.made parts.0 sound) in
      let fit_here : AllFit blind s (events ++ others) =
      subst (λ (t : State). AllFit blind t (events ++ others)) (sym comes.stands) parts.1 in
      zeroing keeps blind s events m (fit-split blind s events others fit_here).0 sound_here
      resting on),
  (λ other m events others split sound_other alike on.
      hides-secrets keeps blind start other events m
      (fit-split blind start events others (subst (AllFit blind start) split fit)).0 sound
      sound_other alike on),
)
