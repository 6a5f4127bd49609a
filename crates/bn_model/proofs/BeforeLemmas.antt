-- What blanking leaves of a state, and what holds of the state before an event of a blinded run.
use Rattle.std.proofs.Common.{◌≡◌, ℕ, ◌<◌, ◌==◌, ◌&&◌, Bool, true, false, not, List, [], ◌∷◌}
use Rattle.std.proofs.Common.{length, Option, Some, None, refl, sym, ap, ap₂, subst, ◌∙◌}
use Rattle.std.specs.List.{list_any}
use Rattle.bn_types.specs.declared.event.Event.{Event}
use Rattle.bn_types.specs.declared.event.Event.TheVariants.{Turn, Key, Poke, Peek}
use Rattle.bn_types.specs.declared.row.Row.{Row}
use Rattle.bn_model.specs.declared.owner.Owner.{Owner}
use Rattle.bn_model.specs.Blanking.{blank, blank_if, blank_page, blank_pages, blank_row, blanked}
use Rattle.bn_model.specs.Blanking.{rests, runs}
use Rattle.bn_model.specs.Evicting.{zeros_if}
use Rattle.bn_model.specs.Owners.{is_live, is_private_page}
use Rattle.bn_model.specs.Rows.{change_at, change_if, has_id, owners, with_row}
use Rattle.bn_model.specs.Running.{Blind, blank_when, state_before}
use Rattle.bn_model.specs.Soundness.{IsSound}
use Rattle.bn_model.specs.State.{Hart, State}
use Rattle.bn_model.specs.Stepping.{Fits}
use Rattle.bn_model.proofs.BlankPages.{owners-blanked}
use Rattle.bn_model.proofs.EachLemmas.{each-each, each-same}
use Rattle.bn_model.proofs.SoundBlanked.{blank-sound}

-- ---- what blanking leaves

-- what blanking leaves whether its guard holds or not
kept : {X : Type 0} (part : State → X) → ((m : ℕ) (s : State) → part (blanked m s) ≡ part s)
    → (m : ℕ) (s : State) → part (blank m s) ≡ part s
unfolding blank
kept part same m s = by_guard (is_live (owners s.rows) m && rests m s)
  where
    by_guard : (b : Bool) → part (blank_if b m s) ≡ part s
    by_guard true = same m s
    by_guard false = refl

pub harts-blank : (m : ℕ) (s : State) → (blank m s).harts ≡ s.harts
harts-blank m s = kept (λ (t : State). t.harts) (λ k t. refl) m s

pub clock-blank : (m : ℕ) (s : State) → (blank m s).clock ≡ s.clock
clock-blank m s = kept (λ (t : State). t.clock) (λ k t. refl) m s

pub off-blank : (m : ℕ) (s : State) → (blank m s).off ≡ s.off
off-blank m s = kept (λ (t : State). t.off) (λ k t. refl) m s

pub next-blank : (m : ℕ) (s : State) → (blank m s).next ≡ s.next
next-blank m s = kept (λ (t : State). t.next) (λ k t. refl) m s

pub owners-blank : (m : ℕ) (s : State) → owners (blank m s).rows ≡ owners s.rows
owners-blank m s = kept (λ (t : State). owners t.rows) owners-blanked m s

pub rests-by : (m : ℕ) (harts others : List Hart) → harts ≡ others
    → not (list_any (runs m) harts) ≡ not (list_any (runs m) others)
rests-by m harts others same = ap (λ (hs : List Hart). not (list_any (runs m) hs)) same

-- ---- two blankings

zeros-comm : (a b : Bool) (bytes : List ℕ)
    → zeros_if a (zeros_if b bytes) ≡ zeros_if b (zeros_if a bytes)
zeros-comm true true bytes = refl
zeros-comm true false bytes = refl
zeros-comm false true bytes = refl
zeros-comm false false bytes = refl

pages-comm : (os : List Owner) (m k : ℕ) (pages : List (List ℕ))
    → blank_pages os m (blank_pages os k pages) ≡ blank_pages os k (blank_pages os m pages)
unfolding blank_pages
pages-comm os m k pages =
    each-each (blank_page os m) (blank_page os k) 0 pages
    ∙ each-same (λ i bytes. blank_page os m i (blank_page os k i bytes))
    (λ i bytes. blank_page os k i (blank_page os m i bytes))
    (λ i bytes. zeros-comm (is_private_page os m i) (is_private_page os k i) bytes) 0 pages
    ∙ sym (each-each (blank_page os k) (blank_page os m) 0 pages)

-- a change that keeps the id leaves the test of another
test-kept : (m : ℕ) (b : Bool) (row : Row)
    → change_at m blank_row (change_if b blank_row row)
    ≡ change_if (has_id m row) blank_row (change_if b blank_row row)
test-kept m true row = refl
test-kept m false row = refl

changes-swap : (a b : Bool) (row : Row)
    → change_if a blank_row (change_if b blank_row row)
    ≡ change_if b blank_row (change_if a blank_row row)
changes-swap true true row = refl
changes-swap true false row = refl
changes-swap false true row = refl
changes-swap false false row = refl

row-comm : (m k : ℕ) (row : Row)
    → change_at m blank_row (change_at k blank_row row)
    ≡ change_at k blank_row (change_at m blank_row row)
row-comm m k row =
    test-kept m (has_id k row) row
    ∙ changes-swap (has_id m row) (has_id k row) row
    ∙ sym (test-kept k (has_id m row) row)

rows-comm : (m k : ℕ) (rows : List Row)
    → with_row m blank_row (with_row k blank_row rows)
    ≡ with_row k blank_row (with_row m blank_row rows)
unfolding with_row
rows-comm m k [] = refl
rows-comm m k (row ∷ rows) =
    ap₂ (λ (r : Row) (rs : List Row). r ∷ rs)
    (row-comm m k row) (rows-comm m k rows)

blanked-comm : (m k : ℕ) (s : State) → blanked m (blanked k s) ≡ blanked k (blanked m s)
blanked-comm m k s =
    ap₂ (λ (pages : List (List ℕ)) (rows : List Row). record s { pages = pages; rows = rows })
    (ap (λ (os : List Owner). blank_pages os m (blank_pages (owners s.rows) k s.pages))
    (owners-blanked k s)
    ∙ pages-comm (owners s.rows) m k s.pages
    ∙ sym (ap (λ (os : List Owner). blank_pages os k (blank_pages (owners s.rows) m s.pages))
    (owners-blanked m s)))
    (rows-comm m k s.rows)

-- the guard of blanking
guard : ℕ → State → Bool
guard m s = is_live (owners s.rows) m && rests m s

guard-blank : (m k : ℕ) (s : State) → guard m (blank k s) ≡ guard m s
unfolding guard
guard-blank m k s =
    ap₂ (λ (os : List Owner) (harts : List Hart). is_live os m && not (list_any (runs m) harts))
    (owners-blank k s) (harts-blank k s)

blank-as : (m : ℕ) (s : State) (b : Bool) → guard m s ≡ b → blank m s ≡ blank_if b m s
unfolding guard blank
blank-as m s b is = ap (λ (c : Bool). blank_if c m s) is

-- the order of two blankings makes no difference
pub blank-comm : (m k : ℕ) (s : State) → blank m (blank k s) ≡ blank k (blank m s)
blank-comm m k s = by_guards (guard m s) (guard k s) refl refl
  where
    by_guards : (a b : Bool) → guard m s ≡ a → guard k s ≡ b
        → blank m (blank k s) ≡ blank k (blank m s)
    by_guards a b is_m is_k =
        blank-as m (blank k s) a (guard-blank m k s ∙ is_m)
        ∙ ap (blank_if a m) (blank-as k s b is_k)
        ∙ both a b
        ∙ ap (blank_if b k) (sym (blank-as m s a is_m))
        ∙ sym (blank-as k (blank m s) b (guard-blank k m s ∙ is_k))
      where
        both : (c d : Bool)
            → blank_if c m (blank_if d k s) ≡ blank_if d k (blank_if c m s)
        both true true = blanked-comm m k s
        both true false = refl
        both false true = refl
        both false false = refl

-- ---- the state before an event

when-kept : {X : Type 0} (part : State → X) → ((m : ℕ) (s : State) → part (blank m s) ≡ part s)
    → (b : Bool) (m : ℕ) (s : State) → part (blank_when b m s) ≡ part s
when-kept part same true m s = same m s
when-kept part same false m s = refl

before-kept : {X : Type 0} (part : State → X) → ((m : ℕ) (s : State) → part (blank m s) ≡ part s)
    → (blind : Option Blind) (s : State) → part (state_before blind s) ≡ part s
before-kept part same None s = refl
before-kept part same (Some blind) s =
    when-kept part same (s.clock == blind.event) blind.blinded.0 s

pub harts-before : (blind : Option Blind) (s : State) → (state_before blind s).harts ≡ s.harts
harts-before blind s = before-kept (λ (t : State). t.harts) harts-blank blind s

pub clock-before : (blind : Option Blind) (s : State) → (state_before blind s).clock ≡ s.clock
clock-before blind s = before-kept (λ (t : State). t.clock) clock-blank blind s

pub off-before : (blind : Option Blind) (s : State) → (state_before blind s).off ≡ s.off
off-before blind s = before-kept (λ (t : State). t.off) off-blank blind s

pub next-before : (blind : Option Blind) (s : State) → (state_before blind s).next ≡ s.next
next-before blind s = before-kept (λ (t : State). t.next) next-blank blind s

pub rests-before : (m : ℕ) (blind : Option Blind) (s : State)
    → rests m (state_before blind s) ≡ rests m s
rests-before m blind s = rests-by m (state_before blind s).harts s.harts (harts-before blind s)

pub sound-before : (blind : Option Blind) (s : State) → IsSound s → IsSound (state_before blind s)
sound-before None s sound = sound
sound-before (Some blind) s sound = by_test (s.clock == blind.event)
  where
    by_test : (b : Bool) → IsSound (blank_when b blind.blinded.0 s)
    by_test true = blank-sound blind.blinded.0 s sound
    by_test false = sound

-- a state without a module's secrets, before an event
pub blank-before : (blind : Option Blind) (m : ℕ) (s : State)
    → state_before blind (blank m s) ≡ blank m (state_before blind s)
blank-before None m s = refl
blank-before (Some blind) m s =
    ap (λ (clock : ℕ). blank_when (clock == blind.event) blind.blinded.0 (blank m s))
    (clock-blank m s)
    ∙ by_test (s.clock == blind.event)
  where
    by_test : (b : Bool)
        → blank_when b blind.blinded.0 (blank m s) ≡ blank m (blank_when b blind.blinded.0 s)
    by_test true = blank-comm blind.blinded.0 m s
    by_test false = refl

pub fit-by : (s t : State) (e : Event) → s.harts ≡ t.harts → Fits s e → Fits t e
fit-by s t (Turn h) same fits = subst (λ (harts : List Hart). h < length harts) same fits
fit-by s t (Key byte) same fits = fits
fit-by s t (Poke page offset byte) same fits = fits
fit-by s t (Peek page offset) same fits = fits
