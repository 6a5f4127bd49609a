-- Every event keeps soundness.
use Rattle.std.proofs.Common.{◌≡◌, ℕ, ◌+◌, ◌<◌, ◌≤◌, length, List, ◌∷◌, [], ◌++◌, refl}
use Rattle.std.proofs.Common.{sym, subst, arith}
use Rattle.bn_types.specs.declared.event.Event.{Event}
use Rattle.bn_types.specs.declared.event.Event.TheVariants.{Turn, Key, Poke, Peek}
use Rattle.bn_types.specs.declared.judged.Judged.{Judged}
use Rattle.bn_types.specs.declared.row.Row.{Row}
use Rattle.std.proofs.lemmas.List.{length-set}
use Rattle.std.proofs.lemmas.List.Elements.{All-weaker}
use Rattle.std.specs.List.{All}
use Rattle.std.specs.Prelude.{Option, Some, None, count_by, filter, map}
use Rattle.bn_model.specs.declared.owner.Owner.{Owner}
use Rattle.bn_model.specs.Deciding.{decision_of, decision_of_hart}
use Rattle.bn_model.specs.Decision.{Decision}
use Rattle.bn_model.specs.Evicting.{evicted_rows, page_left, pages_left, rows_left, stays}
use Rattle.bn_model.specs.Memory.{visible}
use Rattle.bn_model.specs.Owners.{claims}
use Rattle.bn_model.specs.Records.{AreRecords}
use Rattle.bn_model.specs.Rows.{Enclave, enclave_of, enclaves, new_row, owners}
use Rattle.bn_model.specs.Soundness.{AreAsleep, AreStates, Has, HasClaims, HasFewAcceptances}
use Rattle.bn_model.specs.Soundness.{HasIds, HaveModes, IsHart, IsRow, IsSound, accepts}
use Rattle.bn_model.specs.SoundnessLaws.{AreStored}
use Rattle.bn_model.specs.State.{Hart, State, hart_at, memory, resting_hart}
use Rattle.bn_model.specs.Stepping.{Fits, after_turn, has_room, pages_after_poke, seen_page, step}
use Rattle.bn_model.proofs.Acceptances.{few-tally, launched-few, tally, tally-left}
use Rattle.bn_model.proofs.AsleepKept.{sleeps, turn-asleep}
use Rattle.bn_model.proofs.ClaimsKept.{launched-claims, left-claims, ordered-at}
use Rattle.bn_model.proofs.EachLemmas.{length-each}
use Rattle.bn_model.proofs.Evidence.{Holds, holds}
use Rattle.bn_model.proofs.HartsKept.{hart-later, turn-harts}
use Rattle.bn_model.proofs.IdsKept.{launch-ids, launched-live, turn-ids}
use Rattle.bn_model.proofs.JudgedLemmas.{well-judged}
use Rattle.bn_model.proofs.Judgements.{IsJudged, judgement-known}
use Rattle.bn_model.proofs.LaunchClaims.{launched-new}
use Rattle.bn_model.proofs.LiveClaims.{from-filter, from-map, owned}
use Rattle.bn_model.proofs.MembershipLemmas.{has-map}
use Rattle.bn_model.proofs.ModesKept.{all-of, turn-modes}
use Rattle.bn_model.proofs.PagesKept.{AreKeys, AreKeys-after, IsPage, poked-pages, turn-keys}
use Rattle.bn_model.proofs.PagesKept.{turn-pages, turn-records}
use Rattle.bn_model.proofs.RowLemmas.{owner_by, owners-enclaves}
use Rattle.bn_model.proofs.RowsKept.{turn-rows}
use Rattle.bn_model.proofs.StatesKept.{turn-states}
use Rattle.bn_model.proofs.SteppingLemmas.{clock_after, harts_after}
use Rattle.bn_model.proofs.TurnKinds.{by-kind}
use Rattle.bn_model.proofs.ValueRanges.{HasSmallValues, small-values}

-- ---- ids

pub ids-kept : (s : State) (event : Event) → Fits s event → IsSound s
    → HasIds (enclaves (step s event).rows) (step s event).next
unfolding step decision_of
ids-kept s (Turn h) fits sound =
    turn-ids s h (hart_at s h) sound.ids (decision_of_hart s h (hart_at s h))
    (holds s h (hart_at s h))
ids-kept s (Key byte) fits sound = sound.ids
ids-kept s (Poke page offset byte) fits sound = sound.ids
ids-kept s (Peek page offset) fits sound = sound.ids

-- ---- who runs and waits

pub states-kept : (s : State) (event : Event) → Fits s event → IsSound s
    → AreStates (step s event).harts (step s event).rows
unfolding step decision_of
states-kept s (Turn h) fits sound =
    turn-states s h (hart_at s h) fits refl sound.states sound.ids sound.asleep
    (decision_of_hart s h (hart_at s h)) (holds s h (hart_at s h))
states-kept s (Key byte) fits sound = sound.states
states-kept s (Poke page offset byte) fits sound = sound.states
states-kept s (Peek page offset) fits sound = sound.states

pub asleep-kept : (s : State) (event : Event) → Fits s event → IsSound s
    → AreAsleep (step s event).harts
unfolding step decision_of
asleep-kept s (Turn h) fits sound =
    turn-asleep s h (hart_at s h) sound.asleep (sound.asleep h resting_hart fits)
    (decision_of_hart s h (hart_at s h)) (sleeps s h (hart_at s h))
asleep-kept s (Key byte) fits sound = sound.asleep
asleep-kept s (Poke page offset byte) fits sound = sound.asleep
asleep-kept s (Peek page offset) fits sound = sound.asleep

-- ---- declarations

-- of live modules, with what is a function of them
IsClaimed : List Enclave → ℕ → Type 0
IsClaimed live ram = HasClaims live (owned live) ram

to-claims : (rows : List Row) (ram : ℕ) → HasClaims (enclaves rows) (owners rows) ram
    → IsClaimed (enclaves rows) ram
unfolding IsClaimed
to-claims rows ram h = subst (λ (own : List Owner). HasClaims (enclaves rows) own ram)
    (owners-enclaves rows) h

from-claims : (rows : List Row) (ram : ℕ) → IsClaimed (enclaves rows) ram
    → HasClaims (enclaves rows) (owners rows) ram
unfolding IsClaimed
from-claims rows ram h = subst (λ (own : List Owner). HasClaims (enclaves rows) own ram)
    (sym (owners-enclaves rows)) h

within-left : (gone rows : List Row) (e : Enclave) → Has e (enclaves (rows_left gone rows))
    → Has e (enclaves rows)
unfolding enclaves rows_left
within-left gone rows e has =
    let found = from-map enclave_of (filter (stays gone) rows) e has in
    subst (λ (x : Enclave). Has x (map enclave_of rows)) (sym found.2)
    (has-map enclave_of rows found.0 (from-filter (stays gone) rows found.0 found.1))

evict-claims : (gone rows : List Row) (ram : ℕ) → IsClaimed (enclaves rows) ram
    → IsClaimed (enclaves (rows_left gone rows)) ram
unfolding IsClaimed
evict-claims gone rows ram h =
    left-claims (enclaves rows) (enclaves (rows_left gone rows)) ram (within-left gone rows) h

length-left : (gone : List Row) (own : List Owner) (pages : List (List ℕ))
    → length (pages_left gone own pages) ≡ length pages
unfolding pages_left
length-left gone own pages = length-each (page_left gone own) 0 pages

judged-seen : (s : State) (satp at : ℕ) (judged : Judged)
    → IsJudged (enclaves s.rows) s.next (visible (memory s)) satp at judged
    → IsJudged (enclaves s.rows) s.next
    (visible (record { pages = s.pages; owners = owned (enclaves s.rows) })) satp at judged
judged-seen s satp at judged known =
    subst (λ (own : List Owner).
    IsJudged (enclaves s.rows) s.next (visible (record { pages = s.pages; owners = own })) satp at
    judged) (owners-enclaves s.rows) known

launch-claims : (s : State) (satp at : ℕ) (judged : Judged) → HasIds (enclaves s.rows) s.next
    → IsClaimed (enclaves s.rows) (length s.pages)
    → IsJudged (enclaves s.rows) s.next (visible (memory s)) satp at judged
    → IsClaimed (enclaves (s.rows ++ new_row s.next judged ∷ [])) (length s.pages)
unfolding IsClaimed
launch-claims s satp at judged ids h known =
    subst (λ (live : List Enclave). HasClaims live (owned live) (length s.pages))
    (sym (launched-live s.rows (new_row s.next judged)))
    (launched-claims (enclaves s.rows) s.next (length s.pages)
    (record { id = record { 0 = s.next }; judged = judged }) ids.ascend h
    (launched-new (enclaves s.rows) s.next s.pages satp at judged
    (judged-seen s satp at judged known)))

turn-claims : (s : State) (h : ℕ) (hart : Hart) → HasIds (enclaves s.rows) s.next
    → HasClaims (enclaves s.rows) (owners s.rows) (length s.pages)
    → (d : Decision) → Holds s h hart d
    → HasClaims (enclaves (after_turn s h hart d).rows) (owners (after_turn s h hart d).rows)
    (length (after_turn s h hart d).pages)
turn-claims s h hart ids claims =
    by-kind s h hart (λ (after : State).
    HasClaims (enclaves after.rows) (owners after.rows) (length after.pages))
    (λ after told. from-claims after.rows (length after.pages)
    (subst (IsClaimed (enclaves after.rows)) (sym told.size)
    (subst (λ (live : List Enclave). IsClaimed live (length s.pages)) (sym told.live)
    (to-claims s.rows (length s.pages) claims))))
    (λ rd judged e. from-claims (s.rows ++ new_row s.next judged ∷ []) (length s.pages)
    (launch-claims s hart.csrs.satp e.at judged ids (to-claims s.rows (length s.pages) claims)
    (judgement-known (enclaves s.rows) s.next (visible (memory s)) hart.csrs.satp e.at judged
    e.is)))
    (λ rd id count e. from-claims (rows_left (evicted_rows s.rows id) s.rows) _
    (subst (IsClaimed (enclaves (rows_left (evicted_rows s.rows id) s.rows)))
    (sym (length-left (evicted_rows s.rows id) (owners s.rows) s.pages))
    (evict-claims (evicted_rows s.rows id) s.rows (length s.pages)
    (to-claims s.rows (length s.pages) claims))))

poke-size : (seen : Option (Option (List ℕ))) (pages : List (List ℕ)) (page offset byte : ℕ)
    → length (pages_after_poke seen pages page offset byte) ≡ length pages
poke-size None pages page offset byte = refl
poke-size (Some None) pages page offset byte = refl
poke-size (Some (Some bytes)) pages page offset byte = length-set pages page _

pub claims-kept : (s : State) (event : Event) → Fits s event → IsSound s
    → HasClaims (enclaves (step s event).rows) (owners (step s event).rows)
    (length (step s event).pages)
unfolding step decision_of
claims-kept s (Turn h) fits sound =
    turn-claims s h (hart_at s h) sound.ids sound.claims (decision_of_hart s h (hart_at s h))
    (holds s h (hart_at s h))
claims-kept s (Key byte) fits sound = sound.claims
claims-kept s (Poke page offset byte) fits sound =
    subst (HasClaims (enclaves s.rows) (owners s.rows))
    (sym (poke-size (seen_page s page) s.pages page.0 offset byte)) sound.claims
claims-kept s (Peek page offset) fits sound = sound.claims

-- ---- modes, rows and harts

pub modes-kept : (s : State) (event : Event) → Fits s event → IsSound s
    → HaveModes (step s event).harts (step s event).rows
unfolding step decision_of
modes-kept s (Turn h) fits sound =
    turn-modes s h (hart_at s h) fits refl sound.states sound.ids sound.rows sound.modes
    (sound.modes h resting_hart fits)
    (decision_of_hart s h (hart_at s h)) (holds s h (hart_at s h))
modes-kept s (Key byte) fits sound = sound.modes
modes-kept s (Poke page offset byte) fits sound = sound.modes
modes-kept s (Peek page offset) fits sound = sound.modes

pub rows-kept : (s : State) (event : Event) → Fits s event → IsSound s
    → All IsRow (step s event).rows
unfolding step decision_of
rows-kept s (Turn h) fits sound =
    turn-rows s h (hart_at s h) refl sound.states sound.ids sound.rows
    (sound.modes h resting_hart fits) s.clock (sound.harts h resting_hart fits)
    (λ rd judged e. well-judged (enclaves s.rows) s.next (memory s) (hart_at s h).csrs.satp e.at
    judged sound.pages
    (judgement-known (enclaves s.rows) s.next (visible (memory s)) (hart_at s h).csrs.satp e.at
    judged e.is))
    (decision_of_hart s h (hart_at s h)) (holds s h (hart_at s h))
rows-kept s (Key byte) fits sound = sound.rows
rows-kept s (Poke page offset byte) fits sound = sound.rows
rows-kept s (Peek page offset) fits sound = sound.rows

-- the keys of a sound state
sound-keys : (s : State) → IsSound s → AreKeys s.keys
sound-keys s sound = record { few = sound.few_keys; small = sound.keys }

later : (s : State) → IsSound s → All (IsHart (s.clock + 1)) s.harts
later s sound = All-weaker (IsHart s.clock) (IsHart (s.clock + 1)) (λ x e. hart-later s.clock x e)
    s.harts sound.harts

small-turn : (s : State) (h : ℕ) → h < length s.harts → IsSound s
    → HasSmallValues (decision_of_hart s h (hart_at s h))
small-turn s h fits sound =
    small-values s h (hart_at s h) s.clock (sound.harts h resting_hart fits) sound.ids sound.states
    sound.rows sound.records

harts-at : (s : State) (event : Event) → Fits s event → IsSound s
    → All (IsHart (s.clock + 1)) (step s event).harts
unfolding step decision_of
harts-at s (Turn h) fits sound =
    turn-harts s h (hart_at s h) (sound.harts h resting_hart fits) sound.harts sound.few_harts
    sound.ids sound.rows (sound-keys s sound)
    (decision_of_hart s h (hart_at s h)) (holds s h (hart_at s h)) (small-turn s h fits sound)
harts-at s (Key byte) fits sound = later s sound
harts-at s (Poke page offset byte) fits sound = later s sound
harts-at s (Peek page offset) fits sound = later s sound

pub harts-kept : (s : State) (event : Event) → Fits s event → IsSound s
    → All (IsHart (step s event).clock) (step s event).harts
harts-kept s event fits sound =
    subst (λ (clock : ℕ). All (IsHart clock) (step s event).harts) (sym (clock_after s event))
    (harts-at s event fits sound)

-- ---- pages, keys and records

turn-size : (s : State) (h : ℕ) (hart : Hart) (d : Decision) → Holds s h hart d
    → length (after_turn s h hart d).pages ≡ length s.pages
turn-size s h hart =
    by-kind s h hart (λ (after : State). length after.pages ≡ length s.pages)
    (λ after told. told.size) (λ rd judged e. refl)
    (λ rd id count e. length-left (evicted_rows s.rows id) (owners s.rows) s.pages)

size-kept : (s : State) (event : Event) → length (step s event).pages ≡ length s.pages
unfolding step decision_of
size-kept s (Turn h) = turn-size s h (hart_at s h) (decision_of_hart s h (hart_at s h))
    (holds s h (hart_at s h))
size-kept s (Key byte) = refl
size-kept s (Poke page offset byte) = poke-size (seen_page s page) s.pages page.0 offset byte
size-kept s (Peek page offset) = refl

pages-kept : (s : State) (event : Event) → Fits s event → IsSound s
    → All IsPage (step s event).pages
unfolding step decision_of
pages-kept s (Turn h) fits sound =
    turn-pages s h (hart_at s h) sound.pages (decision_of_hart s h (hart_at s h))
    (holds s h (hart_at s h))
pages-kept s (Key byte) fits sound = sound.pages
pages-kept s (Poke page offset byte) fits sound =
    poked-pages (owners s.rows) s.pages page.0 offset byte (seen_page s page) refl fits sound.pages
pages-kept s (Peek page offset) fits sound = sound.pages

keys-kept : (s : State) (event : Event) → Fits s event → IsSound s → AreKeys (step s event).keys
unfolding step decision_of
keys-kept s (Turn h) byte sound =
    turn-keys s h (hart_at s h) (sound-keys s sound) (decision_of_hart s h (hart_at s h))
    (holds s h (hart_at s h))
keys-kept s (Key key) byte sound =
    AreKeys-after (has_room s.keys) s.keys key refl byte (sound-keys s sound)
keys-kept s (Poke page offset value) byte sound = sound-keys s sound
keys-kept s (Peek page offset) byte sound = sound-keys s sound

records-kept : (s : State) (event : Event) → Fits s event → IsSound s
    → AreRecords (step s event).records
unfolding step decision_of
records-kept s (Turn h) fits sound =
    turn-records s h (hart_at s h) sound.rows (sound.harts h resting_hart fits).regs sound.records
    (decision_of_hart s h (hart_at s h)) (holds s h (hart_at s h))
records-kept s (Key byte) fits sound = sound.records
records-kept s (Poke page offset byte) fits sound = sound.records
records-kept s (Peek page offset) fits sound = sound.records

pub stored-kept : (s : State) (event : Event) → Fits s event → IsSound s → AreStored (step s event)
stored-kept s event fits sound =
    let size : length (step s event).pages ≡ length s.pages = size-kept s event in
    let least : 1 ≤ length s.pages = sound.some_pages in
    let most : length s.pages ≤ 4096 = sound.few_pages in
    let keys = keys-kept s event fits sound in
    record {
      some_pages = omega arith;
      few_pages = omega arith;
      pages = pages-kept s event fits sound;
      few_keys = keys.few;
      keys = keys.small;
      records = records-kept s event fits sound;
    }

-- ---- acceptances

HasFew : List Enclave → Type 0
HasFew live = (page : ℕ) → tally page live ≤ 4

to-few : (rows : List Row) → HasFewAcceptances (owners rows) → HasFew (enclaves rows)
unfolding HasFew
to-few rows h page =
    subst (λ (n : ℕ). n ≤ 4) (few-tally (enclaves rows) page)
    (subst (λ (own : List Owner). count_by (accepts page) (claims own) ≤ 4) (owners-enclaves rows)
    (h page))

from-few : (rows : List Row) → HasFew (enclaves rows) → HasFewAcceptances (owners rows)
unfolding HasFew
from-few rows f page =
    subst (λ (own : List Owner). count_by (accepts page) (claims own) ≤ 4)
    (sym (owners-enclaves rows))
    (subst (λ (n : ℕ). n ≤ 4) (sym (few-tally (enclaves rows) page)) (f page))

left-few : (gone rows : List Row) → HasFew (enclaves rows) → HasFew (enclaves (rows_left gone rows))
unfolding HasFew enclaves rows_left
left-few gone rows f page =
    let fewer : tally page (map enclave_of (filter (stays gone) rows)) ≤
    tally page (map enclave_of rows) = tally-left page (stays gone) rows in
    let few : tally page (map enclave_of rows) ≤ 4 = f page in
    omega arith

few-partners : (rows : List Row) → All IsRow rows → (e : Enclave) → Has e (enclaves rows)
    → length e.judged.partners.items ≤ 4
unfolding enclaves
few-partners rows all e has =
    let found = from-map enclave_of rows e has in
    subst (λ (x : Enclave). length x.judged.partners.items ≤ 4) (sym found.2)
    (all-of IsRow rows found.0 all found.1).partners

launch-few : (s : State) (satp at : ℕ) (judged : Judged) → HasIds (enclaves s.rows) s.next
    → IsClaimed (enclaves s.rows) (length s.pages) → All IsRow s.rows
    → IsJudged (enclaves s.rows) s.next (visible (memory s)) satp at judged
    → HasFew (enclaves s.rows)
    → HasFew (enclaves s.rows ++ record { id = record { 0 = s.next }; judged = judged } ∷ [])
unfolding HasFew IsClaimed
launch-few s satp at judged ids h rows known f page =
    let live : List Enclave = enclaves s.rows in
    let new : Enclave = record { id = record { 0 = s.next }; judged = judged } in
    let ram : ℕ = length s.pages in
    let is = launched-new live s.next s.pages satp at judged (judged-seen s satp at judged known) in
    let after = launched-claims live s.next ram new ids.ascend h is in
    launched-few live s.next ram new ids.ascend h is
    (launch-ids live s.next (visible (memory s)) satp at judged ids known).distinct
    (few-partners s.rows rows)
    (λ e has. (ordered-at ram (owned (live ++ new ∷ [])) after.ordered (owner_by e)
    (has-map owner_by (live ++ new ∷ []) e has)).guest)
    page (f page)

turn-few : (s : State) (h : ℕ) (hart : Hart) → HasIds (enclaves s.rows) s.next
    → HasClaims (enclaves s.rows) (owners s.rows) (length s.pages) → All IsRow s.rows
    → HasFewAcceptances (owners s.rows) → (d : Decision) → Holds s h hart d
    → HasFewAcceptances (owners (after_turn s h hart d).rows)
turn-few s h hart ids claims rows few =
    by-kind s h hart (λ (after : State). HasFewAcceptances (owners after.rows))
    (λ after told. from-few after.rows (subst HasFew (sym told.live) (to-few s.rows few)))
    (λ rd judged e. from-few (s.rows ++ new_row s.next judged ∷ [])
    (subst HasFew (sym (launched-live s.rows (new_row s.next judged)))
    (launch-few s hart.csrs.satp e.at judged ids (to-claims s.rows (length s.pages) claims) rows
    (judgement-known (enclaves s.rows) s.next (visible (memory s)) hart.csrs.satp e.at judged e.is)
    (to-few s.rows few))))
    (λ rd id count e. from-few (rows_left (evicted_rows s.rows id) s.rows)
    (left-few (evicted_rows s.rows id) s.rows (to-few s.rows few)))

pub acceptances-kept : (s : State) (event : Event) → Fits s event → IsSound s
    → HasFewAcceptances (owners (step s event).rows)
unfolding step decision_of
acceptances-kept s (Turn h) fits sound =
    turn-few s h (hart_at s h) sound.ids sound.claims sound.rows sound.acceptances
    (decision_of_hart s h (hart_at s h)) (holds s h (hart_at s h))
acceptances-kept s (Key byte) fits sound = sound.acceptances
acceptances-kept s (Poke page offset byte) fits sound = sound.acceptances
acceptances-kept s (Peek page offset) fits sound = sound.acceptances

-- ---- the whole

pub sound-kept : (s : State) (event : Event) → Fits s event → IsSound s → IsSound (step s event)
sound-kept s event fits sound =
    let stored = stored-kept s event fits sound in
    let count : length (step s event).harts ≡ length s.harts = harts_after s event in
    let some : 1 ≤ length s.harts = sound.some_harts in
    let few : length s.harts ≤ 4 = sound.few_harts in
    record {
      ids = ids-kept s event fits sound;
      claims = claims-kept s event fits sound;
      acceptances = acceptances-kept s event fits sound;
      states = states-kept s event fits sound;
      asleep = asleep-kept s event fits sound;
      modes = modes-kept s event fits sound;
      rows = rows-kept s event fits sound;
      harts = harts-kept s event fits sound;
      some_harts = omega arith;
      few_harts = omega arith;
      some_pages = stored.some_pages;
      few_pages = stored.few_pages;
      pages = stored.pages;
      few_keys = stored.few_keys;
      keys = stored.keys;
      records = stored.records;
    }
