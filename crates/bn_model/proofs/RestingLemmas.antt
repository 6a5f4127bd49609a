-- What a turn leaves of a module that doesn't run in it.
use Rattle.std.proofs.Common.{◌≡◌, ℕ, zero, suc, Bool, true, false, not, List, [], set, Option}
use Rattle.std.proofs.Common.{Some, None, refl, sym, ap, ◌∙◌, ne_eqb, eqb-true}
use Rattle.std.proofs.lemmas.Bool.{and_parts, both_ways, not-true}
use Rattle.std.proofs.lemmas.List.{get_or-set_other}
use Rattle.std.specs.List.{list_any}
use Rattle.bn_types.specs.Numbers.{page_at, with_number}
use Rattle.bn_types.specs.Registers.{zero_frame}
use Rattle.bn_types.specs.declared.cause.Cause.{Cause}
use Rattle.bn_types.specs.declared.event.Event.{Event}
use Rattle.bn_types.specs.declared.event.Event.TheVariants.{Turn, Key, Poke, Peek}
use Rattle.bn_types.specs.declared.row.Row.{Row}
use Rattle.bn_types.specs.declared.saved_frame.SavedFrame.{SavedFrame}
use Rattle.bn_types.specs.declared.width.Width.TheVariants.{B1}
use Rattle.bn_model.specs.declared.owner.Owner.{Owner}
use Rattle.bn_model.specs.Blanking.{rests}
use Rattle.bn_model.specs.BlankingLaws.{RestsIn}
use Rattle.bn_model.specs.Deciding.{decision_of, decision_of_hart}
use Rattle.bn_model.specs.Decision.{Decision, Trap, Deny, Store, Launch, Call, Return, Resume}
use Rattle.bn_model.specs.Decision.{Evict}
use Rattle.bn_model.specs.Evicting.{evicted_rows, is_among, is_given_up, page_left, pages_left}
use Rattle.bn_model.specs.Evicting.{rows_left, stays, zeros_if}
use Rattle.bn_model.specs.Owners.{claims, is_live, is_private_page}
use Rattle.bn_model.specs.Rows.{has_id, new_row, owners, row_of, with_row}
use Rattle.bn_model.specs.Soundness.{IsSound}
use Rattle.bn_model.specs.State.{Hart, State, frame_of, hart_at}
use Rattle.bn_model.specs.Stepping.{Fits, after_trap_in, after_turn, frame_of_call}
use Rattle.bn_model.specs.Stepping.{pages_after_poke, seen_page, step}
use Rattle.bn_model.specs.Switching.{row_after_answer, row_after_call, row_after_resume}
use Rattle.bn_model.specs.Switching.{row_after_return, row_after_stop, row_after_wait}
use Rattle.bn_model.specs.Switching.{rows_after_call, rows_after_return}
use Rattle.bn_model.specs.Walking.{access_fault}
use Rattle.bn_model.proofs.BlankLemmas.{below-next}
use Rattle.bn_model.proofs.BlankSteps.{StartsOthers, StoresElsewhere, rests-apart, seen-public}
use Rattle.bn_model.proofs.BlankSteps.{starts-others}
use Rattle.bn_model.proofs.BlankStores.{stores-elsewhere}
use Rattle.bn_model.proofs.ClaimLemmas.{ArePrivate, live-left, private-stays}
use Rattle.bn_model.proofs.EachLemmas.{get_or-kept}
use Rattle.bn_model.proofs.RowLemmas.{Keeps, row_of-other}
use Rattle.bn_model.proofs.TestLemmas.{find-filter, find-push}

-- ---- its private pages

pub trap-pages : (current : ℕ) (s : State) (h : ℕ) (hart : Hart) (cause : Cause) (value : ℕ)
    → (after_trap_in current s h hart cause value).pages ≡ s.pages
trap-pages zero s h hart cause value = refl
trap-pages (suc k) s h hart cause value = refl

set-elsewhere : (os : List Owner) (m : ℕ) (pages : List (List ℕ)) (page other : ℕ)
    (bytes : List ℕ) → is_private_page os m page ≡ true
    → is_private_page os m other ≡ false → page_at (set pages other bytes) page ≡ page_at pages page
set-elsewhere os m pages page other bytes private public =
    get_or-set_other pages other page bytes []
    (λ e. both_ways (is_private_page os m other) public
    (ap (is_private_page os m) (sym e) ∙ private))

-- a module that lives on isn't among those that went
stays-on : (gone rows : List Row) (m : ℕ) → is_live (owners (rows_left gone rows)) m ≡ true
    → is_among gone m ≡ false
stays-on gone rows m live =
    not-true (is_among gone m)
    (and_parts (not (is_among gone m)) (is_live (owners rows) m)
    (sym (live-left gone rows m) ∙ live)).0

pub left-page : (gone : List Row) (os : List Owner) (pages : List (List ℕ)) (page : ℕ)
    → list_any (is_given_up gone page) (claims os) ≡ false
    → page_at (pages_left gone os pages) page ≡ page_at pages page
unfolding pages_left
left-page gone os pages page kept =
    get_or-kept (page_left gone os) page pages []
    (λ bytes. ap (λ (b : Bool). zeros_if b bytes) kept)

turn-page : (m : ℕ) (s : State) → ArePrivate (owners s.rows)
    → (h : ℕ) (hart : Hart) (d : Decision) → StoresElsewhere m (owners s.rows) d
    → is_live (owners (after_turn s h hart d).rows) m ≡ true → (page : ℕ)
    → is_private_page (owners s.rows) m page ≡ true
    → page_at (after_turn s h hart d).pages page ≡ page_at s.pages page
turn-page m s alone h hart (Trap cause value) stores live page private =
    ap (λ (pages : List (List ℕ)). page_at pages page)
    (trap-pages hart.current.0 s h hart cause value)
turn-page m s alone h hart (Deny kind va) stores live page private =
    ap (λ (pages : List (List ℕ)). page_at pages page)
    (trap-pages hart.current.0 s h hart (access_fault kind) va)
turn-page m s alone h hart (Store place width value) stores live page private =
    set-elsewhere (owners s.rows) m s.pages page place.page.0 _ private stores
turn-page m s alone h hart (Evict rd id count) stores live page private =
    left-page (evicted_rows s.rows id) (owners s.rows) s.pages page
    (private-stays (evicted_rows s.rows id) (owners s.rows) alone m page
    (stays-on (evicted_rows s.rows id) s.rows m live) private)
turn-page m s alone h hart decision stores live page private = refl

poke-page : (os : List Owner) (m : ℕ) (pages : List (List ℕ)) (page other offset byte : ℕ)
    (seen : Option (Option (List ℕ)))
    → ((bytes : List ℕ) → seen ≡ Some (Some bytes) → is_private_page os m other ≡ false)
    → is_private_page os m page ≡ true
    → page_at (pages_after_poke seen pages other offset byte) page ≡ page_at pages page
poke-page os m pages page other offset byte None public private = refl
poke-page os m pages page other offset byte (Some None) public private = refl
poke-page os m pages page other offset byte (Some (Some bytes)) public private =
    set-elsewhere os m pages page other (with_number B1 bytes offset byte) private
    (public bytes refl)

pub resting-page : (m : ℕ) (s : State) (e : Event) → Fits s e → IsSound s → RestsIn m s
    → is_live (owners (step s e).rows) m ≡ true
    → (page : ℕ) → is_private_page (owners s.rows) m page ≡ true
    → page_at (step s e).pages page ≡ page_at s.pages page
unfolding step decision_of
resting-page m s (Turn h) fits sound resting live page private =
    turn-page m s sound.claims.alone h (hart_at s h) (decision_of_hart s h (hart_at s h))
    (stores-elsewhere m s sound.claims.alone h (hart_at s h)
    (rests-apart m s h resting.rest fits)) live page private
resting-page m s (Key byte) fits sound resting live page private = refl
resting-page m s (Poke other offset byte) fits sound resting live page private =
    poke-page (owners s.rows) m s.pages page other.0 offset byte (seen_page s other)
    (λ bytes e. seen-public (owners s.rows) m other.0 s.pages bytes e) private
resting-page m s (Peek other offset) fits sound resting live page private = refl

-- ---- its saved frame

other-row : (m id : ℕ) (change : Row → Row) → Keeps change → (rows : List Row) → (id ≡ m → ⊥)
    → row_of (with_row id change rows) m ≡ row_of rows m
other-row m id change keeps rows apart = row_of-other id change keeps m rows (λ e. apart (sym e))

trap-row : (m current : ℕ) (s : State) (h : ℕ) (hart : Hart) (cause : Cause) (value : ℕ)
    → (current ≡ m → ⊥)
    → row_of (after_trap_in current s h hart cause value).rows m ≡ row_of s.rows m
trap-row m zero s h hart cause value apart = refl
trap-row m (suc k) s h hart cause value apart =
    other-row m (suc k) (row_after_stop (frame_of hart))
    (record { same = λ row. refl }) s.rows apart

call-row : (m current h callee : ℕ) (frame : SavedFrame) (rows : List Row) → (current ≡ m → ⊥)
    → (callee ≡ m → ⊥)
    → row_of (rows_after_call current h callee frame rows) m ≡ row_of rows m
call-row m zero h callee frame rows apart other =
    other-row m callee (row_after_call h (record { 0 = zero }) frame)
    (record { same = λ row. refl }) rows other
call-row m (suc k) h callee frame rows apart other =
    other-row m callee (row_after_call h (record { 0 = suc k }) zero_frame)
    (record { same = λ row. refl })
    (with_row (suc k) (row_after_wait frame callee) rows) other
    ∙ other-row m (suc k) (row_after_wait frame callee) (record { same = λ row. refl }) rows apart

return-row : (m caller h k : ℕ) (rows : List Row) → (caller ≡ m → ⊥) → (k ≡ m → ⊥)
    → row_of (rows_after_return caller h k rows) m ≡ row_of rows m
return-row m zero h k rows other apart =
    other-row m k row_after_return (record { same = λ row. refl }) rows apart
return-row m (suc c) h k rows other apart =
    other-row m (suc c) (row_after_answer h) (record { same = λ row. refl })
    (with_row k row_after_return rows) other
    ∙ other-row m k row_after_return (record { same = λ row. refl }) rows apart

pub left-row : (gone rows : List Row) (m : ℕ) → is_among gone m ≡ false
    → row_of (rows_left gone rows) m ≡ row_of rows m
unfolding rows_left
left-row gone rows m kept =
    find-filter (has_id m) (stays gone)
    (λ row e. ap not (ap (is_among gone) (eqb-true row.id.0 m e) ∙ kept)) rows

turn-row : (m : ℕ) (s : State) (h : ℕ) (hart : Hart) (d : Decision) → (hart.current.0 ≡ m → ⊥)
    → StartsOthers m s.next d
    → is_live (owners (after_turn s h hart d).rows) m ≡ true
    → row_of (after_turn s h hart d).rows m ≡ row_of s.rows m
turn-row m s h hart (Trap cause value) apart starts live =
    trap-row m hart.current.0 s h hart cause value apart
turn-row m s h hart (Deny kind va) apart starts live =
    trap-row m hart.current.0 s h hart (access_fault kind) va apart
turn-row m s h hart (Launch rd judged) apart starts live =
    find-push (has_id m) s.rows (new_row s.next judged) (ne_eqb s.next m starts)
turn-row m s h hart (Call rd callee entry) apart starts live =
    call-row m hart.current.0 h callee (frame_of_call hart rd) s.rows apart starts
turn-row m s h hart (Return caller pc) apart starts live =
    return-row m caller.0 h hart.current.0 s.rows starts apart
turn-row m s h hart (Resume id) apart starts live =
    other-row m id.0 (row_after_resume h) (record { same = λ row. refl }) s.rows starts
turn-row m s h hart (Evict rd id count) apart starts live =
    left-row (evicted_rows s.rows id) s.rows m (stays-on (evicted_rows s.rows id) s.rows m live)
turn-row m s h hart decision apart starts live = refl

-- its row is as before, where it rests after the event too
pub resting-row : (m : ℕ) (s : State) (e : Event) → Fits s e → IsSound s → RestsIn m s
    → is_live (owners (step s e).rows) m ≡ true
    → rests m (step s e) ≡ true → row_of (step s e).rows m ≡ row_of s.rows m
unfolding step decision_of
resting-row m s (Turn h) fits sound resting live rest =
    let apart : (hart_at s h).current.0 ≡ m → ⊥ = rests-apart m s h resting.rest fits in
    turn-row m s h (hart_at s h) (decision_of_hart s h (hart_at s h)) apart
    (starts-others m s h (hart_at s h) (decision_of_hart s h (hart_at s h)) fits
    (below-next m s sound resting.live) rest) live
resting-row m s (Key byte) fits sound resting live rest = refl
resting-row m s (Poke page offset byte) fits sound resting live rest = refl
resting-row m s (Peek page offset) fits sound resting live rest = refl
