-- A turn in which a module doesn't run, from the state without its secrets.
use Rattle.std.proofs.Common.{◌≡◌, ℕ, zero, suc, ◌+◌, ◌<◌, ◌&&◌, Bool, true, false, not, List, []}
use Rattle.std.proofs.Common.{◌∷◌, ◌++◌, length, map, get_or, set, slice_get, Option, Some, None}
use Rattle.std.proofs.Common.{option_map, refl, sym, ap, ap₂, subst, ◌∙◌, eq-eqb, ne_eqb}
use Rattle.std.proofs.lemmas.Bool.{both_ways, false_from_ne_true, not-true}
use Rattle.std.proofs.lemmas.List.{get_or-set_same, length-set, map-append}
use Rattle.std.proofs.lemmas.List.Folds.{list_any_at}
use Rattle.std.specs.List.{list_any}
use Rattle.bn_types.specs.Numbers.{with_number}
use Rattle.bn_types.specs.Registers.{zero_frame}
use Rattle.bn_types.specs.declared.cause.Cause.{Cause}
use Rattle.bn_types.specs.declared.gpn.Gpn.{Gpn}
use Rattle.bn_types.specs.declared.judged.Judged.{Judged}
use Rattle.bn_types.specs.declared.mod_id.ModId.{ModId}
use Rattle.bn_types.specs.declared.reg.Reg.{Reg}
use Rattle.bn_types.specs.declared.row.Row.{Row}
use Rattle.bn_types.specs.declared.saved_frame.SavedFrame.{SavedFrame}
use Rattle.bn_types.specs.declared.width.Width.TheVariants.{B1}
use Rattle.bn_model.specs.declared.owner.Owner.{Owner}
use Rattle.bn_model.specs.Blanking.{blank_page, blank_pages, blank_row, blanked, rests, runs}
use Rattle.bn_model.specs.Decision.{Decision, Rest, Trap, Deny, Next, Set, Jump, Store, Csr}
use Rattle.bn_model.specs.Decision.{ReturnFromTrap, Put, Answer, ShutDown, SetTimer, TakeKey, NoKey}
use Rattle.bn_model.specs.Decision.{Start, Send, Refuse, Launch, Call, Return, Resume, Evict, Tell}
use Rattle.bn_model.specs.Decision.{SetWord}
use Rattle.bn_model.specs.Each.{each}
use Rattle.bn_model.specs.Evicting.{evicted_rows, is_among, is_given_up, page_left, pages_left}
use Rattle.bn_model.specs.Evicting.{rows_left, stays, zeros_if}
use Rattle.bn_model.specs.Memory.{readable_if, readable_page, visible}
use Rattle.bn_model.specs.Owners.{claims, is_on, is_own, is_owned, is_private_page}
use Rattle.bn_model.specs.Rows.{back_of, change_at, change_if, has_id, new_row, owner_of, owners}
use Rattle.bn_model.specs.Rows.{row_of, saved_of, with_row}
use Rattle.bn_model.specs.State.{Hart, State, frame_of, hart_after_call, hart_after_next}
use Rattle.bn_model.specs.State.{hart_after_resume, hart_after_return, hart_after_set}
use Rattle.bn_model.specs.State.{hart_after_stop, hart_after_trap, hart_at, resting_hart, with_hart}
use Rattle.bn_model.specs.Stepping.{after_call, after_evict, after_launch, after_resume}
use Rattle.bn_model.specs.Stepping.{after_return, after_tick, after_trap_in, after_turn}
use Rattle.bn_model.specs.Stepping.{frame_of_call, page_address, pages_after_poke, seen_page}
use Rattle.bn_model.specs.Switching.{frame_of_caller, row_after_answer, row_after_call}
use Rattle.bn_model.specs.Switching.{row_after_resume, row_after_return, row_after_stop}
use Rattle.bn_model.specs.Switching.{row_after_wait, rows_after_call, rows_after_return}
use Rattle.bn_model.specs.Walking.{access_fault}
use Rattle.bn_model.proofs.BlankDecisions.{evicted-blanked}
use Rattle.bn_model.proofs.BlankPages.{keeps-blank, set-blanked, store-blanked, visible-blanked}
use Rattle.bn_model.proofs.ClaimLemmas.{owned-private, private-append, private-gone, private-left}
use Rattle.bn_model.proofs.EachLemmas.{each-each, each-same, get-each}
use Rattle.bn_model.proofs.RowLemmas.{Keeps, owners-with_row, row_of-other, seen-same}
use Rattle.bn_model.proofs.RowLemmas.{with_row-append, with_row-comm}
use Rattle.bn_model.proofs.TestLemmas.{any-map, any-same, filter-map}

-- ---- rows that change

-- one change of rows, before and after blanking
rows-blanked : (m : ℕ) (s : State) (new rows : List Row) → owners rows ≡ owners s.rows
    → new ≡ with_row m blank_row rows
    → record (blanked m s) { rows = new } ≡ blanked m (record s { rows = rows })
rows-blanked m s new rows same is =
    ap₂ (λ (os : List Owner) (rs : List Row).
    record s { pages = blank_pages os m s.pages; rows = rs }) (sym same) is

-- the change of another row
row-blanked : (m : ℕ) (s : State) (id : ℕ) (change : Row → Row) → Keeps change → (id ≡ m → ⊥)
    → record (blanked m s) { rows = with_row id change (with_row m blank_row s.rows) }
    ≡ blanked m (record s { rows = with_row id change s.rows })
row-blanked m s id change keeps other =
    rows-blanked m s (with_row id change (with_row m blank_row s.rows)) (with_row id change s.rows)
    (owners-with_row id change keeps s.rows)
    (with_row-comm id m change blank_row keeps keeps-blank other s.rows)

trap-blanked : (m : ℕ) (s : State) (h : ℕ) (hart : Hart) (cause : Cause) (value current : ℕ)
    → (current ≡ m → ⊥)
    → after_trap_in current (blanked m s) h hart cause value
    ≡ blanked m (after_trap_in current s h hart cause value)
trap-blanked m s h hart cause value zero other = refl
trap-blanked m s h hart cause value (suc k) other =
    ap (λ (t : State). with_hart t h
    (hart_after_trap (hart_after_stop hart) cause (page_address value)))
    (row-blanked m s (suc k) (row_after_stop (frame_of hart)) (record { same = λ row. refl }) other)

-- ---- calls and returns

call-rows : (m current h callee : ℕ) (frame : SavedFrame) (rows : List Row) → (current ≡ m → ⊥)
    → (callee ≡ m → ⊥)
    → rows_after_call current h callee frame (with_row m blank_row rows)
    ≡ with_row m blank_row (rows_after_call current h callee frame rows)
call-rows m zero h callee frame rows other apart =
    with_row-comm callee m (row_after_call h (record { 0 = zero }) frame) blank_row
    (record { same = λ row. refl }) keeps-blank apart rows
call-rows m (suc k) h callee frame rows other apart =
    let called : Row → Row = row_after_call h (record { 0 = suc k }) zero_frame in
    let waits : Row → Row = row_after_wait frame callee in
    ap (with_row callee called)
    (with_row-comm (suc k) m waits blank_row
    (record { same = λ row. refl }) keeps-blank other rows)
    ∙ with_row-comm callee m called blank_row (record { same = λ row. refl }) keeps-blank apart
    (with_row (suc k) waits rows)

pub call-owners : (current h callee : ℕ) (frame : SavedFrame) (rows : List Row)
    → owners (rows_after_call current h callee frame rows) ≡ owners rows
call-owners zero h callee frame rows =
    owners-with_row callee (row_after_call h (record { 0 = zero }) frame)
    (record { same = λ row. refl }) rows
call-owners (suc k) h callee frame rows =
    owners-with_row callee (row_after_call h (record { 0 = suc k }) zero_frame)
    (record { same = λ row. refl }) (with_row (suc k) (row_after_wait frame callee) rows)
    ∙ owners-with_row (suc k) (row_after_wait frame callee) (record { same = λ row. refl }) rows

call-blanked : (m : ℕ) (s : State) (h : ℕ) (hart : Hart) (rd : Reg) (callee entry : ℕ)
    → (hart.current.0 ≡ m → ⊥) → (callee ≡ m → ⊥)
    → after_call (blanked m s) h hart rd callee entry
    ≡ blanked m (after_call s h hart rd callee entry)
call-blanked m s h hart rd callee entry other apart =
    ap (λ (t : State). with_hart t h (hart_after_call hart callee entry))
    (rows-blanked m s
    (rows_after_call hart.current.0 h callee (frame_of_call hart rd)
    (with_row m blank_row s.rows))
    (rows_after_call hart.current.0 h callee (frame_of_call hart rd) s.rows)
    (call-owners hart.current.0 h callee (frame_of_call hart rd) s.rows)
    (call-rows m hart.current.0 h callee (frame_of_call hart rd) s.rows other apart))

return-rows : (m caller h k : ℕ) (rows : List Row) → (caller ≡ m → ⊥) → (k ≡ m → ⊥)
    → rows_after_return caller h k (with_row m blank_row rows)
    ≡ with_row m blank_row (rows_after_return caller h k rows)
return-rows m zero h k rows apart other =
    with_row-comm k m row_after_return blank_row
    (record { same = λ row. refl }) keeps-blank other rows
return-rows m (suc c) h k rows apart other =
    ap (with_row (suc c) (row_after_answer h))
    (with_row-comm k m row_after_return blank_row
    (record { same = λ row. refl }) keeps-blank other rows)
    ∙ with_row-comm (suc c) m (row_after_answer h) blank_row
    (record { same = λ row. refl }) keeps-blank apart (with_row k row_after_return rows)

pub return-owners : (caller h k : ℕ) (rows : List Row)
    → owners (rows_after_return caller h k rows) ≡ owners rows
return-owners zero h k rows =
    owners-with_row k row_after_return (record { same = λ row. refl }) rows
return-owners (suc c) h k rows =
    owners-with_row (suc c) (row_after_answer h) (record { same = λ row. refl })
    (with_row k row_after_return rows)
    ∙ owners-with_row k row_after_return (record { same = λ row. refl }) rows

-- the frame that another caller gets back
frame-blanked : (m caller k : ℕ) (rows : List Row) → (caller ≡ m → ⊥)
    → frame_of_caller caller (with_row m blank_row rows) k ≡ frame_of_caller caller rows k
frame-blanked m zero k rows apart = seen-same back_of m blank_row keeps-blank (λ row. refl) k rows
frame-blanked m (suc c) k rows apart =
    ap saved_of (row_of-other m blank_row keeps-blank (suc c) rows apart)

return-blanked : (m : ℕ) (s : State) (h : ℕ) (hart : Hart) (caller : ModId)
    → (hart.current.0 ≡ m → ⊥) → (caller.0 ≡ m → ⊥)
    → after_return (blanked m s) h hart caller ≡ blanked m (after_return s h hart caller)
return-blanked m s h hart caller other apart =
    ap (λ (frame : SavedFrame). with_hart
    (record (blanked m s)
    { rows = rows_after_return caller.0 h hart.current.0 (with_row m blank_row s.rows) }) h
    (hart_after_return hart caller frame))
    (frame-blanked m caller.0 hart.current.0 s.rows apart)
    ∙ ap (λ (t : State). with_hart t h
    (hart_after_return hart caller (frame_of_caller caller.0 s.rows hart.current.0)))
    (rows-blanked m s (rows_after_return caller.0 h hart.current.0 (with_row m blank_row s.rows))
    (rows_after_return caller.0 h hart.current.0 s.rows)
    (return-owners caller.0 h hart.current.0 s.rows)
    (return-rows m caller.0 h hart.current.0 s.rows apart other))

resume-blanked : (m : ℕ) (s : State) (h : ℕ) (hart : Hart) (id : ModId) → (id.0 ≡ m → ⊥)
    → after_resume (blanked m s) h hart id ≡ blanked m (after_resume s h hart id)
resume-blanked m s h hart id apart =
    ap (λ (row : Option Row). with_hart
    (record (blanked m s)
    { rows = with_row id.0 (row_after_resume h) (with_row m blank_row s.rows) }) h
    (hart_after_resume hart id (saved_of row)))
    (row_of-other m blank_row keeps-blank id.0 s.rows apart)
    ∙ ap (λ (t : State). with_hart t h (hart_after_resume hart id (saved_of (row_of s.rows id.0))))
    (row-blanked m s id.0 (row_after_resume h) (record { same = λ row. refl }) apart)

-- ---- launches

new-blanked : (m next : ℕ) (judged : Judged) → (next ≡ m → ⊥)
    → with_row m blank_row (new_row next judged ∷ []) ≡ new_row next judged ∷ []
unfolding with_row
new-blanked m next judged apart =
    ap (λ (b : Bool). change_if b blank_row (new_row next judged) ∷ []) (ne_eqb next m apart)

owners-launch : (rows : List Row) (row : Row)
    → owners (rows ++ row ∷ []) ≡ owners rows ++ owner_of row ∷ []
unfolding owners
owners-launch rows row = map-append owner_of rows (row ∷ [])

-- another module's pages aren't the new module's
launch-pages : (m next : ℕ) (judged : Judged) (rows : List Row) (pages : List (List ℕ))
    → (next ≡ m → ⊥)
    → blank_pages (owners (rows ++ new_row next judged ∷ [])) m pages
    ≡ blank_pages (owners rows) m pages
unfolding blank_pages
launch-pages m next judged rows pages apart =
    ap (λ (os : List Owner). each (blank_page os m) 0 pages)
    (owners-launch rows (new_row next judged))
    ∙ each-same (blank_page (owners rows ++ owner_of (new_row next judged) ∷ []) m)
    (blank_page (owners rows) m)
    (λ page bytes. ap (λ (b : Bool). zeros_if b bytes)
    (private-append (owners rows) (owner_of (new_row next judged)) m page apart))
    0 pages

launch-blanked : (m : ℕ) (s : State) (judged : Judged) → (s.next ≡ m → ⊥)
    → after_launch (blanked m s) judged ≡ blanked m (after_launch s judged)
launch-blanked m s judged apart =
    ap₂ (λ (pages : List (List ℕ)) (rows : List Row).
    record s { pages = pages; rows = rows; next = s.next + 1 })
    (sym (launch-pages m s.next judged s.rows s.pages apart))
    (ap (λ (rows : List Row). with_row m blank_row s.rows ++ rows)
    (sym (new-blanked m s.next judged apart))
    ∙ sym (with_row-append m blank_row s.rows (new_row s.next judged ∷ [])))

-- ---- evictions

among-mapped : (m : ℕ) (gone : List Row) (id : ℕ)
    → is_among (map (change_at m blank_row) gone) id ≡ is_among gone id
among-mapped m gone id =
    any-map (has_id id) (has_id id) (change_at m blank_row)
    (λ row. by_test (has_id m row) row) gone
  where
    by_test : (b : Bool) (row : Row) → has_id id (change_if b blank_row row) ≡ has_id id row
    by_test true row = refl
    by_test false row = refl

among-blanked : (m : ℕ) (gone : List Row) (id : ℕ)
    → is_among (with_row m blank_row gone) id ≡ is_among gone id
unfolding with_row
among-blanked m gone id = among-mapped m gone id

left-rows : (m : ℕ) (gone rows : List Row)
    → rows_left (with_row m blank_row gone) (with_row m blank_row rows)
    ≡ with_row m blank_row (rows_left gone rows)
unfolding rows_left with_row
left-rows m gone rows =
    filter-map (stays (map (change_at m blank_row) gone)) (stays gone) (change_at m blank_row)
    (λ row. by_test (has_id m row) row ∙ ap not (among-mapped m gone row.id.0)) rows
  where
    by_test : (b : Bool) (row : Row)
        → stays (map (change_at m blank_row) gone) (change_if b blank_row row)
        ≡ stays (map (change_at m blank_row) gone) row
    by_test true row = refl
    by_test false row = refl

given-same : (gone others : List Row) (os : List Owner) (pages : List (List ℕ))
    → ((id : ℕ) → is_among others id ≡ is_among gone id)
    → pages_left others os pages ≡ pages_left gone os pages
unfolding pages_left
given-same gone others os pages same =
    each-same (page_left others os) (page_left gone os)
    (λ page bytes. ap (λ (b : Bool). zeros_if b bytes)
    (any-same (is_given_up others page) (is_given_up gone page)
    (λ claim. ap (λ (b : Bool). b && is_own claim.decl.sort && is_on page claim)
    (same claim.owner.0)) (claims os)))
    0 pages

page-left : (among private given : Bool) → (among ≡ true → private ≡ true → given ≡ true)
    → (bytes : List ℕ)
    → zeros_if given (zeros_if private bytes)
    ≡ zeros_if (not among && private) (zeros_if given bytes)
page-left true true true implies bytes = refl
page-left true true false implies bytes = let e = implies refl refl in cc
page-left true false given implies bytes = refl
page-left false true true implies bytes = refl
page-left false true false implies bytes = refl
page-left false false given implies bytes = refl

left-pages : (m : ℕ) (gone rows : List Row) (pages : List (List ℕ))
    → pages_left gone (owners rows) (blank_pages (owners rows) m pages)
    ≡ blank_pages (owners (rows_left gone rows)) m (pages_left gone (owners rows) pages)
unfolding pages_left blank_pages
left-pages m gone rows pages =
    each-each (page_left gone (owners rows)) (blank_page (owners rows) m) 0 pages
    ∙ each-same
    (λ page bytes. page_left gone (owners rows) page (blank_page (owners rows) m page bytes))
    (λ page bytes. blank_page (owners (rows_left gone rows)) m page
    (page_left gone (owners rows) page bytes)) same 0 pages
    ∙ sym (each-each (blank_page (owners (rows_left gone rows)) m)
    (page_left gone (owners rows)) 0 pages)
  where
    same : (page : ℕ) (bytes : List ℕ)
        → page_left gone (owners rows) page (blank_page (owners rows) m page bytes)
        ≡ blank_page (owners (rows_left gone rows)) m page (page_left gone (owners rows) page bytes)
    same page bytes =
        page-left (is_among gone m) (is_private_page (owners rows) m page)
        (list_any (is_given_up gone page) (claims (owners rows)))
        (private-gone gone (owners rows) m page) bytes
        ∙ ap (λ (b : Bool). zeros_if b (page_left gone (owners rows) page bytes))
        (sym (private-left gone rows m page))

evict-blanked : (m : ℕ) (s : State) (id : ℕ)
    → after_evict (blanked m s) id ≡ blanked m (after_evict s id)
evict-blanked m s id =
    let gone : List Row = evicted_rows s.rows id in
    ap (λ (rows : List Row).
    record s {
      pages = pages_left rows (owners (with_row m blank_row s.rows))
          (blank_pages (owners s.rows) m s.pages);
      rows =
          rows_left rows (with_row m blank_row s.rows);
    })
    (evicted-blanked m s.rows id)
    ∙ ap₂ (λ (pages : List (List ℕ)) (rows : List Row). record s { pages = pages; rows = rows })
    (ap (λ (os : List Owner). pages_left (with_row m blank_row gone) os
    (blank_pages (owners s.rows) m s.pages)) (owners-with_row m blank_row keeps-blank s.rows)
    ∙ given-same gone (with_row m blank_row gone) (owners s.rows)
    (blank_pages (owners s.rows) m s.pages) (among-blanked m gone)
    ∙ left-pages m gone s.rows s.pages)
    (left-rows m gone s.rows)

-- ---- a whole turn

-- a store is to a page that isn't private to module m
abbrev pub StoresElsewhere : (m : ℕ) → List Owner → Decision → Type 0
StoresElsewhere m os (Store place width value) = is_private_page os m place.page.0 ≡ false
StoresElsewhere m os decision = Unit {0}

-- a turn starts no module m
abbrev pub StartsOthers : (m next : ℕ) → Decision → Type 0
StartsOthers m next (Launch rd judged) = next ≡ m → ⊥
StartsOthers m next (Call rd callee entry) = callee ≡ m → ⊥
StartsOthers m next (Return caller pc) = caller.0 ≡ m → ⊥
StartsOthers m next (Resume id) = id.0 ≡ m → ⊥
StartsOthers m next decision = Unit {0}

pub turn-blanked : (m : ℕ) (s : State) (h : ℕ) (hart : Hart) → (hart.current.0 ≡ m → ⊥)
    → (d : Decision)
    → StoresElsewhere m (owners s.rows) d → StartsOthers m s.next d
    → after_turn (blanked m s) h hart d ≡ blanked m (after_turn s h hart d)
turn-blanked m s h hart other Rest stores starts = refl
turn-blanked m s h hart other (Trap cause value) stores starts =
    ap after_tick (trap-blanked m s h hart cause value hart.current.0 other)
turn-blanked m s h hart other (Deny kind va) stores starts =
    ap after_tick (trap-blanked m s h hart (access_fault kind) va hart.current.0 other)
turn-blanked m s h hart other Next stores starts = refl
turn-blanked m s h hart other (Set rd value) stores starts = refl
turn-blanked m s h hart other (Jump target rd link) stores starts = refl
turn-blanked m s h hart other (Store place width value) stores starts =
    ap (λ (pages : List (List ℕ)). after_tick
    (with_hart (record (blanked m s) { pages = pages }) h (hart_after_next hart)))
    (sym (store-blanked (owners s.rows) m s.pages width value place stores))
turn-blanked m s h hart other (Csr rd old csrs) stores starts = refl
turn-blanked m s h hart other ReturnFromTrap stores starts = refl
turn-blanked m s h hart other (Put byte) stores starts = refl
turn-blanked m s h hart other (Answer error) stores starts = refl
turn-blanked m s h hart other ShutDown stores starts = refl
turn-blanked m s h hart other (SetTimer timer) stores starts = refl
turn-blanked m s h hart other (TakeKey key rest) stores starts = refl
turn-blanked m s h hart other NoKey stores starts = refl
turn-blanked m s h hart other (Start target pc opaque) stores starts = refl
turn-blanked m s h hart other (Send mask) stores starts = refl
turn-blanked m s h hart other (Refuse rd request code) stores starts = refl
turn-blanked m s h hart other (Launch rd judged) stores starts =
    ap (λ (t : State). after_tick (with_hart t h (hart_after_set hart rd s.next)))
    (launch-blanked m s judged starts)
turn-blanked m s h hart other (Call rd callee entry) stores starts =
    ap after_tick (call-blanked m s h hart rd callee entry other starts)
turn-blanked m s h hart other (Return caller pc) stores starts =
    ap after_tick (return-blanked m s h hart caller other starts)
turn-blanked m s h hart other (Resume id) stores starts =
    ap after_tick (resume-blanked m s h hart id starts)
turn-blanked m s h hart other (Evict rd id count) stores starts =
    ap (λ (t : State). after_tick (with_hart t h (hart_after_set hart rd 0))) (evict-blanked m s id)
turn-blanked m s h hart other (Tell rd value) stores starts = refl
turn-blanked m s h hart other (SetWord rd index records) stores starts = refl

-- ---- where a module rests

-- no hart runs it
pub rests-apart : (m : ℕ) (s : State) (h : ℕ) → rests m s ≡ true → h < length s.harts
    → (hart_at s h).current.0 ≡ m → ⊥
rests-apart m s h rest within is =
    both_ways (list_any (runs m) s.harts) (not-true (list_any (runs m) s.harts) rest)
    (list_any_at (runs m) s.harts h resting_hart within (eq-eqb (hart_at s h).current.0 m is))

started-other : (m : ℕ) (s : State) (h : ℕ) (hart : Hart) (t : State) → h < length s.harts
    → rests m t ≡ true
    → t.harts ≡ set s.harts h hart → hart.current.0 ≡ m → ⊥
started-other m s h hart t within rest is started =
    let there : hart_at t h ≡ hart = ap (λ (harts : List Hart). get_or harts h resting_hart) is
    ∙ get_or-set_same s.harts h hart resting_hart within in
    let size : length t.harts ≡ length s.harts = ap length is ∙ length-set s.harts h hart in
    rests-apart m t h rest (subst (λ (n : ℕ). h < n) (sym size) within)
    (ap (λ (it : Hart). it.current.0) there ∙ started)

-- so a turn that leaves a module at rest starts others alone
pub starts-others : (m : ℕ) (s : State) (h : ℕ) (hart : Hart) (d : Decision) → h < length s.harts
    → (s.next ≡ m → ⊥)
    → rests m (after_turn s h hart d) ≡ true → StartsOthers m s.next d
starts-others m s h hart (Launch rd judged) within new rest = new
starts-others m s h hart (Call rd callee entry) within new rest =
    started-other m s h (hart_after_call hart callee entry)
    (after_turn s h hart (Call rd callee entry)) within rest refl
starts-others m s h hart (Return caller pc) within new rest =
    started-other m s h
    (hart_after_return hart caller (frame_of_caller caller.0 s.rows hart.current.0))
    (after_turn s h hart (Return caller pc)) within rest refl
starts-others m s h hart (Resume id) within new rest =
    started-other m s h (hart_after_resume hart id (saved_of (row_of s.rows id.0)))
    (after_turn s h hart (Resume id)) within rest refl
starts-others m s h hart decision within new rest = tt

-- ---- devices

pub seen-public : (os : List Owner) (m page : ℕ) (pages : List (List ℕ)) (bytes : List ℕ)
    → slice_get (visible (record { pages = pages; owners = os })) page ≡ Some (Some bytes)
    → is_private_page os m page ≡ false
unfolding visible
seen-public os m page pages bytes e =
    by_bytes (slice_get pages page) (sym (get-each (readable_page os) page pages) ∙ e)
  where
    by_owned : (b : Bool) → is_owned os page ≡ b → (content : List ℕ)
        → Some (readable_if b content) ≡ Some (Some bytes) → is_private_page os m page ≡ false
    by_owned true is content e = cc
    by_owned false is content e =
        false_from_ne_true (is_private_page os m page)
        (λ private. both_ways (is_owned os page) is (owned-private os m page private))

    by_bytes : (content : Option (List ℕ))
        → option_map (readable_page os page) content ≡ Some (Some bytes)
        → is_private_page os m page ≡ false
    by_bytes None e = cc
    by_bytes (Some content) e = by_owned (is_owned os page) refl content e

poke-pages : (os : List Owner) (m : ℕ) (pages : List (List ℕ)) (page offset byte : ℕ)
    (seen : Option (Option (List ℕ)))
    → ((bytes : List ℕ) → seen ≡ Some (Some bytes) → is_private_page os m page ≡ false)
    → pages_after_poke seen (blank_pages os m pages) page offset byte
    ≡ blank_pages os m (pages_after_poke seen pages page offset byte)
poke-pages os m pages page offset byte None public = refl
poke-pages os m pages page offset byte (Some None) public = refl
poke-pages os m pages page offset byte (Some (Some bytes)) public =
    sym (set-blanked os m pages page (with_number B1 bytes offset byte) (public bytes refl))

pub seen_page-blanked : (m : ℕ) (s : State) (page : Gpn)
    → seen_page (blanked m s) page ≡ seen_page s page
seen_page-blanked m s page =
    ap (λ (pages : List (Option (List ℕ))). slice_get pages page.0) (visible-blanked m s)

pub poke-blanked : (m : ℕ) (s : State) (page : Gpn) (offset byte : ℕ)
    → pages_after_poke (seen_page (blanked m s) page) (blanked m s).pages page.0 offset byte
    ≡ blank_pages (owners s.rows) m (pages_after_poke (seen_page s page) s.pages page.0 offset byte)
poke-blanked m s page offset byte =
    ap (λ (seen : Option (Option (List ℕ))). pages_after_poke seen
    (blanked m s).pages page.0 offset byte) (seen_page-blanked m s page)
    ∙ poke-pages (owners s.rows) m s.pages page.0 offset byte (seen_page s page)
    (λ bytes e. seen-public (owners s.rows) m page.0 s.pages bytes e)
