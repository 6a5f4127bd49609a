-- What a turn comes to doesn't depend on the secrets of a module that doesn't run in it.
use Rattle.std.proofs.Common.{◌≡◌, ℕ, zero, suc, Bool, true, false, List, [], ◌∷◌, length, map}
use Rattle.std.proofs.Common.{find, Option, Some, None, option_map, Result, Ok, Err, refl, ap, ◌∙◌}
use Rattle.bn_types.specs.declared.act.Act.{Act}
use Rattle.bn_types.specs.declared.act.Act.TheVariants as act
use Rattle.bn_types.specs.declared.cause.Cause.{Cause}
use Rattle.bn_types.specs.declared.fault.Fault.{Fault}
use Rattle.bn_types.specs.declared.gpn.Gpn.{Gpn}
use Rattle.bn_types.specs.declared.kind.Kind.TheVariants as kind
use Rattle.bn_types.specs.declared.mode.Mode.{Mode}
use Rattle.bn_types.specs.declared.mode.Mode.TheVariants.{U, S}
use Rattle.bn_types.specs.declared.row.Row.{Row}
use Rattle.bn_types.specs.declared.secure.Secure.{Secure}
use Rattle.bn_types.specs.declared.secure.Secure.TheVariants as secure
use Rattle.bn_types.specs.declared.width.Width.TheVariants.{B4}
use Rattle.bn_model.specs.declared.owner.Owner.{Owner}
use Rattle.bn_model.specs.Accessing.{access, answer_of_load}
use Rattle.bn_model.specs.Admission.{declaration}
use Rattle.bn_model.specs.Blanking.{blank_row, blanked}
use Rattle.bn_model.specs.Deciding.{asked_if_started, asked_of, asked_of_denial, asked_of_fault}
use Rattle.bn_model.specs.Deciding.{asked_of_fetch, asked_of_interrupt, asked_of_stopped, caller_of}
use Rattle.bn_model.specs.Deciding.{decision_of_act, decision_of_asked, decision_of_call}
use Rattle.bn_model.specs.Deciding.{decision_of_ecall, decision_of_evict, decision_of_hart}
use Rattle.bn_model.specs.Deciding.{decision_of_launch, decision_of_load, decision_of_return}
use Rattle.bn_model.specs.Deciding.{decision_of_secure, decision_of_set, decision_of_store}
use Rattle.bn_model.specs.Deciding.{enclave_at, identity_of, identity_word, offerer_of}
use Rattle.bn_model.specs.Decision.{Acting, Asked, Decision, Interrupted, Nothing, Resuming, Return}
use Rattle.bn_model.specs.Decision.{Tell, Unfetched, Unknown}
use Rattle.bn_model.specs.Evicting.{chain, chain_from, evicted_rows, is_other, rows_without}
use Rattle.bn_model.specs.Interrupts.{interrupt_of}
use Rattle.bn_model.specs.Launching.{judgement}
use Rattle.bn_model.specs.Legality.{inside_only, kernel_only, outside_only}
use Rattle.bn_model.specs.Memory.{visible}
use Rattle.bn_model.specs.Records.{get_word, set_refusal}
use Rattle.bn_model.specs.Rows.{Enclave, back_of, change_at, change_if, enclaves, has_id, owners}
use Rattle.bn_model.specs.Rows.{row_of, saved_of, with_row}
use Rattle.bn_model.specs.State.{Hart, State, asker, memory, value_of}
use Rattle.bn_model.specs.Switching.{frame_of_caller, id_of_row, is_stopped_at, stopped_at}
use Rattle.bn_model.specs.Walking.{vpn_of}
use Rattle.bn_model.proofs.BlankPages.{access-blanked, keeps-blank, load-blanked, owners-blanked}
use Rattle.bn_model.proofs.BlankPages.{visible-blanked}
use Rattle.bn_model.proofs.ClaimLemmas.{ArePrivate}
use Rattle.bn_model.proofs.RowLemmas.{enclaves-with_row, length-with_row, row_of-with_row}
use Rattle.bn_model.proofs.RowLemmas.{seen-same}
use Rattle.bn_model.proofs.TestLemmas.{filter-map, find-map}

enclaves-blanked : (m : ℕ) (s : State) → enclaves (blanked m s).rows ≡ enclaves s.rows
enclaves-blanked m s = enclaves-with_row m blank_row keeps-blank s.rows

-- ---- rows that stopped

pc-blanked : (page vpn pc : ℕ) (mode : Mode) (m : ℕ) (row : Row)
    → is_stopped_at page vpn pc mode (change_at m blank_row row)
    ≡ is_stopped_at page vpn pc mode row
unfolding is_stopped_at
pc-blanked page vpn pc mode m row = by_test (has_id m row)
  where
    by_test : (b : Bool)
        → is_stopped_at page vpn pc mode (change_if b blank_row row)
        ≡ is_stopped_at page vpn pc mode row
    by_test true = refl
    by_test false = refl

id-blanked : (m : ℕ) (row : Option Row)
    → id_of_row (option_map (change_at m blank_row) row) ≡ id_of_row row
id-blanked m None = refl
id-blanked m (Some row) = by_test (has_id m row)
  where
    by_test : (b : Bool) → id_of_row (Some (change_if b blank_row row)) ≡ id_of_row (Some row)
    by_test true = refl
    by_test false = refl

stopped-blanked : (m : ℕ) (rows : List Row) (page vpn pc : ℕ) (mode : Mode)
    → stopped_at (with_row m blank_row rows) page vpn pc mode ≡ stopped_at rows page vpn pc mode
unfolding stopped_at with_row
stopped-blanked m rows page vpn pc mode =
    ap id_of_row
    (find-map (is_stopped_at page vpn pc mode) (is_stopped_at page vpn pc mode)
    (change_at m blank_row) (pc-blanked page vpn pc mode m) rows)
    ∙ id-blanked m (find (is_stopped_at page vpn pc mode) rows)

-- ---- what is asked

denial-blanked : (m : ℕ) (rows : List Row) (hart : Hart) (fault : Fault) (denied : Option Gpn)
    → asked_of_denial (with_row m blank_row rows) hart fault denied
    ≡ asked_of_denial rows hart fault denied
denial-blanked m rows hart fault None = refl
denial-blanked m rows hart fault (Some page) =
    ap (asked_of_stopped fault) (stopped-blanked m rows page.0 (vpn_of hart.pc) hart.pc hart.mode)

fault-blanked : (m current : ℕ) (rows : List Row) (hart : Hart) (fault : Fault)
    → asked_of_fault current (with_row m blank_row rows) hart fault
    ≡ asked_of_fault current rows hart fault
fault-blanked m zero rows hart fault = denial-blanked m rows hart fault fault.denied
fault-blanked m (suc k) rows hart fault = refl

fetch-blanked : (m : ℕ) (rows : List Row) (hart : Hart) (fetched : Result ℕ Fault)
    → asked_of_fetch (with_row m blank_row rows) hart fetched ≡ asked_of_fetch rows hart fetched
fetch-blanked m rows hart (Err fault) = fault-blanked m hart.current.0 rows hart fault
fetch-blanked m rows hart (Ok word) = refl

interrupt-blanked : (m : ℕ) (s : State) → ArePrivate (owners s.rows) → (h : ℕ) (hart : Hart)
    → (hart.current.0 ≡ m → ⊥)
    → (cause : Option Cause)
    → asked_of_interrupt (blanked m s) h hart cause ≡ asked_of_interrupt s h hart cause
interrupt-blanked m s alone h hart other (Some cause) = refl
interrupt-blanked m s alone h hart other None =
    ap (asked_of_fetch (with_row m blank_row s.rows) hart)
    (load-blanked m s alone (asker h hart) kind.Fetch hart.pc B4 other)
    ∙ fetch-blanked m s.rows hart
    (answer_of_load s.pages B4 (access (memory s) (asker h hart) kind.Fetch hart.pc B4))

started-blanked : (m : ℕ) (s : State) → ArePrivate (owners s.rows) → (h : ℕ) (hart : Hart)
    → (hart.current.0 ≡ m → ⊥)
    → (started : Bool)
    → asked_if_started started (blanked m s) h hart ≡ asked_if_started started s h hart
started-blanked m s alone h hart other false = refl
started-blanked m s alone h hart other true =
    interrupt-blanked m s alone h hart other (interrupt_of s h hart)

pub asked-blanked : (m : ℕ) (s : State) → ArePrivate (owners s.rows) → (h : ℕ) (hart : Hart)
    → (hart.current.0 ≡ m → ⊥)
    → asked_of (blanked m s) h hart ≡ asked_of s h hart
asked-blanked m s alone h hart other = started-blanked m s alone h hart other hart.started

-- ---- evictions

without-blanked : (m id : ℕ) (rows : List Row)
    → rows_without id (with_row m blank_row rows) ≡ with_row m blank_row (rows_without id rows)
unfolding with_row
without-blanked m id rows = filter-map (is_other id) (is_other id) (change_at m blank_row) same rows
  where
    by_test : (b : Bool) (row : Row) → is_other id (change_if b blank_row row) ≡ is_other id row
    by_test true row = refl
    by_test false row = refl

    same : (row : Row) → is_other id (change_at m blank_row row) ≡ is_other id row
    same row = by_test (has_id m row) row

from-blanked : (m : ℕ) (go callers : ℕ → List Row)
    → ((id : ℕ) → callers id ≡ with_row m blank_row (go id))
    → (row : Option Row)
    → chain_from callers (option_map (change_at m blank_row) row)
    ≡ with_row m blank_row (chain_from go row)
unfolding with_row
from-blanked m go callers same None = refl
from-blanked m go callers same (Some row) = by_test (has_id m row)
  where
    by_test : (b : Bool) → change_if b blank_row row ∷ callers (change_if b blank_row row).caller.0
        ≡ change_if b blank_row row ∷ map (change_at m blank_row) (go row.caller.0)
    by_test true = ap (λ (rows : List Row). blank_row row ∷ rows) (same row.caller.0)
    by_test false = ap (λ (rows : List Row). row ∷ rows) (same row.caller.0)

with-none : (m : ℕ) → [] ≡ with_row m blank_row []
unfolding with_row
with-none m = refl

chain-blanked : (m n : ℕ) (rows : List Row) (id : ℕ)
    → chain n (with_row m blank_row rows) id ≡ with_row m blank_row (chain n rows id)
unfolding chain
chain-blanked m zero rows id = with-none m
chain-blanked m (suc n) rows id =
    ap (chain_from (chain n (rows_without id (with_row m blank_row rows))))
    (row_of-with_row m blank_row keeps-blank id rows)
    ∙ from-blanked m (chain n (rows_without id rows))
    (chain n (rows_without id (with_row m blank_row rows)))
    (λ i. ap (λ (others : List Row). chain n others i) (without-blanked m id rows)
    ∙ chain-blanked m n (rows_without id rows) i)
    (row_of rows id)

-- the same rows go
pub evicted-blanked : (m : ℕ) (rows : List Row) (id : ℕ)
    → evicted_rows (with_row m blank_row rows) id ≡ with_row m blank_row (evicted_rows rows id)
unfolding evicted_rows
evicted-blanked m rows id =
    ap (λ (n : ℕ). chain n (with_row m blank_row rows) id) (length-with_row m blank_row rows)
    ∙ chain-blanked m (length rows) rows id

count-blanked : (m : ℕ) (rows : List Row) (id : ℕ)
    → length (evicted_rows (with_row m blank_row rows) id) ≡ length (evicted_rows rows id)
count-blanked m rows id =
    ap length (evicted-blanked m rows id) ∙ length-with_row m blank_row (evicted_rows rows id)

-- ---- the secure instructions

look-up : {A : Type 0} (F : Option Row → A)
    → ((row : Row) → F (Some (blank_row row)) ≡ F (Some row)) → (m : ℕ) (rows : List Row) (id : ℕ)
    → F (row_of (with_row m blank_row rows) id) ≡ F (row_of rows id)
look-up F same m rows id = seen-same F m blank_row keeps-blank same id rows

-- the pc of a frame that comes back stays
pub return-pc-blanked : (m : ℕ) (rows : List Row) (k caller : ℕ)
    → (frame_of_caller caller (with_row m blank_row rows) k).pc ≡ (frame_of_caller caller rows k).pc
return-pc-blanked m rows k zero = look-up (λ row. (back_of row).pc) (λ row. refl) m rows k
return-pc-blanked m rows k (suc c) = look-up (λ row. (saved_of row).pc) (λ row. refl) m rows (suc c)

return-blanked : (m : ℕ) (rows : List Row) (k : ℕ)
    → decision_of_return (with_row m blank_row rows) k
    (caller_of (row_of (with_row m blank_row rows) k))
    ≡ decision_of_return rows k (caller_of (row_of rows k))
return-blanked m rows k =
    ap (decision_of_return (with_row m blank_row rows) k) (look-up caller_of (λ row. refl) m rows k)
    ∙ ap (Return (caller_of (row_of rows k)))
    (return-pc-blanked m rows k (caller_of (row_of rows k)).0)

secure-blanked : (m : ℕ) (s : State) (hart : Hart) (asked : Secure)
    → decision_of_secure (blanked m s) hart asked ≡ decision_of_secure s hart asked
secure-blanked m s hart (secure.Launch rd at) =
    ap (λ (live : List Enclave). kernel_only hart.current.0 hart.mode
    (decision_of_launch rd
    (judgement live s.next (visible (memory (blanked m s))) hart.csrs.satp
    (value_of hart at))))
    (enclaves-blanked m s)
    ∙ ap (λ (pages : List (Option (List ℕ))). kernel_only hart.current.0 hart.mode
    (decision_of_launch rd
    (judgement (enclaves s.rows) s.next pages hart.csrs.satp (value_of hart at))))
    (visible-blanked m s)
secure-blanked m s hart (secure.Call rd id entry) =
    look-up (decision_of_call hart.mode rd (value_of hart id) (value_of hart entry))
    (λ row. refl) m s.rows (value_of hart id)
secure-blanked m s hart secure.Ret =
    ap (inside_only hart.current.0) (return-blanked m s.rows hart.current.0)
secure-blanked m s hart (secure.Evict rd id) =
    ap (λ (count : ℕ). kernel_only hart.current.0 hart.mode
    (decision_of_evict rd (value_of hart id) count
    (row_of (with_row m blank_row s.rows) (value_of hart id))))
    (count-blanked m s.rows (value_of hart id))
    ∙ look-up
    (λ row. kernel_only hart.current.0 hart.mode
    (decision_of_evict rd (value_of hart id)
    (length (evicted_rows s.rows (value_of hart id))) row))
    (λ row. refl) m s.rows (value_of hart id)
secure-blanked m s hart (secure.Ident rd id word) =
    ap (λ (live : List Enclave). Tell rd
    (identity_word (enclave_at live (value_of hart id)) (value_of hart word)))
    (enclaves-blanked m s)
secure-blanked m s hart (secure.Caller rd) =
    look-up (λ row. inside_only hart.current.0 (Tell rd (caller_of row).0))
    (λ row. refl) m s.rows hart.current.0
secure-blanked m s hart (secure.Offerer rd at) =
    ap (λ (os : List Owner). inside_only hart.current.0
    (Tell rd (offerer_of os (declaration os hart.current.0 (vpn_of (value_of hart at))))))
    (owners-blanked m s)
secure-blanked m s hart (secure.Sget rd index) =
    ap (λ (live : List Enclave). inside_only hart.current.0
    (Tell rd (get_word s.records (identity_of live hart.current.0) (value_of hart index))))
    (enclaves-blanked m s)
secure-blanked m s hart (secure.Sset rd index value) =
    ap (λ (live : List Enclave). decision_of_secure_set live) (enclaves-blanked m s)
  where
    decision_of_secure_set : List Enclave → Decision
    decision_of_secure_set live =
        let who = identity_of live hart.current.0 in
        inside_only hart.current.0
        (decision_of_set rd s.records who (value_of hart index) (value_of hart value)
        (set_refusal s.records who (value_of hart index)))

-- ---- instructions

ecall-blanked : (m : ℕ) (s : State) (hart : Hart) (mode : Mode)
    → decision_of_ecall (blanked m s) hart mode ≡ decision_of_ecall s hart mode
ecall-blanked m s hart U = refl
ecall-blanked m s hart S = refl

act-blanked : (m : ℕ) (s : State) → ArePrivate (owners s.rows) → (h : ℕ) (hart : Hart)
    → (hart.current.0 ≡ m → ⊥)
    → (a : Act) → decision_of_act (blanked m s) h hart a ≡ decision_of_act s h hart a
act-blanked m s alone h hart other (act.Set rd value) = refl
act-blanked m s alone h hart other (act.Jump target rd link) = refl
act-blanked m s alone h hart other act.Next = refl
act-blanked m s alone h hart other (act.LoadAt va width signed rd) =
    ap (decision_of_load width signed rd)
    (load-blanked m s alone (asker h hart) kind.Load va width other)
act-blanked m s alone h hart other (act.StoreAt va width value) =
    ap (decision_of_store width value) (access-blanked m s (asker h hart) kind.Store va width)
act-blanked m s alone h hart other (act.Csr op number operand reads writes rd) = refl
act-blanked m s alone h hart other act.Ecall =
    ap (outside_only hart.current.0) (ecall-blanked m s hart hart.mode)
act-blanked m s alone h hart other act.Ebreak = refl
act-blanked m s alone h hart other act.Sret = refl
act-blanked m s alone h hart other act.Wfi = refl
act-blanked m s alone h hart other act.SfenceVma = refl
act-blanked m s alone h hart other (act.Bastion asked) = secure-blanked m s hart asked
act-blanked m s alone h hart other (act.Trap cause value) = refl

carried-blanked : (m : ℕ) (s : State) → ArePrivate (owners s.rows) → (h : ℕ) (hart : Hart)
    → (hart.current.0 ≡ m → ⊥)
    → (asked : Asked)
    → decision_of_asked (blanked m s) h hart asked ≡ decision_of_asked s h hart asked
carried-blanked m s alone h hart other Nothing = refl
carried-blanked m s alone h hart other (Interrupted cause) = refl
carried-blanked m s alone h hart other (Unfetched fault) = refl
carried-blanked m s alone h hart other (Resuming id) = refl
carried-blanked m s alone h hart other Unknown = refl
carried-blanked m s alone h hart other (Acting a) = act-blanked m s alone h hart other a

pub decision-blanked : (m : ℕ) (s : State) → ArePrivate (owners s.rows) → (h : ℕ) (hart : Hart)
    → (hart.current.0 ≡ m → ⊥)
    → decision_of_hart (blanked m s) h hart ≡ decision_of_hart s h hart
decision-blanked m s alone h hart other =
    ap (decision_of_asked (blanked m s) h hart) (asked-blanked m s alone h hart other)
    ∙ carried-blanked m s alone h hart other (asked_of s h hart)
