-- Three kinds of turns: a launch, an eviction, and all others, which leave what is live.
use Rattle.std.proofs.Common.{◌≡◌, ℕ, zero, suc, List, length, refl, ◌∙◌}
use Rattle.std.proofs.lemmas.List.{length-set}
use Rattle.bn_types.specs.Registers.{zero_frame}
use Rattle.bn_types.specs.declared.cause.Cause.{Cause}
use Rattle.bn_types.specs.declared.judged.Judged.{Judged}
use Rattle.bn_types.specs.declared.reg.Reg.{Reg}
use Rattle.bn_types.specs.declared.row.Row.{Row}
use Rattle.bn_types.specs.declared.saved_frame.SavedFrame.{SavedFrame}
use Rattle.bn_model.specs.Decision.{Decision, Rest, Trap, Deny, Next, Set, Jump, Store, Csr}
use Rattle.bn_model.specs.Decision.{ReturnFromTrap, Put, Answer, ShutDown, SetTimer, TakeKey, NoKey}
use Rattle.bn_model.specs.Decision.{Start, Send, Refuse, Launch, Call, Return, Resume, Evict, Tell}
use Rattle.bn_model.specs.Decision.{SetWord}
use Rattle.bn_model.specs.Rows.{enclaves, with_row}
use Rattle.bn_model.specs.State.{Hart, State, frame_of}
use Rattle.bn_model.specs.Stepping.{after_trap_in, after_turn, frame_of_call}
use Rattle.bn_model.specs.Switching.{row_after_answer, row_after_call, row_after_resume}
use Rattle.bn_model.specs.Switching.{row_after_return, row_after_stop, row_after_wait}
use Rattle.bn_model.specs.Switching.{rows_after_call, rows_after_return}
use Rattle.bn_model.specs.Walking.{access_fault}
use Rattle.bn_model.proofs.Evidence.{Evicts, Holds, Launches}
use Rattle.bn_model.proofs.RowLemmas.{enclaves-with_row}

-- the same modules are live in RAM of the same size
pub record IsSteady (before after : State) : Type 0 where
  pub live : enclaves after.rows ≡ enclaves before.rows
  pub next : after.next ≡ before.next
  pub size : length after.pages ≡ length before.pages

trap-steady : (s : State) (h : ℕ) (hart : Hart) (cause : Cause) (value current : ℕ)
    → IsSteady s (after_trap_in current s h hart cause value)
trap-steady s h hart cause value zero = record { live = refl; next = refl; size = refl }
trap-steady s h hart cause value (suc m) = record {
  live = enclaves-with_row (suc m) (row_after_stop (frame_of hart)) (record { same = λ row. refl })
      s.rows;
  next = refl;
  size = refl;
}

pub call-live : (current h callee : ℕ) (frame : SavedFrame) (rows : List Row)
    → enclaves (rows_after_call current h callee frame rows) ≡ enclaves rows
call-live zero h callee frame rows =
    enclaves-with_row callee (row_after_call h (record { 0 = zero }) frame)
    (record { same = λ row. refl }) rows
call-live (suc k) h callee frame rows =
    enclaves-with_row callee (row_after_call h (record { 0 = suc k }) zero_frame)
    (record { same = λ row. refl }) (with_row (suc k) (row_after_wait frame callee) rows)
    ∙ enclaves-with_row (suc k) (row_after_wait frame callee) (record { same = λ row. refl }) rows

pub return-live : (caller h m : ℕ) (rows : List Row)
    → enclaves (rows_after_return caller h m rows) ≡ enclaves rows
return-live zero h m rows =
    enclaves-with_row m row_after_return (record { same = λ row. refl }) rows
return-live (suc c) h m rows =
    enclaves-with_row (suc c) (row_after_answer h) (record { same = λ row. refl })
    (with_row m row_after_return rows)
    ∙ enclaves-with_row m row_after_return (record { same = λ row. refl }) rows

module _ (s : State) (h : ℕ) (hart : Hart) (P : State → Type 0)
    (steady : (after : State) → IsSteady s after → P after)
    (launch : (rd : Reg) (judged : Judged) → Launches s hart judged
    → P (after_turn s h hart (Launch rd judged)))
    (evict : (rd : Reg) (id count : ℕ) → Evicts s hart id count
    → P (after_turn s h hart (Evict rd id count))) where
  same : (after : State) → enclaves after.rows ≡ enclaves s.rows → after.next ≡ s.next
      → length after.pages ≡ length s.pages → P after
  same after live next size = steady after (record { live = live; next = next; size = size })

  trapped : (cause : Cause) (value : ℕ) → P (after_turn s h hart (Trap cause value))
  trapped cause value =
      let told = trap-steady s h hart cause value hart.current.0 in
      same _ told.live told.next told.size

  pub by-kind : (d : Decision) → Holds s h hart d → P (after_turn s h hart d)
  unfolding Holds
  by-kind (Launch rd judged) e = launch rd judged e
  by-kind (Evict rd id count) e = evict rd id count e
  by-kind (Trap cause value) e = trapped cause value
  by-kind (Deny kind va) e = trapped (access_fault kind) va
  by-kind (Store place width value) e = same _ refl refl (length-set s.pages place.page.0 _)
  by-kind (Call rd callee entry) e =
      same _ (call-live hart.current.0 h callee (frame_of_call hart rd) s.rows) refl refl
  by-kind (Return caller pc) e = same _ (return-live caller.0 h hart.current.0 s.rows) refl refl
  by-kind (Resume id) e =
      same _ (enclaves-with_row id.0 (row_after_resume h) (record { same = λ row. refl }) s.rows)
      refl refl
  by-kind Rest e = same _ refl refl refl
  by-kind Next e = same _ refl refl refl
  by-kind (Set rd value) e = same _ refl refl refl
  by-kind (Jump target rd link) e = same _ refl refl refl
  by-kind (Csr rd old csrs) e = same _ refl refl refl
  by-kind ReturnFromTrap e = same _ refl refl refl
  by-kind (Put byte) e = same _ refl refl refl
  by-kind (Answer error) e = same _ refl refl refl
  by-kind ShutDown e = same _ refl refl refl
  by-kind (SetTimer timer) e = same _ refl refl refl
  by-kind (TakeKey key rest) e = same _ refl refl refl
  by-kind NoKey e = same _ refl refl refl
  by-kind (Start target pc opaque) e = same _ refl refl refl
  by-kind (Send mask) e = same _ refl refl refl
  by-kind (Refuse rd request code) e = same _ refl refl refl
  by-kind (Tell rd value) e = same _ refl refl refl
  by-kind (SetWord rd index records) e = same _ refl refl refl
