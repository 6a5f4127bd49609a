-- Harts that go from one context to another, over the machine's parts.
use Rattle.std.proofs.Common.{◌≡◌, ◌≢◌, ℕ, zero, suc, ◌<◌, ◌==◌, ◌&&◌, ◌++◌, Bool, true, false}
use Rattle.std.proofs.Common.{List, []}
use Rattle.std.proofs.Common.{◌∷◌, length, find, cond, Option, Some, None, inl, inr, refl, sym, ap}
use Rattle.std.proofs.Common.{subst, ◌∙◌, arith, eq-eqb, ne_eqb}
use Rattle.std.proofs.lemmas.List.{append-nil, append_assoc, get_or-set_same, set-get_or}
use Rattle.std.proofs.lemmas.List.{set-set}
use Rattle.std.proofs.lemmas.Option.{none-some, same_Some}
use Rattle.std.specs.List.{list_any}
use Rattle.bn_types.specs.declared.cause.Cause.{Cause}
use Rattle.bn_types.specs.declared.line.Line.{Line}
use Rattle.bn_types.specs.declared.line.Line.TheVariants as line
use Rattle.bn_types.specs.declared.mod_id.ModId.{ModId}
use Rattle.bn_types.specs.declared.mode.Mode.{Mode}
use Rattle.bn_types.specs.declared.reg.Reg.{Reg}
use Rattle.bn_types.specs.declared.row.Row.{Row}
use Rattle.bn_types.specs.declared.row_state.RowState.{RowState}
use Rattle.bn_types.specs.declared.row_state.RowState.TheVariants.{Idle, Running, Waiting, Stopped}
use Rattle.bn_types.specs.declared.saved_frame.SavedFrame.{SavedFrame}
use Rattle.bn_model.specs.Deciding.{caller_of}
use Rattle.bn_model.specs.Decision.{Call, Return, Resume, Trap}
use Rattle.bn_model.specs.Rows.{enclaves, owners, row_of, saved_of, with_row}
use Rattle.bn_model.specs.Soundness.{Ascend, Has, state_at, state_if_some}
use Rattle.bn_model.specs.Spelling.{spelling, text_of}
use Rattle.bn_model.specs.State.{Hart, State, frame_of, hart_after_call, hart_after_resume, hart_at}
use Rattle.bn_model.specs.State.{hart_after_return, hart_after_stop, hart_after_trap, one_more}
use Rattle.bn_model.specs.State.{resting_hart}
use Rattle.bn_model.specs.State.{untrusted, with_hart}
use Rattle.bn_model.specs.Stepping.{after_tick, after_trap_in, frame_of_call, page_address}
use Rattle.bn_model.specs.Stepping.{stop_lines}
use Rattle.bn_model.specs.Switching.{frame_of_caller, id_of_row, is_code_at, is_mode, is_stopped}
use Rattle.bn_model.specs.Switching.{is_stopped_at}
use Rattle.bn_model.specs.Switching.{row_after_answer, row_after_call, row_after_resume}
use Rattle.bn_model.specs.Switching.{row_after_return, row_after_stop, row_after_wait}
use Rattle.bn_model.specs.Switching.{rows_after_call, rows_after_return, stopped_at}
use Rattle.bn_model.proofs.MembershipLemmas.{has-find}
use Rattle.bn_model.proofs.RowLemmas.{owners-with_row}
use Rattle.bn_model.proofs.TestLemmas.{find-passes}
use Rattle.bn_switch.specs.Contexts.{StandsIn, hart_of, module_in}
use Rattle.bn_switch.specs.declared.context.Context.{Context}
use Rattle.bn_machine.specs.Harts.{hart_in_context}
use Rattle.bn_machine.specs.Making.{state_after, state_after_stop, state_in_context}
use Rattle.bn_machine.specs.Making.{text_after}

-- ---- whose the pages are

pub owners_called : (caller h callee : ℕ) (frame : SavedFrame) (rows : List Row)
    → owners (rows_after_call caller h callee frame rows) ≡ owners rows
owners_called zero h callee frame rows =
    owners-with_row callee (row_after_call h (record { 0 = zero }) frame)
    (record { same = λ row. refl }) rows
owners_called (suc m) h callee frame rows =
    owners-with_row callee _ (record { same = λ row. refl })
    (with_row (suc m) (row_after_wait frame callee) rows)
    ∙ owners-with_row (suc m) (row_after_wait frame callee) (record { same = λ row. refl }) rows

pub owners_returned : (caller h m : ℕ) (rows : List Row)
    → owners (rows_after_return caller h m rows) ≡ owners rows
owners_returned zero h m rows =
    owners-with_row m row_after_return (record { same = λ row. refl }) rows
owners_returned (suc c) h m rows =
    owners-with_row (suc c) (row_after_answer h) (record { same = λ row. refl })
    (with_row m row_after_return rows)
    ∙ owners-with_row m row_after_return (record { same = λ row. refl }) rows

pub owners_stopped : (id : ℕ) (frame : SavedFrame) (rows : List Row)
    → owners (with_row id (row_after_stop frame) rows) ≡ owners rows
owners_stopped id frame rows =
    owners-with_row id (row_after_stop frame) (record { same = λ row. refl }) rows

pub owners_resumed : (id h : ℕ) (rows : List Row)
    → owners (with_row id (row_after_resume h) rows) ≡ owners rows
owners_resumed id h rows =
    owners-with_row id (row_after_resume h) (record { same = λ row. refl }) rows

-- ---- rows that are stopped

above : (low next : ℕ) (rows : List Row) (row : Row) → Ascend low (enclaves rows) next
    → Has row rows → low < row.id.0
unfolding enclaves
above low next [] row ids has = absurd has
above low next (first ∷ rest) row ids (inl is) =
    subst (λ (r : Row). low < r.id.0) (sym is) ids.0
above low next (first ∷ rest) row ids (inr has) =
    let later = above first.id.0 next rest row ids.2 has in
    let one = ids.0 in
    omega arith

own-row : (low next : ℕ) (rows : List Row) (row : Row) → Ascend low (enclaves rows) next
    → Has row rows → row_of rows row.id.0 ≡ Some row
unfolding enclaves
own-row low next [] row ids has = absurd has
own-row low next (first ∷ rest) row ids (inl is) =
    ap (λ (b : Bool). cond b (Some first) (row_of rest row.id.0))
    (eq-eqb first.id.0 row.id.0 (ap (λ (r : Row). r.id.0) (sym is)))
    ∙ ap (λ (r : Row). Some r) (sym is)
own-row low next (first ∷ rest) row ids (inr has) =
    let later = above first.id.0 next rest row ids.2 has in
    ap (λ (b : Bool). cond b (Some first) (row_of rest row.id.0))
    (ne_eqb first.id.0 row.id.0 (λ same. omega (arith, same)))
    ∙ own-row first.id.0 next rest row ids.2 has

stopped-state : (state : RowState) → is_stopped state ≡ true → state ≡ Stopped
stopped-state Idle e = absurd cc
stopped-state (Running hart) e = absurd cc
stopped-state (Waiting callee) e = absurd cc
stopped-state Stopped e = refl

first-true : (a b c d : Bool) → (a && b && c && d) ≡ true → a ≡ true
first-true true b c d e = refl
first-true false b c d e = absurd cc

-- what is found where a hart stands is stopped
pub stopped_found : (rows : List Row) (next page vpn pc : ℕ) (mode : Mode)
    → Ascend zero (enclaves rows) next → (found : Option ModId)
    → found ≡ stopped_at rows page vpn pc mode → (id : ModId) → found ≡ Some id
    → state_at rows id.0 ≡ Some Stopped
unfolding stopped_at is_stopped_at
stopped_found rows next page vpn pc mode ids found e id is =
    by_row (find (is_stopped_at page vpn pc mode) rows) refl (sym e ∙ is)
  where
    by_row : (row : Option Row) → find (is_stopped_at page vpn pc mode) rows ≡ row
        → id_of_row row ≡ Some id → state_at rows id.0 ≡ Some Stopped
    by_row None at same = absurd (none-some id same)
    by_row (Some row) at same =
        let passes = find-passes (is_stopped_at page vpn pc mode) rows row at in
        let has = has-find (is_stopped_at page vpn pc mode) rows row at in
        ap (λ (i : ModId). state_at rows i.0) (sym (same_Some row.id id same))
        ∙ ap state_if_some (own-row zero next rows row ids has)
        ∙ ap (λ (state : RowState). Some state)
        (stopped-state row.state
        (first-true (is_stopped row.state)
        (list_any (is_code_at page vpn) row.judged.decls.items) (row.saved.pc == pc)
        (is_mode row.saved.mode mode) passes))

-- ---- states

-- a hart with what another has of a context
abbrev with_context : Hart → Hart → Hart
with_context hart there = record hart {
  regs = there.regs;
  pc = there.pc;
  mode = there.mode;
  current = there.current;
}

-- what plays a part in a switch
abbrev plain : Hart → Hart
plain hart = record resting_hart {
  regs = hart.regs;
  pc = hart.pc;
  mode = hart.mode;
  started = true;
  current = hart.current;
}

plain-is : (here : Context) (hart : Hart) → StandsIn here hart → hart_of here ≡ plain hart
plain-is here hart stands = rw (stands.regs, stands.pc, stands.mode, stands.current) refl

in-context : (hart : Hart) (context : Context) (there : Hart) → StandsIn context there
    → hart_in_context hart context ≡ with_context hart there
in-context hart context there stands =
    rw (stands.regs, stands.pc, stands.mode, stands.current) refl

-- hart h without its seat
abbrev left : State → ℕ → State
left s h = with_hart s h (record (hart_at s h) { current = untrusted })

settled : (s : State) (h : ℕ) (rows : List Row) (context : Context) (there : Hart)
    → h < length s.harts → StandsIn context there
    → (let t = record (left s h) { rows = rows } in
    with_hart t h (hart_in_context (hart_at t h) context))
    ≡ with_hart (record s { rows = rows }) h (with_context (hart_at s h) there)
settled s h rows context there within stands =
    let hart = record (hart_at s h) { current = untrusted } in
    ap (λ (x : Hart). with_hart (record (left s h) { rows = rows }) h (hart_in_context x context))
    (get_or-set_same s.harts h hart resting_hart within)
    ∙ ap (λ (harts : List Hart). record s { rows = rows; harts = harts })
    (set-set s.harts h hart (hart_in_context hart context))
    ∙ ap (with_hart (record s { rows = rows }) h) (in-context (hart_at s h) context there stands)

settled-on : (s : State) (h : ℕ) (rows : List Row) (context : Context) (there : Hart)
    → h < length s.harts → StandsIn context there
    → state_in_context (record (left s h) { rows = rows }) h context
    ≡ (let hart = hart_at s h in
    after_tick (with_hart (record s { rows = rows }) h
    (record (with_context hart there) { retired = one_more hart.retired })))
settled-on s h rows context there within stands =
    let hart = record (hart_at s h) { current = untrusted } in
    let t = record (left s h) { rows = rows } in
    ap (λ (x : Hart).
    after_tick (with_hart t h
    (record (hart_in_context x context) { retired = one_more x.retired })))
    (get_or-set_same s.harts h hart resting_hart within)
    ∙ ap (λ (harts : List Hart). after_tick (record s { rows = rows; harts = harts }))
    (set-set s.harts h hart
    (record (hart_in_context hart context) { retired = one_more hart.retired }))
    ∙ ap (λ (x : Hart).
    after_tick (with_hart (record s { rows = rows }) h
    (record x { retired = one_more (hart_at s h).retired })))
    (in-context (hart_at s h) context there stands)

pub state_called : (s t u v : State) (h : ℕ) (rd : Reg) (id entry : ℕ) (here callee : Context)
    → h < length s.harts → StandsIn here (hart_at s h)
    → StandsIn callee (hart_after_call (hart_of here) id entry)
    → t ≡ left s h
    → u ≡ record t {
      rows = rows_after_call (module_in here.seat).0 h id
          (frame_of_call (hart_of here) rd) t.rows;
    }
    → v ≡ state_in_context u h callee → v ≡ state_after s h (Call rd id entry)
state_called s t u v h rd id entry here callee within stands goes e f g =
    g ∙ ap (λ (x : State). state_in_context x h callee)
    (f ∙ ap (λ (x : State). record x {
      rows = rows_after_call (module_in here.seat).0 h id
          (frame_of_call (hart_of here) rd) x.rows;
    }) e)
    ∙ settled-on s h _ callee (hart_after_call (hart_of here) id entry) within goes
    ∙ ap (λ (x : Hart).
    after_tick (with_hart (record s {
      rows = rows_after_call x.current.0 h id (frame_of_call x rd)
          s.rows;
    }) h
    (record (with_context (hart_at s h) (hart_after_call x id entry))
    { retired = one_more (hart_at s h).retired })))
    (plain-is here (hart_at s h) stands)

pub state_returned : (s t u v : State) (h pc : ℕ) (here back : Context)
    → h < length s.harts → StandsIn here (hart_at s h)
    → (let m = module_in here.seat in let caller = caller_of (row_of t.rows m.0) in
    StandsIn back (hart_after_return (hart_of here) caller
    (frame_of_caller caller.0 t.rows m.0)))
    → t ≡ left s h
    → (let m = module_in here.seat in let caller = caller_of (row_of t.rows m.0) in
    u ≡ record t { rows = rows_after_return caller.0 h m.0 t.rows })
    → v ≡ state_in_context u h back
    → v ≡ state_after s h (Return (caller_of (row_of s.rows (hart_at s h).current.0)) pc)
state_returned s t u v h pc here back within stands goes e f g =
    let at = ap (λ (x : State). x.rows) e in
    let m = module_in here.seat in
    let goes-on : (let caller = caller_of (row_of s.rows m.0) in
    StandsIn back (hart_after_return (hart_of here) caller (frame_of_caller caller.0 s.rows m.0))) =
    subst (λ (rows : List Row). let caller = caller_of (row_of rows m.0) in
    StandsIn back (hart_after_return (hart_of here) caller (frame_of_caller caller.0 rows m.0)))
    at goes in
    g ∙ ap (λ (x : State). state_in_context x h back)
    (f ∙ ap (λ (x : State). record x {
      rows = rows_after_return
          (caller_of (row_of x.rows m.0)).0 h m.0 x.rows;
    }) e)
    ∙ settled-on s h _ back _ within goes-on
    ∙ ap (λ (x : Hart).
    let caller = caller_of (row_of s.rows x.current.0) in
    after_tick (with_hart (record s { rows = rows_after_return caller.0 h x.current.0 s.rows }) h
    (record (with_context (hart_at s h)
    (hart_after_return x caller (frame_of_caller caller.0 s.rows x.current.0)))
    { retired = one_more (hart_at s h).retired })))
    (plain-is here (hart_at s h) stands)

pub state_stopped : (s t u v : State) (h : ℕ) (here out : Context) → h < length s.harts
    → StandsIn here (hart_at s h) → StandsIn out (hart_after_stop (hart_of here))
    → t ≡ left s h
    → u ≡ record t {
      rows = with_row (module_in here.seat).0
          (row_after_stop (frame_of (hart_of here))) t.rows;
    }
    → v ≡ with_hart u h (hart_in_context (hart_at u h) out) → v ≡ state_after_stop s h
state_stopped s t u v h here out within stands goes e f g =
    g ∙ ap (λ (x : State). with_hart x h (hart_in_context (hart_at x h) out))
    (f ∙ ap (λ (x : State). record x {
      rows = with_row (module_in here.seat).0
          (row_after_stop (frame_of (hart_of here))) x.rows;
    }) e)
    ∙ settled s h _ out (hart_after_stop (hart_of here)) within goes
    ∙ ap (λ (x : Hart).
    with_hart (record s { rows = with_row x.current.0 (row_after_stop (frame_of x)) s.rows }) h
    (with_context (hart_at s h) (hart_after_stop x)))
    (plain-is here (hart_at s h) stands)

pub state_resumed : (s t u v : State) (h : ℕ) (id : ModId) (here there : Context)
    → h < length s.harts → StandsIn here (hart_at s h)
    → StandsIn there (hart_after_resume (hart_of here) id (saved_of (row_of t.rows id.0)))
    → t ≡ left s h → u ≡ record t { rows = with_row id.0 (row_after_resume h) t.rows }
    → v ≡ with_hart u h (hart_in_context (hart_at u h) there)
    → after_tick v ≡ state_after s h (Resume id)
state_resumed s t u v h id here there within stands goes e f g =
    let at = ap (λ (x : State). x.rows) e in
    ap after_tick
    (g ∙ ap (λ (x : State). with_hart x h (hart_in_context (hart_at x h) there))
    (f ∙ ap (λ (x : State). record x { rows = with_row id.0 (row_after_resume h) x.rows }) e)
    ∙ settled s h _ there _ within
    (subst (λ (rows : List Row).
    StandsIn there (hart_after_resume (hart_of here) id (saved_of (row_of rows id.0)))) at goes))

-- where a hart goes on in its own context nothing changes
pub state_put_back : (s t u v : State) (h : ℕ) (here back : Context) → h < length s.harts
    → StandsIn here (hart_at s h) → t ≡ left s h → u ≡ t → back ≡ here
    → v ≡ with_hart u h (hart_in_context (hart_at u h) back) → v ≡ s
state_put_back s t u v h here back within stands e f same g =
    g ∙ ap (λ (c : Context). with_hart u h (hart_in_context (hart_at u h) c)) same
    ∙ ap (λ (x : State). with_hart x h (hart_in_context (hart_at x h) here)) (f ∙ e)
    ∙ settled s h s.rows here (hart_at s h) within stands
    ∙ ap (λ (harts : List Hart). record s { harts = harts }) (set-get_or s.harts h resting_hart)

-- ---- lines

pub told_called : (n k h entry : ℕ) (f g m o : ModId) (text : List ℕ) → n ≡ k → f ≡ g → m ≡ o
    → text ≡ text_of (line.Call n h f m entry ∷ []) → text ≡ text_of (line.Call k h g o entry ∷ [])
told_called n k h entry f g m o text a b c e = rw (← a, ← b, ← c) e

pub told_returned : (n k h p q : ℕ) (m o f g : ModId) (text : List ℕ) → n ≡ k → m ≡ o → f ≡ g
    → p ≡ q → text ≡ text_of (line.Ret n h m f p ∷ []) → text ≡ text_of (line.Ret k h o g q ∷ [])
told_returned n k h p q m o f g text a b c d e = rw (← a, ← b, ← c, ← d) e

-- ---- traps

outside-trap : (current : ℕ) (s : State) (h : ℕ) (hart : Hart) (cause : Cause) (value : ℕ)
    → current ≡ 0
    → after_trap_in current s h hart cause value
    ≡ with_hart s h (hart_after_trap hart cause value)
outside-trap current s h hart cause value is =
    ap (λ (n : ℕ). after_trap_in n s h hart cause value) is

inside-trap : (current : ℕ) (s : State) (h : ℕ) (hart : Hart) (cause : Cause) (value : ℕ)
    → current ≢ 0
    → after_trap_in current s h hart cause value
    ≡ with_hart (record s { rows = with_row current (row_after_stop (frame_of hart)) s.rows }) h
    (hart_after_trap (hart_after_stop hart) cause (page_address value))
inside-trap zero s h hart cause value inside = absurd (inside refl)
inside-trap (suc m) s h hart cause value inside = refl

pub state_trapped_outside : (s v : State) (h : ℕ) (cause : Cause) (value : ℕ)
    → (hart_at s h).current.0 ≡ 0
    → v ≡ after_tick (with_hart s h (hart_after_trap (hart_at s h) cause value))
    → v ≡ state_after s h (Trap cause value)
state_trapped_outside s v h cause value out e =
    e ∙ ap after_tick (sym (outside-trap (hart_at s h).current.0 s h (hart_at s h) cause value out))

pub state_trapped_inside : (s t v : State) (h : ℕ) (cause : Cause) (value : ℕ)
    → h < length s.harts → (hart_at s h).current.0 ≢ 0 → t ≡ state_after_stop s h
    → v ≡ after_tick (with_hart t h (hart_after_trap (hart_at t h) cause (page_address value)))
    → v ≡ state_after s h (Trap cause value)
state_trapped_inside s t v h cause value within inside e f =
    let hart = hart_at s h in
    let rows = with_row hart.current.0 (row_after_stop (frame_of hart)) s.rows in
    f ∙ ap (λ (x : State).
    after_tick (with_hart x h (hart_after_trap (hart_at x h) cause (page_address value)))) e
    ∙ ap (λ (x : Hart).
    after_tick (with_hart (state_after_stop s h) h (hart_after_trap x cause (page_address value))))
    (get_or-set_same s.harts h (hart_after_stop hart) resting_hart within)
    ∙ ap (λ (harts : List Hart). after_tick (record s { rows = rows; harts = harts }))
    (set-set s.harts h (hart_after_stop hart)
    (hart_after_trap (hart_after_stop hart) cause (page_address value)))
    ∙ ap after_tick (sym (inside-trap hart.current.0 s h hart cause value inside))

outside-lines : (n h : ℕ) (hart : Hart) (current : ℕ) → current ≡ 0
    → stop_lines n h hart current ≡ []
outside-lines n h hart current is = ap (stop_lines n h hart) is

inside-lines : (n h : ℕ) (hart : Hart) (current : ℕ) → current ≢ 0
    → stop_lines n h hart current ≡ line.Stop n h (record { 0 = current }) hart.pc ∷ []
inside-lines n h hart zero inside = absurd (inside refl)
inside-lines n h hart (suc m) inside = refl

pub told_trapped_outside : (s : State) (h : ℕ) (cause : Cause) (value : ℕ) (before after : List ℕ)
    → (hart_at s h).current.0 ≡ 0
    → after ≡ before ++ spelling (line.Trap s.clock h cause.0 (hart_at s h).pc)
    → after ≡ before ++ text_after s h (Trap cause value)
told_trapped_outside s h cause value before after out e =
    let hart = hart_at s h in
    let trap = line.Trap s.clock h cause.0 hart.pc in
    e ∙ ap (λ (text : List ℕ). before ++ text)
    (sym (append-nil (spelling trap))
    ∙ ap (λ (stop : List Line). text_of (stop ++ trap ∷ []))
    (sym (outside-lines s.clock h hart hart.current.0 out)))

pub told_trapped_inside : (s : State) (h : ℕ) (cause : Cause) (value : ℕ)
    (before mid after : List ℕ) → (hart_at s h).current.0 ≢ 0
    → mid ≡ before ++ spelling (line.Stop s.clock h (hart_at s h).current (hart_at s h).pc)
    → after ≡ mid ++ spelling (line.Trap s.clock h cause.0 (hart_at s h).pc)
    → after ≡ before ++ text_after s h (Trap cause value)
told_trapped_inside s h cause value before mid after inside e f =
    let hart = hart_at s h in
    let stop = line.Stop s.clock h hart.current hart.pc in
    let trap = line.Trap s.clock h cause.0 hart.pc in
    f ∙ ap (λ (text : List ℕ). text ++ spelling trap) e
    ∙ append_assoc before (spelling stop) (spelling trap)
    ∙ ap (λ (text : List ℕ). before ++ (spelling stop ++ text)) (sym (append-nil (spelling trap)))
    ∙ ap (λ (stops : List Line). before ++ text_of (stops ++ trap ∷ []))
    (sym (inside-lines s.clock h hart hart.current.0 inside))
