-- A store goes to no page that is private to a module that doesn't run.
use Rattle.std.proofs.Common.{◌≡◌, ℕ, zero, suc, Bool, true, false, List, [], ◌∷◌, Option, Some}
use Rattle.std.proofs.Common.{None, Result, Ok, Err}
use Rattle.std.specs.List.{list_any}
use Rattle.bn_types.specs.declared.act.Act.{Act}
use Rattle.bn_types.specs.declared.act.Act.TheVariants as act
use Rattle.bn_types.specs.declared.cause.Cause.{Cause}
use Rattle.bn_types.specs.declared.fault.Fault.{Fault}
use Rattle.bn_types.specs.declared.gpn.Gpn.{Gpn}
use Rattle.bn_types.specs.declared.judged.Judged.{Judged}
use Rattle.bn_types.specs.declared.kind.Kind.{Kind}
use Rattle.bn_types.specs.declared.kind.Kind.TheVariants as kind
use Rattle.bn_types.specs.declared.launch_refused.LaunchRefused.{LaunchRefused}
use Rattle.bn_types.specs.declared.mode.Mode.{Mode}
use Rattle.bn_types.specs.declared.mode.Mode.TheVariants.{U, S}
use Rattle.bn_types.specs.declared.reg.Reg.{Reg}
use Rattle.bn_types.specs.declared.row.Row.{Row}
use Rattle.bn_types.specs.declared.row_state.RowState.{RowState}
use Rattle.bn_types.specs.declared.row_state.RowState.TheVariants.{Idle, Running, Waiting, Stopped}
use Rattle.bn_types.specs.declared.sbi_ask.SbiAsk.{SbiAsk}
use Rattle.bn_types.specs.declared.sbi_ask.SbiAsk.TheVariants as ask
use Rattle.bn_types.specs.declared.secure.Secure.{Secure}
use Rattle.bn_types.specs.declared.secure.Secure.TheVariants as secure
use Rattle.bn_types.specs.declared.set_refused.SetRefused.{SetRefused}
use Rattle.bn_types.specs.declared.width.Width.{Width}
use Rattle.bn_model.specs.declared.owner.Owner.{Owner}
use Rattle.bn_model.specs.declared.place.Place.{Place}
use Rattle.bn_model.specs.Accessing.{access}
use Rattle.bn_model.specs.CsrFile.{CsrDone}
use Rattle.bn_model.specs.Deciding.{asked_of, csr_decision, decision_by_state, decision_of_act}
use Rattle.bn_model.specs.Deciding.{decision_of_ask, decision_of_asked, decision_of_call}
use Rattle.bn_model.specs.Deciding.{decision_of_denial, decision_of_ecall, decision_of_evict}
use Rattle.bn_model.specs.Deciding.{decision_of_get, decision_of_hart, decision_of_launch}
use Rattle.bn_model.specs.Deciding.{decision_of_load, decision_of_secure, decision_of_set}
use Rattle.bn_model.specs.Deciding.{decision_of_store, is_entry, is_idle, refused_unless}
use Rattle.bn_model.specs.Decision.{Acting, Asked, Call, Decision, Interrupted, Nothing, Resuming}
use Rattle.bn_model.specs.Decision.{Unfetched, Unknown}
use Rattle.bn_model.specs.Legality.{inside_only, kernel_only, outside_only, supervisor_only}
use Rattle.bn_model.specs.Rows.{owners, row_of}
use Rattle.bn_model.specs.State.{Hart, State, asker, memory, value_of}
use Rattle.bn_model.specs.Switching.{is_mode}
use Rattle.bn_model.specs.Walking.{vpn_of}
use Rattle.bn_model.proofs.AccessLemmas.{access-cases}
use Rattle.bn_model.proofs.BlankSteps.{StoresElsewhere}
use Rattle.bn_model.proofs.ClaimLemmas.{ArePrivate, admitted-other}

module _ (m : ℕ) (os : List Owner) where
  -- a decision that stores to no private page of module m
  abbrev Spares : Decision → Type 0
  Spares d = StoresElsewhere m os d

  outside : (current : ℕ) (d : Decision) → Spares d → Spares (outside_only current d)
  outside zero d spares = spares
  outside (suc k) d spares = tt

  inside : (current : ℕ) (d : Decision) → Spares d → Spares (inside_only current d)
  inside zero d spares = tt
  inside (suc k) d spares = spares

  supervisor : (mode : Mode) (d : Decision) → Spares d → Spares (supervisor_only mode d)
  supervisor U d spares = tt
  supervisor S d spares = spares

  kernel : (current : ℕ) (mode : Mode) (d : Decision) → Spares d
      → Spares (kernel_only current mode d)
  kernel zero mode d spares = supervisor mode d spares
  kernel (suc k) mode d spares = tt

  denied : (kind : Kind) (cause : Cause) (va : ℕ) (page : Option Gpn)
      → Spares (decision_of_denial kind cause va page)
  denied kind cause va None = tt
  denied kind cause va (Some page) = tt

  load : (width : Width) (signed : Bool) (rd : Reg) (number : Result ℕ Fault)
      → Spares (decision_of_load width signed rd number)
  load width signed rd (Err fault) = denied kind.Load fault.cause fault.va fault.denied
  load width signed rd (Ok number) = tt

  csr : (rd : Reg) (done : Option CsrDone) → Spares (csr_decision rd done)
  csr rd None = tt
  csr rd (Some done) = tt

  get : (keys : List ℕ) → Spares (decision_of_get keys)
  get [] = tt
  get (key ∷ keys) = tt

  asks : (asked : SbiAsk) (keys : List ℕ) → Spares (decision_of_ask asked keys)
  asks (ask.SetTimer timer) keys = tt
  asks (ask.Put byte) keys = tt
  asks ask.Get keys = get keys
  asks ask.Shutdown keys = tt
  asks (ask.Start target pc opaque) keys = tt
  asks (ask.Ipi harts) keys = tt
  asks (ask.Refuse error) keys = tt

  ecall : (s : State) (hart : Hart) (mode : Mode) → Spares (decision_of_ecall s hart mode)
  ecall s hart U = tt
  ecall s hart S = asks _ s.keys

  launch : (rd : Reg) (result : Result Judged LaunchRefused) → Spares (decision_of_launch rd result)
  launch rd (Err refusal) = tt
  launch rd (Ok judged) = tt

  refused : (b : Bool) (rd : Reg) (code : ℕ) (d : Decision) → Spares d
      → Spares (refused_unless b rd code d)
  refused true rd code d spares = spares
  refused false rd code d spares = tt

  call : (mode : Mode) (rd : Reg) (id entry : ℕ) (row : Option Row)
      → Spares (decision_of_call mode rd id entry row)
  call mode rd id entry None = tt
  call mode rd id entry (Some row) =
      refused (list_any (is_entry entry) row.judged.entries.items) rd 2 _
      (refused (is_mode mode row.judged.mode) rd 3 _
      (refused (is_idle row.state) rd 4 (Call rd id entry) tt))

  by-state : (rd : Reg) (id count : ℕ) (state : RowState)
      → Spares (decision_by_state rd id count state)
  by-state rd id count Idle = tt
  by-state rd id count Stopped = tt
  by-state rd id count (Running h) = tt
  by-state rd id count (Waiting callee) = tt

  evict : (rd : Reg) (id count : ℕ) (row : Option Row) → Spares (decision_of_evict rd id count row)
  evict rd id count None = tt
  evict rd id count (Some row) = by-state rd id count row.state

  set-word : (rd : Reg) (s : State) (hart : Hart) (index value : ℕ) (refusal : Option SetRefused)
      → (who : _)
      → Spares (decision_of_set rd s.records who index value refusal)
  set-word rd s hart index value None who = tt
  set-word rd s hart index value (Some refusal) who = tt

  of-secure : (s : State) (hart : Hart) (asked : Secure) → Spares (decision_of_secure s hart asked)
  of-secure s hart (secure.Launch rd at) = kernel hart.current.0 hart.mode _ (launch rd _)
  of-secure s hart (secure.Call rd id entry) =
      call hart.mode rd (value_of hart id) (value_of hart entry)
      (row_of s.rows (value_of hart id))
  of-secure s hart secure.Ret = inside hart.current.0 _ tt
  of-secure s hart (secure.Evict rd id) =
      kernel hart.current.0 hart.mode _ (evict rd _ _ (row_of s.rows (value_of hart id)))
  of-secure s hart (secure.Ident rd id word) = tt
  of-secure s hart (secure.Caller rd) = inside hart.current.0 _ tt
  of-secure s hart (secure.Offerer rd at) = inside hart.current.0 _ tt
  of-secure s hart (secure.Sget rd index) = inside hart.current.0 _ tt
  of-secure s hart (secure.Sset rd index value) =
      inside hart.current.0 _ (set-word rd s hart _ _ _ _)

module _
    (m : ℕ) (s : State) (alone : ArePrivate (owners s.rows)) (h : ℕ) (hart : Hart)
    (other : hart.current.0 ≡ m → ⊥)
  where
    store : (va : ℕ) (width : Width) (value : ℕ)
        → StoresElsewhere m (owners s.rows)
        (decision_of_store width value (access (memory s) (asker h hart) kind.Store va width))
    store va width value =
        access-cases
        (λ (place : Result Place Fault). StoresElsewhere m (owners s.rows)
        (decision_of_store width value place))
        (memory s) (asker h hart) kind.Store va width
        (λ fault. denied m (owners s.rows) kind.Store fault.cause fault.va fault.denied)
        (λ page within admitted. admitted-other (owners s.rows) alone m hart.current.0
        (vpn_of va) page kind.Store other admitted)

    of-act : (a : Act) → StoresElsewhere m (owners s.rows) (decision_of_act s h hart a)
    of-act (act.Set rd value) = tt
    of-act (act.Jump target rd link) = tt
    of-act act.Next = tt
    of-act (act.LoadAt va width signed rd) = load m (owners s.rows) width signed rd _
    of-act (act.StoreAt va width value) = store va width value
    of-act (act.Csr op number operand reads writes rd) =
        outside m (owners s.rows) hart.current.0 _ (csr m (owners s.rows) rd _)
    of-act act.Ecall =
        outside m (owners s.rows) hart.current.0 _ (ecall m (owners s.rows) s hart hart.mode)
    of-act act.Ebreak = outside m (owners s.rows) hart.current.0 _ tt
    of-act act.Sret =
        outside m (owners s.rows) hart.current.0 _ (supervisor m (owners s.rows) hart.mode _ tt)
    of-act act.Wfi =
        outside m (owners s.rows) hart.current.0 _ (supervisor m (owners s.rows) hart.mode _ tt)
    of-act act.SfenceVma =
        outside m (owners s.rows) hart.current.0 _ (supervisor m (owners s.rows) hart.mode _ tt)
    of-act (act.Bastion asked) = of-secure m (owners s.rows) s hart asked
    of-act (act.Trap cause value) = tt

    of-asked : (asked : Asked)
        → StoresElsewhere m (owners s.rows) (decision_of_asked s h hart asked)
    of-asked Nothing = tt
    of-asked (Interrupted cause) = tt
    of-asked (Unfetched fault) =
        denied m (owners s.rows) kind.Fetch fault.cause fault.va fault.denied
    of-asked (Resuming id) = tt
    of-asked Unknown = tt
    of-asked (Acting a) = of-act a

    pub stores-elsewhere : StoresElsewhere m (owners s.rows) (decision_of_hart s h hart)
    stores-elsewhere = of-asked (asked_of s h hart)
