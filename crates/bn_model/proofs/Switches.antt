-- Who runs, waits and is called, after each switch.
use Rattle.std.proofs.Common.{◌≡◌, ℕ, zero, suc, ◌⊎◌, Bool, true, false, Option, Some, None, inl}
use Rattle.std.proofs.Common.{inr, refl, sym, ap, ◌∙◌, arith}
use Rattle.std.proofs.lemmas.Bool.{both_ways, cases_Bool, cases_eq, false_from_ne_true}
use Rattle.bn_types.specs.declared.mod_id.ModId.{ModId}
use Rattle.bn_types.specs.declared.row_state.RowState.{RowState}
use Rattle.bn_types.specs.declared.row_state.RowState.TheVariants.{Idle, Running, Waiting, Stopped}
use Rattle.bn_model.specs.Soundness.{AreSwitched, Ends, AtRunning, AtStopped, Through}

-- a way to an end stays one, for all modules of which P holds
ends-change : (before after : ℕ → Option RowState) (P : ℕ → Type 0)
    → ((id h : ℕ) → P id → before id ≡ Some (Running h) → Ends after id)
    → ((id : ℕ) → P id → before id ≡ Some Stopped → Ends after id)
    → ((id : ℕ) (callee : ModId) → P id → before id ≡ Some (Waiting callee)
    → Ends after id ⊎ ((after id ≡ Some (Waiting callee)) × P callee.0))
    → (id : ℕ) → P id → Ends before id → Ends after id
ends-change before after P running stopped through _ p (AtRunning id h e) = running id h p e
ends-change before after P running stopped through _ p (AtStopped id e) = stopped id p e
ends-change before after P running stopped through _ p (Through id callee e way) =
    by_next (through id callee p e)
    (λ q. ends-change before after P running stopped through callee.0 q way)
  where
    by_next : Ends after id ⊎ ((after id ≡ Some (Waiting callee)) × P callee.0)
        → (P callee.0 → Ends after callee.0) → Ends after id
    by_next (inl there) onward = there
    by_next (inr next) onward = Through id callee next.0 (onward next.1)

pub by_same : {P : Type 0} (i j : ℕ) → (i ≡ j → P) → ((i ≡ j → ⊥) → P) → P
by_same {P} i j same other = by_cases (cases_eq i j)
  where
    by_cases : (i ≡ j) ⊎ (i ≡ j → ⊥) → P
    by_cases (inl e) = same e
    by_cases (inr n) = other n

module _ (runs : ℕ → ℕ) (states : ℕ → Option RowState) (callers : ℕ → ℕ)
    (s : AreSwitched runs states callers)
    (runs′ : ℕ → ℕ) (states′ : ℕ → Option RowState) (callers′ : ℕ → ℕ) where
  -- nothing is switched
  pub unswitched : ((h : ℕ) → runs′ h ≡ runs h) → ((id : ℕ) → states′ id ≡ states id)
      → ((id : ℕ) → callers′ id ≡ callers id)
      → AreSwitched runs′ states′ callers′
  unswitched r t c = record {
    running = λ id h e. grind (arith, r h, t id, s.running id h);
    current = λ h m e. grind (arith, r h, t (suc m), s.current h m);
    waiting = λ id callee e. grind (arith, t id, c callee.0, s.waiting id callee);
    called = λ id k e. grind (arith, c id, t (suc k), s.called id k);
    idle = λ id e. grind (arith, t id, c id, s.idle id);
    ends = λ id callee e. same callee.0 (s.ends id callee (sym (t id) ∙ e));
    not_zero = t zero ∙ s.not_zero;
  }
    where
      same : (id : ℕ) → Ends states id → Ends states′ id
      same id way =
          ends-change states states′ (λ k. Unit {0})
          (λ k h p e. AtRunning k h (t k ∙ e)) (λ k p e. AtStopped k (t k ∙ e))
          (λ k callee p e. inr (t k ∙ e, tt)) id tt way

  -- the untrusted world on hart h calls module m
  pub called-outside : (h m : ℕ) → runs h ≡ zero → states m ≡ Some Idle
      → runs′ h ≡ m → ((k : ℕ) → (k ≡ h → ⊥) → runs′ k ≡ runs k)
      → states′ m ≡ Some (Running h) → ((id : ℕ) → (id ≡ m → ⊥) → states′ id ≡ states id)
      → callers′ m ≡ zero → ((id : ℕ) → (id ≡ m → ⊥) → callers′ id ≡ callers id)
      → AreSwitched runs′ states′ callers′
  called-outside h m was idle runs_m others runs_on rest no_caller callers_rest = record {
    running = λ id k e. grind
        (arith, cases_eq id m, cases_eq k h, rest id, others k, s.running id k);
    current = λ k c e. grind
        (arith, cases_eq (suc c) m, cases_eq k h, rest (suc c), others k, s.current k c);
    waiting = λ id callee e.
        grind (
          arith,
          cases_eq id m,
          cases_eq callee.0 m,
          rest id,
          callers_rest callee.0,
          s.waiting id callee,
          s.idle m,
          s.not_zero,
        );
    called = λ id c e. grind
        (arith, cases_eq id m, cases_eq (suc c) m, rest (suc c), callers_rest id, s.called id c);
    idle = λ id e. grind (arith, cases_eq id m, rest id, callers_rest id, s.idle id);
    ends = λ id callee e.
        onward callee.0 (s.ends id callee (sym (rest id (waits id callee e)) ∙ e));
    not_zero = grind (arith, cases_eq zero m, rest zero, s.not_zero);
  }
    where
      waits : (id : ℕ) (callee : ModId) → states′ id ≡ Some (Waiting callee) → id ≡ m → ⊥
      waits id callee e is = grind arith

      running : (id k : ℕ) → states id ≡ Some (Running k) → id ≡ m → ⊥
      running id k e is = grind arith

      stopped : (id : ℕ) → states id ≡ Some Stopped → id ≡ m → ⊥
      stopped id e is = grind arith

      waited : (id : ℕ) (callee : ModId) → states id ≡ Some (Waiting callee) → id ≡ m → ⊥
      waited id callee e is = grind arith

      onward : (id : ℕ) → Ends states id → Ends states′ id
      onward id way =
          ends-change states states′ (λ k. Unit {0})
          (λ k j p e. AtRunning k j (rest k (running k j e) ∙ e))
          (λ k p e. AtStopped k (rest k (stopped k e) ∙ e))
          (λ k callee p e. inr (rest k (waited k callee e) ∙ e, tt)) id tt way

  -- module c + 1 on hart h calls module m
  pub called-inside : (h m c : ℕ) → runs h ≡ suc c → states m ≡ Some Idle
      → runs′ h ≡ m → ((k : ℕ) → (k ≡ h → ⊥) → runs′ k ≡ runs k)
      → states′ m ≡ Some (Running h) → states′ (suc c) ≡ Some (Waiting (record { 0 = m }))
      → ((id : ℕ) → (id ≡ m → ⊥) → (id ≡ suc c → ⊥) → states′ id ≡ states id)
      → callers′ m ≡ suc c → ((id : ℕ) → (id ≡ m → ⊥) → callers′ id ≡ callers id)
      → AreSwitched runs′ states′ callers′
  called-inside h m c was idle runs_m others runs_on waits_on rest caller callers_rest = record {
    running = λ id k e. grind (
      arith,
      cases_eq id m,
      cases_eq id (suc c),
      cases_eq k h,
      rest id,
      others k,
      s.running id k,
    );
    current = λ k n e. grind (
      arith,
      cases_eq (suc n) m,
      cases_eq (suc n) (suc c),
      cases_eq k h,
      rest (suc n),
      others k,
      s.current k n,
      s.current h c was,
    );
    waiting = λ id callee e.
        grind (
          arith,
          cases_eq id m,
          cases_eq id (suc c),
          cases_eq callee.0 m,
          rest id,
          callers_rest callee.0,
          s.waiting id callee,
          s.idle m,
          s.not_zero,
        );
    called = λ id n e. grind (
      arith,
      cases_eq id m,
      cases_eq (suc n) m,
      cases_eq (suc n) (suc c),
      rest (suc n),
      callers_rest id,
      s.called id n,
      s.current h c was,
    );
    idle = λ id e. grind (
      arith,
      cases_eq id m,
      cases_eq id (suc c),
      rest id,
      callers_rest id,
      s.idle id,
    );
    ends = λ id callee e. by_same id (suc c)
        (λ is. AtRunning callee.0 h (grind (arith, is, e)))
        (λ other. onward callee.0 (s.ends id callee (sym (rest id (waits id callee e) other) ∙ e)));
    not_zero = grind (arith, cases_eq zero m, cases_eq zero (suc c), rest zero, s.not_zero);
  }
    where
      waits : (id : ℕ) (callee : ModId) → states′ id ≡ Some (Waiting callee) → id ≡ m → ⊥
      waits id callee e is = grind arith

      running : (id k : ℕ) → states id ≡ Some (Running k) → id ≡ m → ⊥
      running id k e is = grind arith

      stopped : (id : ℕ) → states id ≡ Some Stopped → id ≡ m → ⊥
      stopped id e is = grind arith

      not_stopped : (id : ℕ) → states id ≡ Some Stopped → id ≡ suc c → ⊥
      not_stopped id e is = grind (arith, s.current h c was)

      waited : (id : ℕ) (callee : ModId) → states id ≡ Some (Waiting callee) → id ≡ m → ⊥
      waited id callee e is = grind arith

      not_waiting : (id : ℕ) (callee : ModId) → states id ≡ Some (Waiting callee) → id ≡ suc c → ⊥
      not_waiting id callee e is = grind (arith, s.current h c was)

      onward : (id : ℕ) → Ends states id → Ends states′ id
      onward id way =
          ends-change states states′ (λ k. Unit {0})
          (λ k j p e. by_same k (suc c)
          (λ is. Through k (record { 0 = m }) (ap states′ is ∙ waits_on) (AtRunning m h runs_on))
          (λ other. AtRunning k j (rest k (running k j e) other ∙ e)))
          (λ k p e. AtStopped k (rest k (stopped k e) (not_stopped k e) ∙ e))
          (λ k callee p e. inr (rest k (waited k callee e) (not_waiting k callee e) ∙ e, tt)) id
          tt way

  -- module m on hart h returns to the untrusted world
  pub returned-outside : (h m : ℕ) → runs h ≡ m → states m ≡ Some (Running h) → callers m ≡ zero
      → runs′ h ≡ zero → ((k : ℕ) → (k ≡ h → ⊥) → runs′ k ≡ runs k)
      → states′ m ≡ Some Idle → ((id : ℕ) → (id ≡ m → ⊥) → states′ id ≡ states id)
      → callers′ m ≡ zero → ((id : ℕ) → (id ≡ m → ⊥) → callers′ id ≡ callers id)
      → AreSwitched runs′ states′ callers′
  returned-outside h m was ran no_caller runs_out others idle rest none callers_rest = record {
    running = λ id k e. grind
        (arith, cases_eq id m, cases_eq k h, rest id, others k, s.running id k);
    current = λ k n e. grind
        (arith, cases_eq (suc n) m, cases_eq k h, rest (suc n), others k, s.current k n);
    waiting = λ id callee e.
        grind (
          arith,
          cases_eq id m,
          cases_eq callee.0 m,
          rest id,
          callers_rest callee.0,
          s.waiting id callee,
          s.not_zero,
        );
    called = λ id n e. grind
        (arith, cases_eq id m, cases_eq (suc n) m, rest (suc n), callers_rest id, s.called id n);
    idle = λ id e. grind (arith, cases_eq id m, rest id, callers_rest id, s.idle id);
    ends = λ id callee e.
        let before : states id ≡ Some (Waiting callee) = sym (rest id (waits id callee e)) ∙ e in
        onward callee.0 (not_called id callee before) (s.ends id callee before);
    not_zero = grind (arith, cases_eq zero m, rest zero, s.not_zero);
  }
    where
      waits : (id : ℕ) (callee : ModId) → states′ id ≡ Some (Waiting callee) → id ≡ m → ⊥
      waits id callee e is = grind arith

      not_called : (id : ℕ) (callee : ModId) → states id ≡ Some (Waiting callee) → callee.0 ≡ m → ⊥
      not_called id callee e is = grind (arith, s.waiting id callee e, s.not_zero)

      onward : (id : ℕ) → (id ≡ m → ⊥) → Ends states id → Ends states′ id
      onward id apart way =
          ends-change states states′ (λ k. k ≡ m → ⊥)
          (λ k j p e. AtRunning k j (rest k p ∙ e))
          (λ k p e. AtStopped k (rest k p ∙ e))
          (λ k callee p e. inr (rest k p ∙ e, not_called k callee e)) id apart way

  -- module m on hart h returns to module c + 1
  pub returned-inside : (h m c : ℕ) → runs h ≡ m → states m ≡ Some (Running h) → callers m ≡ suc c
      → runs′ h ≡ suc c → ((k : ℕ) → (k ≡ h → ⊥) → runs′ k ≡ runs k)
      → states′ m ≡ Some Idle → states′ (suc c) ≡ Some (Running h)
      → ((id : ℕ) → (id ≡ m → ⊥) → (id ≡ suc c → ⊥) → states′ id ≡ states id)
      → callers′ m ≡ zero → ((id : ℕ) → (id ≡ m → ⊥) → callers′ id ≡ callers id)
      → AreSwitched runs′ states′ callers′
  returned-inside h m c was ran caller runs_c others idle runs_on rest none callers_rest = record {
    running = λ id k e. grind (
      arith,
      cases_eq id m,
      cases_eq id (suc c),
      cases_eq k h,
      rest id,
      others k,
      s.running id k,
    );
    current = λ k n e. grind (
      arith,
      cases_eq (suc n) m,
      cases_eq (suc n) (suc c),
      cases_eq k h,
      rest (suc n),
      others k,
      s.current k n,
      s.called m c caller,
    );
    waiting = λ id callee e.
        grind (
          arith,
          cases_eq id m,
          cases_eq id (suc c),
          cases_eq callee.0 m,
          rest id,
          callers_rest callee.0,
          s.waiting id callee,
        );
    called = λ id n e. grind (
      arith,
      cases_eq id m,
      cases_eq (suc n) m,
      cases_eq (suc n) (suc c),
      rest (suc n),
      callers_rest id,
      s.called id n,
      s.called m c caller,
    );
    idle = λ id e. grind (
      arith,
      cases_eq id m,
      cases_eq id (suc c),
      rest id,
      callers_rest id,
      s.idle id,
    );
    ends = λ id callee e.
        let before : states id ≡ Some (Waiting callee) =
        sym (rest id (waits id callee e) (not_caller id callee e)) ∙ e in
        onward callee.0 (not_called id callee (not_caller id callee e) before)
        (s.ends id callee before);
    not_zero = grind (arith, cases_eq zero m, cases_eq zero (suc c), rest zero, s.not_zero);
  }
    where
      waits : (id : ℕ) (callee : ModId) → states′ id ≡ Some (Waiting callee) → id ≡ m → ⊥
      waits id callee e is = grind arith

      not_caller : (id : ℕ) (callee : ModId) → states′ id ≡ Some (Waiting callee) → id ≡ suc c → ⊥
      not_caller id callee e is = grind arith

      not_called : (id : ℕ) (callee : ModId) → (id ≡ suc c → ⊥) → states id ≡ Some (Waiting callee)
          → callee.0 ≡ m → ⊥
      not_called id callee other e is = grind (arith, s.waiting id callee e)

      running : (id k : ℕ) → states id ≡ Some (Running k) → id ≡ suc c → ⊥
      running id k e is = grind (arith, s.called m c caller)

      stopped : (id : ℕ) → states id ≡ Some Stopped → id ≡ suc c → ⊥
      stopped id e is = grind (arith, s.called m c caller)

      onward : (id : ℕ) → (id ≡ m → ⊥) → Ends states id → Ends states′ id
      onward id apart way =
          ends-change states states′ (λ k. k ≡ m → ⊥)
          (λ k j p e. AtRunning k j (rest k p (running k j e) ∙ e))
          (λ k p e. AtStopped k (rest k p (stopped k e) ∙ e))
          (λ k callee p e. by_same k (suc c)
          (λ is. inl (AtRunning k h (ap states′ is ∙ runs_on)))
          (λ other. inr (rest k p other ∙ e, not_called k callee other e))) id apart way

  -- module m on hart h is stopped
  pub stopped-there : (h m : ℕ) → runs h ≡ m → states m ≡ Some (Running h)
      → runs′ h ≡ zero → ((k : ℕ) → (k ≡ h → ⊥) → runs′ k ≡ runs k)
      → states′ m ≡ Some Stopped → ((id : ℕ) → (id ≡ m → ⊥) → states′ id ≡ states id)
      → ((id : ℕ) → callers′ id ≡ callers id)
      → AreSwitched runs′ states′ callers′
  stopped-there h m was ran runs_out others stops rest same = record {
    running = λ id k e. grind
        (arith, cases_eq id m, cases_eq k h, rest id, others k, s.running id k);
    current = λ k n e. grind
        (arith, cases_eq (suc n) m, cases_eq k h, rest (suc n), others k, s.current k n);
    waiting = λ id callee e.
        grind (arith, cases_eq id m, rest id, same callee.0, s.waiting id callee);
    called = λ id n e. grind (arith, cases_eq (suc n) m, rest (suc n), same id, s.called id n);
    idle = λ id e. grind (arith, cases_eq id m, rest id, same id, s.idle id);
    ends = λ id callee e.
        onward callee.0 (s.ends id callee (sym (rest id (waits id callee e)) ∙ e));
    not_zero = grind (arith, cases_eq zero m, rest zero, s.not_zero);
  }
    where
      waits : (id : ℕ) (callee : ModId) → states′ id ≡ Some (Waiting callee) → id ≡ m → ⊥
      waits id callee e is = grind arith

      not_stopped : (id : ℕ) → states id ≡ Some Stopped → id ≡ m → ⊥
      not_stopped id e is = grind arith

      waited : (id : ℕ) (callee : ModId) → states id ≡ Some (Waiting callee) → id ≡ m → ⊥
      waited id callee e is = grind arith

      onward : (id : ℕ) → Ends states id → Ends states′ id
      onward id way =
          ends-change states states′ (λ k. Unit {0})
          (λ k j p e. by_same k m
          (λ is. AtStopped k (ap states′ is ∙ stops))
          (λ other. AtRunning k j (rest k other ∙ e)))
          (λ k p e. AtStopped k (rest k (not_stopped k e) ∙ e))
          (λ k callee p e. inr (rest k (waited k callee e) ∙ e, tt)) id tt way

  -- stopped module m goes on, on hart h
  pub resumed-there : (h m : ℕ) → runs h ≡ zero → states m ≡ Some Stopped
      → runs′ h ≡ m → ((k : ℕ) → (k ≡ h → ⊥) → runs′ k ≡ runs k)
      → states′ m ≡ Some (Running h) → ((id : ℕ) → (id ≡ m → ⊥) → states′ id ≡ states id)
      → ((id : ℕ) → callers′ id ≡ callers id)
      → AreSwitched runs′ states′ callers′
  resumed-there h m was stopped runs_m others runs_on rest same = record {
    running = λ id k e. grind
        (arith, cases_eq id m, cases_eq k h, rest id, others k, s.running id k, s.not_zero);
    current = λ k n e. grind
        (arith, cases_eq (suc n) m, cases_eq k h, rest (suc n), others k, s.current k n);
    waiting = λ id callee e.
        grind (arith, cases_eq id m, rest id, same callee.0, s.waiting id callee);
    called = λ id n e. grind (arith, cases_eq (suc n) m, rest (suc n), same id, s.called id n);
    idle = λ id e. grind (arith, cases_eq id m, rest id, same id, s.idle id);
    ends = λ id callee e.
        onward callee.0 (s.ends id callee (sym (rest id (waits id callee e)) ∙ e));
    not_zero = grind (arith, cases_eq zero m, rest zero, s.not_zero);
  }
    where
      waits : (id : ℕ) (callee : ModId) → states′ id ≡ Some (Waiting callee) → id ≡ m → ⊥
      waits id callee e is = grind arith

      running : (id k : ℕ) → states id ≡ Some (Running k) → id ≡ m → ⊥
      running id k e is = grind arith

      waited : (id : ℕ) (callee : ModId) → states id ≡ Some (Waiting callee) → id ≡ m → ⊥
      waited id callee e is = grind arith

      onward : (id : ℕ) → Ends states id → Ends states′ id
      onward id way =
          ends-change states states′ (λ k. Unit {0})
          (λ k j p e. AtRunning k j (rest k (running k j e) ∙ e))
          (λ k p e. by_same k m
          (λ is. AtRunning k h (ap states′ is ∙ runs_on))
          (λ other. AtStopped k (rest k other ∙ e)))
          (λ k callee p e. inr (rest k (waited k callee e) ∙ e, tt)) id tt way

  -- module m is launched
  pub launched-there : (m : ℕ) → (m ≡ zero → ⊥) → states m ≡ None → callers m ≡ zero
      → ((h : ℕ) → runs′ h ≡ runs h)
      → states′ m ≡ Some Idle → ((id : ℕ) → (id ≡ m → ⊥) → states′ id ≡ states id)
      → ((id : ℕ) → callers′ id ≡ callers id)
      → AreSwitched runs′ states′ callers′
  launched-there m not_zero none no_caller r idle rest same = record {
    running = λ id k e. grind (arith, cases_eq id m, rest id, r k, s.running id k);
    current = λ k n e. grind (arith, cases_eq (suc n) m, rest (suc n), r k, s.current k n);
    waiting = λ id callee e.
        grind (arith, cases_eq id m, rest id, same callee.0, s.waiting id callee);
    called = λ id n e. grind (arith, cases_eq (suc n) m, rest (suc n), same id, s.called id n);
    idle = λ id e. grind (arith, cases_eq id m, rest id, same id, s.idle id);
    ends = λ id callee e.
        onward callee.0 (s.ends id callee (sym (rest id (waits id callee e)) ∙ e));
    not_zero = rest zero (λ e. not_zero (sym e)) ∙ s.not_zero;
  }
    where
      waits : (id : ℕ) (callee : ModId) → states′ id ≡ Some (Waiting callee) → id ≡ m → ⊥
      waits id callee e is = grind arith

      there : (id : ℕ) (state : RowState) → states id ≡ Some state → id ≡ m → ⊥
      there id state e is = grind arith

      onward : (id : ℕ) → Ends states id → Ends states′ id
      onward id way =
          ends-change states states′ (λ k. Unit {0})
          (λ k j p e. AtRunning k j (rest k (there k (Running j) e) ∙ e))
          (λ k p e. AtStopped k (rest k (there k Stopped e) ∙ e))
          (λ k callee p e. inr (rest k (there k (Waiting callee) e) ∙ e, tt)) id tt way

  -- some modules go, none of which runs, and with each of them those that wait for it and those
  -- that it waits for
  pub evicted-there : (gone : ℕ → Bool)
      → ((h : ℕ) → runs′ h ≡ runs h)
      → ((id : ℕ) → gone id ≡ true → states′ id ≡ None)
      → ((id : ℕ) → gone id ≡ false → states′ id ≡ states id)
      → ((id : ℕ) → gone id ≡ true → callers′ id ≡ zero)
      → ((id : ℕ) → gone id ≡ false → callers′ id ≡ callers id)
      → ((id h : ℕ) → gone id ≡ true → states id ≡ Some (Running h) → ⊥)
      → ((id c : ℕ) → gone id ≡ true → callers id ≡ suc c → gone (suc c) ≡ true)
      → ((id : ℕ) (callee : ModId) → gone id ≡ true → states id ≡ Some (Waiting callee)
      → gone callee.0 ≡ true)
      → AreSwitched runs′ states′ callers′
  evicted-there gone r states_out states_stay callers_out callers_stay not_running up down =
      record {
        running = λ id k e. r k
            ∙ s.running id k (sym (states_stay id (stays id (Running k) e)) ∙ e);
        current = λ k n e. runs_stays k n (s.current k n (sym (r k) ∙ e));
        waiting = λ id callee e.
            let before : states id ≡ Some (Waiting callee) =
            sym (states_stay id (stays id (Waiting callee) e)) ∙ e in
            callers_stay callee.0 (callee_stays id callee (stays id (Waiting callee) e) before)
            ∙ s.waiting id callee before;
        called = λ id n e. by_gone id n e (cases_Bool (gone id));
        idle = λ id e.
            callers_stay id (stays id Idle e)
            ∙ s.idle id (sym (states_stay id (stays id Idle e)) ∙ e);
        ends = λ id callee e.
            let before : states id ≡ Some (Waiting callee) =
            sym (states_stay id (stays id (Waiting callee) e)) ∙ e in
            onward callee.0 (callee_stays id callee (stays id (Waiting callee) e) before)
            (s.ends id callee before);
        not_zero = by_zero (cases_Bool (gone zero));
      }
    where
      stays : (id : ℕ) (state : RowState) → states′ id ≡ Some state → gone id ≡ false
      stays id state e = false_from_ne_true (gone id)
          (λ out. let none = states_out id out in grind arith)

      runs_stays : (k n : ℕ) → states (suc n) ≡ Some (Running k)
          → states′ (suc n) ≡ Some (Running k)
      runs_stays k n e =
          states_stay (suc n)
          (false_from_ne_true (gone (suc n)) (λ out. not_running (suc n) k out e)) ∙ e

      from_caller : (id : ℕ) (callee : ModId) → gone id ≡ false → (caller : ℕ) → caller ≡ id
          → callers callee.0 ≡ caller → states id ≡ Some (Waiting callee) → gone callee.0 ≡ true → ⊥
      from_caller id callee here zero is e waits out =
          let none = s.not_zero in
          let same : states zero ≡ states id = ap states is in
          grind arith
      from_caller id callee here (suc c) is e waits out =
          both_ways (gone id) here (ap gone (sym is) ∙ up callee.0 c out e)

      callee_stays : (id : ℕ) (callee : ModId) → gone id ≡ false → states id ≡ Some (Waiting callee)
          → gone callee.0 ≡ false
      callee_stays id callee here e =
          false_from_ne_true (gone callee.0)
          (from_caller id callee here id refl (s.waiting id callee e) e)

      by_gone : (id n : ℕ) → callers′ id ≡ suc n → (gone id ≡ true) ⊎ (gone id ≡ false)
          → states′ (suc n) ≡ Some (Waiting (record { 0 = id }))
      by_gone id n e (inl out) = let none = callers_out id out in absurd (grind arith)
      by_gone id n e (inr here) =
          let before : states (suc n) ≡ Some (Waiting (record { 0 = id })) =
          s.called id n (sym (callers_stay id here) ∙ e) in
          states_stay (suc n)
          (false_from_ne_true (gone (suc n))
          (λ out. both_ways (gone id) here (down (suc n) (record { 0 = id }) out before))) ∙ before

      by_zero : (gone zero ≡ true) ⊎ (gone zero ≡ false) → states′ zero ≡ None
      by_zero (inl out) = states_out zero out
      by_zero (inr here) = states_stay zero here ∙ s.not_zero

      onward : (id : ℕ) → gone id ≡ false → Ends states id → Ends states′ id
      onward id here way =
          ends-change states states′ (λ k. gone k ≡ false)
          (λ k j p e. AtRunning k j (states_stay k p ∙ e))
          (λ k p e. AtStopped k (states_stay k p ∙ e))
          (λ k callee p e. inr (states_stay k p ∙ e, callee_stays k callee p e)) id here way
