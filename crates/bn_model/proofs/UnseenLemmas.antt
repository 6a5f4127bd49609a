-- Whole courses in which a module's secrets are zeroed, beside those in which they aren't.
use Rattle.std.proofs.Common.{◌≡◌, ℕ, ◌+◌, ◌<◌, ◌≤◌, ◌==◌, Bool, true, false, List, [], ◌∷◌, ◌++◌}
use Rattle.std.proofs.Common.{Some, None, inl, inr, refl, sym, ap, ap₂, subst, ◌∙◌, arith}
use Rattle.std.proofs.Common.{ne_eqb, eq-eqb, eqb-true}
use Rattle.std.proofs.lemmas.Bool.{eqb-false}
use Rattle.bn_types.specs.declared.digest.Digest.{Digest}
use Rattle.bn_types.specs.declared.ending.Ending.{Ending}
use Rattle.bn_types.specs.declared.ending.Ending.TheVariants as ending
use Rattle.bn_types.specs.declared.event.Event.{Event}
use Rattle.bn_types.specs.declared.finish.Finish.{Finish}
use Rattle.bn_types.specs.declared.finish.Finish.TheVariants.{Shutdown, Limit}
use Rattle.bn_types.specs.declared.line.Line.{Line}
use Rattle.bn_types.specs.declared.line.Line.TheVariants.{End}
use Rattle.bn_types.specs.declared.status.Status.{Status}
use Rattle.bn_types.specs.declared.status.Status.TheVariants as status
use Rattle.bn_model.specs.Blanking.{blank, rests}
use Rattle.bn_model.specs.BlankingLaws.{AllFit, RestsAfterEach, RestsBeforeEach}
use Rattle.bn_model.specs.BlankingLaws.{ZeroingIsUnseen}
use Rattle.bn_model.specs.Owners.{is_live}
use Rattle.bn_model.specs.Reporting.{Report, closing, public_digest, report_of_course}
use Rattle.bn_model.specs.Rows.{owners}
use Rattle.bn_model.specs.Running.{Blind, Course, Reaches, blank_when, course, onward}
use Rattle.bn_model.specs.Running.{state_before, unless_off}
use Rattle.bn_model.specs.Soundness.{IsSound}
use Rattle.bn_model.specs.SoundnessLaws.{KeepsSound}
use Rattle.bn_model.specs.Spelling.{spelling, text_of}
use Rattle.bn_model.specs.State.{State}
use Rattle.bn_model.specs.Stepping.{Fits, lines, step}
use Rattle.bn_model.proofs.BeforeLemmas.{clock-blank}
use Rattle.bn_model.proofs.BlankLemmas.{blank-dead, blank-lines, blank-rests}
use Rattle.bn_model.proofs.BlankPages.{digest-blank}
use Rattle.bn_model.proofs.RunningLemmas.{course_none, course_off, course_on}
use Rattle.bn_model.proofs.SteppingLemmas.{clock_after}
use Rattle.bn_model.proofs.ZeroingLemmas.{any-step, live-below, step-next, step-off}

-- ---- what closes a run

end-blank : (answer : Status) (finish : Finish) (m : ℕ) (s : State)
    → ◌≡◌ {A = Report}
    (record {
      status = answer;
      text = spelling (End (blank m s).clock finish (public_digest (blank m s)));
    })
    (record { status = answer; text = spelling (End s.clock finish (public_digest s)) })
end-blank answer finish m s =
    ap₂ (λ (clock : ℕ) (digest : Digest). let r : Report = record {
      status = answer;
      text = spelling (End clock finish digest);
    } in r)
    (clock-blank m s) (digest-blank m s)

closing-blank : (reason : Ending) (m : ℕ) (s : State) → closing reason (blank m s) ≡ closing reason s
closing-blank ending.Shutdown m s = end-blank status.Ended Shutdown m s
closing-blank ending.Limit m s = end-blank status.Limit Limit m s

-- ---- courses that are alike

-- the same lines, and under a condition the same close
record IsAlike (condition : Type 0) (one other : Course) : Type 0 where
  told : one.told ≡ other.told
  close : condition → closing one.ending one.last ≡ closing other.ending other.last

alike-by : {condition : Type 0} (one other first second : Course) → one ≡ first → other ≡ second
    → IsAlike condition first second → IsAlike condition one other
alike-by {condition} one other first second is_one is_other alike =
    subst (λ (c : Course). IsAlike condition c other) (sym is_one)
    (subst (λ (c : Course). IsAlike condition first c) (sym is_other) alike)

alike-after : {condition later : Type 0} (told also : List Line) (one other : Course)
    → told ≡ also → (condition → later) → IsAlike later one other
    → IsAlike condition (onward told one) (onward also other)
alike-after told also one other same holds alike = record {
  told = ap₂ (λ (a b : List Line). a ++ b) same alike.told;
  close = λ condition. alike.close (holds condition);
}

-- ---- without an event that is blinded

before-apart : (blind : Blind) (s : State) → (s.clock ≡ blind.event → ⊥)
    → state_before (Some blind) s ≡ s
before-apart blind s apart =
    ap (λ (b : Bool). blank_when b blind.blinded.0 s) (ne_eqb s.clock blind.event apart)

-- after that event blinding does nothing
course-later : (blind : Blind) (s : State) (events : List Event)
    → blind.event < s.clock
    → course (Some blind) s events ≡ course None s events
unfolding course
course-later blind s [] past = refl
course-later blind s (event ∷ events) past =
    let count : (step s event).clock ≡ s.clock + 1 = clock_after s event in
    ap (λ (t : State). unless_off s.off s
    (onward (lines t event)
    (course (Some blind) (step t event) events)))
    (before-apart blind s (λ is. omega arith))
    ∙ ap (λ (rest : Course). unless_off s.off s
    (onward (lines s event) rest))
    (course-later blind (step s event) events (omega arith))

module _ (keeps : KeepsSound) (blind : Blind) where
  abbrev m : ℕ
  m = blind.blinded.0

  -- the state of the run with blinding, while the module rests; where it has come to run, no
  -- further event is made
  record IsOther (s t : State) : Type 0 where
    off : t.off ≡ s.off
    clock : t.clock ≡ s.clock
    same : rests m s ≡ true → t ≡ blank m s

  abbrev RestsOnAndAfter : State → List Event → Type 0
  RestsOnAndAfter s events = (rests m s ≡ true) × RestsAfterEach m blind.event s events

  other-after : (s : State) (event : Event) → Fits s event → IsSound s → m < s.next
      → rests m s ≡ true → IsOther (step s event) (step (blank m s) event)
  other-after s event fits sound below rest = record {
    off = ap (λ (t : State). (step t event).off) (blank-rests m s rest)
        ∙ step-off m s event fits sound rest;
    clock = clock_after (blank m s) event ∙ ap (λ (n : ℕ). n + 1) (clock-blank m s)
        ∙ sym (clock_after s event);
    same = λ after. any-step m s event fits sound below rest after;
  }

  -- an event from a state, and from one that tells the same
  one-event : {condition later : Type 0} (s t u : State) (event : Event) (events : List Event)
      → s.off ≡ false → t.off ≡ false → state_before (Some blind) t ≡ u
      → lines u event ≡ lines s event → (condition → later)
      → IsAlike later (course (Some blind) (step u event) events)
      (course None (step s event) events)
      → IsAlike condition (course (Some blind) t (event ∷ events))
      (course None s (event ∷ events))
  one-event {condition} {later} s t u event events on on_other before told holds alike =
      alike-by _ _ _ _
      (course_on (Some blind) t event events on_other
      ∙ ap (λ (v : State).
      onward (lines v event) (course (Some blind) (step v event) events)) before)
      (course_on None s event events on)
      (alike-after (lines u event) (lines s event) _ _ told holds alike)

  -- the event of a state without the secrets
  blank-event : {condition later : Type 0} (s t : State) (event : Event) (events : List Event)
      → s.off ≡ false → t.off ≡ false → state_before (Some blind) t ≡ blank m s → Fits s event
      → IsSound s → rests m s ≡ true → (condition → later)
      → IsAlike later (course (Some blind) (step (blank m s) event) events)
      (course None (step s event) events)
      → IsAlike condition (course (Some blind) t (event ∷ events))
      (course None s (event ∷ events))
  blank-event s t event events on on_other before fits sound rest holds alike =
      one-event s t (blank m s) event events on on_other before
      (blank-lines m s event fits sound rest) holds alike

  off-alike : {condition : Type 0} (s t : State) (events : List Event) → IsOther s t
      → s.off ≡ true → (condition → rests m s ≡ true)
      → IsAlike condition (course (Some blind) t events) (course None s events)
  off-alike s t events other off holds =
      alike-by _ _ _ _
      (course_off (Some blind) t events (other.off ∙ off))
      (course_off None s events off)
      (record {
        told = refl;
        close = λ condition.
            ap (closing ending.Shutdown) (other.same (holds condition))
            ∙ closing-blank ending.Shutdown m s;
      })

  limit-alike : {condition : Type 0} (s t : State) → IsOther s t
      → s.off ≡ false → (condition → rests m s ≡ true)
      → IsAlike condition (course (Some blind) t []) (course None s [])
  limit-alike s t other on holds =
      alike-by _ _ _ _
      (course_none (Some blind) t (other.off ∙ on))
      (course_none None s on)
      (record {
        told = refl;
        close = λ condition.
            ap (closing ending.Limit) (other.same (holds condition))
            ∙ closing-blank ending.Limit m s;
      })

  -- after the event before which the secrets were zeroed
  tail : (s t : State) (events : List Event) → IsOther s t → blind.event < s.clock → m < s.next
      → IsSound s → AllFit None s events → RestsBeforeEach m blind.event s events
      → IsAlike (RestsOnAndAfter s events) (course (Some blind) t events)
      (course None s events)
  unfolding Reaches
  tail s t [] other past below sound fit rest = by_off s.off refl
    where
      by_off : (b : Bool) → s.off ≡ b
          → IsAlike (RestsOnAndAfter s []) (course (Some blind) t [])
          (course None s [])
      by_off true off = off-alike s t [] other off (λ holds. holds.0)
      by_off false on = limit-alike s t other on (λ holds. holds.0)
  tail s t (event ∷ events) other past below sound fit rest =
      by_off s.off refl
      (λ after deeper.
      tail (step s event) (step (blank m s) event) events after
      (let count = clock_after s event in omega arith)
      (step-next m s event below) (keeps s event fit.0 sound) fit.1 deeper)
    where
      by_off : (b : Bool) → s.off ≡ b
          → (IsOther (step s event) (step (blank m s) event)
          → RestsBeforeEach m blind.event (step s event) events
          → IsAlike (RestsOnAndAfter (step s event) events)
          (course (Some blind) (step (blank m s) event) events)
          (course None (step s event) events))
          → IsAlike (RestsOnAndAfter s (event ∷ events))
          (course (Some blind) t (event ∷ events))
          (course None s (event ∷ events))
      by_off true off go = off-alike s t (event ∷ events) other off (λ holds. holds.0)
      by_off false on go =
          let here : rests m s ≡ true =
          rest s event (on, inl (record { is = refl; stands = refl })) (omega arith) in
          blank-event s t event events on (other.off ∙ on)
          (before-apart blind t (λ is. let same = other.clock in omega arith) ∙ other.same here)
          fit.0 sound here
          (λ holds. (
            holds.1 s event (on, inl (record { is = refl; stands = refl })) (omega arith),
            λ before e reaches from. holds.1 before e (on, inr reaches) from,
          ))
          (go (other-after s event fit.0 sound below here)
          (λ before e reaches from. rest before e (on, inr reaches) from))

  -- where each later event leaves the module at rest
  later-rests : (s : State) (event : Event) (events : List Event) → s.off ≡ false
      → RestsAfterEach m blind.event s (event ∷ events)
      → RestsAfterEach m blind.event (step s event) events
  unfolding Reaches
  later-rests s event events on holds = λ before e reaches from. holds before e (on, inr reaches) from

  -- the event before which the secrets are zeroed
  at-event : (s : State) (event : Event) (events : List Event) → s.off ≡ false
      → s.clock ≡ blind.event → IsSound s → AllFit None s (event ∷ events)
      → RestsBeforeEach m blind.event s (event ∷ events)
      → IsAlike (RestsAfterEach m blind.event s (event ∷ events))
      (course (Some blind) s (event ∷ events)) (course None s (event ∷ events))
  unfolding Reaches
  at-event s event events on here sound fit rest =
      blank-event s s event events on on
      (ap (λ (b : Bool). blank_when b m s) (eq-eqb s.clock blind.event here))
      fit.0 sound rests_here
      (λ holds. (
        holds s event (on, inl (record { is = refl; stands = refl })) (omega arith),
        later-rests s event events on holds,
      ))
      (by_life (is_live (owners s.rows) m) refl)
    where
      rests_here : rests m s ≡ true
      rests_here = rest s event (on, inl (record { is = refl; stands = refl })) (omega arith)

      past : blind.event < (step s event).clock
      past = let count = clock_after s event in omega arith

      by_life : (b : Bool) → is_live (owners s.rows) m ≡ b
          → IsAlike (RestsOnAndAfter (step s event) events)
          (course (Some blind) (step (blank m s) event) events)
          (course None (step s event) events)
      by_life true live =
          let below = live-below m s sound live in
          tail (step s event) (step (blank m s) event) events
          (other-after s event fit.0 sound below rests_here) past
          (step-next m s event below) (keeps s event fit.0 sound) fit.1
          (λ before e reaches from. rest before e (on, inr reaches) from)
      by_life false dead =
          alike-by _ _ _ _
          (ap (λ (t : State). course (Some blind) (step t event) events)
          (blank-dead m s dead)
          ∙ course-later blind (step s event) events past)
          refl (record { told = refl; close = λ holds. refl })

  -- up to that event
  front : (s : State) (events : List Event) → s.clock ≤ blind.event
      → IsSound s → AllFit None s events → RestsBeforeEach m blind.event s events
      → IsAlike (RestsAfterEach m blind.event s events) (course (Some blind) s events)
      (course None s events)
  unfolding course Reaches
  front s [] soon sound fit rest = record { told = refl; close = λ holds. refl }
  front s (event ∷ events) soon sound fit rest =
      by_off s.off refl
      (λ sooner deeper. front (step s event) events sooner (keeps s event fit.0 sound) fit.1 deeper)
    where
      by_event : (b : Bool) → (s.clock == blind.event) ≡ b → s.off ≡ false
          → ((step s event).clock ≤ blind.event
          → RestsBeforeEach m blind.event (step s event) events
          → IsAlike (RestsAfterEach m blind.event (step s event) events)
          (course (Some blind) (step s event) events)
          (course None (step s event) events))
          → IsAlike (RestsAfterEach m blind.event s (event ∷ events))
          (course (Some blind) s (event ∷ events))
          (course None s (event ∷ events))
      by_event true is on go =
          at-event s event events on (eqb-true s.clock blind.event is) sound fit rest
      by_event false is on go =
          let count = clock_after s event in
          let apart : s.clock ≡ blind.event → ⊥ = eqb-false s.clock blind.event is in
          one-event s s s event events on on (before-apart blind s apart) refl
          (later-rests s event events on)
          (go (omega arith) (λ before e reaches from. rest before e (on, inr reaches) from))

      by_off : (b : Bool) → s.off ≡ b
          → ((step s event).clock ≤ blind.event
          → RestsBeforeEach m blind.event (step s event) events
          → IsAlike (RestsAfterEach m blind.event (step s event) events)
          (course (Some blind) (step s event) events)
          (course None (step s event) events))
          → IsAlike (RestsAfterEach m blind.event s (event ∷ events))
          (course (Some blind) s (event ∷ events))
          (course None s (event ∷ events))
      by_off true off go =
          alike-by _ _ _ _ (course_off (Some blind) s (event ∷ events) off)
          (course_off None s (event ∷ events) off)
          (record { told = refl; close = λ holds. refl })
      by_off false on go = by_event (s.clock == blind.event) refl on go

same-report : (condition : Type 0) (one other : Course) → IsAlike condition one other → condition
    → report_of_course one ≡ report_of_course other
same-report condition one other alike holds =
    ap₂ (λ (told : List Line) (close : Report).
    let r : Report = record close { text = text_of told ++ close.text } in r)
    alike.told (alike.close holds)

pub unseen : KeepsSound → ZeroingIsUnseen
unseen keeps blind s events fit sound soon rest =
    let alike = front keeps blind s events soon sound fit rest in
    (alike.told, λ after. same-report _ _ _ alike after)
