-- Which pages an event changes.
use Rattle.std.proofs.Common.{◌≡◌, ℕ, ◌⊎◌, Bool, true, false, List, [], ◌∷◌, filter, map, set}
use Rattle.std.proofs.Common.{Option, Some, None, Result, inl, inr, refl, sym, ap, subst, ◌∙◌}
use Rattle.std.proofs.Common.{eqb-true}
use Rattle.std.proofs.lemmas.Bool.{both_ways, cases_eq, not-true}
use Rattle.std.proofs.lemmas.List.{get_or-set_other}
use Rattle.std.specs.List.{list_any}
use Rattle.bn_types.specs.Numbers.{page_at, with_number}
use Rattle.bn_types.specs.declared.event.Event.TheVariants.{Turn, Key, Poke, Peek}
use Rattle.bn_types.specs.declared.fault.Fault.{Fault}
use Rattle.bn_types.specs.declared.gpn.Gpn.{Gpn}
use Rattle.bn_types.specs.declared.kind.Kind.TheVariants as kind
use Rattle.bn_types.specs.declared.row.Row.{Row}
use Rattle.bn_types.specs.declared.sort.Sort.{Sort}
use Rattle.bn_types.specs.declared.sort.Sort.TheVariants.{Private, Offer, Accept}
use Rattle.bn_types.specs.declared.width.Width.{Width}
use Rattle.bn_types.specs.declared.width.Width.TheVariants.{B1}
use Rattle.bn_model.specs.declared.owner.Owner.{Owner}
use Rattle.bn_model.specs.declared.place.Place.{Place}
use Rattle.bn_model.specs.Accessing.{access, is_aligned}
use Rattle.bn_model.specs.Deciding.{decision_of, decision_of_hart}
use Rattle.bn_model.specs.Decision.{Asked, Decision, Trap, Deny, Store, Evict}
use Rattle.bn_model.specs.Evicting.{evicted_rows, is_among, is_given_up, pages_left, rows_left}
use Rattle.bn_model.specs.Evicting.{stays}
use Rattle.bn_model.specs.Memory.{visible}
use Rattle.bn_model.specs.Owners.{Claim, claim_by, claims, claims_by, is_on, is_own}
use Rattle.bn_model.specs.Rows.{owner_of, owners}
use Rattle.bn_model.specs.Soundness.{Has}
use Rattle.bn_model.specs.State.{Hart, State, asker, hart_at, memory}
use Rattle.bn_model.specs.Stepping.{after_turn, pages_after_poke, seen_page, step}
use Rattle.bn_model.specs.Touching.{Touch, direct, touch, touch_of_access, touch_of_asked}
use Rattle.bn_model.specs.Touching.{touch_of_device, touch_of_fetch, touch_of_hart, touch_of_place}
use Rattle.bn_model.specs.Touching.{walk_if}
use Rattle.bn_model.specs.TouchingLaws.{ChangesAreTouched, IsGivenUp, IsStored}
use Rattle.bn_model.specs.Walking.{access_fault, vpn_of}
use Rattle.bn_model.proofs.ClaimLemmas.{three-true}
use Rattle.bn_model.proofs.Evidence.{Holds, StoresAt, holds}
use Rattle.bn_model.proofs.MembershipLemmas.{any-has, filter-has, flat_map-has, has-right, map-has}
use Rattle.bn_model.proofs.RestingLemmas.{left-page, trap-pages}

-- ---- stores

abbrev store-touch : Hart → (va : ℕ) → Place → Touch
store-touch hart va place = record {
  who = hart.current;
  vpn = Some (vpn_of va);
  page = place.page;
  kind = kind.Store;
}

store-touches : (s : State) (h : ℕ) (hart : Hart) (place : Place) (width : Width)
    → StoresAt s h hart place width
    → IsStored (touch_of_hart s h hart) place.page.0
store-touches s h hart place width stores =
    let it : Touch = store-touch hart stores.va place in
    let reached : Has it (touch_of_place (asker h hart) kind.Store stores.va
    (access (memory s) (asker h hart) kind.Store stores.va width)) =
    subst
    (λ (r : Result Place Fault). Has it (touch_of_place (asker h hart) kind.Store stores.va r))
    (sym stores.reached) (inl refl) in
    let accessed : Has it (touch_of_access (memory s) (asker h hart) kind.Store stores.va width) =
    has-right
    (walk_if (is_aligned kind.Store stores.va width)
    (visible (memory s)) hart.csrs.satp stores.va) _ it reached in
    record {
      touched = it;
      among = subst (λ (asked : Asked). Has it (touch_of_asked s h hart asked)) (sym stores.asked)
          (has-right (touch_of_fetch s h hart) _ it accessed);
      reaches = refl;
      kind = refl;
    }

-- the page that is set alone changes
set-changes : (touches : List Touch) (before after : List Row) (pages : List (List ℕ))
    (k : ℕ) (bytes : List ℕ) (page : ℕ) → IsStored touches k
    → (page_at (set pages k bytes) page ≡ page_at pages page)
    ⊎ (IsStored touches page ⊎ IsGivenUp before after page)
set-changes touches before after pages k bytes page stored = by_page (cases_eq page k)
  where
    by_page : (page ≡ k) ⊎ (page ≡ k → ⊥)
        → (page_at (set pages k bytes) page ≡ page_at pages page)
        ⊎ (IsStored touches page ⊎ IsGivenUp before after page)
    by_page (inl is) = inr (inl (subst (IsStored touches) (sym is) stored))
    by_page (inr other) = inl (get_or-set_other pages k page bytes [] other)

-- ---- evictions

-- the row that makes a claim
record ClaimedBy (rows : List Row) (claim : Claim) : Type 0 where
  row : Row
  live : Has row rows
  whose : row.id.0 ≡ claim.owner.0
  declared : Has claim.decl row.judged.decls.items

claiming-row : (rows : List Row) (claim : Claim) → Has claim (claims (owners rows))
    → ClaimedBy rows claim
unfolding claims owners
claiming-row rows claim h =
    let by_owner = flat_map-has claims_by (map owner_of rows) claim h in
    let by_row = map-has owner_of rows by_owner.0 by_owner.1 in
    let row : Row = by_row.0 in
    let made : Has claim (map (claim_by row.id) row.judged.decls.items) =
    subst (λ (owner : Owner). Has claim (claims_by owner)) by_row.2 by_owner.2 in
    let by_decl = map-has (claim_by row.id) row.judged.decls.items claim made in
    let same : claim ≡ claim_by row.id by_decl.0 = by_decl.2 in
    record {
      row = row;
      live = by_row.1;
      whose = ap (λ (c : Claim). c.owner.0) (sym same);
      declared = subst (λ (c : Claim). Has c.decl row.judged.decls.items) (sym same) by_decl.1;
    }

own-sort : (sort : Sort) → is_own sort ≡ true → (sort ≡ Private) ⊎ (sort ≡ Offer)
own-sort Private e = inl refl
own-sort Offer e = inr refl
own-sort Accept e = cc

evict-changes : (touches : List Touch) (rows gone : List Row) (pages : List (List ℕ)) (page : ℕ)
    → (page_at (pages_left gone (owners rows) pages) page ≡ page_at pages page)
    ⊎ (IsStored touches page ⊎ IsGivenUp rows (rows_left gone rows) page)
unfolding rows_left
evict-changes touches rows gone pages page =
    by_test (list_any (is_given_up gone page) (claims (owners rows))) refl
  where
    stay : (id : ℕ) → is_among gone id ≡ true → (other : Row) → Has other (filter (stays gone) rows)
        → other.id.0 ≡ id → ⊥
    stay id among other h is =
        both_ways (is_among gone other.id.0)
        (not-true (is_among gone other.id.0) (filter-has (stays gone) rows other h).1)
        (ap (is_among gone) is ∙ among)

    by_test : (b : Bool) → list_any (is_given_up gone page) (claims (owners rows)) ≡ b
        → (page_at (pages_left gone (owners rows) pages) page ≡ page_at pages page)
        ⊎ (IsStored touches page ⊎ IsGivenUp rows (filter (stays gone) rows) page)
    by_test false is = inl (left-page gone (owners rows) pages page is)
    by_test true is =
        let found = any-has (is_given_up gone page) (claims (owners rows)) is in
        let claim : Claim = found.0 in
        let by = claiming-row rows claim found.1 in
        let tests =
        three-true (is_among gone claim.owner.0) (is_own claim.decl.sort)
        (is_on page claim) found.2 in
        inr (inr (record {
          row = by.row;
          lived = by.live;
          gone = stay by.row.id.0 (ap (is_among gone) by.whose ∙ tests.0);
          decl = claim.decl;
          declared = by.declared;
          own = own-sort claim.decl.sort tests.1;
          reaches = eqb-true claim.decl.gpn.0 page tests.2;
        }))

-- ---- events

module _ (s : State) (page : ℕ) where
  turn-changes : (h : ℕ) (hart : Hart) (d : Decision) → Holds s h hart d
      → (page_at (after_turn s h hart d).pages page ≡ page_at s.pages page)
      ⊎ (IsStored (touch_of_hart s h hart) page
      ⊎ IsGivenUp s.rows (after_turn s h hart d).rows page)
  unfolding Holds
  turn-changes h hart (Trap cause value) knows =
      inl
      (ap (λ (pages : List (List ℕ)). page_at pages page)
      (trap-pages hart.current.0 s h hart cause value))
  turn-changes h hart (Deny denied va) knows =
      inl
      (ap (λ (pages : List (List ℕ)). page_at pages page)
      (trap-pages hart.current.0 s h hart (access_fault denied) va))
  turn-changes h hart (Store place width value) knows =
      set-changes (touch_of_hart s h hart) s.rows s.rows s.pages place.page.0 _ page
      (store-touches s h hart place width knows)
  turn-changes h hart (Evict rd id count) knows =
      evict-changes (touch_of_hart s h hart) s.rows (evicted_rows s.rows id) s.pages page
  turn-changes h hart decision knows = inl refl

  poke-changes : (other : Gpn) (offset byte : ℕ) (content : Option (Option (List ℕ)))
      → (page_at (pages_after_poke content s.pages other.0 offset byte) page ≡ page_at s.pages page)
      ⊎ (IsStored (touch_of_device kind.Store other content) page ⊎ IsGivenUp s.rows s.rows page)
  poke-changes other offset byte None = inl refl
  poke-changes other offset byte (Some None) = inl refl
  poke-changes other offset byte (Some (Some bytes)) =
      set-changes (direct kind.Store other ∷ []) s.rows s.rows s.pages other.0
      (with_number B1 bytes offset byte) page
      (record { touched = direct kind.Store other; among = inl refl; reaches = refl; kind = refl })

pub changes-are-touched : ChangesAreTouched
unfolding step touch decision_of
changes-are-touched s (Turn h) page =
    turn-changes s page h (hart_at s h) (decision_of_hart s h (hart_at s h))
    (holds s h (hart_at s h))
changes-are-touched s (Key byte) page = inl refl
changes-are-touched s (Poke other offset byte) page =
    poke-changes s page other offset byte (seen_page s other)
changes-are-touched s (Peek other offset) page = inl refl
