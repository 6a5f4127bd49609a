-- What the memory unit wants to know of the modules.
use Rattle.std.proofs.Common.{◌≡◌, ℕ, zero, suc, true, false, List, Option, Some, None}
use Rattle.std.proofs.Common.{[], ◌∷◌, length, refl, sym, ap, ◌∙◌, subst, arith, is_some}
use Rattle.std.proofs.lemmas.Bool.{false_from_ne_true}
use Rattle.bn_types.specs.declared.asker.Asker.{Asker}
use Rattle.bn_types.specs.declared.mod_id.ModId.{ModId}
use Rattle.bn_types.specs.declared.row.Row.{Row}
use Rattle.bn_types.specs.declared.row_state.RowState.{RowState}
use Rattle.bn_types.specs.declared.row_state.RowState.TheVariants.{Running}
use Rattle.bn_model.specs.declared.owner.Owner.{Owner}
use Rattle.bn_model.specs.Owners.{claim_by, is_live, is_own}
use Rattle.bn_model.specs.Rows.{Enclave, enclaves, owner_of, owners, row_of}
use Rattle.bn_model.specs.Soundness.{Ascend, HasClaims, IsSound}
use Rattle.bn_model.specs.Soundness.{state_if_some}
use Rattle.bn_model.specs.State.{Hart, State, asker, hart_at}
use Rattle.bn_model.proofs.IdLemmas.{live-between}
use Rattle.bn_model.proofs.LiveClaims.{live-has, made, makes, owned}
use Rattle.bn_model.proofs.RowLemmas.{is_live-row_of}
use Rattle.bn_unit.specs.Dropping.{AreOffered}
use Rattle.bn_unit.specs.Holding.{is_known}

some-row : (row : Option Row) (state : RowState) → state_if_some row ≡ Some state
    → is_some row ≡ true
some-row None state e = cc
some-row (Some row) state e = refl

-- a hart runs the untrusted world or a live module
pub known-current : (s : State) (h : ℕ) → IsSound s
    → is_known (owners s.rows) (hart_at s h).current.0 ≡ true
known-current s h sound = go (hart_at s h).current.0 refl where
  go : (m : ℕ) → (hart_at s h).current.0 ≡ m → is_known (owners s.rows) m ≡ true
  go zero e = refl
  go (suc m) e =
      is_live-row_of (suc m) s.rows
      ∙ some-row (row_of s.rows (suc m)) (Running h) (sound.states.current h m e)

-- the next id is no live module's
pub new-id : (rows : List Row) (next id : ℕ) → Ascend 0 (enclaves rows) next → id ≡ next
    → is_live (owners rows) id ≡ false
new-id rows next id ids is = false_from_ne_true _ (λ live.
    let bounds = live-between 0 id rows next ids live in
    absurd (omega (arith, is, bounds.1)))

same-id : {a b : ModId} → a.0 ≡ b.0 → a ≡ b
same-id {a} {b} e = ap (λ (n : ℕ). let m : ModId = record { 0 = n } in m) e

-- a page that is accepted from a live module is that module's own
offered : (live : List Enclave) (ram : ℕ) → HasClaims live (owned live) ram
    → AreOffered (owned live)
offered live ram h = record {
  offered = λ claim has accepts lives.
      let one = made live claim has in
      let other = live-has live claim.decl.source.0 lives in
      let same : other.0.id ≡ claim.decl.source = same-id other.2 in
      let offer = h.accepted one.by other.0 claim.decl one.has one.declared accepts other.1 same in (
        claim_by other.0.id offer.offer,
        makes live other.0 offer.offer other.1 offer.declared,
        same,
        ap is_own offer.sort,
        offer.page,
      );
}

owned-rows : (rows : List Row) → owned (enclaves rows) ≡ owners rows
unfolding enclaves owners
owned-rows [] = refl
owned-rows (row ∷ rows) = ap (λ (own : List Owner). owner_of row ∷ own) (owned-rows rows)

pub all-offered : (s : State) → IsSound s → AreOffered (owners s.rows)
all-offered s sound =
    subst AreOffered (owned-rows s.rows)
    (offered (enclaves s.rows) (length s.pages)
    (subst (λ (own : List Owner). HasClaims (enclaves s.rows) own (length s.pages))
    (sym (owned-rows s.rows)) sound.claims))

-- one who asks runs the untrusted world or a live module
pub known-asker : (s : State) (h : ℕ) (live : List Owner) (who : Asker) (hart : Hart)
    → IsSound s → live ≡ owners s.rows → who ≡ asker h hart → hart ≡ hart_at s h
    → is_known live who.«module».0 ≡ true
known-asker s h live who hart sound owned is at =
    ap (λ (own : List Owner). is_known own who.«module».0) owned
    ∙ ap (λ (a : Asker). is_known (owners s.rows) a.«module».0) is
    ∙ ap (λ (x : Hart). is_known (owners s.rows) x.current.0) at ∙ known-current s h sound
