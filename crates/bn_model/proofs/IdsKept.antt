-- Ids and identities stay apart.
use Rattle.std.proofs.Common.{◌≡◌, ℕ, zero, ◌+◌, ◌<◌, ◌≤◌, Bool, true, false, cond}
use Rattle.std.proofs.Common.{length, List, [], ◌∷◌, ◌++◌, map, filter, refl, sym, ap, subst, ◌∙◌}
use Rattle.std.proofs.Common.{arith, length-append}
use Rattle.std.proofs.lemmas.Bool.{both_ways, or_parts}
use Rattle.std.proofs.lemmas.List.{length-map, map-append}
use Rattle.std.specs.Cmp.Lexicographic.{bytes_decides}
use Rattle.std.specs.List.{list_any}
use Rattle.std.specs.Str.{bytes_eq}
use Rattle.bn_types.specs.declared.digest.Digest.{Digest}
use Rattle.bn_types.specs.declared.judged.Judged.{Judged}
use Rattle.bn_types.specs.declared.row.Row.{Row}
use Rattle.bn_model.specs.Decision.{Decision}
use Rattle.bn_model.specs.Evicting.{evicted_rows, rows_left, stays}
use Rattle.bn_model.specs.Launching.{has_identity, is_identity}
use Rattle.bn_model.specs.Memory.{visible}
use Rattle.bn_model.specs.Rows.{Enclave, enclave_of, enclaves, new_row}
use Rattle.bn_model.specs.Soundness.{AreDistinct, Ascend, HasIds, IsOnly}
use Rattle.bn_model.specs.State.{Hart, State, memory}
use Rattle.bn_model.specs.Stepping.{after_turn}
use Rattle.bn_model.proofs.Chains.{length-thinned}
use Rattle.bn_model.proofs.Evidence.{Holds}
use Rattle.bn_model.proofs.Judgements.{IsJudged, judgement-known}
use Rattle.bn_model.proofs.TurnKinds.{by-kind}

-- ---- rows that go

ascend-from : (low lower : ℕ) (live : List Enclave) (next : ℕ) → lower ≤ low → Ascend low live next
    → Ascend lower live next
ascend-from low lower [] next least ids = tt
ascend-from low lower (first ∷ rest) next least ids =
    let one : low < first.id.0 = ids.0 in
    (omega arith, ids.1, ids.2)

ascend-if : (b : Bool) (low : ℕ) (row : Row) (left : List Row) (next : ℕ) → low < row.id.0
    → row.id.0 < next → Ascend row.id.0 (map enclave_of left) next
    → Ascend low (map enclave_of (cond b (row ∷ left) left)) next
ascend-if true low row left next least most ids = (least, most, ids)
ascend-if false low row left next least most ids =
    ascend-from row.id.0 low (map enclave_of left) next (omega (arith, least)) ids

ascend-filter : (p : Row → Bool) (low : ℕ) (rows : List Row) (next : ℕ)
    → Ascend low (map enclave_of rows) next → Ascend low (map enclave_of (filter p rows)) next
ascend-filter p low [] next ids = tt
ascend-filter p low (row ∷ rows) next ids =
    ascend-if (p row) low row (filter p rows) next ids.0 ids.1
    (ascend-filter p row.id.0 rows next ids.2)

only-if : (b : Bool) (who : Digest) (row : Row) (left : List Row) → (row.judged.digest ≡ who → ⊥)
    → IsOnly who (map enclave_of left) → IsOnly who (map enclave_of (cond b (row ∷ left) left))
only-if true who row left other deeper = (other, deeper)
only-if false who row left other deeper = deeper

only-filter : (p : Row → Bool) (who : Digest) (rows : List Row) → IsOnly who (map enclave_of rows)
    → IsOnly who (map enclave_of (filter p rows))
only-filter p who [] only = tt
only-filter p who (row ∷ rows) only =
    only-if (p row) who row (filter p rows) only.0 (only-filter p who rows only.1)

distinct-if : (b : Bool) (row : Row) (left : List Row)
    → IsOnly row.judged.digest (map enclave_of left) → AreDistinct (map enclave_of left)
    → AreDistinct (map enclave_of (cond b (row ∷ left) left))
distinct-if true row left only deeper = (only, deeper)
distinct-if false row left only deeper = deeper

distinct-filter : (p : Row → Bool) (rows : List Row) → AreDistinct (map enclave_of rows)
    → AreDistinct (map enclave_of (filter p rows))
distinct-filter p [] distinct = tt
distinct-filter p (row ∷ rows) distinct =
    distinct-if (p row) row (filter p rows) (only-filter p row.judged.digest rows distinct.0)
    (distinct-filter p rows distinct.1)

left-ids : (gone rows : List Row) (next : ℕ) → HasIds (enclaves rows) next
    → HasIds (enclaves (rows_left gone rows)) next
unfolding enclaves rows_left
left-ids gone rows next ids =
    let fewer : length (filter (stays gone) rows) ≤ length rows =
    length-thinned (stays gone) rows in
    let one : length (map enclave_of (filter (stays gone) rows)) ≡
    length (filter (stays gone) rows) = length-map (filter (stays gone) rows) enclave_of in
    let two : length (map enclave_of rows) ≡ length rows = length-map rows enclave_of in
    let most : length (map enclave_of rows) ≤ 15 = ids.few in
    record {
      few = omega arith;
      ascend = ascend-filter (stays gone) zero rows next ids.ascend;
      first = ids.first;
      last = ids.last;
      distinct = distinct-filter (stays gone) rows ids.distinct;
    }

-- ---- a row more

ascend-push : (low : ℕ) (live : List Enclave) (next : ℕ) (new : Enclave) → new.id.0 ≡ next
    → low < next → Ascend low live next
    → Ascend low (live ++ new ∷ []) (next + 1)
ascend-push low [] next new is least ids = (omega arith, omega arith, tt)
ascend-push low (first ∷ rest) next new is least ids =
    let below : first.id.0 < next = ids.1 in
    (ids.0, omega arith, ascend-push first.id.0 rest next new is ids.1 ids.2)

only-push : (who : Digest) (live : List Enclave) (new : Enclave) → (new.judged.digest ≡ who → ⊥)
    → IsOnly who live → IsOnly who (live ++ new ∷ [])
only-push who [] new other only = (other, tt)
only-push who (first ∷ rest) new other only = (only.0, only-push who rest new other only.1)

bytes-same : (xs : List ℕ) → bytes_eq xs xs ≡ true
bytes-same xs = (bytes_decides xs xs).1 refl

distinct-push : (live : List Enclave) (new : Enclave)
    → list_any (has_identity new.judged.digest) live ≡ false → AreDistinct live
    → AreDistinct (live ++ new ∷ [])
distinct-push [] new fresh distinct = (tt, tt)
distinct-push (first ∷ rest) new fresh distinct =
    let parts = or_parts (has_identity new.judged.digest first)
    (list_any (has_identity new.judged.digest) rest) fresh in (
      only-push first.judged.digest rest new
          (λ is. both_ways (has_identity new.judged.digest first) parts.0 (same is)) distinct.0,
      distinct-push rest new parts.1 distinct.1,
    )
  where
    same : new.judged.digest ≡ first.judged.digest
        → is_identity new.judged.digest first.judged.digest ≡ true
    same is = ap (λ (d : Digest). is_identity new.judged.digest d) (sym is)
        ∙ bytes-same new.judged.digest.0

pub launched-live : (rows : List Row) (row : Row)
    → enclaves (rows ++ row ∷ []) ≡ enclaves rows ++ enclave_of row ∷ []
unfolding enclaves
launched-live rows row = map-append enclave_of rows (row ∷ [])

pub launch-ids : (live : List Enclave) (next : ℕ) (pages : List _) (satp at : ℕ) (judged : Judged)
    → HasIds live next → IsJudged live next pages satp at judged
    → HasIds (live ++ record { id = record { 0 = next }; judged = judged } ∷ []) (next + 1)
launch-ids live next pages satp at judged ids known =
    let new : Enclave = record { id = record { 0 = next }; judged = judged } in
    let room : length live < 15 = known.room in
    let more : length (live ++ new ∷ []) ≡ length live + 1 = length-append live (new ∷ []) in
    let first : 1 ≤ next = ids.first in
    let last : next < 65536 = known.ids in
    record {
      few = omega arith;
      ascend = ascend-push zero live next new refl (omega arith) ids.ascend;
      first = omega arith;
      last = omega arith;
      distinct = distinct-push live new
          (ap (λ (d : Digest). list_any (has_identity d) live)
          (ap (λ (j : Judged). j.digest) known.is) ∙ known.fresh) ids.distinct;
    }

-- ---- a turn

pub turn-ids : (s : State) (h : ℕ) (hart : Hart) → HasIds (enclaves s.rows) s.next → (d : Decision)
    → Holds s h hart d
    → HasIds (enclaves (after_turn s h hart d).rows) (after_turn s h hart d).next
turn-ids s h hart ids =
    by-kind s h hart (λ (after : State). HasIds (enclaves after.rows) after.next)
    (λ after told. subst (HasIds (enclaves after.rows)) (sym told.next)
    (subst (λ (live : List Enclave). HasIds live s.next) (sym told.live) ids))
    (λ rd judged e.
    subst (λ (live : List Enclave). HasIds live (s.next + 1))
    (sym (launched-live s.rows (new_row s.next judged)))
    (launch-ids (enclaves s.rows) s.next (visible (memory s)) hart.csrs.satp e.at judged ids
    (judgement-known (enclaves s.rows) s.next (visible (memory s)) hart.csrs.satp e.at judged
    e.is)))
    (λ rd id count e. left-ids (evicted_rows s.rows id) s.rows s.next ids)
