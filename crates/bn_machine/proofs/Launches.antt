-- Launches over the machine's parts.
use Rattle.std.proofs.Common.{◌≡◌, ℕ, zero, suc, ◌+◌, ◌^◌, ◌<◌, ◌≤◌, Bool, List, [], ◌∷◌, ◌++◌}
use Rattle.std.proofs.Common.{length, slice_get, Option, Some, None, Result, Ok}
use Rattle.std.proofs.Common.{refl, sym, ap, ap₂, subst, cond, ◌∙◌, arith, eq-eqb, ne_eqb}
use Rattle.std.proofs.lemmas.List.Elements.{All-cons, All-nil}
use Rattle.std.specs.List.{All}
use Rattle.bn_types.specs.declared.decl.Decl.{Decl}
use Rattle.bn_types.specs.declared.judged.Judged.{Judged}
use Rattle.bn_types.specs.declared.launch_refused.LaunchRefused.{LaunchRefused}
use Rattle.bn_types.specs.declared.launch_refused.LaunchRefused.TheVariants as refused
use Rattle.bn_types.specs.declared.row.Row.{Row}
use Rattle.bn_types.specs.declared.seg_fault.SegFault.{SegFault}
use Rattle.bn_types.specs.declared.seg_fault.SegFault.TheVariants as seg_fault
use Rattle.bn_model.specs.declared.owner.Owner.{Owner}
use Rattle.bn_model.specs.Launching.{judgement}
use Rattle.bn_model.specs.Memory.{visible}
use Rattle.bn_model.specs.Refusals.{launch_code, minus, seg_fault_number}
use Rattle.bn_model.specs.Rows.{enclaves, new_row, owner_of, owners, row_of}
use Rattle.bn_model.specs.Soundness.{Ascend, GuestPagesDiffer, IsSound}
use Rattle.bn_model.specs.State.{State, memory}
use Rattle.bn_model.proofs.JudgedLemmas.{all-got, seen-page}
use Rattle.bn_model.proofs.Judgements.{IsJudged, judgement-known}
use Rattle.bn_model.proofs.LaunchClaims.{launched-new, length-seen}
use Rattle.bn_model.proofs.RowLemmas.{owners-enclaves}
use Rattle.bn_launch.specs.Readable.{AreWhole, IsWhole}
use Rattle.bn_machine.specs.Making.{IsRefusalCode}
use Rattle.bn_machine.specs.Standing.{HasRoomFor}

-- ---- what a launch reads

-- what can be read of a sound state's pages is whole
pub seen_whole : (s : State) → IsSound s → AreWhole (visible (memory s))
seen_whole s sound page = by_content (slice_get (visible (memory s)) page) refl
  where
    by_content : (content : Option (Option (List ℕ)))
        → slice_get (visible (memory s)) page ≡ content → IsWhole content
    by_content None is = tt
    by_content (Some None) is = tt
    by_content (Some (Some bytes)) is =
        all-got (λ (page : List ℕ). (length page ≡ 4096) × All (λ byte. byte < 2 ^ 8) page)
        s.pages page bytes sound.pages (seen-page (owners s.rows) s.pages page bytes is)

pub seen_few : (s : State) → IsSound s → length (visible (memory s)) ≤ 4096
seen_few s sound =
    subst (λ (n : ℕ). n ≤ 4096) (sym (length-seen (owners s.rows) s.pages)) sound.few_pages

-- ---- what a judgement knows

lie-in_ram : (ram : ℕ) (decls : List Decl) → GuestPagesDiffer ram decls
    → All (λ (decl : Decl). decl.gpn.0 < ram) decls
lie-in_ram ram [] differ = All-nil (λ (decl : Decl). decl.gpn.0 < ram)
lie-in_ram ram (first ∷ rest) differ =
    All-cons (λ (decl : Decl). decl.gpn.0 < ram) first rest differ.0 (lie-in_ram ram rest differ.2)

pub length_enclaves : (rows : List Row) → length (enclaves rows) ≡ length rows
unfolding enclaves
length_enclaves [] = refl
length_enclaves (row ∷ rows) = ap suc (length_enclaves rows)

pub room_known : (s : State) (satp at : ℕ) (result : Result Judged LaunchRefused)
    → result ≡ judgement (enclaves s.rows) s.next (visible (memory s)) satp at
    → (judged : Judged) → result ≡ Ok judged → HasRoomFor s judged
room_known s satp at result e judged is =
    let live = enclaves s.rows in
    let known : IsJudged live s.next (visible (memory s)) satp at judged =
    judgement-known live s.next (visible (memory s)) satp at judged (sym e ∙ is) in
    let new = launched-new live s.next s.pages satp at judged
    (subst (λ (os : List Owner).
    IsJudged live s.next (visible (record { pages = s.pages; owners = os })) satp at judged)
    (owners-enclaves s.rows) known) in
    record {
      room = subst (λ (n : ℕ). n < 15) (length_enclaves s.rows) known.room;
      ids = known.ids;
      inside = lie-in_ram (length s.pages) judged.decls.items new.ordered.guest;
    }

-- ---- the new row

pub row_found : (low next : ℕ) (rows : List Row) (judged : Judged) → Ascend low (enclaves rows) next
    → row_of (rows ++ new_row next judged ∷ []) next ≡ Some (new_row next judged)
unfolding enclaves
row_found low next [] judged ids =
    ap (λ (b : Bool). cond b (Some (new_row next judged)) None) (eq-eqb next next refl)
row_found low next (row ∷ rows) judged ids =
    let below = ids.1 in
    ap (λ (b : Bool).
    cond b (Some row) (row_of (rows ++ new_row next judged ∷ []) next))
    (ne_eqb row.id.0 next (λ same. omega (arith, same)))
    ∙ row_found row.id.0 next rows judged ids.2

-- the table finds the row that was added
pub found_added : (rows after : List Row) (next id : ℕ) (judged : Judged) (found : Option Row)
    → Ascend zero (enclaves rows) next → after ≡ rows ++ new_row next judged ∷ [] → id ≡ next
    → found ≡ row_of after id → found ≡ Some (new_row next judged)
found_added rows after next id judged found ids added is e =
    e ∙ ap₂ row_of added is ∙ row_found zero next rows judged ids

pub length_owners : (rows : List Row) → length (owners rows) ≡ length rows
unfolding owners
length_owners [] = refl
length_owners (row ∷ rows) = ap suc (length_owners rows)

pub owners_more : (rows : List Row) (row : Row)
    → owners (rows ++ row ∷ []) ≡ owners rows ++ owner_of row ∷ []
unfolding owners
owners_more [] row = refl
owners_more (first ∷ rows) row = ap (λ (os : List Owner). owner_of first ∷ os) (owners_more rows
    row)

-- ---- codes

code-of : (n : ℕ) → 0 < n → n < 33 → IsRefusalCode (minus n)
code-of zero some small = absurd (omega arith)
code-of (suc n) some small = record { number = n; small = omega arith; is = refl }

of-segment : (fault : SegFault) → seg_fault_number fault < 11
of-segment seg_fault.Magic = omega arith
of-segment seg_fault.Version = omega arith
of-segment seg_fault.Mode = omega arith
of-segment seg_fault.Entries = omega arith
of-segment seg_fault.Pages = omega arith
of-segment seg_fault.Order = omega arith
of-segment seg_fault.Sort = omega arith
of-segment seg_fault.RightsBits = omega arith
of-segment seg_fault.EntryPlace = omega arith
of-segment seg_fault.PartnerPlace = omega arith
of-segment seg_fault.Padding = omega arith

pub refusal_code : (refusal : LaunchRefused) → IsRefusalCode (minus (launch_code refusal))
refusal_code (refused.Segment fault) =
    let small = of-segment fault in
    code-of (16 + seg_fault_number fault) (omega arith) (omega arith)
refusal_code refused.Address = code-of 1 (omega arith) (omega arith)
refusal_code refused.Unmapped = code-of 2 (omega arith) (omega arith)
refusal_code refused.NoPage = code-of 3 (omega arith) (omega arith)
refusal_code refused.Owned = code-of 4 (omega arith) (omega arith)
refusal_code refused.Alias = code-of 5 (omega arith) (omega arith)
refusal_code refused.NotOffered = code-of 6 (omega arith) (omega arith)
refusal_code refused.Duplicate = code-of 7 (omega arith) (omega arith)
refusal_code refused.TableFull = code-of 8 (omega arith) (omega arith)
refusal_code refused.IdsSpent = code-of 9 (omega arith) (omega arith)
