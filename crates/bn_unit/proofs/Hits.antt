-- A translation that is held answers as the tables and the rule of admission would.
use Rattle.std.proofs.Common.{◌≡◌, ℕ, ◌+◌, ◌-◌, ◌<◌, Bool, true, false, cond, nat_lt, List, length, Some}
use Rattle.std.proofs.Common.{None, IfOk, Result, Ok, Err, refl, sym, ap, ◌∙◌, subst, arith}
use Rattle.std.proofs.lemmas.Bool.{lt-ltb, le-ltb}
use Rattle.bn_types.specs.declared.asker.Asker.{Asker}
use Rattle.bn_types.specs.declared.fault.Fault.{Fault}
use Rattle.bn_types.specs.declared.kind.Kind.{Kind}
use Rattle.bn_types.specs.declared.mode.Mode.{Mode}
use Rattle.bn_model.specs.declared.owner.Owner.{Owner}
use Rattle.bn_model.specs.Accessing.{place_by_walk, place_if_admitted, place_if_in_ram, place_on}
use Rattle.bn_model.specs.Accessing.{walk_by}
use Rattle.bn_model.specs.Admission.{admits, has_right}
use Rattle.bn_model.specs.Memory.{Memory}
use Rattle.bn_model.specs.Nesting.{Nested, contents, place}
use Rattle.bn_model.specs.Walking.{Landing, NoLeaf, Refused, WalkFault, guest_page}
use Rattle.bn_model.specs.Walking.{landing_if, landing_or_cause, permits}
use Rattle.bn_model.specs.Walking.{vpn_of}
use Rattle.bn_model.proofs.NestingLaws.{length-contents}
use Rattle.bn_tlb.specs.declared.entry.Entry.{Entry}
use Rattle.bn_tlb.specs.declared.key.Key.{Key}
use Rattle.bn_types.specs.declared.frame.Frame.{Frame}
use Rattle.bn_types.specs.declared.gpn.Gpn.{Gpn}
use Rattle.bn_unit.specs.Memory.{IsSpot}
use Rattle.bn_unit.specs.declared.spot.Spot.{Spot}
use Rattle.bn_unit.specs.Holding.{IsRight, key_of, landing_held, nested_memory, place_held}
use Rattle.bn_unit.specs.Holding.{place_if_permitted, place_if_right}

module _ (nest : Nested) (live : List Owner) (who : Asker) (kind : Kind) (va : ℕ) where
  m : Memory
  m = nested_memory nest live

  in-ram : (page : ℕ) → page < nest.ram → (right : Bool)
      → right ≡ admits live who.«module».0 (vpn_of va) page kind
      → place_if_admitted right kind va page ≡ place_on (nested_memory nest live) who kind va
      (Some page)
  in-ram page inside right e =
      let size : length (contents nest) ≡ nest.ram = length-contents nest.ram nest.frames in
      ap (λ (b : Bool). place_if_admitted b kind va page) e
      ∙ ap (λ (b : Bool). place_if_in_ram b (nested_memory nest live) who kind va page)
      (sym (lt-ltb page (length (contents nest)) (omega (arith, size, inside))))

  led : (page : ℕ) → guest_page (0x80000 + page) ≡ Some page
  led page =
      let above : nat_lt (0x80000 + page) 0x80000 ≡ false =
      le-ltb (0x80000 + page) 0x80000 (omega arith) in
      let back : 0x80000 + page - 0x80000 ≡ page = omega arith in
      ap (λ (b : Bool). cond b None (Some (0x80000 + page - 0x80000))) above
      ∙ ap (λ (n : ℕ). Some n) back

  pub place-right : (entry : Entry)
      → IsRight nest live (record { key = key_of who va; entry = entry })
      → place_held entry who kind va
      ≡ place_by_walk (nested_memory nest live) who kind va
      (walk_by (nested_memory nest live) who kind va)
  place-right entry h =
      by_test (permits (landing_held entry) kind who.mode who.sum who.mxr)
      ∙ sym (ap (λ (found : Result Landing WalkFault).
      place_by_walk (nested_memory nest live) who kind va
      (landing_or_cause kind who.mode who.sum who.mxr found)) (h.leaf va refl)) where
        by_test : (b : Bool)
            → place_if_permitted b (has_right kind entry.rights) entry kind va
            ≡ place_by_walk (nested_memory nest live) who kind va
            (landing_if b (landing_held entry) kind)
        by_test false = refl
        by_test true =
            admitted (has_right kind entry.rights)
            ∙ in-ram entry.page.0 h.inside (has_right kind entry.rights) (h.rights kind)
            ∙ ap (place_on (nested_memory nest live) who kind va) (sym (led entry.page.0)) where
              admitted : (b : Bool)
                  → place_if_right b entry kind va ≡ place_if_admitted b kind va entry.page.0
              admitted true = refl
              admitted false = refl

pub spot-right : (nest : Nested) (live : List Owner) (key : Key) (entry : Entry)
    (reached : Result Spot Fault)
    → IfOk reached (λ spot. (spot.page ≡ entry.page) × (spot.frame ≡ entry.frame))
    → IsRight nest live (record { key = key; entry = entry }) → IfOk reached (IsSpot nest)
spot-right nest live key entry (Err fault) same h = tt
spot-right nest live key entry (Ok spot) same h = record {
  inside = subst (λ (page : Gpn). page.0 < nest.ram) (sym same.0) h.inside;
  frame = ap (λ (page : Gpn). place nest page.0) same.0 ∙ h.frame
      ∙ ap (λ (frame : Frame). Some frame) (sym same.1);
}

-- a walk that finds a page found its leaf
pub walk-leaf : (found : Result Landing WalkFault) (kind : Kind) (mode : Mode) (sum mxr : Bool)
    (landing : Landing) → landing_or_cause kind mode sum mxr found ≡ Ok landing
    → found ≡ Ok landing
walk-leaf (Err NoLeaf) kind mode sum mxr landing e = cc
walk-leaf (Err Refused) kind mode sum mxr landing e = cc
walk-leaf (Ok leaf) kind mode sum mxr landing e =
    ap (λ (end : Landing). let r : Result Landing WalkFault = Ok end in r)
    (go (permits leaf kind mode sum mxr) e) where
      go : (b : Bool) → landing_if b leaf kind ≡ Ok landing → leaf ≡ landing
      go true e = cc
      go false e = cc
