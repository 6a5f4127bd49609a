-- What areas open to, where the current one has the register's digest.
use Rattle.std.proofs.Common.{◌≡◌, ◌≢◌, inl, inr, Bool, true, false, ℕ, List, Option, Some, None}
use Rattle.std.proofs.Common.{bytes_eq, refl, sym, ◌∙◌, ap, subst, arith}
use Rattle.std.proofs.lemmas.Slice.Eq.{bytes_eq-Decides}
use Rattle.sha2.specs.Sha256.{sha256}
use Rattle.bn_edge.specs.Areas.{Areas, area_at, other_area}
use Rattle.bn_edge.specs.Registers.{replaced}
use Rattle.bn_edge.specs.declared.area.Area.{Area}
use Rattle.bn_edge.specs.declared.area.Area.TheVariants.{First, Second}
use Rattle.bn_model.specs.Reopening.{Fresh, Holds, no_digest, holding, opens_by, opens}
use Rattle.bn_model.specs.StoredImages.{stored}
use Rattle.bn_vault.specs.Committing.{HasNoTwins, committed}
use Rattle.bn_vault.specs.Openings.{opening_of, IsCurrentIn, IsCurrent}

-- ---- tests

is_same : (xs ys : List ℕ) → xs ≡ ys → bytes_eq xs ys ≡ true
is_same xs ys e = (bytes_eq-Decides xs ys).1 e

same_is : (xs ys : List ℕ) → bytes_eq xs ys ≡ true → xs ≡ ys
same_is xs ys e = (bytes_eq-Decides xs ys).0 e

not_same : (xs ys : List ℕ) → xs ≢ ys → bytes_eq xs ys ≡ false
not_same xs ys ne = by_test (bytes_eq xs ys) refl
  where
    by_test : (b : Bool) → bytes_eq xs ys ≡ b → b ≡ false
    by_test true e = absurd (ne (same_is xs ys e))
    by_test false e = refl

-- ---- a register of zeros, and another

fresh_opens : (areas : Areas) (register : List ℕ) → bytes_eq register no_digest ≡ true
    → opening_of areas register ≡ Fresh
unfolding opens
fresh_opens areas register e = ap (λ b. opens_by b areas.first areas.second register) e

first_holds : (areas : Areas) (register : List ℕ) → sha256 areas.first ≡ register
    → holding (bytes_eq (sha256 areas.first) register) (bytes_eq (sha256 areas.second) register)
    areas.first areas.second ≡ Holds (stored areas.first)
first_holds areas register e =
    ap (λ b. holding b (bytes_eq (sha256 areas.second) register) areas.first areas.second)
    (is_same (sha256 areas.first) register e)

second_by : (areas : Areas) (register : List ℕ) (b : Bool)
    → bytes_eq (sha256 areas.first) register ≡ b → sha256 areas.second ≡ register → HasNoTwins areas
    → holding b (bytes_eq (sha256 areas.second) register) areas.first areas.second ≡
    Holds (stored areas.second)
second_by areas register true t e alone =
    ap (λ text. Holds (stored text)) (alone (same_is (sha256 areas.first) register t ∙ sym e))
second_by areas register false t e alone =
    ap (λ b. holding false b areas.first areas.second) (is_same (sha256 areas.second) register e)

-- the areas open to what the current one is read as
pub current_opens : (current : Area) (areas : Areas) (register : List ℕ)
    → bytes_eq register no_digest ≡ false → sha256 (area_at current areas) ≡ register
    → HasNoTwins areas → opening_of areas register ≡ Holds (stored (area_at current areas))
unfolding opens
current_opens First areas register other e alone =
    ap (λ b. opens_by b areas.first areas.second register) other ∙ first_holds areas register e
current_opens Second areas register other e alone =
    ap (λ b. opens_by b areas.first areas.second register) other
    ∙ second_by areas register (bytes_eq (sha256 areas.first) register) refl e alone

-- ---- the current area stays

same_current : (current : Area) (a c : Areas) (register : List ℕ)
    → bytes_eq register no_digest ≡ false → sha256 (area_at current a) ≡ register
    → HasNoTwins a → HasNoTwins c → area_at current c ≡ area_at current a
    → opening_of c register ≡ opening_of a register
same_current current a c register other e alone alone' same =
    current_opens current c register other (ap sha256 same ∙ e) alone'
    ∙ ap (λ text. Holds (stored text)) same
    ∙ sym (current_opens current a register other e alone)

opens_same_by : (b : Bool) (current : Area) (a c : Areas) (register : List ℕ)
    → bytes_eq register no_digest ≡ b → IsCurrentIn current a register
    → HasNoTwins a → HasNoTwins c → area_at current c ≡ area_at current a
    → opening_of c register ≡ opening_of a register
opens_same_by true current a c register t is alone alone' same = fresh_opens c register t
    ∙ sym (fresh_opens a register t)
opens_same_by false current a c register t (inr e) alone alone' same =
    same_current current a c register t e alone alone' same
opens_same_by false current a c register t (inl zeros) alone alone' same =
    absurd (false_is_true (sym t ∙ is_same register no_digest zeros))
  where
    false_is_true : false ≡ true → ⊥
    false_is_true e = grind arith

opens_same : (current : Area) (a c : Areas) (register : List ℕ) → IsCurrentIn current a register
    → HasNoTwins a → HasNoTwins c → area_at current c ≡ area_at current a
    → opening_of c register ≡ opening_of a register
opens_same current a c register is alone alone' same =
    opens_same_by (bytes_eq register no_digest) current a c register refl is alone alone' same

told_current : (current : Area) (areas : Option Areas) (held : Option (List ℕ)) (a : Areas)
    (register : List ℕ) → areas ≡ Some a → held ≡ Some register
    → IsCurrent current areas held → IsCurrentIn current a register
told_current current areas held a register e f is =
    subst (λ h. IsCurrent current (Some a) h) f (subst (λ o. IsCurrent current o held) e is)

-- a crash that leaves the current area leaves what it opens to
pub opens_kept : (current area : Area) (areas : Option Areas) (held : Option (List ℕ)) (a c : Areas)
    (register : List ℕ) → area ≡ other_area current → areas ≡ Some a → held ≡ Some register
    → IsCurrent current areas held → HasNoTwins a
    → area_at (other_area area) c ≡ area_at (other_area area) a → HasNoTwins c
    → opening_of c register ≡ opening_of a register
opens_kept current area areas held a c register other e f is alone same alone' =
    by_area current (subst (λ o. area_at (other_area o) c ≡ area_at (other_area o) a) other same)
    (told_current current areas held a register e f is)
  where
    by_area : (current : Area)
        → area_at (other_area (other_area current)) c ≡ area_at (other_area (other_area current)) a
        → IsCurrentIn current a register → opening_of c register ≡ opening_of a register
    by_area First same' is' = opens_same First a c register is' alone alone' same'
    by_area Second same' is' = opens_same Second a c register is' alone alone' same'

-- ---- after a commit

pub committed_opens_old : (current : Area) (text : List ℕ) (areas : Option Areas)
    (held : Option (List ℕ)) (a : Areas) (register : List ℕ) → areas ≡ Some a → held ≡ Some register
    → IsCurrent current areas held → HasNoTwins a → HasNoTwins (committed current text a)
    → opening_of (committed current text a) register ≡ opening_of a register
committed_opens_old First text areas held a register e f is alone alone' =
    opens_same First a (committed First text a) register
    (told_current First areas held a register e f is) alone alone' refl
committed_opens_old Second text areas held a register e f is alone alone' =
    opens_same Second a (committed Second text a) register
    (told_current Second areas held a register e f is) alone alone' refl

pub committed_opens_new : (current : Area) (text : List ℕ) (a : Areas) → sha256 text ≢ no_digest
    → HasNoTwins (committed current text a)
    → opening_of (committed current text a) (sha256 text) ≡ Holds (stored text)
committed_opens_new First text a some alone =
    current_opens Second (committed First text a) (sha256 text)
    (not_same (sha256 text) no_digest some) refl alone
committed_opens_new Second text a some alone =
    current_opens First (committed Second text a) (sha256 text)
    (not_same (sha256 text) no_digest some) refl alone

-- the area that a commit wrote is current
pub committed_is_current : (current : Area) (text : List ℕ) (a : Areas) (areas : Option Areas)
    (old new : Option (List ℕ)) → areas ≡ Some (committed current text a)
    → new ≡ replaced old (sha256 text) → IsCurrent (other_area current) areas new
committed_is_current current text a areas None new e f =
    subst (λ h. IsCurrent (other_area current) areas h) (sym f)
    (subst (λ o. IsCurrent (other_area current) o None) (sym e) tt)
committed_is_current First text a areas (Some old) new e f =
    subst (λ h. IsCurrent Second areas h) (sym f)
    (subst (λ o. IsCurrent Second o (Some (sha256 text))) (sym e) (inr refl))
committed_is_current Second text a areas (Some old) new e f =
    subst (λ h. IsCurrent First areas h) (sym f)
    (subst (λ o. IsCurrent First o (Some (sha256 text))) (sym e) (inr refl))
