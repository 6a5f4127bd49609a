-- What is left of a store by calls that follow one another.
use Rattle.std.proofs.Common.{◌≡◌, ℕ, ◌≤◌, inl, inr, ◌⊎◌, List}
use Rattle.std.proofs.Common.{refl, ap, ◌∙◌, arith}
use Rattle.sha2.specs.Sha256.{sha256}
use Rattle.bn_edge.specs.Accounts.{VaultAccount}
use Rattle.bn_edge.specs.Areas.{Areas}
use Rattle.bn_edge.specs.Crashes.{LeavesOnly}
use Rattle.bn_edge.specs.Registers.{IsOldOrNew, replaced}
use Rattle.bn_types.specs.declared.record.Record.{Record}
use Rattle.bn_model.specs.StoredImages.{image_of}
use Rattle.bn_model.specs.Storing.{Storage}
use Rattle.bn_vault.specs.Committing.{HasNoTwins}
use Rattle.bn_vault.specs.Openings.{opening_of}
use Rattle.bn_front.specs.Stored.{Act, Commits, CrashesOpenAlike, FailsInChip, FailsInVault}
use Rattle.bn_front.specs.Stored.{ImageStands, IsLeft, Keeps, Leaves, StorageStays, StoreAccount}
use Rattle.bn_front.specs.Stored.{Tells, areas_of}

-- since this moment there is no other
abbrev pub HasOnlyNow : VaultAccount → Type 0
HasOnlyNow vault = (c : Areas) → vault.left_since vault.moment c → vault.may_leave c

-- the areas open as those of a storage
abbrev OpensAlike : Storage → Areas → Type 0
OpensAlike storage c =
    HasNoTwins c → opening_of c storage.register ≡ opening_of (areas_of storage) storage.register

-- ---- nothing is done

pub unchanged : (store : StoreAccount) → StorageStays store store
unchanged store = record {
  areas = refl;
  register = refl;
  crash = λ c. (λ left. left, λ left. left);
  time = record {
    later = omega arith;
    nothing_else = λ t c le left. inl left;
    keeps = λ t c le left. left;
  };
}

-- ---- what stays

module _ (s m : StoreAccount) (stays : StorageStays s m) where
  pub tells_on : (storage : Storage) → Tells s storage → Tells m storage
  tells_on storage tells = record {
    areas = stays.areas ∙ tells.areas;
    register = stays.register ∙ tells.register;
  }

  pub keeps_on : (storage : Storage) → Keeps s storage → Keeps m storage
  keeps_on storage keeps = record {
    areas = record {
      told = stays.areas ∙ keeps.areas.told;
      only = λ c left. keeps.areas.only c ((stays.crash c).0 left);
    };
    register = stays.register ∙ keeps.register;
  }

  pub stays_alike : HasOnlyNow s.vault → CrashesOpenAlike s m
  stays_alike law storage keeps twins = record {
    later = stays.time.later;
    each = λ c left. by_time c (stays.time.nothing_else s.vault.moment c (omega arith) left);
    before = λ t c le left. before_by c _ (stays.time.nothing_else t c le left);
  } where
    here : (c : Areas) → s.vault.may_leave c → OpensAlike storage c
    here c left alone =
        ap (λ (a : Areas). opening_of a storage.register) (keeps.areas.only c left)

    by_time : (c : Areas)
        → s.vault.left_since s.vault.moment c ⊎ m.vault.may_leave c → OpensAlike storage c
    by_time c (inl past) = here c (law c past)
    by_time c (inr now) = here c ((stays.crash c).0 now)

    before_by : (c : Areas) (Past : Type 0) → Past ⊎ m.vault.may_leave c
        → Past ⊎ OpensAlike storage c
    before_by c Past (inl past) = inl past
    before_by c Past (inr now) = inr (here c ((stays.crash c).0 now))

-- ---- one after the other

joins : (s m n : VaultAccount) (P : Areas → Type 0) → LeavesOnly s m P → LeavesOnly m n P
    → LeavesOnly s n P
joins s m n P first second = record {
  later = let one = first.later in let other = second.later in omega arith;
  each = λ c left. each_by c (second.before s.moment c first.later left);
  before = λ t c le left.
      before_by t c le
      (second.before t c (let later = first.later in omega (arith, le, later)) left);
} where
  each_by : (c : Areas) → m.left_since s.moment c ⊎ P c → P c
  each_by c (inl past) = first.each c past
  each_by c (inr holds) = holds

  before_by : (t : ℕ) (c : Areas) → t ≤ s.moment → m.left_since t c ⊎ P c → s.left_since t c ⊎ P c
  before_by t c le (inl past) = first.before t c le past
  before_by t c le (inr holds) = inr holds

module _ (s m n : StoreAccount) (stays : StorageStays s m) where
  pub stay_on : StorageStays m n → StorageStays s n
  stay_on more = record {
    areas = more.areas ∙ stays.areas;
    register = more.register ∙ stays.register;
    crash = λ c. (
      λ left. (stays.crash c).0 ((more.crash c).0 left),
      λ left. (more.crash c).1 ((stays.crash c).1 left),
    );
    time = record {
      later = let one = stays.time.later in let other = more.time.later in omega arith;
      nothing_else = λ t c le left.
          else_by t c le
          (more.time.nothing_else t c
          (let later = stays.time.later in omega (arith, le, later)) left);
      keeps = λ t c le left.
          more.time.keeps t c (let later = stays.time.later in omega (arith, le, later))
          (stays.time.keeps t c le left);
    };
  } where
    past_by : (t : ℕ) (c : Areas) → s.vault.left_since t c ⊎ m.vault.may_leave c
        → s.vault.left_since t c ⊎ n.vault.may_leave c
    past_by t c (inl past) = inl past
    past_by t c (inr now) = inr ((more.crash c).1 now)

    else_by : (t : ℕ) (c : Areas) → t ≤ s.vault.moment
        → m.vault.left_since t c ⊎ n.vault.may_leave c
        → s.vault.left_since t c ⊎ n.vault.may_leave c
    else_by t c le (inl past) = past_by t c (stays.time.nothing_else t c le past)
    else_by t c le (inr now) = inr now

  module _ (law : HasOnlyNow s.vault) where
    alike_on : CrashesOpenAlike m n → CrashesOpenAlike s n
    alike_on more storage keeps twins =
        joins s.vault m.vault n.vault _ (stays_alike s m stays law storage keeps twins)
        (more storage (keeps_on s m stays storage keeps) twins)

    image_on : (records : List Record) → ImageStands records m n → ImageStands records s n
    image_on records image = record {
      stable = λ storage keeps. image.stable storage (keeps_on s m stays storage keeps);
      opens_old = λ storage tells. image.opens_old storage (tells_on s m stays storage tells);
      opens_new = λ storage tells. image.opens_new storage (tells_on s m stays storage tells);
    }

    -- what is left by an act is left where the store was only read before
    pub left_on : (act : Act) → IsLeft act m n → IsLeft act s n
    left_on Leaves left = stay_on left
    left_on (Commits records) left = record {
      image = image_on records left.image;
      register = left.register
          ∙ ap (λ (r : _). replaced r (sha256 (image_of records))) stays.register;
      moments = alike_on left.moments;
    }
    left_on (FailsInVault records) left = record {
      register = left.register ∙ stays.register;
      moments = alike_on left.moments;
    }
    left_on (FailsInChip records) left = record {
      image = image_on records left.image;
      register = unsure_on left.register;
      moments = alike_on left.moments;
    } where
      unsure_on : IsOldOrNew m.chip.register (sha256 (image_of records)) n.chip.register
          → IsOldOrNew s.chip.register (sha256 (image_of records)) n.chip.register
      unsure_on (inl same) = inl (same ∙ stays.register)
      unsure_on (inr set) = inr (set
          ∙ ap (λ (r : _). replaced r (sha256 (image_of records))) stays.register)

-- at each moment of an act crashes open alike
pub left_alike : (s n : StoreAccount) → HasOnlyNow s.vault → (act : Act) → IsLeft act s n
    → CrashesOpenAlike s n
left_alike s n law Leaves left = stays_alike s n left law
left_alike s n law (Commits records) left = left.moments
left_alike s n law (FailsInVault records) left = left.moments
left_alike s n law (FailsInChip records) left = left.moments
