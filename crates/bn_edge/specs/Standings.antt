-- A vault in memory: the texts that were ever in its areas, one after another, how the areas stood
-- at each moment, and how they stand now.
use Rattle.std.specs.Prelude.{◌≡◌, ℕ, ◌+◌, ◌*◌, ◌≤◌, ◌⊎◌, Bool, true, false, ◌||◌, List, [], ◌∷◌}
use Rattle.std.specs.Prelude.{All, Some, length, take, drop, unwrap_or}
use Rattle.std.proofs.Common.{inl, inr, refl, ap, subst}
use Rattle.bn_edge.specs.Accounts.{VaultAccount}
use Rattle.bn_edge.specs.Areas.{Areas, area_room}
use Rattle.bn_edge.specs.declared.area.Area.{Area}
use Rattle.bn_edge.specs.declared.area.Area.TheVariants.{First, Second}
use Rattle.bn_edge.specs.declared.span.Span.{Span}
use Rattle.bn_edge.specs.declared.standing.Standing.{Standing}

pub record VaultContents : Type 0 where
  pub texts : List ℕ
  -- how the areas stood at each earlier moment
  pub past : List Standing
  pub now : Standing
  -- how many writes succeeded
  pub writes : ℕ
  -- the numbers of the calls that fail
  pub fails : List ℕ
  pub calls : ℕ
  pub faults : ℕ

-- ---- the areas

abbrev pub text_at : List ℕ → Span → List ℕ
text_at texts span = take span.len (drop span.at texts)

abbrev pub areas_at : List ℕ → Standing → Areas
areas_at texts standing =
    record { first = text_at texts standing.first; second = text_at texts standing.second }

abbrev pub span_of : Area → Standing → Span
span_of First standing = standing.first
span_of Second standing = standing.second

abbrev pub with_span : Area → Span → Standing → Standing
with_span First span standing = record standing { first = span }
with_span Second span standing = record standing { second = span }

-- the areas as they stand once both are on the disk
abbrev pub synced : Standing → Standing
synced standing = record {
  first = record standing.first { loose = false };
  second = record standing.second { loose = false };
}

-- an area was written since the last sync
abbrev pub is_loose : Standing → Bool
is_loose standing = standing.first.loose || standing.second.loose

-- ---- crashes

-- a crash leaves an area as it is, or, where it was written since the last sync, with any bytes
abbrev pub LeavesText : Bool → List ℕ → List ℕ → Type 0
LeavesText false text c = c ≡ text
LeavesText true text c = (c ≡ text) ⊎ (length c ≤ area_room)

abbrev pub Leaves : List ℕ → Standing → Areas → Type 0
Leaves texts standing c = LeavesText standing.first.loose (text_at texts standing.first) c.first
    × LeavesText standing.second.loose (text_at texts standing.second) c.second

-- a crash at one of these moments leaves this
abbrev pub HadLeft : List ℕ → List Standing → Areas → Type 0
HadLeft texts [] c = ⊥
HadLeft texts (standing ∷ past) c = Leaves texts standing c ⊎ HadLeft texts past c

-- a crash since moment t leaves this
abbrev pub LeftSince : List ℕ → List Standing → Standing → ℕ → Areas → Type 0
LeftSince texts past now t c = Leaves texts now c ⊎ HadLeft texts (drop t past) c

-- what is known of it
abbrev pub account_at : List ℕ → List Standing → Standing → ℕ → VaultAccount
account_at texts past now faults = record {
  areas = Some (areas_at texts now);
  may_leave = Leaves texts now;
  moment = length past;
  left_since = LeftSince texts past now;
  faults = faults;
}

abbrev pub account_of : VaultContents → VaultAccount
account_of vault = account_at vault.texts vault.past vault.now vault.faults

-- ---- laws

pub LeavesText-itself : (loose : Bool) (text : List ℕ) → LeavesText loose text text
LeavesText-itself false text = refl
LeavesText-itself true text = inl refl

-- what a read gives is among what a crash leaves
pub reads_now :
    (texts : List ℕ) (now : Standing) (a : Areas) →
    Some (areas_at texts now) ≡ Some a → Leaves texts now a
reads_now texts now a told = subst (λ b. Leaves texts now b)
    (ap (λ o. unwrap_or o (areas_at texts now)) told) (
      LeavesText-itself now.first.loose (text_at texts now.first),
      LeavesText-itself now.second.loose (text_at texts now.second),
    )

none_left :
    (texts : List ℕ) (past : List Standing) (c : Areas) →
    HadLeft texts (drop (length past) past) c → ⊥
none_left texts [] c had = had
none_left texts (standing ∷ past) c had = none_left texts past c had

-- since this moment there is no other
pub only_this :
    (texts : List ℕ) (past : List Standing) (now : Standing) (c : Areas) →
    LeftSince texts past now (length past) c → Leaves texts now c
only_this texts past now c (inl left) = left
only_this texts past now c (inr had) = absurd (none_left texts past c had)

-- ---- what holds always

-- a text stands whole among the texts, and is no longer than an area
pub record IsText (texts : List ℕ) (span : Span) : Type 0 where
  pub inside : span.at + span.len ≤ length texts
  pub fits : span.len ≤ area_room

abbrev pub AreTexts : List ℕ → Standing → Type 0
AreTexts texts standing = IsText texts standing.first × IsText texts standing.second

-- a moment more comes with each write, and with each sync after one
abbrev pub due : Bool → ℕ
due true = 1
due false = 0

-- the texts and moments of a vault, and the room for those of 64 writes
pub record IsKept
    (texts : List ℕ) (past : List Standing) (now : Standing) (writes texts_room moments_room : ℕ) :
    Type 0 where
  pub now_whole : AreTexts texts now
  pub past_whole : All (AreTexts texts) past
  pub texts_fit : length texts ≤ (2 + writes) * 65536
  pub moments_fit : length past + due (is_loose now) ≤ 2 * writes
  pub few : writes ≤ 64
  pub room_of_texts : 4325376 ≤ texts_room
  pub room_of_moments : 128 ≤ moments_room
