-- What is written where a nest is built, and where a page is led to a frame: entries of tables.
use Rattle.std.specs.Prelude.{◌≡◌, ℕ, ◌+◌, ◌<◌, List, length, map}
use Rattle.std.specs.List.{range_with_len}
use Rattle.bn_types.specs.Numbers.{AreWhole, page_at}
use Rattle.bn_types.specs.declared.frame.Frame.{Frame}
use Rattle.bn_model.specs.Nesting.{entry_at, pointer_to}

-- an entry was written to a table of any level: it is there, and all else is as it was
pub record IsWritten (old new : List (List ℕ)) (table index entry : ℕ) : Type 0 where
  pub long : length new ≡ length old
  pub whole : AreWhole new
  pub here : entry_at new table index ≡ entry
  pub others : (t i : ℕ) → i < 512 → (t ≡ table → i ≡ index → ⊥) → entry_at new t i ≡ entry_at old
      t i
  pub kept : (f : ℕ) → (f ≡ table → ⊥) → page_at new f ≡ page_at old f

-- the first entries of the middle table lead to low tables, and all other entries are as they were
pub record HasMiddle (old new : List (List ℕ)) (count : ℕ) : Type 0 where
  pub long : length new ≡ length old
  pub whole : AreWhole new
  pub middle : (i : ℕ) → i < count → entry_at new 4 i ≡ pointer_to (5 + i)
  pub others : (t i : ℕ) → i < 512 → (t ≡ 4 → i < count → ⊥) → entry_at new t i ≡ entry_at old t i

-- so many frames, from a number on
abbrev pub frame_numbered : ℕ → Frame
frame_numbered n = record { 0 = n }

abbrev pub numbered : ℕ → ℕ → List Frame
numbered first count = map frame_numbered (range_with_len first count)
