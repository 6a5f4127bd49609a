-- What a nest keeps besides the tree: how many frames there are, and the pool of free frames.
use Rattle.std.specs.Prelude.{◌≡◌, ℕ, ◌<◌, ◌≤◌, List, length, slice_index_or}
use Rattle.bn_types.specs.Numbers.{AreWhole}
use Rattle.bn_types.specs.declared.frame.Frame.{Frame}
use Rattle.bn_model.specs.Nesting.{Nested, IsNested, IsFree, table_frames}

-- frame i of the pool
abbrev pub listed : List Frame → ℕ → Frame
listed free i = slice_index_or free i (record { 0 = 0 })

-- the pool holds each free frame once, and no other frame
pub record IsPool (n : Nested) : Type 0 where
  pub only : (i : ℕ) → i < length n.free → IsFree n (listed n.free i)
  pub once : (i j : ℕ) → i < length n.free → j < length n.free → listed n.free i ≡ listed n.free j
      → i ≡ j
  pub all : (frame : Frame) → IsFree n frame →
      ((i : ℕ) → i < length n.free → listed n.free i ≡ frame → ⊥) → ⊥

pub record Holds (n : Nested) : Type 0 where
  pub nested : IsNested n
  pub pool : IsPool n
  pub some : 0 < n.ram
  pub most : n.ram ≤ 4096
  pub room : table_frames n.ram ≤ length n.frames
  pub few : length n.frames ≤ 4125
  pub whole : AreWhole n.frames
