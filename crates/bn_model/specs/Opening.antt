-- The state in which a run begins.
use Rattle.std.specs.Prelude.{ℕ, ◌-◌, ◌*◌, false, List, [], ◌∷◌, map, take, drop, replicate}
use Rattle.std.specs.List.{range_with_len}
use Rattle.bn_types.specs.declared.record.Record.{Record}
use Rattle.bn_model.specs.State.{Hart, State, opening_hart, resting_hart}

-- what an image file leaves: the bytes of all RAM, and the address at which hart 0 starts
pub record Image : Type 0 where
  pub bytes : List ℕ
  pub entry : ℕ

-- page g of some bytes
abbrev pub page_of : List ℕ → ℕ → List ℕ
page_of bytes g = take 4096 (drop (4096 * g) bytes)

-- the first pages of some bytes
unfoldable pub pages_of : ℕ → List ℕ → List (List ℕ)
pages_of count bytes = map (page_of bytes) (range_with_len 0 count)

-- hart 0 is started at the entry in mode S, with all registers and CSRs as at reset; the other
-- harts rest
abbrev pub opening_harts : ℕ → ℕ → List Hart
opening_harts harts entry = opening_hart entry ∷ replicate (harts - 1) resting_hart

unfoldable pub opening : (pages harts : ℕ) → Image → List Record → State
opening pages harts image records = record {
  pages = pages_of pages image.bytes;
  harts = opening_harts harts image.entry;
  rows = [];
  records = records;
  keys = [];
  next = 1;
  clock = 0;
  off = false;
}
