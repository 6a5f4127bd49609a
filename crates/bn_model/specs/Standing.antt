-- When the parts of a machine stand for a state of the flat machine.
use Rattle.std.specs.Prelude.{◌≡◌, ℕ, List, Bool}
use Rattle.bn_types.specs.declared.record.Record.{Record}
use Rattle.bn_types.specs.declared.row.Row.{Row}
use Rattle.bn_model.specs.Nesting.{IsNested, Nested, contents}
use Rattle.bn_model.specs.State.{Hart, State}

-- the parts of a machine
pub record Parts : Type 0 where
  -- its frames, with the nested tables in them
  pub nest : Nested
  pub harts : List Hart
  -- the live modules, by ascending id
  pub rows : List Row
  -- the words that modules keep beyond their lives
  pub records : List Record
  -- the keys that wait, the oldest first
  pub keys : List ℕ
  -- the id that the next launch gives
  pub next : ℕ
  -- how many events were made
  pub clock : ℕ
  -- the guest has shut the machine down
  pub off : Bool

pub record StandsFor (parts : Parts) (s : State) : Type 0 where
  -- each guest page has the bytes of its frame, and an unplaced page has zeros
  pub contents : s.pages ≡ contents parts.nest
  -- the bytes of the tables' frames are the tree of the placement, which leads no page to a table's
  -- frame and no two pages to one frame
  pub nested : IsNested parts.nest
  pub harts : s.harts ≡ parts.harts
  pub rows : s.rows ≡ parts.rows
  pub records : s.records ≡ parts.records
  pub keys : s.keys ≡ parts.keys
  pub next : s.next ≡ parts.next
  pub clock : s.clock ≡ parts.clock
  pub off : s.off ≡ parts.off

-- the state for which they stand
abbrev pub state_of : Parts → State
state_of parts = record {
  pages = contents parts.nest;
  harts = parts.harts;
  rows = parts.rows;
  records = parts.records;
  keys = parts.keys;
  next = parts.next;
  clock = parts.clock;
  off = parts.off;
}
