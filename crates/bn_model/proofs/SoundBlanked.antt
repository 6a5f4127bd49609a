-- Blanking keeps soundness.
use Rattle.std.proofs.Common.{◌≡◌, ℕ, ◌≤◌, ◌&&◌, Bool, true, false, length, List}
use Rattle.std.proofs.Common.{refl, sym, ap, subst, arith}
use Rattle.std.proofs.lemmas.List.Elements.{All-weaker}
use Rattle.std.specs.List.{All}
use Rattle.bn_types.specs.Registers.{zero_registers}
use Rattle.bn_types.specs.declared.mode.Mode.{Mode}
use Rattle.bn_types.specs.declared.row.Row.{Row}
use Rattle.bn_types.specs.declared.row_state.RowState.{RowState}
use Rattle.bn_types.specs.declared.row_state.RowState.TheVariants.{Idle, Running, Waiting, Stopped}
use Rattle.bn_types.specs.declared.saved_frame.SavedFrame.{SavedFrame}
use Rattle.bn_model.specs.declared.owner.Owner.{Owner}
use Rattle.bn_model.specs.Blanking.{blank, blank_if, blank_page, blank_pages, blank_row, blanked}
use Rattle.bn_model.specs.Blanking.{rests}
use Rattle.bn_model.specs.Evicting.{zeros_if}
use Rattle.bn_model.specs.Owners.{is_live, is_private_page}
use Rattle.bn_model.specs.Rows.{Enclave, enclaves, owners, row_of, with_row}
use Rattle.bn_model.specs.Soundness.{HasClaims, HasFewAcceptances, HasIds}
use Rattle.bn_model.specs.Soundness.{HasModeOf, IsRow, IsSound, SavedFits, caller_at}
use Rattle.bn_model.specs.Soundness.{caller_if_some, module_of, state_at, state_if_some}
use Rattle.bn_model.specs.State.{Hart, State}
use Rattle.bn_model.proofs.AsleepKept.{All-each}
use Rattle.bn_model.proofs.BlankPages.{keeps-blank}
use Rattle.bn_model.proofs.EachLemmas.{length-each}
use Rattle.bn_model.proofs.ModesKept.{mode-steady}
use Rattle.bn_model.proofs.PagesKept.{IsPage, IsPage-zero}
use Rattle.bn_model.proofs.RegisterLemmas.{AreRegisters-zero}
use Rattle.bn_model.proofs.RowLemmas.{enclaves-with_row, owners-with_row, seen-same}
use Rattle.bn_model.proofs.RowsKept.{all-change}
use Rattle.bn_model.proofs.Switches.{unswitched}

blank-frame : SavedFrame → SavedFrame
blank-frame frame = record frame { regs = zero_registers }

saved-blank : (state : RowState) (mode : Mode) (frame : SavedFrame) → SavedFits state mode frame
    → SavedFits state mode (record frame { regs = zero_registers })
unfolding blank-frame
saved-blank Idle mode frame e = ap blank-frame e
saved-blank (Running h) mode frame e = ap blank-frame e
saved-blank (Waiting callee) mode frame e = e
saved-blank Stopped mode frame e = e

IsRow-blank : (row : Row) → IsRow row → IsRow (blank_row row)
IsRow-blank row r = record {
  frames = record {
    saved = saved-blank row.state row.judged.mode row.saved r.frames.saved;
    back = r.frames.back;
  };
  saved = record { regs = AreRegisters-zero; pc = r.saved.pc };
  back = r.back;
  entries = r.entries;
  identity = r.identity;
  digest = r.digest;
  partners = r.partners;
}

blank-size : (os : List Owner) (m : ℕ) (pages : List (List ℕ))
    → length (blank_pages os m pages) ≡ length pages
unfolding blank_pages
blank-size os m pages = length-each (blank_page os m) 0 pages

blank-whole : (os : List Owner) (m : ℕ) (pages : List (List ℕ)) → All IsPage pages
    → All IsPage (blank_pages os m pages)
unfolding blank_pages
blank-whole os m pages all =
    All-each IsPage (blank_page os m)
    (λ page bytes is. by_test (is_private_page os m page) bytes is) 0 pages all
  where
    by_test : (b : Bool) (bytes : List ℕ) → IsPage bytes → IsPage (zeros_if b bytes)
    by_test true bytes is = IsPage-zero
    by_test false bytes is = is

blanked-sound : (m : ℕ) (s : State) → IsSound s → IsSound (blanked m s)
blanked-sound m s sound =
    let others : List Row = with_row m blank_row s.rows in
    let live : enclaves others ≡ enclaves s.rows =
    enclaves-with_row m blank_row keeps-blank s.rows in
    let own : owners others ≡ owners s.rows = owners-with_row m blank_row keeps-blank s.rows in
    let pages : List (List ℕ) = blank_pages (owners s.rows) m s.pages in
    let size : length pages ≡ length s.pages = blank-size (owners s.rows) m s.pages in
    let least : 1 ≤ length s.pages = sound.some_pages in
    let most : length s.pages ≤ 4096 = sound.few_pages in
    record {
      ids = subst (λ (es : List Enclave). HasIds es s.next) (sym live) sound.ids;
      claims = subst (λ (n : ℕ). HasClaims (enclaves others) (owners others) n) (sym size)
          (subst (λ (es : List Enclave). HasClaims es (owners others) (length s.pages)) (sym live)
          (subst (λ (os : List Owner). HasClaims (enclaves s.rows) os (length s.pages)) (sym own)
          sound.claims));
      acceptances = subst HasFewAcceptances (sym own) sound.acceptances;
      states = unswitched (module_of s.harts) (state_at s.rows) (caller_at s.rows) sound.states
          (module_of s.harts) (state_at others) (caller_at others) (λ h. refl)
          (λ id. seen-same state_if_some m blank_row keeps-blank (λ row. refl) id s.rows)
          (λ id. seen-same caller_if_some m blank_row keeps-blank (λ row. refl) id s.rows);
      asleep = sound.asleep;
      modes = All-weaker (λ (hart : Hart). HasModeOf (row_of s.rows hart.current.0) hart.mode)
          (λ (hart : Hart). HasModeOf (row_of others hart.current.0) hart.mode)
          (λ hart has. mode-steady s.rows others live hart.current.0 hart.mode has) s.harts
          sound.modes;
      rows = all-change IsRow m blank_row s.rows sound.rows (λ row has id r. IsRow-blank row r);
      harts = sound.harts;
      some_harts = sound.some_harts;
      few_harts = sound.few_harts;
      some_pages = omega arith;
      few_pages = omega arith;
      pages = blank-whole (owners s.rows) m s.pages sound.pages;
      few_keys = sound.few_keys;
      keys = sound.keys;
      records = sound.records;
    }

pub blank-sound : (m : ℕ) (s : State) → IsSound s → IsSound (blank m s)
unfolding blank
blank-sound m s sound = by_test (is_live (owners s.rows) m && rests m s)
  where
    by_test : (b : Bool) → IsSound (blank_if b m s)
    by_test true = blanked-sound m s sound
    by_test false = sound
