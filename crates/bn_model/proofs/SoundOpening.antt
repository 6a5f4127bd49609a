-- The opening state is sound.
use Rattle.std.proofs.Common.{◌≡◌, ℕ, zero, suc, ◌-◌, ◌*◌, ◌^◌, ◌<◌, ◌≤◌}
use Rattle.std.proofs.Common.{false, drop, get_or, length, List, [], replicate}
use Rattle.std.proofs.Common.{refl, arith, length-drop}
use Rattle.std.proofs.lemmas.List.{length-replicate, length-take-le}
use Rattle.std.proofs.lemmas.List.Elements.{All-cons, All-drop, All-nil, All-replicate, All-take}
use Rattle.std.proofs.lemmas.List.FromFn.{length-map-range_with_len}
use Rattle.std.proofs.lemmas.Option.{none-some}
use Rattle.std.specs.List.{All}
use Rattle.bn_types.specs.declared.record.Record.{Record}
use Rattle.bn_types.specs.declared.row_state.RowState.TheVariants.{Idle, Running, Waiting}
use Rattle.bn_model.specs.Opening.{Image, opening, opening_harts, page_of, pages_of}
use Rattle.bn_model.specs.Owners.{claims}
use Rattle.bn_model.specs.Rows.{enclaves, owners}
use Rattle.bn_model.specs.Soundness.{AreAsleep, AreStates, HasClaims}
use Rattle.bn_model.specs.Soundness.{HasFewAcceptances, HasIds, HaveModes, IsHart, IsPc}
use Rattle.bn_model.specs.Soundness.{IsRow, IsSound, module_of}
use Rattle.bn_model.specs.SoundnessLaws.{FitsOpening}
use Rattle.bn_model.specs.State.{Hart, opening_hart, resting_hart, untrusted}
use Rattle.bn_model.proofs.PagesKept.{IsPage}
use Rattle.bn_model.proofs.RegisterLemmas.{AreCsrs-reset, AreRegisters-zero, IsPc-zero}
use Rattle.bn_model.proofs.SegmentFacts.{all_of_map}

no-ids : HasIds (enclaves []) 1
unfolding enclaves
no-ids = record {
  few = omega arith;
  ascend = tt;
  first = omega arith;
  last = omega arith;
  distinct = tt;
}

no-claims : (ram : ℕ) → HasClaims (enclaves []) (owners []) ram
unfolding enclaves owners claims
no-claims ram = record {
  ordered = tt;
  alone = λ one other h k. absurd h;
  one_offer = λ one other h k. absurd h;
  orphan = λ one other h k. absurd h;
  accepted = λ one offering decl h. absurd h;
  sources = λ one h. absurd h;
}

no-acceptances : HasFewAcceptances (owners [])
unfolding owners claims
no-acceptances page = omega arith

rest-module : (n k : ℕ) → (get_or (replicate n resting_hart) k resting_hart).current.0 ≡ zero
rest-module zero k = refl
rest-module (suc n) zero = refl
rest-module (suc n) (suc k) = rest-module n k

opening-module : (harts entry h : ℕ) → module_of (opening_harts harts entry) h ≡ zero
opening-module harts entry zero = refl
opening-module harts entry (suc k) = rest-module (harts - 1) k

no-states : (harts entry : ℕ) → AreStates (opening_harts harts entry) []
no-states harts entry = record {
  running = λ id h e. absurd (none-some (Running h) e);
  current = λ h m e. let none = opening-module harts entry h in absurd (omega (arith, none, e));
  waiting = λ id callee e. absurd (none-some (Waiting callee) e);
  called = λ id c e. absurd cc;
  idle = λ id e. absurd (none-some Idle e);
  ends = λ id callee e. absurd (none-some (Waiting callee) e);
  not_zero = refl;
}

IsAsleep : Hart → Type 0
IsAsleep hart = hart.started ≡ false → hart.current ≡ untrusted

no-one-asleep : (harts entry : ℕ) → AreAsleep (opening_harts harts entry)
unfolding IsAsleep
no-one-asleep harts entry =
    All-cons IsAsleep (opening_hart entry) (replicate (harts - 1) resting_hart) (λ e. refl)
    (All-replicate IsAsleep (harts - 1) resting_hart (λ e. refl))

resting-is : IsHart 0 resting_hart
resting-is = record {
  regs = AreRegisters-zero;
  pc = IsPc-zero;
  csrs = AreCsrs-reset;
  timer = omega arith;
  retired = omega arith;
  small = omega arith;
}

opening-is : (entry : ℕ) → IsPc entry → IsHart 0 (opening_hart entry)
opening-is entry p = record {
  regs = AreRegisters-zero;
  pc = p;
  csrs = AreCsrs-reset;
  timer = omega arith;
  retired = omega arith;
  small = omega arith;
}

opening-harts : (harts entry : ℕ) → IsPc entry → All (IsHart 0) (opening_harts harts entry)
opening-harts harts entry p =
    All-cons (IsHart 0) (opening_hart entry) (replicate (harts - 1) resting_hart)
    (opening-is entry p) (All-replicate (IsHart 0) (harts - 1) resting_hart resting-is)

opening-modes : (harts : List Hart) → HaveModes harts []
opening-modes harts k d lt = tt

opening-count : (harts entry : ℕ) → 1 ≤ harts → length (opening_harts harts entry) ≡ harts
opening-count harts entry least =
    let rest : length (replicate (harts - 1) resting_hart) ≡ harts - 1 =
    length-replicate (harts - 1) resting_hart in
    omega arith

page-is : (count : ℕ) (bytes : List ℕ) → length bytes ≡ 4096 * count
    → All (λ byte. byte < 2 ^ 8) bytes → (g : ℕ) → g < count → IsPage (page_of bytes g)
page-is count bytes long small g below =
    let rest : length (drop (4096 * g) bytes) ≡ length bytes - 4096 * g =
    length-drop (4096 * g) bytes in (
      length-take-le 4096 (drop (4096 * g) bytes) (omega arith),
      All-take (λ byte. byte < 2 ^ 8) 4096 (drop (4096 * g) bytes)
          (All-drop (λ byte. byte < 2 ^ 8) (4096 * g) bytes small),
    )

pages-size : (count : ℕ) (bytes : List ℕ) → length (pages_of count bytes) ≡ count
unfolding pages_of
pages-size count bytes = length-map-range_with_len (page_of bytes) 0 count

pages-are : (count : ℕ) (bytes : List ℕ) → length bytes ≡ 4096 * count
    → All (λ byte. byte < 2 ^ 8) bytes → All IsPage (pages_of count bytes)
unfolding pages_of
pages-are count bytes long small =
    all_of_map IsPage (page_of bytes) count (page-is count bytes long small)

pub opening-sound : (pages harts : ℕ) (image : Image) (records : List Record)
    → FitsOpening pages harts image records → IsSound (opening pages harts image records)
unfolding opening
opening-sound pages harts image records fits =
    let size : length (pages_of pages image.bytes) ≡ pages = pages-size pages image.bytes in
    let count : length (opening_harts harts image.entry) ≡ harts =
    opening-count harts image.entry fits.some_harts in
    let some : 1 ≤ harts = fits.some_harts in
    let few : harts ≤ 4 = fits.few_harts in
    let some_ram : 1 ≤ pages = fits.some_pages in
    let few_ram : pages ≤ 4096 = fits.few_pages in
    record {
      ids = no-ids;
      claims = no-claims (length (pages_of pages image.bytes));
      acceptances = no-acceptances;
      states = no-states harts image.entry;
      asleep = no-one-asleep harts image.entry;
      modes = opening-modes (opening_harts harts image.entry);
      rows = All-nil IsRow;
      harts = opening-harts harts image.entry fits.entry;
      some_harts = omega arith;
      few_harts = omega arith;
      some_pages = omega arith;
      few_pages = omega arith;
      pages = pages-are pages image.bytes fits.size fits.bytes;
      few_keys = omega arith;
      keys = All-nil (λ key. key < 2 ^ 8);
      records = fits.good_order;
    }
