-- Pages, keys and records keep their sizes and ranges, after each turn.
use Rattle.std.proofs.Common.{◌≡◌, ℕ, zero, suc, ◌+◌, ◌-◌, ◌%◌, ◌^◌, ◌<◌, ◌≤◌, ◌==◌, ◌⊎◌, Bool}
use Rattle.std.proofs.Common.{true, false, length, List, [], ◌∷◌, ◌++◌, drop}
use Rattle.std.proofs.Common.{take, slice_get, Option, Some, None, option_map, Result, Ok, Err}
use Rattle.std.proofs.Common.{inl, inr, refl, sym, ap, subst, ◌∙◌, arith, eqb-true, length-append}
use Rattle.std.proofs.Common.{length-drop, ltb-true}
use Rattle.std.proofs.lemmas.Bool.{cases_lt}
use Rattle.std.proofs.lemmas.List.{length-replicate, length-take-le, set_past}
use Rattle.std.proofs.lemmas.List.Elements.{All-append, All-cons, All-drop, All-get_or}
use Rattle.std.proofs.lemmas.List.Elements.{All-nil, All-push, All-replicate, All-set, All-tail}
use Rattle.std.proofs.lemmas.List.Elements.{All-take}
use Rattle.std.specs.Int.{byte_at, bytes_low_first}
use Rattle.std.specs.List.{All, list_any}
use Rattle.std.specs.Prelude.{nat_lt}
use Rattle.bn_types.specs.Numbers.{bytes_of, low_bytes, page_at, with_number, zero_page}
use Rattle.bn_types.specs.declared.asker.Asker.{Asker}
use Rattle.bn_types.specs.declared.cause.Cause.{Cause}
use Rattle.bn_types.specs.declared.kind.Kind.{Kind}
use Rattle.bn_types.specs.declared.kind.Kind.TheVariants as kind
use Rattle.bn_types.specs.declared.row.Row.{Row}
use Rattle.bn_types.specs.declared.width.Width.{Width}
use Rattle.bn_types.specs.declared.width.Width.TheVariants.{B1, B2, B4, B8}
use Rattle.bn_model.specs.declared.owner.Owner.{Owner}
use Rattle.bn_model.specs.declared.place.Place.{Place}
use Rattle.bn_model.specs.Accessing.{access, pages_with, place_by_walk}
use Rattle.bn_model.specs.Accessing.{place_if_admitted, place_if_aligned, place_if_in_ram, place_on}
use Rattle.bn_model.specs.Accessing.{walk_by}
use Rattle.bn_model.specs.Admission.{admits}
use Rattle.bn_model.specs.Deciding.{identity_if_some, identity_of, is_enclave}
use Rattle.bn_model.specs.Decision.{Decision, Trap, Deny, Store, TakeKey, Evict, SetWord}
use Rattle.bn_model.specs.Evicting.{evicted_rows, is_given_up, page_left, pages_left, zeros_if}
use Rattle.bn_model.specs.Memory.{Memory, visible}
use Rattle.bn_model.specs.Owners.{claims}
use Rattle.bn_model.specs.Records.{AreRecords}
use Rattle.bn_model.specs.Rows.{Enclave, enclave_of, enclaves, has_id, owners, row_of}
use Rattle.bn_model.specs.Soundness.{AreRegisters, IsRow}
use Rattle.bn_model.specs.State.{Hart, State, asker, memory, value_of}
use Rattle.bn_model.specs.Stepping.{after_trap_in, after_turn, has_room, keys_after}
use Rattle.bn_model.specs.Stepping.{pages_after_poke}
use Rattle.bn_model.specs.Walking.{Landing, access_fault, guest_page, vpn_of}
use Rattle.bn_model.proofs.AsleepKept.{All-each}
use Rattle.bn_model.proofs.Evidence.{Holds}
use Rattle.bn_model.proofs.JudgedLemmas.{all-got, byte-small, seen-page}
use Rattle.bn_model.proofs.Judgements.{same-ok}
use Rattle.bn_model.proofs.MembershipLemmas.{has-find}
use Rattle.bn_model.proofs.ModesKept.{all-of}
use Rattle.bn_model.proofs.RecordLemmas.{AreRecords-set_word}
use Rattle.bn_model.proofs.RegisterLemmas.{any-register}
use Rattle.bn_model.proofs.TestLemmas.{find-map}

-- a page of 4,096 bytes
abbrev pub IsPage : List ℕ → Type 0
IsPage page = (length page ≡ 4096) × All (λ byte. byte < 2 ^ 8) page

-- ---- numbers in pages

low-small : (i k n : ℕ) → All (λ byte. byte < 2 ^ 8) (bytes_low_first i k n)
low-small i zero n = All-nil (λ byte. byte < 2 ^ 8)
low-small i (suc k) n =
    All-cons (λ byte. byte < 2 ^ 8) (byte_at i n) (bytes_low_first (suc i) k n) (byte-small i n)
    (low-small (suc i) k n)

low-length : (width : Width) (value : ℕ) → length (low_bytes width value) ≡ bytes_of width
low-length B1 value = refl
low-length B2 value = refl
low-length B4 value = refl
low-length B8 value = refl

low-bytes : (width : Width) (value : ℕ) → All (λ byte. byte < 2 ^ 8) (low_bytes width value)
low-bytes B1 value = low-small 0 1 _
low-bytes B2 value = low-small 0 2 _
low-bytes B4 value = low-small 0 4 _
low-bytes B8 value = low-small 0 8 _

with-length : (width : Width) (page : List ℕ) (offset value : ℕ) → length page ≡ 4096
    → offset + bytes_of width ≤ 4096 → length (with_number width page offset value) ≡ 4096
unfolding with_number
with-length width page offset value long most =
    let front : List ℕ = take offset page ++ low_bytes width value in
    let back : List ℕ = drop (offset + bytes_of width) page in
    let one : length (front ++ back) ≡ length front + length back = length-append front back in
    let two : length front ≡ length (take offset page) + length (low_bytes width value) =
    length-append (take offset page) (low_bytes width value) in
    let three : length (take offset page) ≡ offset = length-take-le offset page (omega arith) in
    let four : length back ≡ length page - (offset + bytes_of width) =
    length-drop (offset + bytes_of width) page in
    let five : length (low_bytes width value) ≡ bytes_of width = low-length width value in
    omega arith

with-bytes : (width : Width) (page : List ℕ) (offset value : ℕ) → All (λ byte. byte < 2 ^ 8) page
    → All (λ byte. byte < 2 ^ 8) (with_number width page offset value)
unfolding with_number
with-bytes width page offset value all =
    All-append (λ byte. byte < 2 ^ 8) (take offset page ++ low_bytes width value)
    (drop (offset + bytes_of width) page)
    (All-append (λ byte. byte < 2 ^ 8) (take offset page) (low_bytes width value)
    (All-take (λ byte. byte < 2 ^ 8) offset page all) (low-bytes width value))
    (All-drop (λ byte. byte < 2 ^ 8) (offset + bytes_of width) page all)

pub IsPage-with : (width : Width) (page : List ℕ) (offset value : ℕ) → IsPage page
    → offset + bytes_of width ≤ 4096 → IsPage (with_number width page offset value)
IsPage-with width page offset value is most =
    (with-length width page offset value is.0 most, with-bytes width page offset value is.1)

pub IsPage-zero : IsPage zero_page
unfolding zero_page
IsPage-zero = (
  length-replicate {A = ℕ} 4096 0,
  All-replicate (λ byte. byte < 2 ^ 8) 4096 0 (omega arith),
)

-- ---- one page changed

pub pages-with : (pages : List (List ℕ)) (width : Width) (value : ℕ) (place : Place)
    → All IsPage pages → place.offset + bytes_of width ≤ 4096
    → All IsPage (pages_with pages width value place)
pages-with pages width value place all most = by_place (cases_lt place.page.0 (length pages))
  where
    by_place : (place.page.0 < length pages) ⊎ (length pages ≤ place.page.0)
        → All IsPage (pages_with pages width value place)
    by_place (inl within) =
        All-set IsPage pages place.page.0 _
        (IsPage-with width (page_at pages place.page.0) place.offset value
        (All-get_or IsPage pages place.page.0 [] within all) most) all
    by_place (inr past) = subst (All IsPage) (sym (set_past pages place.page.0 _ past)) all

-- ---- where an access comes

-- an access that is a multiple of its width stays in its page
within-page : (width : Width) (va : ℕ) → va % bytes_of width ≡ 0 → va % 4096 + bytes_of width ≤ 4096
within-page B1 va e = omega arith
within-page B2 va e = omega arith
within-page B4 va e = omega arith
within-page B8 va e = omega arith

offset-admitted : (b : Bool) (kind : Kind) (va page : ℕ) (place : Place)
    → place_if_admitted b kind va page ≡ Ok place → place.offset ≡ va % 4096
offset-admitted false kind va page place e = absurd cc
offset-admitted true kind va page place e =
    ap (λ (p : Place). p.offset)
    (sym (same-ok (record { page = record { 0 = page }; offset = va % 4096 }) place e))

offset-in-ram : (b : Bool) (m : Memory) (who : Asker) (kind : Kind) (va page : ℕ) (place : Place)
    → place_if_in_ram b m who kind va page ≡ Ok place → place.offset ≡ va % 4096
offset-in-ram false m who kind va page place e = absurd cc
offset-in-ram true m who kind va page place e =
    offset-admitted (admits m.owners who.«module».0 (vpn_of va) page kind) kind va page place e

offset-on : (m : Memory) (who : Asker) (kind : Kind) (va : ℕ) (page : Option ℕ) (place : Place)
    → place_on m who kind va page ≡ Ok place → place.offset ≡ va % 4096
offset-on m who kind va None place e = absurd cc
offset-on m who kind va (Some page) place e =
    offset-in-ram (nat_lt page (length m.pages)) m who kind va page place e

offset-walk : (m : Memory) (who : Asker) (kind : Kind) (va : ℕ) (walk : Result Landing Cause)
    (place : Place) → place_by_walk m who kind va walk ≡ Ok place → place.offset ≡ va % 4096
offset-walk m who kind va (Err cause) place e = absurd cc
offset-walk m who kind va (Ok landing) place e =
    offset-on m who kind va (guest_page landing.ppn) place e

offset-aligned : (b : Bool) (m : Memory) (who : Asker) (va : ℕ) (width : Width) (place : Place)
    → (va % bytes_of width == 0) ≡ b
    → place_if_aligned b m who kind.Store va ≡ Ok place → place.offset + bytes_of width ≤ 4096
offset-aligned false m who va width place a e = absurd cc
offset-aligned true m who va width place a e =
    subst (λ (n : ℕ). n + bytes_of width ≤ 4096)
    (sym (offset-walk m who kind.Store va (walk_by m who kind.Store va) place e))
    (within-page width va (eqb-true (va % bytes_of width) 0 a))

-- a store stays in its page
pub store-within : (m : Memory) (who : Asker) (va : ℕ) (width : Width) (place : Place)
    → access m who kind.Store va width ≡ Ok place → place.offset + bytes_of width ≤ 4096
unfolding access
store-within m who va width place e =
    offset-aligned (va % bytes_of width == 0) m who va width place refl e

-- ---- pages

pub left-pages : (gone : List Row) (own : List Owner) (pages : List (List ℕ)) → All IsPage pages
    → All IsPage (pages_left gone own pages)
unfolding pages_left
left-pages gone own pages all =
    All-each IsPage (page_left gone own)
    (λ page bytes is. by_test (list_any (is_given_up gone page) (claims own)) bytes is) 0 pages all
  where
    by_test : (b : Bool) (bytes : List ℕ) → IsPage bytes → IsPage (zeros_if b bytes)
    by_test true bytes is = IsPage-zero
    by_test false bytes is = is

pub poked-pages : (os : List Owner) (pages : List (List ℕ)) (page offset byte : ℕ)
    (seen : Option (Option (List ℕ)))
    → slice_get (visible (record { pages = pages; owners = os })) page ≡ seen → offset < 4096
    → All IsPage pages → All IsPage (pages_after_poke seen pages page offset byte)
poked-pages os pages page offset byte None e below all = all
poked-pages os pages page offset byte (Some None) e below all = all
poked-pages os pages page offset byte (Some (Some bytes)) e below all =
    All-set IsPage pages page _
    (IsPage-with B1 bytes offset byte
    (all-got IsPage pages page bytes all (seen-page os pages page bytes e)) (omega arith)) all

trap-pages : (current : ℕ) (s : State) (h : ℕ) (hart : Hart) (cause : Cause) (value : ℕ)
    → All IsPage s.pages → All IsPage (after_trap_in current s h hart cause value).pages
trap-pages zero s h hart cause value all = all
trap-pages (suc m) s h hart cause value all = all

pub turn-pages : (s : State) (h : ℕ) (hart : Hart) → All IsPage s.pages → (d : Decision)
    → Holds s h hart d → All IsPage (after_turn s h hart d).pages
unfolding Holds
turn-pages s h hart all (Trap cause value) e = trap-pages hart.current.0 s h hart cause value all
turn-pages s h hart all (Deny kind va) e =
    trap-pages hart.current.0 s h hart (access_fault kind) va all
turn-pages s h hart all (Store place width value) e =
    pages-with s.pages width value place all
    (store-within (memory s) (asker h hart) e.va width place e.reached)
turn-pages s h hart all (Evict rd id count) e =
    left-pages (evicted_rows s.rows id) (owners s.rows) s.pages all
turn-pages s h hart all d e = all

-- ---- keys

pub record AreKeys (keys : List ℕ) : Type 0 where
  pub few : length keys ≤ 256
  pub small : All (λ key. key < 2 ^ 8) keys

pub AreKeys-after : (b : Bool) (keys : List ℕ) (key : ℕ) → has_room keys ≡ b → key < 2 ^ 8
    → AreKeys keys → AreKeys (keys_after b keys key)
AreKeys-after true keys key room small k =
    let below : length keys < 256 = ltb-true (length keys) 256 room in
    let more : length (keys ++ key ∷ []) ≡ length keys + 1 = length-append keys (key ∷ []) in
    record { few = omega arith; small = All-push (λ key. key < 2 ^ 8) keys key k.small small }
AreKeys-after false keys key room small k = k

tail-keys : (keys rest : List ℕ) (key : ℕ) → keys ≡ key ∷ rest → AreKeys keys → AreKeys rest
tail-keys keys rest key e k =
    let most : length keys ≤ 256 = k.few in
    let more : length keys ≡ suc (length rest) = ap length e in
    record {
      few = omega arith;
      small = All-tail (λ key. key < 2 ^ 8) key rest (subst (All (λ key. key < 2 ^ 8)) e k.small);
    }

trap-keys : (current : ℕ) (s : State) (h : ℕ) (hart : Hart) (cause : Cause) (value : ℕ)
    → AreKeys s.keys → AreKeys (after_trap_in current s h hart cause value).keys
trap-keys zero s h hart cause value k = k
trap-keys (suc m) s h hart cause value k = k

pub turn-keys : (s : State) (h : ℕ) (hart : Hart) → AreKeys s.keys → (d : Decision)
    → Holds s h hart d → AreKeys (after_turn s h hart d).keys
unfolding Holds
turn-keys s h hart k (Trap cause value) e = trap-keys hart.current.0 s h hart cause value k
turn-keys s h hart k (Deny kind va) e = trap-keys hart.current.0 s h hart (access_fault kind) va k
turn-keys s h hart k (TakeKey key rest) e = tail-keys s.keys rest key e k
turn-keys s h hart k d e = k

-- ---- records

digest-length : (rows : List Row) (m : ℕ) → All IsRow rows
    → length (identity_of (enclaves rows) m).0 ≡ 32
unfolding enclaves
digest-length rows m all =
    ap (λ (o : Option Enclave). length (identity_if_some o).0)
    (find-map (is_enclave m) (has_id m) enclave_of (λ row. refl) rows) ∙ by_row (row_of rows m) refl
  where
    by_row : (o : Option Row) → row_of rows m ≡ o
        → length (identity_if_some (option_map enclave_of o)).0 ≡ 32
    by_row None e = length-replicate {A = ℕ} 32 0
    by_row (Some row) e = (all-of IsRow rows row all (has-find (has_id m) rows row e)).identity

trap-records : (current : ℕ) (s : State) (h : ℕ) (hart : Hart) (cause : Cause) (value : ℕ)
    → AreRecords s.records → AreRecords (after_trap_in current s h hart cause value).records
trap-records zero s h hart cause value k = k
trap-records (suc m) s h hart cause value k = k

pub turn-records : (s : State) (h : ℕ) (hart : Hart) → All IsRow s.rows → AreRegisters hart.regs
    → AreRecords s.records → (d : Decision) → Holds s h hart d
    → AreRecords (after_turn s h hart d).records
unfolding Holds
turn-records s h hart rows regs k (Trap cause value) e =
    trap-records hart.current.0 s h hart cause value k
turn-records s h hart rows regs k (Deny kind va) e =
    trap-records hart.current.0 s h hart (access_fault kind) va k
turn-records s h hart rows regs k (SetWord rd index records) e =
    subst AreRecords (sym e.is)
    (AreRecords-set_word s.records (identity_of (enclaves s.rows) hart.current.0) index
    (value_of hart e.from)
    (digest-length s.rows hart.current.0 rows) (any-register hart.regs regs e.from.0) e.free k)
turn-records s h hart rows regs k d e = k
