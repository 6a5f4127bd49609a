-- Program headers, one after the other.
use Rattle.std.proofs.Common.{◌≡◌, ℕ, suc, ◌+◌, ◌-◌, ◌*◌, ◌≤◌, ◌<◌, ◌&&◌, Bool, true, false, List}
use Rattle.std.proofs.Common.{[], ◌∷◌, length, Result, Ok, Err, nat_le, refl, sym, ◌∙◌, ap, arith}
use Rattle.std.proofs.lemmas.Bool.{false≢true}
use Rattle.std.proofs.lemmas.Bool.Decides.{nat_tests}
use Rattle.bn_types.specs.declared.image_fault.ImageFault.{ImageFault}
use Rattle.bn_types.specs.declared.image_sort.ImageSort.{ImageSort}
use Rattle.bn_types.specs.declared.image_sort.ImageSort.TheVariants.{Sizes, Bytes, Range}
use Rattle.bn_model.specs.Images.{Header, ◌>>=◌, all_checked, counts, has_segment, header_at}
use Rattle.bn_model.specs.Images.{header_checked, is_in_ram, places, places_from, ram_base}
use Rattle.bn_model.specs.Images.{segment_checked, test, with_segment_if, with_segments}
use Rattle.bn_types.specs.Numbers.{number_at}
use Rattle.bn_types.specs.declared.width.Width.TheVariants.{B2, B8}
use Rattle.bn_loader.specs.Segments.{Fits}

-- ---- places

pub places_on : (first count i : ℕ) → i < count →
    places_from (first + 56 * i) (count - i) ≡
    (first + 56 * i) ∷ places_from (first + 56 * (i + 1)) (count - (i + 1))
places_on first count i within = go (count - i) (omega arith)
  where
    go : (left : ℕ) → left ≡ suc (count - (i + 1)) →
        places_from (first + 56 * i) left ≡
        (first + 56 * i) ∷ places_from (first + 56 * (i + 1)) (count - (i + 1))
    go left e =
        let next : first + 56 * i + 56 ≡ first + 56 * (i + 1) = omega arith in
        rw e (ap (λ (x : ℕ). (first + 56 * i) ∷ places_from x (count - (i + 1))) next)

pub places_over : (first count i : ℕ) → count ≤ i → places_from (first + 56 * i) (count - i) ≡ []
places_over first count i over = let none : count - i ≡ 0 = omega arith in rw none refl

pub places_first : (first count : ℕ)
    → places_from first count ≡ places_from (first + 56 * 0) (count - 0)
places_first first count =
    let place : first + 56 * 0 ≡ first = omega arith in let left : count - 0 ≡ count =
    omega arith in rw (place, left) refl

-- ---- tests

pub good_header : (size : ℕ) (file : List ℕ) (place : ℕ) (places : List ℕ)
    → header_checked size file place ≡ Ok tt →
    all_checked size file (place ∷ places) ≡ all_checked size file places
unfolding all_checked
good_header size file place places h = rw h refl

pub bad_header : (size : ℕ) (file : List ℕ) (place : ℕ) (places : List ℕ) (fault : ImageFault)
    → header_checked size file place ≡ Err fault →
    all_checked size file (place ∷ places) ≡ Err fault
unfolding all_checked
bad_header size file place places fault h = rw h refl

pub no_headers : (size : ℕ) (file : List ℕ) → all_checked size file [] ≡ Ok tt
unfolding all_checked
no_headers size file = refl

abbrev refused : ImageFault → Result (Unit {0}) ImageFault
refused fault = Err fault

ok-err : (fault : ImageFault) → refused fault ≡ Ok tt → ⊥
ok-err fault h = grind arith

pub good_from : (size : ℕ) (file : List ℕ) (place : ℕ) (places : List ℕ)
    → all_checked size file (place ∷ places) ≡ Ok tt →
    header_checked size file place ≡ Ok tt
unfolding all_checked
good_from size file place places h = go (header_checked size file place) refl h
  where
    go : (checked : Result (Unit {0}) ImageFault) → header_checked size file place ≡ checked
        → (checked >>= (λ done. all_checked size file places)) ≡ Ok tt →
        header_checked size file place ≡ Ok tt
    go (Ok tt) e h = e
    go (Err fault) e h = absurd (ok-err fault h)

passed : (passes : Bool) (what : ImageSort) (at : ℕ)
    (next : Unit {0} → Result (Unit {0}) ImageFault) →
    (test passes what at >>= next) ≡ Ok tt → (passes ≡ true) × (next tt ≡ Ok tt)
passed true what at next h = (refl, h)
passed false what at next h = absurd (ok-err _ h)

last_passed : (passes : Bool) (what : ImageSort) (at : ℕ) → test passes what at ≡ Ok tt
    → passes ≡ true
last_passed true what at h = refl
last_passed false what at h = absurd (ok-err _ h)

both : (a b : Bool) → (a && b) ≡ true → (a ≡ true) × (b ≡ true)
both true b h = (refl, h)
both false b h = absurd (false≢true h)

le_from : (m n : ℕ) → nat_le m n ≡ true → m ≤ n
le_from m n h = grind (arith, nat_tests)

pub fits_from : (size len place : ℕ) (header : Header)
    → segment_checked size len place header ≡ Ok tt → Fits len size header
fits_from size len place header h =
    let sizes = passed (nat_le header.in_file header.in_memory) Sizes (place + 32) _ h in
    let bytes = passed (nat_le (header.offset + header.in_file) len) Bytes (place + 8) _ sizes.1 in
    let range = both (nat_le ram_base header.address)
    (nat_le (header.address + header.in_memory) (ram_base + size))
    (last_passed (is_in_ram size header.address header.in_memory) Range (place + 24) bytes.1) in
    record {
      sizes = le_from header.in_file header.in_memory sizes.0;
      bytes = le_from (header.offset + header.in_file) len bytes.0;
      low = le_from ram_base header.address range.0;
      high = le_from (header.address + header.in_memory) (ram_base + size) range.1;
    }

pub fits_counted : (size : ℕ) (file : List ℕ) (place : ℕ) → header_checked size file place ≡ Ok tt →
    counts (header_at file place) ≡ true → Fits (length file) size (header_at file place)
unfolding header_checked
fits_counted size file place h counted =
    fits_from size (length file) place (header_at file place) (rw counted at h)

-- ---- placing

pub one_placed : (file : List ℕ) (place : ℕ) (places ram : List ℕ) →
    with_segments file (place ∷ places) ram
    ≡ with_segments file places
    (with_segment_if (counts (header_at file place)) file (header_at file place) ram)
unfolding with_segments
one_placed file place places ram = refl

pub none_placed : (file ram : List ℕ) → with_segments file [] ram ≡ ram
unfolding with_segments
none_placed file ram = refl

-- ---- whether some header counts

pub segment_here : (file : List ℕ) (place : ℕ) (places : List ℕ)
    → counts (header_at file place) ≡ true → has_segment file (place ∷ places) ≡ true
unfolding has_segment
segment_here file place places h = rw h refl

pub segment_later : (file : List ℕ) (place : ℕ) (places : List ℕ)
    → counts (header_at file place) ≡ false
    → has_segment file (place ∷ places) ≡ has_segment file places
unfolding has_segment
segment_later file place places h = rw h refl

pub segment_none : (file : List ℕ) → has_segment file [] ≡ false
unfolding has_segment
segment_none file = refl

-- ---- one step of a loop over the headers

pub places_at : (file : List ℕ) (first count : ℕ) → first ≡ number_at B8 file 32
    → count ≡ number_at B2 file 56 → places file ≡ places_from first count
unfolding places
places_at file first count f c = rw (f, c) refl

pub check_on : (size : ℕ) (file : List ℕ) (first count i : ℕ) → i < count
    → header_checked size file (first + 56 * i) ≡ Ok tt →
    all_checked size file (places_from (first + 56 * i) (count - i)) ≡
    all_checked size file (places_from (first + 56 * (i + 1)) (count - (i + 1)))
check_on size file first count i within h =
    ap (all_checked size file) (places_on first count i within)
    ∙ good_header size file (first + 56 * i)
    (places_from (first + 56 * (i + 1)) (count - (i + 1))) h

pub check_bad : (size : ℕ) (file : List ℕ) (first count i : ℕ) (fault : ImageFault) → i < count
    → header_checked size file (first + 56 * i) ≡ Err fault →
    all_checked size file (places_from (first + 56 * i) (count - i)) ≡ Err fault
check_bad size file first count i fault within h =
    ap (all_checked size file) (places_on first count i within)
    ∙ bad_header size file (first + 56 * i) (places_from (first + 56 * (i + 1)) (count - (i + 1)))
    fault h

pub check_over : (size : ℕ) (file : List ℕ) (first count i : ℕ) → count ≤ i →
    all_checked size file (places_from (first + 56 * i) (count - i)) ≡ Ok tt
check_over size file first count i over =
    ap (all_checked size file) (places_over first count i over) ∙ no_headers size file

pub checked_here : (size : ℕ) (file : List ℕ) (first count i : ℕ) → i < count →
    all_checked size file (places_from (first + 56 * i) (count - i)) ≡ Ok tt
    → header_checked size file (first + 56 * i) ≡ Ok tt
checked_here size file first count i within h =
    good_from size file (first + 56 * i) (places_from (first + 56 * (i + 1)) (count - (i + 1)))
    (sym (ap (all_checked size file) (places_on first count i within)) ∙ h)

pub segment_found : (file : List ℕ) (first count i : ℕ) → i < count
    → counts (header_at file (first + 56 * i)) ≡ true →
    has_segment file (places_from (first + 56 * i) (count - i)) ≡ true
segment_found file first count i within h =
    ap (has_segment file) (places_on first count i within)
    ∙ segment_here file (first + 56 * i) (places_from (first + 56 * (i + 1)) (count - (i + 1))) h

pub segment_on : (file : List ℕ) (first count i : ℕ) → i < count
    → counts (header_at file (first + 56 * i)) ≡ false →
    has_segment file (places_from (first + 56 * i) (count - i)) ≡
    has_segment file (places_from (first + 56 * (i + 1)) (count - (i + 1)))
segment_on file first count i within h =
    ap (has_segment file) (places_on first count i within)
    ∙ segment_later file (first + 56 * i) (places_from (first + 56 * (i + 1)) (count - (i + 1))) h

pub segment_over : (file : List ℕ) (first count i : ℕ) → count ≤ i
    → has_segment file (places_from (first + 56 * i) (count - i)) ≡ false
segment_over file first count i over = ap (has_segment file) (places_over first count i over)
    ∙ segment_none file

pub place_on : (file : List ℕ) (first count i : ℕ) (ram : List ℕ) → i < count →
    with_segments file (places_from (first + 56 * i) (count - i)) ram
    ≡ with_segments file (places_from (first + 56 * (i + 1)) (count - (i + 1)))
    (with_segment_if (counts (header_at file (first + 56 * i))) file
    (header_at file (first + 56 * i)) ram)
place_on file first count i ram within =
    ap (λ (ps : List ℕ). with_segments file ps ram) (places_on first count i within)
    ∙ one_placed file (first + 56 * i) (places_from (first + 56 * (i + 1)) (count - (i + 1))) ram

pub place_over : (file : List ℕ) (first count i : ℕ) (ram : List ℕ) → count ≤ i →
    with_segments file (places_from (first + 56 * i) (count - i)) ram ≡ ram
place_over file first count i ram over =
    ap (λ (ps : List ℕ). with_segments file ps ram) (places_over first count i over)
    ∙ none_placed file ram
