-- Images as they stand in RAM, and fronts of image files.
use Rattle.std.proofs.Common.{◌≡◌, ℕ, ◌+◌, ◌-◌, ◌^◌, ◌%◌, ◌<◌, ◌≤◌, ◌==◌, ◌⊎◌, inl}
use Rattle.std.proofs.Common.{inr}
use Rattle.std.proofs.Common.{Bool, true, false, not, nat_eq, nat_le, List, [], ◌∷◌, ◌++◌, length}
use Rattle.std.proofs.Common.{take}
use Rattle.std.proofs.Common.{drop, replicate, Result, Ok, Err, IfOk, refl, sym, ap, ◌∙◌}
use Rattle.std.proofs.Common.{arith}
use Rattle.std.proofs.Common.{leb-true, eqb-true}
use Rattle.std.proofs.lemmas.Bool.{and_parts, cases_lt, lt-leb}
use Rattle.std.proofs.lemmas.List.{length-append, length-drop, length-replicate, length-take-le}
use Rattle.std.proofs.lemmas.List.{take_all}
use Rattle.std.proofs.lemmas.List.Elements.{All-append, All-drop, All-replicate, All-take}
use Rattle.std.specs.List.{starts_with}
use Rattle.bn_types.specs.declared.image_fault.ImageFault.{ImageFault}
use Rattle.bn_types.specs.declared.image_sort.ImageSort.{ImageSort}
use Rattle.bn_types.specs.declared.image_sort.ImageSort.TheVariants.{Empty, Entry, Long}
use Rattle.bn_types.specs.declared.image_sort.ImageSort.TheVariants.{Nothing}
use Rattle.bn_model.specs.Images as images
use Rattle.bn_model.specs.Images.{◌>>=◌, Header, all_checked, counts, elf_checked, elf_image}
use Rattle.bn_model.specs.Images.{elf_of}
use Rattle.bn_model.specs.Images.{entry_of, fault, has_segment, head_checked, header_at, image_if}
use Rattle.bn_model.specs.Images.{image_of, is_entry, is_in_ram, most_image_bytes, places, ram_base}
use Rattle.bn_model.specs.Images.{raw_of, test, with_segment, with_segment_if, with_segments}
use Rattle.bn_model.specs.Soundness.{IsPc}
use Rattle.bn_loader.specs.Segments.{Fits}
use Rattle.bn_loader.proofs.SegmentLemmas.{fits_counted, good_from, good_header}
use Rattle.bn_front.specs.Starts.{AreBytes}

abbrev IsByte : ℕ → Type 0
IsByte byte = byte < 2 ^ 8

-- ---- one test after the other

bound : {A B : Type 0} (P : B → Type 0) (read : Result A ImageFault)
    (next : A → Result B ImageFault) → ((value : A) → read ≡ Ok value → IfOk (next value) P)
    → IfOk (read >>= next) P
bound P (Ok value) next holds = holds value refl
bound P (Err why) next holds = tt

passed : (b : Bool) (what : ImageSort) (at : ℕ) (done : Unit {0}) → test b what at ≡ Ok done
    → b ≡ true
passed true what at done e = refl
passed false what at done e = absurd cc

-- ---- segments in RAM

segment_size : (size : ℕ) (file : List ℕ) (header : Header) (ram : List ℕ) → length ram ≡ size
    → Fits (length file) size header → length (with_segment file header ram) ≡ size
unfolding with_segment
segment_size size file header ram long fits =
    let low = fits.low in
    let high = fits.high in
    let in_file = fits.bytes in
    let sizes = fits.sizes in
    let at : ℕ = header.address - ram_base in
    let bytes : List ℕ = take header.in_file (drop header.offset file) in
    let zeros : List ℕ = replicate (header.in_memory - header.in_file) 0 in
    let first : length (take at ram) ≡ at = length-take-le at ram (omega arith) in
    let left = length-drop header.offset file in
    let second : length bytes ≡ header.in_file =
    length-take-le header.in_file (drop header.offset file) (omega arith) in
    let third : length zeros ≡ header.in_memory - header.in_file =
    length-replicate {A = ℕ} (header.in_memory - header.in_file) 0 in
    let last = length-drop (at + header.in_memory) ram in
    let middle = length-append bytes zeros in
    let front = length-append (take at ram) (bytes ++ zeros) in
    let all = length-append (take at ram ++ (bytes ++ zeros)) (drop (at + header.in_memory) ram) in
    all ∙ omega arith

segments_size : (size : ℕ) (file places ram : List ℕ) → length ram ≡ size
    → all_checked size file places ≡ Ok tt → length (with_segments file places ram) ≡ size
unfolding with_segments
segments_size size file [] ram long good = long
segments_size size file (place ∷ places) ram long good =
    let here = good_from size file place places good in
    segments_size size file places
    (with_segment_if (counts (header_at file place)) file (header_at file place) ram)
    (one here (counts (header_at file place)) refl)
    (sym (good_header size file place places here) ∙ good)
  where
    one : images.header_checked size file place ≡ Ok tt → (b : Bool)
        → counts (header_at file place) ≡ b
        → length (with_segment_if b file (header_at file place) ram) ≡ size
    one here true counted =
        segment_size size file (header_at file place) ram long
        (fits_counted size file place here counted)
    one here false counted = long

segment_bytes : (file : List ℕ) (header : Header) (ram : List ℕ) → AreBytes file → AreBytes ram
    → AreBytes (with_segment file header ram)
unfolding with_segment
segment_bytes file header ram bytes good =
    All-append IsByte
    (take (header.address - ram_base) ram
    ++ (take header.in_file (drop header.offset file)
    ++ replicate (header.in_memory - header.in_file) 0)) _
    (All-append IsByte (take (header.address - ram_base) ram) _
    (All-take IsByte (header.address - ram_base) ram good)
    (All-append IsByte (take header.in_file (drop header.offset file)) _
    (All-take IsByte header.in_file (drop header.offset file)
    (All-drop IsByte header.offset file bytes))
    (All-replicate IsByte (header.in_memory - header.in_file) 0 (omega arith))))
    (All-drop IsByte (header.address - ram_base + header.in_memory) ram good)

segments_bytes : (file places ram : List ℕ) → AreBytes file → AreBytes ram
    → AreBytes (with_segments file places ram)
unfolding with_segments
segments_bytes file [] ram bytes good = good
segments_bytes file (place ∷ places) ram bytes good =
    segments_bytes file places
    (with_segment_if (counts (header_at file place)) file (header_at file place) ram) bytes
    (one (counts (header_at file place)))
  where
    one : (b : Bool) → AreBytes (with_segment_if b file (header_at file place) ram)
    one true = segment_bytes file (header_at file place) ram bytes good
    one false = good

-- ---- the whole image

-- all bytes of RAM, and an instruction in it
pub record IsWhole (size : ℕ) (image : images.Image) : Type 0 where
  pub long : length image.bytes ≡ size
  pub entry : IsPc image.entry

entry_in : (size entry : ℕ) → size ≤ 16777216 → is_entry size entry ≡ true → IsPc entry
entry_in size entry few e =
    let parts = and_parts (entry % 4 == 0) (is_in_ram size entry 4) e in
    let range = and_parts (nat_le ram_base entry) (nat_le (entry + 4) (ram_base + size)) parts.1 in
    let high = leb-true (entry + 4) (ram_base + size) range.1 in
    record { aligned = eqb-true (entry % 4) 0 parts.0; small = omega (arith, high, few) }

raw_whole : (size : ℕ) (file : List ℕ) → IfOk (raw_of size file) (IsWhole size)
raw_whole size file =
    bound (IsWhole size) (test (nat_le (length file) size) Long size) _ (λ done e.
    let fits = leb-true (length file) size (passed (nat_le (length file) size) Long size done e) in
    record {
      long =
          let both = length-append file (replicate (size - length file) 0) in
          let rest = length-replicate {A = ℕ} (size - length file) 0 in
          omega (arith, both, rest, fits);
      entry = record { aligned = refl; small = omega arith };
    })

elf_whole : (size : ℕ) (file : List ℕ) → size ≤ 16777216 → IfOk (elf_of size file) (IsWhole size)
unfolding elf_checked
elf_whole size file few =
    by_test (head_checked file) (all_checked size file (places file)) refl
    (has_segment file (places file)) (is_entry size (entry_of file)) refl
  where
    whole : all_checked size file (places file) ≡ Ok tt → is_entry size (entry_of file) ≡ true
        → IsWhole size (elf_image size file)
    whole good entry = record {
      long = segments_size size file (places file) (replicate size 0)
          (length-replicate {A = ℕ} size 0) good;
      entry = entry_in size (entry_of file) few entry;
    }

    by_test : (head segments : Result (Unit {0}) ImageFault)
        → all_checked size file (places file) ≡ segments → (some entry : Bool)
        → is_entry size (entry_of file) ≡ entry
        → IfOk (head >>= (λ a. segments >>= (λ b. test some Nothing 56
        >>= (λ c. test entry Entry 24)))
        >>= (λ done. Ok (elf_image size file))) (IsWhole size)
    by_test (Err why) segments good some entry e = tt
    by_test (Ok a) (Err why) good some entry e = tt
    by_test (Ok a) (Ok tt) good false entry e = tt
    by_test (Ok a) (Ok tt) good true false e = tt
    by_test (Ok a) (Ok tt) good true true e = whole good e

pub image_whole : (size : ℕ) (file : List ℕ) → size ≤ 16777216
    → IfOk (image_of size file) (IsWhole size)
unfolding image_of
image_whole size file few =
    bound (IsWhole size) (test (nat_le (length file) most_image_bytes) Long most_image_bytes) _
    (λ a long. bound (IsWhole size) (test (not (length file == 0)) Empty 0) _
    (λ b some. by_sort (starts_with nat_eq file images.elf_magic)))
  where
    by_sort : (b : Bool) → IfOk (image_if b size file) (IsWhole size)
    by_sort true = elf_whole size file few
    by_sort false = raw_whole size file

abbrev pub HasBytes : images.Image → Type 0
HasBytes image = AreBytes image.bytes

-- of a file of bytes
pub image_bytes : (size : ℕ) (file : List ℕ) → AreBytes file → IfOk (image_of size file) HasBytes
unfolding image_of
image_bytes size file bytes =
    bound HasBytes (test (nat_le (length file) most_image_bytes) Long most_image_bytes) _
    (λ a long. bound HasBytes (test (not (length file == 0)) Empty 0) _
    (λ b some. by_sort (starts_with nat_eq file images.elf_magic)))
  where
    zeros : (n : ℕ) → AreBytes (replicate n 0)
    zeros n = All-replicate IsByte n 0 (omega arith)

    by_sort : (b : Bool) → IfOk (image_if b size file) HasBytes
    by_sort true =
        bound HasBytes (elf_checked size file) _
        (λ done e. segments_bytes file (places file) (replicate size 0) bytes (zeros size))
    by_sort false =
        bound HasBytes (test (nat_le (length file) size) Long size) _
        (λ done e. All-append IsByte file (replicate (size - length file) 0) bytes
        (zeros (size - length file)))

-- ---- a file of which only a front was read

image_from : (most size : ℕ) → List ℕ → Result images.Image ImageFault
image_from most size file =
    test (nat_le (length file) most) Long most
    >>= (λ a. test (not (length file == 0)) Empty 0
    >>= (λ b. image_if (starts_with nat_eq file images.elf_magic) size file))

too_long : (most size : ℕ) (file : List ℕ) → most < length file
    → image_from most size file ≡ Err (fault Long most)
unfolding image_from
too_long most size file long =
    ap (λ (b : Bool). test b Long most
    >>= (λ a. test (not (length file == 0)) Empty 0
    >>= (λ c. image_if (starts_with nat_eq file images.elf_magic) size file)))
    (lt-leb (length file) most long)

front_from : (most n size : ℕ) (file : List ℕ) → most < n
    → image_from most size (take n file) ≡ image_from most size file
front_from most n size file more = by_cases (cases_lt (length file) n) where
  by_cases : (length file < n) ⊎ (n ≤ length file)
      → image_from most size (take n file) ≡ image_from most size file
  by_cases (inl short) = ap (image_from most size) (take_all n file (omega arith))
  by_cases (inr many) =
      let front = length-take-le n file many in
      too_long most size (take n file) (omega arith)
      ∙ sym (too_long most size file (omega arith))

-- more bytes than an image may have tell what the whole file comes to
pub front_of_image : (n size : ℕ) (file : List ℕ) → most_image_bytes < n
    → image_of size (take n file) ≡ image_of size file
unfolding image_of image_from
front_of_image n size file more = front_from most_image_bytes n size file more
