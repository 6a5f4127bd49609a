-- The image that is made has 32 pages, and is loaded as a raw one.
use Rattle.std.proofs.Common.{◌≡◌, ℕ, zero, suc, ◌+◌, ◌-◌, ◌*◌, ◌≤◌, ◌==◌, ◌∙◌, false}
use Rattle.std.proofs.Common.{true, List, [], ◌∷◌, ◌++◌, Ok, ap, arith, drop, length, length-append}
use Rattle.std.proofs.Common.{nat_eq, nat_le, refl, replicate, Some}
use Rattle.std.proofs.lemmas.Bool.Decides.{nat_tests}
use Rattle.std.proofs.lemmas.List.{length-replicate}
use Rattle.std.specs.List.{starts_with}
use Rattle.bn_types.specs.declared.insn.Insn.{Insn}
use Rattle.bn_model.specs.Assembling.{word_of}
use Rattle.bn_model.specs.Generating.{Drawn, handler, kernel_call, kernel_calls, kernel_start}
use Rattle.bn_model.specs.Generating.{made_of}
use Rattle.bn_model.specs.Generating.{module_code, module_segment}
use Rattle.bn_model.specs.Images.{elf_magic, image_of}
use Rattle.bn_model.specs.Segments.{entry_bytes, header_bytes, page_bytes, spelling_of_segment}
use Rattle.bn_model.specs.Summaries.{raw_image}
use Rattle.bn_model.specs.WholeRuns.{image_in}
use Rattle.bn_gen.proofs.PartLemmas.{kernel-is, made_of-image, module_code-is}
use Rattle.bn_gen.proofs.PartLemmas.{operations_are}
use Rattle.bn_gen.specs.Parts.{filled, kernel, kernel_count, kernel_end, launch, launches, listed}
use Rattle.bn_gen.specs.Parts.{module_end, module_pages, module_start, modules, operation}
use Rattle.bn_gen.specs.Parts.{operations}
use Rattle.bn_gen.specs.Parts.{pages_of, segment_page, segment_pages, word_bytes, zeros}

-- ---- how long its parts are

length-listed : (insns : List Insn) → length (listed insns) ≡ 4 * length insns
unfolding listed word_bytes
length-listed [] = refl
length-listed (insn ∷ insns) = let rest = length-listed insns in omega (arith, rest)

length-filled : (bytes : List ℕ) → length bytes ≤ 4096 → length (filled bytes) ≡ 4096
unfolding filled
length-filled bytes short =
    let whole = length-append bytes (replicate (4096 - length bytes) 0) in
    let padding = length-replicate {A = ℕ} (4096 - length bytes) 0 in
    omega (arith, whole, padding)

length-zeros : (count : ℕ) → length (zeros count) ≡ count
unfolding zeros
length-zeros count = length-replicate {A = ℕ} count 0

code_page-length : (code : List Insn) → length code ≤ 1024 → length (filled (listed code)) ≡ 4096
code_page-length code short =
    let bytes = length-listed code in length-filled (listed code) (omega (arith, bytes))

length-kernel_call : (j state : ℕ) → length (kernel_call j state).value ≡ 6
unfolding kernel_call
length-kernel_call j state = refl

length-kernel_calls : (j count state : ℕ) → length (kernel_calls j count state).value ≡ 6 * count
unfolding kernel_calls
length-kernel_calls j zero state = refl
length-kernel_calls j (suc count) state =
    let first = length-kernel_call j state in
    let rest = length-kernel_calls (j + 1) count (kernel_call j state).state in
    let whole = length-append (kernel_call j state).value
    (kernel_calls (j + 1) count (kernel_call j state).state).value in
    omega (arith, first, rest, whole)

length-launches : length (launches 0 8) ≡ 24
unfolding launches launch
length-launches = refl

length-kernel : (calls : List Insn) → length (kernel calls) ≡ 41 + length calls
length-kernel calls =
    let is = ap length (kernel-is calls) in
    let last = length-append (kernel_start ++ launches 0 8 ++ (kernel_count ++ calls)) kernel_end in
    let middle = length-append (kernel_start ++ launches 0 8) (kernel_count ++ calls) in
    let first = length-append kernel_start (launches 0 8) in
    let launched = length-launches in
    omega (arith, is, last, middle, first, launched)

kernel_page-length : (state : ℕ)
    → length (filled (listed (kernel (kernel_calls 0 64 state).value))) ≡ 4096
kernel_page-length state =
    let calls = length-kernel_calls 0 64 state in
    let whole = length-kernel (kernel_calls 0 64 state).value in
    code_page-length (kernel (kernel_calls 0 64 state).value) (omega (arith, calls, whole))

length-operations : (count state : ℕ) → length (operations count state).value ≡ count
unfolding operations
length-operations zero state = refl
length-operations (suc count) state =
    let rest = length-operations count (operation state).state in
    let is = ap (λ (d : Drawn (List Insn)). length d.value)
    (operations_are (suc count) count state refl) in
    omega (arith, is, rest)

length-module_code : (state : ℕ) → length (module_code state).value ≡ 21
length-module_code state =
    let is = ap (λ (d : Drawn (List Insn)). length d.value) (module_code-is state) in
    let last = length-append (module_start ++ (operations 16 state).value) module_end in
    let first = length-append module_start (operations 16 state).value in
    let drawn = length-operations 16 state in
    omega (arith, is, last, first, drawn)

module_pages-length : (state : ℕ) → length (module_pages (module_code state).value) ≡ 8192
unfolding module_pages
module_pages-length state =
    let code = length-module_code state in
    let page = code_page-length (module_code state).value (omega (arith, code)) in
    let whole = length-append (filled (listed (module_code state).value)) (zeros 4096) in
    let rest = length-zeros 4096 in
    omega (arith, page, whole, rest)

pages_of-length : (count state : ℕ) → length (pages_of (modules count state).value) ≡ 8192 * count
unfolding modules pages_of
pages_of-length zero state = refl
pages_of-length (suc count) state =
    let first = module_pages-length state in
    let rest = pages_of-length count (module_code state).state in
    let whole = length-append (module_pages (module_code state).value)
    (pages_of (modules count (module_code state).state).value) in
    omega (arith, first, rest, whole)

length-segment : (i : ℕ) → length (spelling_of_segment (module_segment i)) ≡ 1232
unfolding spelling_of_segment module_segment header_bytes entry_bytes page_bytes
length-segment i = refl

segment_page-length : (i : ℕ) → length (segment_page i) ≡ 4096
unfolding segment_page
segment_page-length i =
    let text = length-segment i in
    length-filled (spelling_of_segment (module_segment i)) (omega (arith, text))

segment_pages-length : (i count : ℕ) → length (segment_pages i count) ≡ 4096 * count
unfolding segment_pages
segment_pages-length i zero = refl
segment_pages-length i (suc count) =
    let first = segment_page-length i in
    let rest = segment_pages-length (i + 1) count in
    let whole = length-append (segment_page i) (segment_pages (i + 1) count) in
    omega (arith, first, rest, whole)

handler_page-length : length (filled (listed handler)) ≡ 4096
handler_page-length = code_page-length handler (omega arith)

five_lengths : (a b c d e : List ℕ)
    → length (a ++ b ++ c ++ d ++ e) ≡ length a + length b + length c + length d + length e
five_lengths a b c d e =
    let two = length-append a b in
    let three = length-append (a ++ b) c in
    let four = length-append (a ++ b ++ c) d in
    let five = length-append (a ++ b ++ c ++ d) e in
    omega (arith, two, three, four, five)

pub image-length : (number : ℕ) → length (made_of number).image ≡ 131072
image-length number =
    let state = (modules 8 number).state in
    let kernel_page = filled (listed (kernel (kernel_calls 0 64 state).value)) in
    let is = ap length (made_of-image number) in
    let whole = five_lengths kernel_page (filled (listed handler)) (zeros (6 * 4096))
    (segment_pages 0 8) (pages_of (modules 8 number).value) in
    let a = kernel_page-length state in
    let b = handler_page-length in
    let c = length-zeros (6 * 4096) in
    let d = segment_pages-length 0 8 in
    let e = pages_of-length 8 number in
    omega (arith, is, whole, a, b, c, d, e)

-- ---- it is no ELF file

first_byte : (calls : List Insn)
    → filled (listed (kernel calls)) ≡ 0x97 ∷ drop 1 (filled (listed (kernel calls)))
unfolding filled listed word_bytes kernel word_of
first_byte calls = refl

raw_loaded : (size : ℕ) (bytes rest : List ℕ) → bytes ≡ 0x97 ∷ rest → length bytes ≤ size
    → size ≤ 33554432 → image_in size (Some bytes) ≡ Ok (raw_image size bytes)
unfolding image_of
raw_loaded size bytes rest e within most =
    let some : (length bytes == 0) ≡ false =
    (let l = ap length e in grind (arith, nat_tests)) in
    let small : nat_le (length bytes) 33554432 ≡ true = grind (arith, nat_tests) in
    let fits : nat_le (length bytes) size ≡ true = grind (arith, nat_tests) in
    let raw : starts_with nat_eq bytes elf_magic ≡ false = rw e refl in
    rw (small, some, raw, fits) refl

pub image_loaded : (number : ℕ) → image_in (64 * 4096) (Some (made_of number).image)
    ≡ Ok (raw_image (64 * 4096) (made_of number).image)
image_loaded number =
    let calls = (kernel_calls 0 64 (modules 8 number).state).value in
    let size = image-length number in
    raw_loaded (64 * 4096) (made_of number).image
    (drop 1 (filled (listed (kernel calls))) ++ filled (listed handler) ++ zeros (6 * 4096)
    ++ segment_pages 0 8 ++ pages_of (modules 8 number).value)
    (made_of-image number
    ∙ ap (λ (page : List ℕ). page ++ filled (listed handler) ++ zeros (6 * 4096)
    ++ segment_pages 0 8 ++ pages_of (modules 8 number).value) (first_byte calls))
    (omega (arith, size)) (omega arith)
