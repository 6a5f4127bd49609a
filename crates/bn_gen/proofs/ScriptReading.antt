-- The script that is made is read back as its commands.
use Rattle.std.proofs.Common.{◌≡◌, ℕ, zero, suc, ◌+◌, ◌*◌, ◌/◌, ◌%◌, ◌^◌, ◌<◌, ◌≤◌}
use Rattle.std.proofs.Common.{◌∙◌, Bool, true, false, List, [], ◌∷◌, ◌++◌, length, get_or, map}
use Rattle.std.proofs.Common.{Option, Some, Ok, nat_le, nat_lt, ap, append_assoc, arith}
use Rattle.std.proofs.Common.{length-append, refl, subst, sym, lit<}
use Rattle.std.proofs.lemmas.Bool.Decides.{nat_tests}
use Rattle.std.proofs.lemmas.Fmt.{length-decimal-le}
use Rattle.std.proofs.lemmas.List.Elements.{All-append, All-cons, All-head, All-nil, All-tail}
use Rattle.std.proofs.lemmas.List.FromFn.{get_or-map-range_with_len}
use Rattle.std.proofs.Math.Nat.{mod-lt}
use Rattle.std.specs.Fmt.{decimal}
use Rattle.std.specs.List.{All, flat_map, list_all, range_with_len}
use Rattle.std.specs.Prelude.{codes}
use Rattle.hex.specs.Hex.{encode_lower, encode_with}
use Rattle.bn_types.proofs.NumeralLemmas.{numeral_again, numeral_parts}
use Rattle.bn_types.specs.Numerals.{is_digit}
use Rattle.bn_types.specs.Splitting.{split_by}
use Rattle.bn_model.specs.Generating.{Made, below, command_line, commands_drawn, device_by, made_of}
use Rattle.bn_model.specs.Generating.{kernel_calls, next_state, script_text}
use Rattle.bn_model.specs.Scripts.{byte_in, commands_from, commands_of, go_of, hex_digit, key_of}
use Rattle.bn_model.specs.Scripts.{number_in, ordered_by, peek_of, poke_of, script_in, script_of}
use Rattle.bn_gen.proofs.PartLemmas.{made_of-is}
use Rattle.bn_gen.proofs.TextLemmas.{both, glyph, is_plain, lacks, lacks-append, lacks_if_plain}
use Rattle.bn_gen.proofs.TextLemmas.{split_before, split_last}
use Rattle.bn_gen.specs.Parts.{modules, rounds}
use Rattle.bn_model.specs.declared.command.Command.{Command}
use Rattle.bn_model.specs.declared.command.Command.TheVariants.{Turn, Go, Key, Poke, Peek}

-- ---- numbers and bytes

digits_plain : (digits : List ℕ) → list_all is_digit digits ≡ true → is_plain digits ≡ true
digits_plain [] h = refl
digits_plain (digit ∷ digits) h =
    let parts = both (is_digit digit) (list_all is_digit digits) h in
    let first : nat_lt 32 digit ≡ true = (let t = parts.0 in grind (arith, nat_tests)) in
    rw first (digits_plain digits parts.1)

decimal_plain : (number : ℕ) → number < 2 ^ 64 → is_plain (decimal number) ≡ true
decimal_plain number fits =
    digits_plain (decimal number)
    (numeral_parts (2 ^ 64) number (decimal number)
    (numeral_again (2 ^ 64) number (omega arith) fits)).digits

number_again : (number : ℕ) → number < 10 ^ 10 → number_in (decimal number) ≡ Ok number
unfolding number_in
number_again number small =
    let fits : number < 2 ^ 64 = omega arith in
    let short : nat_le (length (decimal number)) 10 ≡ true =
    (let l : length (decimal number) ≤ 10 = length-decimal-le 10 number (lit< tt) small fits in
    grind (arith, nat_tests)) in
    rw (short, numeral_again (2 ^ 64) number (omega arith) fits) refl

glyph_again : (digit : ℕ) → digit < 16 → hex_digit (glyph digit) ≡ Some digit
glyph_again digit small =
    sym (get_or-map-range_with_len (λ d. hex_digit (glyph d)) 0 16 digit digit (Some 0) small
    (omega arith))
    ∙ ap (λ (found : List (Option ℕ)). get_or found digit (Some 0)) all
    ∙ get_or-map-range_with_len (λ d. Some d) 0 16 digit digit (Some 0) small (omega arith)
  where
    all : map (λ d. hex_digit (glyph d)) (range_with_len 0 16)
        ≡ map (λ d. Some d) (range_with_len 0 16)
    all = refl

glyph_plain : (digit : ℕ) → digit < 16 → nat_lt 32 (glyph digit) ≡ true
glyph_plain digit small =
    sym (get_or-map-range_with_len (λ d. nat_lt 32 (glyph d)) 0 16 digit digit true small
    (omega arith))
    ∙ ap (λ (found : List Bool). get_or found digit true) all
    ∙ get_or-map-range_with_len (λ d. true) 0 16 digit digit true small (omega arith)
  where
    all : map (λ d. nat_lt 32 (glyph d)) (range_with_len 0 16)
        ≡ map (λ d. true) (range_with_len 0 16)
    all = refl

byte_plain : (byte : ℕ) → byte < 256 → is_plain (encode_lower (byte ∷ [])) ≡ true
unfolding encode_with
byte_plain byte small =
    rw (glyph_plain (byte / 16) (omega arith), glyph_plain (byte % 16) (omega arith)) refl

byte_again : (byte : ℕ) → byte < 256 → byte_in (encode_lower (byte ∷ [])) ≡ Ok byte
unfolding byte_in encode_with
byte_again byte small =
    let whole : 16 * (byte / 16) + byte % 16 ≡ byte = omega arith in
    rw (glyph_again (byte / 16) (omega arith), glyph_again (byte % 16) (omega arith), whole) refl

byte_length : (byte : ℕ) → length (encode_lower (byte ∷ [])) ≡ 2
unfolding encode_with
byte_length byte = refl

-- ---- lines

-- what is drawn is in the ranges of a script; a turn of one hart isn't drawn
abbrev IsReadable : Command → Type 0
IsReadable (Turn hart count) = ⊥
IsReadable (Go count) = (1 ≤ count) × (count ≤ 1000000000)
IsReadable (Key byte) = byte < 256
IsReadable (Poke page offset byte) = (page.0 < 2 ^ 32) × (offset < 4096) × (byte < 256)
IsReadable (Peek page offset) = (page.0 < 2 ^ 32) × (offset < 4096)

-- the line without its line feed
abbrev body : Command → List ℕ
body (Turn hart count) = codes "turn " ++ decimal hart ++ codes " " ++ decimal count
body (Go count) = codes "go " ++ decimal count
body (Key byte) = codes "key " ++ encode_lower (byte ∷ [])
body (Poke page offset byte) =
    codes "poke " ++ decimal page.0 ++ codes " " ++ decimal offset ++ codes " " ++
    encode_lower (byte ∷ [])
body (Peek page offset) = codes "peek " ++ decimal page.0 ++ codes " " ++ decimal offset

command_line-is : (command : Command) → command_line command ≡ body command ++ (10 ∷ [])
command_line-is (Turn hart count) = refl
command_line-is (Go count) = refl
command_line-is (Key byte) = refl
command_line-is (Poke page offset byte) = refl
command_line-is (Peek page offset) = refl

ends : (mark : ℕ) (number : ℕ) → mark ≤ 32 → number < 2 ^ 64 → lacks mark (decimal number) ≡ true
ends mark number low fits = lacks_if_plain mark (decimal number) low (decimal_plain number fits)

body-lacks : (command : Command) → IsReadable command → lacks 10 (body command) ≡ true
body-lacks (Turn hart count) h = absurd h
body-lacks (Go count) h =
    let most = h.1 in ends 10 count (omega arith) (omega (arith, most))
body-lacks (Key byte) h =
    lacks_if_plain 10 (encode_lower (byte ∷ [])) (omega arith) (byte_plain byte h)
body-lacks (Poke page offset byte) h =
    let small = h.0 in let low = h.1 in
    lacks-append 10 (codes "poke " ++ decimal page.0 ++ codes " " ++ decimal offset ++ codes " ")
    (encode_lower (byte ∷ []))
    (lacks-append 10 (codes "poke " ++ decimal page.0 ++ codes " " ++ decimal offset) (codes " ")
    (lacks-append 10 (codes "poke " ++ decimal page.0 ++ codes " ") (decimal offset)
    (lacks-append 10 (codes "poke " ++ decimal page.0) (codes " ")
    (ends 10 page.0 (omega arith) (omega (arith, small))) refl)
    (ends 10 offset (omega arith) (omega (arith, low)))) refl)
    (lacks_if_plain 10 (encode_lower (byte ∷ [])) (omega arith) (byte_plain byte h.2))
body-lacks (Peek page offset) h =
    let small = h.0 in let low = h.1 in
    lacks-append 10 (codes "peek " ++ decimal page.0 ++ codes " ") (decimal offset)
    (lacks-append 10 (codes "peek " ++ decimal page.0) (codes " ")
    (ends 10 page.0 (omega arith) (omega (arith, small))) refl)
    (ends 10 offset (omega arith) (omega (arith, low)))

three_joined : (word a b c : List ℕ) → word ++ (32 ∷ a) ++ (32 ∷ []) ++ b ++ (32 ∷ []) ++ c
    ≡ word ++ (32 ∷ (a ++ (32 ∷ (b ++ (32 ∷ c)))))
three_joined word a b c =
    append_assoc (word ++ (32 ∷ a) ++ (32 ∷ []) ++ b) (32 ∷ []) c
    ∙ append_assoc (word ++ (32 ∷ a) ++ (32 ∷ [])) b (32 ∷ c)
    ∙ append_assoc (word ++ (32 ∷ a)) (32 ∷ []) (b ++ (32 ∷ c))
    ∙ append_assoc word (32 ∷ a) (32 ∷ (b ++ (32 ∷ c)))

split_two : (word a b : List ℕ) → lacks 32 word ≡ true → lacks 32 a ≡ true → lacks 32 b ≡ true
    → split_by 32 (word ++ (32 ∷ a) ++ (32 ∷ []) ++ b) ≡ word ∷ a ∷ b ∷ []
split_two word a b hw ha hb =
    ap (split_by 32) (simp append_assoc)
    ∙ split_before 32 word (a ++ (32 ∷ b)) hw
    ∙ ap (λ (pieces : List (List ℕ)). word ∷ pieces)
    (split_before 32 a b ha ∙ ap (λ (pieces : List (List ℕ)). a ∷ pieces) (split_last 32 b hb))

split_three : (word a b c : List ℕ) → lacks 32 word ≡ true → lacks 32 a ≡ true → lacks 32 b ≡ true
    → lacks 32 c ≡ true
    → split_by 32 (word ++ (32 ∷ a) ++ (32 ∷ []) ++ b ++ (32 ∷ []) ++ c) ≡ word ∷ a ∷ b ∷ c ∷ []
split_three word a b c hw ha hb hc =
    ap (split_by 32) (three_joined word a b c)
    ∙ split_before 32 word (a ++ (32 ∷ (b ++ (32 ∷ c)))) hw
    ∙ ap (λ (pieces : List (List ℕ)). word ∷ pieces)
    (split_before 32 a (b ++ (32 ∷ c)) ha
    ∙ ap (λ (pieces : List (List ℕ)). a ∷ pieces)
    (split_before 32 b c hb ∙ ap (λ (pieces : List (List ℕ)). b ∷ pieces) (split_last 32 c hc)))

body-read : (command : Command) → IsReadable command
    → ordered_by 1 (body command) ≡ Ok (command ∷ [])
unfolding ordered_by go_of key_of poke_of peek_of
body-read (Turn hart count) h = absurd h
body-read (Go count) h =
    let some = h.0 in let most = h.1 in
    let least_test : nat_le 1 count ≡ true = grind (arith, nat_tests) in
    let most_test : nat_le count 1000000000 ≡ true = grind (arith, nat_tests) in
    let fields = split_before 32 (codes "go") (decimal count) refl
    ∙ ap (λ (pieces : List (List ℕ)). codes "go" ∷ pieces)
    (split_last 32 (decimal count) (ends 32 count (omega arith) (omega (arith, most)))) in
    rw (fields, number_again count (omega (arith, most)), least_test, most_test) refl
body-read (Key byte) h =
    let fields = split_before 32 (codes "key") (encode_lower (byte ∷ [])) refl
    ∙ ap (λ (pieces : List (List ℕ)). codes "key" ∷ pieces)
    (split_last 32 (encode_lower (byte ∷ []))
    (lacks_if_plain 32 (encode_lower (byte ∷ [])) (omega arith) (byte_plain byte h))) in
    rw (fields, byte_again byte h) refl
body-read (Poke page offset byte) h =
    let small = h.0 in let low = h.1 in
    let page_test : nat_lt page.0 (2 ^ 32) ≡ true = grind (arith, nat_tests) in
    let offset_test : nat_lt offset 4096 ≡ true = grind (arith, nat_tests) in
    let fields = split_three (codes "poke") (decimal page.0) (decimal offset)
    (encode_lower (byte ∷ [])) refl (ends 32 page.0 (omega arith) (omega (arith, small)))
    (ends 32 offset (omega arith) (omega (arith, low)))
    (lacks_if_plain 32 (encode_lower (byte ∷ [])) (omega arith) (byte_plain byte h.2)) in
    rw (
      fields,
      number_again page.0 (omega (arith, small)),
      number_again offset (omega (arith, low)),
      byte_again byte h.2,
      page_test,
      offset_test,
    ) refl
body-read (Peek page offset) h =
    let small = h.0 in let low = h.1 in
    let page_test : nat_lt page.0 (2 ^ 32) ≡ true = grind (arith, nat_tests) in
    let offset_test : nat_lt offset 4096 ≡ true = grind (arith, nat_tests) in
    let fields = split_two (codes "peek") (decimal page.0) (decimal offset) refl
    (ends 32 page.0 (omega arith) (omega (arith, small)))
    (ends 32 offset (omega arith) (omega (arith, low))) in
    rw (
      fields,
      number_again page.0 (omega (arith, small)),
      number_again offset (omega (arith, low)),
      page_test,
      offset_test,
    ) refl

nothing_read : (number : ℕ) → commands_from 1 number (split_by 10 []) ≡ Ok []
unfolding commands_from split_by ordered_by
nothing_read number = refl

lines_read : (commands : List Command) (number : ℕ) → All IsReadable commands
    → commands_from 1 number (split_by 10 (flat_map command_line commands)) ≡ Ok commands
unfolding commands_from
lines_read [] number h = nothing_read number
lines_read (command ∷ commands) number h =
    let here = All-head IsReadable command commands h in
    let text : flat_map command_line (command ∷ commands)
    ≡ body command ++ (10 ∷ flat_map command_line commands) =
    ap (λ (line : List ℕ). line ++ flat_map command_line commands) (command_line-is command)
    ∙ append_assoc (body command) (10 ∷ []) (flat_map command_line commands) in
    let pieces = ap (split_by 10) text
    ∙ split_before 10 (body command) (flat_map command_line commands) (body-lacks command here) in
    rw (
      pieces,
      body-read command here,
      lines_read commands (number + 1) (All-tail IsReadable command commands h),
    ) refl

-- ---- what is drawn

below-small : (limit state : ℕ) → 0 < limit → (below limit state).value < limit
unfolding below
below-small limit state some = mod-lt (next_state state / 2 ^ 33) some

device-readable : (number state : ℕ) → IsReadable (device_by number state).value
device-readable zero state = below-small 256 state (omega arith)
device-readable (suc zero) state =
    let page = below-small 48 state (omega arith) in (
      omega (arith, page),
      below-small 4096 _ (omega arith),
      below-small 256 _ (omega arith),
    )
device-readable (suc (suc number)) state =
    let page = below-small 64 state (omega arith) in (
      omega (arith, page),
      below-small 4096 _ (omega arith),
    )

drawn-readable : (state : ℕ) → All IsReadable (commands_drawn state).value
unfolding commands_drawn
drawn-readable state =
    let turns = below-small 2000 state (omega arith) in
    let sort = below 3 (below 2000 state).state in
    let device = (device_by sort.value sort.state).value in
    All-cons IsReadable (Go (100 + (below 2000 state).value)) (device ∷ [])
    (omega arith, omega (arith, turns))
    (All-cons IsReadable device [] (device-readable sort.value sort.state) (All-nil IsReadable))

rounds-readable : (count state : ℕ)
    → All IsReadable (flat_map (λ some. some) (rounds count state).value)
unfolding rounds
rounds-readable zero state = All-nil IsReadable
rounds-readable (suc count) state =
    All-append IsReadable (commands_drawn state).value
    (flat_map (λ some. some) (rounds count (commands_drawn state).state).value)
    (drawn-readable state) (rounds-readable count (commands_drawn state).state)

-- ---- how long it is

one_length : (a : List ℕ) → length (a ++ codes "\n") ≡ length a + 1
one_length a = length-append a (codes "\n")

two_lengths : (a b : List ℕ) → length (a ++ codes " " ++ b ++ codes "\n") ≡ length a + length b + 2
two_lengths a b =
    let first = length-append a (codes " ") in
    let second = length-append (a ++ codes " ") b in
    let third = length-append (a ++ codes " " ++ b) (codes "\n") in
    omega (arith, first, second, third)

three_lengths : (a b c : List ℕ)
    → length (a ++ codes " " ++ b ++ codes " " ++ c ++ codes "\n")
    ≡ length a + length b + length c + 3
three_lengths a b c =
    let first = length-append a (codes " ") in
    let second = length-append (a ++ codes " ") b in
    let third = length-append (a ++ codes " " ++ b) (codes " ") in
    let fourth = length-append (a ++ codes " " ++ b ++ codes " ") c in
    let fifth = length-append (a ++ codes " " ++ b ++ codes " " ++ c) (codes "\n") in
    omega (arith, first, second, third, fourth, fifth)

line-short : (command : Command) → IsReadable command → length (command_line command) ≤ 32
line-short (Turn hart count) h = absurd h
line-short (Go count) h =
    let most = h.1 in
    let digits : length (decimal count) ≤ 10 =
    length-decimal-le 10 count (lit< tt) (omega (arith, most)) (omega (arith, most)) in
    omega (arith, one_length (decimal count), digits)
line-short (Key byte) h =
    omega (arith, one_length (encode_lower (byte ∷ [])), byte_length byte)
line-short (Poke page offset byte) h =
    let small = h.0 in let low = h.1 in
    let first : length (decimal page.0) ≤ 10 =
    length-decimal-le 10 page.0 (lit< tt) (omega (arith, small)) (omega (arith, small)) in
    let second : length (decimal offset) ≤ 4 =
    length-decimal-le 4 offset (lit< tt) (omega (arith, low)) (omega (arith, low)) in
    let whole = three_lengths (decimal page.0) (decimal offset) (encode_lower (byte ∷ [])) in
    omega (arith, whole, first, second, byte_length byte)
line-short (Peek page offset) h =
    let small = h.0 in let low = h.1 in
    let first : length (decimal page.0) ≤ 10 =
    length-decimal-le 10 page.0 (lit< tt) (omega (arith, small)) (omega (arith, small)) in
    let second : length (decimal offset) ≤ 4 =
    length-decimal-le 4 offset (lit< tt) (omega (arith, low)) (omega (arith, low)) in
    omega (arith, two_lengths (decimal page.0) (decimal offset), first, second)

lines-short : (commands : List Command) → All IsReadable commands
    → length (flat_map command_line commands) ≤ 32 * length commands
lines-short [] h = omega arith
lines-short (command ∷ commands) h =
    let here = line-short command (All-head IsReadable command commands h) in
    let rest = lines-short commands (All-tail IsReadable command commands h) in
    let whole = length-append (command_line command) (flat_map command_line commands) in
    omega (arith, here, rest, whole)

drawn-two : (state : ℕ) → length (commands_drawn state).value ≡ 2
unfolding commands_drawn
drawn-two state = refl

rounds-length : (count state : ℕ)
    → length (flat_map (λ some. some) (rounds count state).value) ≡ 2 * count
unfolding rounds
rounds-length zero state = refl
rounds-length (suc count) state =
    let two = drawn-two state in
    let rest = rounds-length count (commands_drawn state).state in
    let whole = length-append (commands_drawn state).value
    (flat_map (λ some. some) (rounds count (commands_drawn state).state).value) in
    omega (arith, two, rest, whole)

-- ---- the whole

text_read : (commands : List Command) → All IsReadable commands → length commands ≤ 128
    → script_in 1 (flat_map command_line commands) ≡ Ok (script_of 1 commands)
unfolding script_in commands_of
text_read commands h few =
    let short = lines-short commands h in
    let test : nat_lt 1048576 (length (flat_map command_line commands)) ≡ false =
    (let l : length (flat_map command_line commands) ≤ 1048576 = omega (arith, short, few) in
    grind (arith, nat_tests)) in
    rw (test, lines_read commands 1 h) refl

pub script_read : (number : ℕ)
    → script_in 1 (script_text (made_of number)) ≡ Ok (script_of 1 (made_of number).commands)
unfolding script_text
script_read number =
    let state = (kernel_calls 0 64 (modules 8 number).state).state in
    text_read (made_of number).commands
    (subst (λ (made : Made). All IsReadable made.commands) (sym (made_of-is number))
    (rounds-readable 64 state))
    (subst (λ (made : Made). length made.commands ≤ 128) (sym (made_of-is number))
    (let l = rounds-length 64 state in omega (arith, l)))
