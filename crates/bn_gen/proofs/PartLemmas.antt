-- The parts of what is generated, one more at a time, and what they come to.
use Rattle.std.proofs.Common.{◌≡◌, ℕ, ◌+◌, ◌-◌, ◌*◌, ◌<◌, ◌∙◌, List, [], ◌∷◌, ◌++◌, ap, ap₂}
use Rattle.std.proofs.Common.{refl, suc, sym, append_assoc, append-nil, arith, ◌≤◌}
use Rattle.std.specs.Prelude.{flat_map}
use Rattle.std.proofs.lemmas.List.Concat.{flat_map-append}
use Rattle.bn_types.specs.declared.insn.Insn.{Insn}
use Rattle.bn_model.specs.Generating.{Drawn, Made, command_line, commands_drawn, handler, image_of}
use Rattle.bn_model.specs.Generating.{kernel_call, kernel_calls, kernel_start, made_drawn, made_of}
use Rattle.bn_model.specs.Generating.{made_with, module_code, module_with, script_text}
use Rattle.bn_model.specs.declared.command.Command.{Command}
use Rattle.bn_gen.specs.Parts.{command_lines, filled, kernel, kernel_count, kernel_end, module_end}
use Rattle.bn_gen.specs.Parts.{module_start, zeros, launch, launches, listed, module_pages, modules}
use Rattle.bn_gen.specs.Parts.{operation, operations, pages_of, round_lines, rounds, segment_page}
use Rattle.bn_gen.specs.Parts.{segment_pages, word_bytes}

-- one piece goes from what is left to what is made
pub one_piece : (whole made new piece rest left : List ℕ) → whole ≡ made ++ left
    → left ≡ piece ++ rest → new ≡ made ++ piece → whole ≡ new ++ rest
one_piece whole made new piece rest left w l n =
    w ∙ ap (λ (bytes : List ℕ). made ++ bytes) l ∙ sym (append_assoc made piece rest)
    ∙ ap (λ (bytes : List ℕ). bytes ++ rest) (sym n)

-- all is made when nothing is left
pub all_made : (whole made left : List ℕ) → whole ≡ made ++ left → left ≡ [] → made ≡ whole
all_made whole made left w l =
    sym (w ∙ ap (λ (bytes : List ℕ). made ++ bytes) l ∙ append-nil made)

-- pieces that are appended one after the other
pub three_pieces : (old one two a b c : List ℕ) → one ≡ old ++ a → two ≡ one ++ b
    → two ++ c ≡ old ++ (a ++ b ++ c)
three_pieces old one two a b c f g = rw (g, f) (simp append_assoc)

pub five_pieces : (old one two three four a b c d e : List ℕ) → one ≡ old ++ a → two ≡ one ++ b
    → three ≡ two ++ c → four ≡ three ++ d → four ++ e ≡ old ++ (a ++ b ++ c ++ d ++ e)
five_pieces old one two three four a b c d e f g h i = rw (i, h, g, f) (simp append_assoc)

-- how many are left
pub one_less : (count i : ℕ) → i < count → count - i ≡ suc (count - (i + 1))
one_less count i h = omega arith

pub none_left : (count i : ℕ) → count ≤ i → count - i ≡ 0
none_left count i h = omega arith

pub listed-append : (a b : List Insn) → listed (a ++ b) ≡ listed a ++ listed b
unfolding listed
listed-append a b = flat_map-append word_bytes a b

-- ---- the operations of a module

pub operations_are : (count next state : ℕ) → count ≡ suc next
    → operations count state ≡ record {
      value = (operation state).value ∷ (operations next (operation state).state).value;
      state = (operations next (operation state).state).state;
    }
unfolding operations operation
operations_are count next state e = rw e refl

pub operations-value : (count next state : ℕ) (insn : Insn) (after : ℕ) → count ≡ suc next
    → insn ≡ (operation state).value → after ≡ (operation state).state
    → listed (operations count state).value
    ≡ listed (insn ∷ []) ++ listed (operations next after).value
operations-value count next state insn after e v s =
    rw (v, s) (ap (λ (d : Drawn (List Insn)). listed d.value) (operations_are count next state e)
    ∙ listed-append ((operation state).value ∷ [])
    (operations next (operation state).state).value)

pub operations-state : (count next state after : ℕ) → count ≡ suc next
    → after ≡ (operation state).state
    → (operations count state).state ≡ (operations next after).state
operations-state count next state after e s =
    rw s (ap (λ (d : Drawn (List Insn)). d.state) (operations_are count next state e))

pub no_operations : (count state : ℕ) → count ≡ 0 → listed (operations count state).value ≡ []
unfolding operations listed
no_operations count state e = rw e refl

pub no_operations-state : (count state : ℕ) → count ≡ 0 → (operations count state).state ≡ state
unfolding operations
no_operations-state count state e = rw e refl

-- ---- the modules

pub modules_are : (count next state : ℕ) → count ≡ suc next → modules count state ≡ record {
  value = (module_code state).value ∷ (modules next (module_code state).state).value;
  state = (modules next (module_code state).state).state;
}
unfolding modules
modules_are count next state e = rw e refl

pub pages-value : (count next state after : ℕ) → count ≡ suc next
    → after ≡ (module_code state).state
    → pages_of (modules count state).value
    ≡ module_pages (module_code state).value ++ pages_of (modules next after).value
unfolding pages_of
pages-value count next state after e s =
    rw s (ap (λ (d : Drawn (List (List Insn))). pages_of d.value) (modules_are count next state e))

pub modules-state : (count next state after : ℕ) → count ≡ suc next
    → after ≡ (module_code state).state → (modules count state).state ≡ (modules next after).state
modules-state count next state after e s =
    rw s (ap (λ (d : Drawn (List (List Insn))). d.state) (modules_are count next state e))

pub no_modules : (count state : ℕ) → count ≡ 0 → pages_of (modules count state).value ≡ []
unfolding modules pages_of
no_modules count state e = rw e refl

pub no_modules-state : (count state : ℕ) → count ≡ 0 → (modules count state).state ≡ state
unfolding modules
no_modules-state count state e = rw e refl

pub segment_pages-value : (i count next : ℕ) → count ≡ suc next
    → segment_pages i count ≡ segment_page i ++ segment_pages (i + 1) next
unfolding segment_pages
segment_pages-value i count next e = rw e refl

pub no_segment_pages : (i count : ℕ) → count ≡ 0 → segment_pages i count ≡ []
unfolding segment_pages
no_segment_pages i count e = rw e refl

-- ---- the kernel

launches_are : (i count next : ℕ) → count ≡ suc next
    → launches i count ≡ launch i ++ launches (i + 1) next
unfolding launches
launches_are i count next e = rw e refl

pub launches-value : (i count next : ℕ) → count ≡ suc next
    → listed (launches i count) ≡ listed (launch i) ++ listed (launches (i + 1) next)
launches-value i count next e =
    ap listed (launches_are i count next e) ∙ listed-append (launch i) (launches (i + 1) next)

pub no_launches : (i count : ℕ) → count ≡ 0 → listed (launches i count) ≡ []
unfolding launches listed
no_launches i count e = rw e refl

pub calls_are : (j count next state : ℕ) → count ≡ suc next → kernel_calls j count state ≡ record {
  value = (kernel_call j state).value
      ++ (kernel_calls (j + 1) next (kernel_call j state).state).value;
  state = (kernel_calls (j + 1) next (kernel_call j state).state).state;
}
unfolding kernel_calls
calls_are j count next state e = rw e refl

pub calls-value : (j count next state after : ℕ) → count ≡ suc next
    → after ≡ (kernel_call j state).state
    → listed (kernel_calls j count state).value
    ≡ listed (kernel_call j state).value ++ listed (kernel_calls (j + 1) next after).value
calls-value j count next state after e s =
    rw s (ap (λ (d : Drawn (List Insn)). listed d.value) (calls_are j count next state e)
    ∙ listed-append (kernel_call j state).value
    (kernel_calls (j + 1) next (kernel_call j state).state).value)

pub calls-state : (j count next state after : ℕ) → count ≡ suc next
    → after ≡ (kernel_call j state).state
    → (kernel_calls j count state).state ≡ (kernel_calls (j + 1) next after).state
calls-state j count next state after e s =
    rw s (ap (λ (d : Drawn (List Insn)). d.state) (calls_are j count next state e))

pub no_calls : (j count state : ℕ) → count ≡ 0 → listed (kernel_calls j count state).value ≡ []
unfolding kernel_calls listed
no_calls j count state e = rw e refl

pub no_calls-state : (j count state : ℕ) → count ≡ 0 → (kernel_calls j count state).state ≡ state
unfolding kernel_calls
no_calls-state j count state e = rw e refl

-- ---- the script

rounds_are : (count next state : ℕ) → count ≡ suc next → rounds count state ≡ record {
  value = (commands_drawn state).value ∷ (rounds next (commands_drawn state).state).value;
  state = (rounds next (commands_drawn state).state).state;
}
unfolding rounds
rounds_are count next state e = rw e refl

pub rounds-value : (count next state after : ℕ) → count ≡ suc next
    → after ≡ (commands_drawn state).state
    → round_lines (rounds count state).value
    ≡ command_lines (commands_drawn state).value ++ round_lines (rounds next after).value
unfolding round_lines
rounds-value count next state after e s =
    rw s (ap (λ (d : Drawn (List (List Command))). round_lines d.value)
    (rounds_are count next state e))

pub rounds-state : (count next state after : ℕ) → count ≡ suc next
    → after ≡ (commands_drawn state).state → (rounds count state).state ≡ (rounds next after).state
rounds-state count next state after e s =
    rw s (ap (λ (d : Drawn (List (List Command))). d.state) (rounds_are count next state e))

pub no_rounds : (count state : ℕ) → count ≡ 0 → round_lines (rounds count state).value ≡ []
unfolding rounds round_lines
no_rounds count state e = rw e refl

pub no_rounds-state : (count state : ℕ) → count ≡ 0 → (rounds count state).state ≡ state
unfolding rounds
no_rounds-state count state e = rw e refl

-- ---- the definitions are of these parts

pub module_code-is : (state : ℕ) → module_code state ≡ record {
  value = module_with (operations 16 state).value;
  state = (operations 16 state).state;
}
unfolding module_code operations
module_code-is state = refl

-- a module's first instructions, its operations and its last instructions
pub module_code-value : (state : ℕ) → listed (module_code state).value
    ≡ listed module_start ++ listed (operations 16 state).value ++ listed module_end
module_code-value state =
    ap (λ (d : Drawn (List Insn)). listed d.value) (module_code-is state)
    ∙ listed-append (module_start ++ (operations 16 state).value) module_end
    ∙ ap (λ (bytes : List ℕ). bytes ++ listed module_end)
    (listed-append module_start (operations 16 state).value)

pub module_code-state : (state : ℕ) → (module_code state).state ≡ (operations 16 state).state
module_code-state state = ap (λ (d : Drawn (List Insn)). d.state) (module_code-is state)

pub kernel-is : (calls : List Insn) → kernel calls
    ≡ kernel_start ++ launches 0 8 ++ (kernel_count ++ calls) ++ kernel_end
unfolding kernel launches launch
kernel-is calls = refl

pub kernel-listed : (calls : List Insn) → listed (kernel calls) ≡ listed kernel_start
    ++ listed (launches 0 8) ++ listed kernel_count ++ listed calls ++ listed kernel_end
kernel-listed calls =
    ap listed (kernel-is calls)
    ∙ listed-append (kernel_start ++ launches 0 8 ++ (kernel_count ++ calls)) kernel_end
    ∙ ap (λ (bytes : List ℕ). bytes ++ listed kernel_end)
    (listed-append (kernel_start ++ launches 0 8) (kernel_count ++ calls)
    ∙ ap₂ ◌++◌ (listed-append kernel_start (launches 0 8)) (listed-append kernel_count calls)
    ∙ sym (append_assoc (listed kernel_start ++ listed (launches 0 8)) (listed kernel_count)
    (listed calls)))

image-is : (codes : List (List Insn)) (calls : List Insn) → image_of codes calls
    ≡ filled (listed (kernel calls)) ++ filled (listed handler) ++ zeros (6 * 4096)
    ++ segment_pages 0 8 ++ pages_of codes
unfolding image_of filled listed word_bytes kernel zeros segment_pages segment_page pages_of
    module_pages
image-is codes calls = refl

round_lines-is : (drawn : List (List Command))
    → flat_map command_line (flat_map (λ some. some) drawn) ≡ round_lines drawn
unfolding round_lines command_lines
round_lines-is [] = refl
round_lines-is (commands ∷ drawn) =
    flat_map-append command_line commands (flat_map (λ some. some) drawn)
    ∙ ap (λ (lines : List ℕ). flat_map command_line commands ++ lines) (round_lines-is drawn)

pub made_of-is : (number : ℕ) → made_of number ≡ made_with (modules 8 number).value
    (kernel_calls 0 64 (modules 8 number).state).value
    (rounds 64 (kernel_calls 0 64 (modules 8 number).state).state).value
unfolding made_of made_drawn modules rounds
made_of-is number = refl

pub made_of-image : (number : ℕ) → (made_of number).image
    ≡ filled (listed (kernel (kernel_calls 0 64 (modules 8 number).state).value))
    ++ filled (listed handler) ++ zeros (6 * 4096) ++ segment_pages 0 8
    ++ pages_of (modules 8 number).value
made_of-image number =
    ap (λ (made : Made). made.image) (made_of-is number)
    ∙ image-is (modules 8 number).value (kernel_calls 0 64 (modules 8 number).state).value

pub made_of-script : (number : ℕ) → script_text (made_of number)
    ≡ round_lines (rounds 64 (kernel_calls 0 64 (modules 8 number).state).state).value
unfolding script_text
made_of-script number =
    ap (λ (made : Made). flat_map command_line made.commands) (made_of-is number)
    ∙ round_lines-is (rounds 64 (kernel_calls 0 64 (modules 8 number).state).state).value
