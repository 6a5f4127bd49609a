-- The parts of what is generated. What the definition has so many times has a count here, or a
-- place and a count, so that it can be said of the first few.
use Rattle.std.specs.Prelude.{ℕ, List, ◌∷◌, [], ◌++◌, pos, flat_map, replicate}
use Rattle.std.specs.List.{range_with_len}
use Rattle.bn_types.specs.declared.insn.Insn.{Insn}
use Rattle.bn_types.specs.declared.insn.Insn.TheVariants.{Bastion, Branch, Ecall}
use Rattle.bn_types.specs.declared.secure.Secure.TheVariants.{Ret}
use Rattle.bn_types.specs.declared.test.Test.TheVariants.{Ne}
use Rattle.bn_model.specs.Generating.{Draws, ◌>>=◌, addi, auipc, below, command_line}
use Rattle.bn_model.specs.Generating.{commands_drawn, ld, sd}
use Rattle.bn_model.specs.Generating.{device_by, insn_bytes, kernel_launch, kernel_with, minus}
use Rattle.bn_model.specs.Generating.{module_code, operation_by, module_segment}
use Rattle.bn_model.specs.Generating.{page_with, times, x}
use Rattle.bn_model.specs.Segments.{spelling_of_segment}
use Rattle.bn_model.specs.declared.command.Command.{Command}

-- ---- bytes

-- an instruction's word, little endian
unfoldable pub word_bytes : Insn → List ℕ
word_bytes insn = insn_bytes insn

-- the words of instructions
unfoldable pub listed : List Insn → List ℕ
listed insns = flat_map word_bytes insns

-- zeros up to the end of the page
unfoldable pub filled : List ℕ → List ℕ
filled bytes = page_with bytes

unfoldable pub zeros : ℕ → List ℕ
zeros count = replicate count 0

-- the lines of commands
unfoldable pub command_lines : List Command → List ℕ
command_lines commands = flat_map command_line commands

-- ---- the modules

-- a module gets its data
abbrev pub module_start : List Insn
module_start = auipc 5 1 ∷ ld 6 5 0 ∷ []

-- it keeps the sum, and returns it
abbrev pub module_end : List Insn
module_end = sd 6 5 0 ∷ addi 10 6 (pos 0) ∷ Bastion Ret ∷ []

unfoldable pub operation : Draws Insn
operation = below 4 >>= operation_by

unfoldable pub operations : (count : ℕ) → Draws (List Insn)
operations count = times count (below 4 >>= operation_by)

unfoldable pub modules : (count : ℕ) → Draws (List (List Insn))
modules count = times count module_code

-- a module's code page and data page
unfoldable pub module_pages : List Insn → List ℕ
module_pages code = filled (listed code) ++ zeros 4096

-- the pages of modules, one after the other
unfoldable pub pages_of : List (List Insn) → List ℕ
pages_of codes = flat_map module_pages codes

unfoldable pub segment_page : (i : ℕ) → List ℕ
segment_page i = filled (spelling_of_segment (module_segment i))

-- the segment pages of so many modules, from module i on
unfoldable pub segment_pages : (i count : ℕ) → List ℕ
segment_pages i count = flat_map segment_page (range_with_len i count)

-- ---- the kernel

unfoldable pub launch : (i : ℕ) → List Insn
launch i = kernel_launch i

-- the launches of so many modules, from module i on
unfoldable pub launches : (i count : ℕ) → List Insn
launches i count = flat_map launch (range_with_len i count)

unfoldable pub kernel : (calls : List Insn) → List Insn
kernel calls = kernel_with calls

-- the kernel's count of rounds
abbrev pub kernel_count : List Insn
kernel_count = addi 8 0 (pos 100) ∷ []

-- one round less, and after the last the machine is shut down
abbrev pub kernel_end : List Insn
kernel_end =
    addi 8 8 (minus 1) ∷ Branch Ne (x 8) (x 0) (minus 1540) ∷ addi 17 0 (pos 8) ∷ Ecall ∷ []

-- ---- the script

unfoldable pub device : Draws Command
device = below 3 >>= device_by

-- so many rounds of turns and a device
unfoldable pub rounds : (count : ℕ) → Draws (List (List Command))
rounds count = times count commands_drawn

unfoldable pub round_lines : List (List Command) → List ℕ
round_lines drawn = flat_map command_lines drawn
