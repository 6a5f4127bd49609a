-- The generator (this project's own): from a number, an image and a script that try the secure
-- machine. The image has a kernel, its trap handler and eight modules; the kernel launches all
-- modules and then calls them in turn; the script interrupts them by keys and devices.
use Rattle.std.specs.Prelude.{ℕ, zero, suc, ◌+◌, ◌-◌, ◌*◌, ◌/◌, ◌%◌, ◌^◌, true, List, [], ◌∷◌, ◌++◌}
use Rattle.std.specs.Prelude.{ℤ, pos, neg_ℤ, codes, decimal, flat_map, length, replicate}
use Rattle.std.specs.Int.{to_le_bytes, w32}
use Rattle.std.specs.List.{range_with_len}
use Rattle.hex.specs.Hex.{encode_lower}
use Rattle.bn_types.specs.declared.csr_from.CsrFrom.TheVariants.{Register, Number}
use Rattle.bn_types.specs.declared.csr_op.CsrOp.TheVariants as csr_op
use Rattle.bn_types.specs.declared.imm_op.ImmOp.TheVariants as imm_op
use Rattle.bn_types.specs.declared.insn.Insn.{Insn}
use Rattle.bn_types.specs.declared.insn.Insn.TheVariants.{Auipc, Bastion, Branch, Csr, Ecall, Imm}
use Rattle.bn_types.specs.declared.insn.Insn.TheVariants.{Load, Reg2, Shift, Sret, Store}
use Rattle.bn_types.specs.declared.mode.Mode.TheVariants.{S}
use Rattle.bn_types.specs.declared.op.Op.TheVariants as op
use Rattle.bn_types.specs.declared.reg.Reg.{Reg}
use Rattle.bn_types.specs.declared.secure.Secure.TheVariants.{Call, Launch, Ret}
use Rattle.bn_types.specs.declared.seg_page.SegPage.{SegPage}
use Rattle.bn_types.specs.declared.segment.Segment.{Segment}
use Rattle.bn_types.specs.declared.shift_op.ShiftOp.TheVariants.{Left}
use Rattle.bn_types.specs.declared.sort.Sort.TheVariants.{Private}
use Rattle.bn_types.specs.declared.test.Test.TheVariants.{Ne}
use Rattle.bn_types.specs.declared.width.Width.TheVariants.{B8}
use Rattle.bn_model.specs.Assembling.{word_of}
use Rattle.bn_model.specs.Segments.{spelling_of_segment}
use Rattle.bn_model.specs.declared.command.Command.{Command}
use Rattle.bn_model.specs.declared.command.Command.TheVariants as command

-- ---- drawing

-- what is drawn, and the state of the draws after it
pub record Drawn (A : Type 0) : Type 0 where
  pub value : A
  pub state : ℕ

-- a drawing begins in a state of the draws
abbrev pub Draws : Type 0 → Type 0
Draws A = ℕ → Drawn A

-- a linear congruence modulo 2^64 (Knuth's MMIX)
unfoldable pub next_state : ℕ → ℕ
next_state state = (state * 6364136223846793005 + 1442695040888963407) % 2 ^ 64

abbrev pub drawn_in : (limit state : ℕ) → Drawn ℕ
drawn_in limit state = record { value = state / 2 ^ 33 % limit; state = state }

-- a number below a limit
unfoldable pub below : ℕ → Draws ℕ
below limit state = drawn_in limit (next_state state)

abbrev pub always : {A : Type 0} → A → Draws A
always value state = record { value = value; state = state }

abbrev pub then_by : {A B : Type 0} → Drawn A → (A → Draws B) → Drawn B
then_by first next = next first.value first.state

infixl 10 ◌>>=◌
abbrev pub ◌>>=◌ : {A B : Type 0} → Draws A → (A → Draws B) → Draws B
draw >>= next = λ state. then_by (draw state) next

-- so many, one after the other
abbrev pub times : {A : Type 0} → ℕ → Draws A → Draws (List A)
times zero draw = always []
times (suc count) draw =
    draw >>= (λ first. times count draw >>= (λ rest. always (first ∷ rest)))

-- ---- instructions by the names of the listings

abbrev pub x : ℕ → Reg
x number = record { 0 = number }

abbrev pub minus : ℕ → ℤ
minus number = neg_ℤ (pos number)

-- so many pages ahead
abbrev pub auipc : ℕ → ℕ → Insn
auipc rd pages = Auipc (x rd) (pos (4096 * pages))

abbrev pub addi : (rd left : ℕ) → ℤ → Insn
addi rd left imm = Imm imm_op.Add (x rd) (x left) imm

abbrev pub ld : (rd base offset : ℕ) → Insn
ld rd base offset = Load B8 true (x rd) (x base) (pos offset)

abbrev pub sd : (value base offset : ℕ) → Insn
sd value base offset = Store B8 (x base) (x value) (pos offset)

abbrev pub csrrw : (rd number rs1 : ℕ) → Insn
csrrw rd number rs1 = Csr csr_op.Write number (Register (x rs1)) (x rd)

abbrev pub csrrs : (rd number rs1 : ℕ) → Insn
csrrs rd number rs1 = Csr csr_op.Set number (Register (x rs1)) (x rd)

abbrev pub csrrsi : (rd number operand : ℕ) → Insn
csrrsi rd number operand = Csr csr_op.Set number (Number operand) (x rd)

-- the CSRs by their numbers (Privileged ISA, "CSR Listing")
abbrev pub sstatus : ℕ
sstatus = 0x100

abbrev pub sie : ℕ
sie = 0x104

abbrev pub stvec : ℕ
stvec = 0x105

abbrev pub sscratch : ℕ
sscratch = 0x140

abbrev pub time : ℕ
time = 0xc01

-- ---- the modules, i from 0 to 7

abbrev pub code_page : ℕ → ℕ
code_page i = 16 + 2 * i

abbrev pub data_page : ℕ → ℕ
data_page i = 17 + 2 * i

-- one of four operations on x6
abbrev pub operation_by : ℕ → Draws Insn
operation_by zero = always (Reg2 op.Add (x 6) (x 6) (x 10))
operation_by (suc zero) = always (Reg2 op.Xor (x 6) (x 6) (x 10))
operation_by (suc (suc zero)) =
    below 63 >>= (λ amount. always (Shift Left (x 6) (x 6) (1 + amount)))
operation_by (suc (suc (suc number))) =
    below 2048 >>= (λ imm. always (addi 6 6 (pos imm)))

-- a module adds what it is called with to its data, in its own way, and returns the sum
abbrev pub module_with : List Insn → List Insn
module_with operations =
    auipc 5 1 ∷ ld 6 5 0 ∷ operations ++
    sd 6 5 0 ∷ addi 10 6 (pos 0) ∷ Bastion Ret ∷ []

unfoldable pub module_code : Draws (List Insn)
module_code =
    times 16 (below 4 >>= operation_by) >>= (λ operations. always (module_with operations))

-- a private page at its own physical page number
abbrev pub own_page : (page rights : ℕ) → SegPage
own_page page rights = record {
  vpn = record { 0 = 0x80000 + page };
  sort = Private;
  rights = record { 0 = rights };
  mask = 0;
}

-- code that is loaded and fetched, data that is loaded and stored to, no partners
unfoldable pub module_segment : ℕ → Segment
module_segment i = record {
  mode = S;
  entries = record { items = (0x80000000 + 4096 * code_page i) ∷ [] };
  pages = record { items = own_page (code_page i) 5 ∷ own_page (data_page i) 3 ∷ [] };
  partners = record { items = [] };
}

-- ---- the kernel, on page 0

-- it sets the trap handler, a scratch area, a timer and its interrupts
abbrev pub kernel_start : List Insn
kernel_start =
    auipc 5 1 ∷ csrrw 0 stvec 5 ∷
    auipc 5 2 ∷ addi 5 5 (minus 8) ∷ csrrw 0 sscratch 5 ∷
    addi 5 0 (pos 32) ∷ csrrw 0 sie 5 ∷
    csrrs 10 time 0 ∷ addi 10 10 (pos 500) ∷ addi 17 0 (pos 0) ∷ Ecall ∷
    csrrsi 0 sstatus 2 ∷ []

-- at this offset it launches module i, whose id x(18 + i) keeps
abbrev pub launch_at : (offset i : ℕ) → List Insn
launch_at offset i =
    auipc 5 (8 + i) ∷ addi 5 5 (minus offset) ∷ Bastion (Launch (x (18 + i)) (x 5)) ∷ []

abbrev pub kernel_launch : ℕ → List Insn
kernel_launch i = launch_at (48 + 12 * i) i

-- at this offset it calls module i with a number and prints the answer's low byte
abbrev pub call_at : (offset i number : ℕ) → List Insn
call_at offset i number =
    auipc 6 (code_page i) ∷ addi 6 6 (minus offset) ∷ addi 10 0 (pos number) ∷
    Bastion (Call (x 7) (x (18 + i)) (x 6)) ∷ addi 17 0 (pos 1) ∷ Ecall ∷ []

-- call j, of a module and with a number that are drawn
unfoldable pub kernel_call : ℕ → Draws (List Insn)
kernel_call j =
    below 8 >>= (λ i. below 256 >>= (λ number. always (call_at (148 + 24 * j) i number)))

-- call j and those after it, so many
unfoldable pub kernel_calls : (j count : ℕ) → Draws (List Insn)
kernel_calls j zero = always []
kernel_calls j (suc count) =
    kernel_call j >>= (λ call. kernel_calls (j + 1) count >>= (λ rest. always (call ++ rest)))

-- all calls 100 times, and then shutdown
abbrev pub kernel_with : (calls : List Insn) → List Insn
kernel_with calls =
    kernel_start ++ flat_map kernel_launch (range_with_len 0 8) ++
    addi 8 0 (pos 100) ∷ calls ++
    addi 8 8 (minus 1) ∷ Branch Ne (x 8) (x 0) (minus 1540) ∷ addi 17 0 (pos 8) ∷ Ecall ∷ []

-- ---- the trap handler, on page 1: it sets the timer anew and goes back

abbrev pub handler : List Insn
handler =
    csrrw 5 sscratch 5 ∷ sd 10 5 0 ∷ sd 17 5 8 ∷
    csrrs 10 time 0 ∷ addi 10 10 (pos 500) ∷ addi 17 0 (pos 0) ∷ Ecall ∷
    ld 10 5 0 ∷ ld 17 5 8 ∷ csrrw 5 sscratch 5 ∷ Sret ∷ []

-- ---- the image, pages 0 to 31

abbrev pub insn_bytes : Insn → List ℕ
insn_bytes insn = to_le_bytes w32 (word_of insn)

abbrev pub code_bytes : List Insn → List ℕ
code_bytes insns = flat_map insn_bytes insns

-- a page that begins with some bytes
abbrev pub page_with : List ℕ → List ℕ
page_with bytes = bytes ++ replicate (4096 - length bytes) 0

abbrev pub segment_page : ℕ → List ℕ
segment_page i = page_with (spelling_of_segment (module_segment i))

-- a module's code page and its data page
abbrev pub module_pages : List Insn → List ℕ
module_pages code = page_with (code_bytes code) ++ replicate 4096 0

unfoldable pub image_of : (modules : List (List Insn)) → (calls : List Insn) → List ℕ
image_of modules calls =
    page_with (code_bytes (kernel_with calls)) ++ page_with (code_bytes handler) ++
    replicate (6 * 4096) 0 ++
    flat_map segment_page (range_with_len 0 8) ++
    flat_map module_pages modules

-- ---- the script

abbrev pub poke_drawn : Draws Command
poke_drawn =
    below 48 >>= (λ page. below 4096 >>= (λ offset. below 256 >>= (λ byte.
    always (command.Poke (record { 0 = 16 + page }) offset byte))))

abbrev pub peek_drawn : Draws Command
peek_drawn =
    below 64 >>= (λ page. below 4096 >>= (λ offset.
    always (command.Peek (record { 0 = page }) offset)))

-- a key, or a device's byte
abbrev pub device_by : ℕ → Draws Command
device_by zero = below 256 >>= (λ byte. always (command.Key byte))
device_by (suc zero) = poke_drawn
device_by (suc (suc number)) = peek_drawn

-- some turns, and then one of these
unfoldable pub commands_drawn : Draws (List Command)
commands_drawn =
    below 2000 >>= (λ turns. below 3 >>= device_by >>= (λ device.
    always (command.Go (100 + turns) ∷ device ∷ [])))

-- a command as a line of a script
abbrev pub command_line : Command → List ℕ
command_line (command.Turn hart count) =
    codes "turn " ++ decimal hart ++ codes " " ++ decimal count ++ codes "\n"
command_line (command.Go count) = codes "go " ++ decimal count ++ codes "\n"
command_line (command.Key byte) = codes "key " ++ encode_lower (byte ∷ []) ++ codes "\n"
command_line (command.Poke page offset byte) =
    codes "poke " ++ decimal page.0 ++ codes " " ++ decimal offset ++ codes " " ++
    encode_lower (byte ∷ []) ++ codes "\n"
command_line (command.Peek page offset) =
    codes "peek " ++ decimal page.0 ++ codes " " ++ decimal offset ++ codes "\n"

-- ---- the whole

pub record Made : Type 0 where
  -- a raw image
  pub image : List ℕ
  pub commands : List Command

-- the text of the script
unfoldable pub script_text : Made → List ℕ
script_text made = flat_map command_line made.commands

abbrev pub made_with : List (List Insn) → List Insn → List (List Command) → Made
made_with modules calls commands =
    record { image = image_of modules calls; commands = flat_map (λ some. some) commands }

-- first the modules are drawn, then the kernel's calls, then the script
unfoldable pub made_drawn : Draws Made
made_drawn =
    times 8 module_code >>= (λ modules. kernel_calls 0 64 >>= (λ calls.
    times 64 commands_drawn >>= (λ commands. always (made_with modules calls commands))))

-- what the generator makes of a number below 2^64
unfoldable pub made_of : ℕ → Made
made_of number = (made_drawn number).value
