-- Calls to the hypervisor: ECALL in mode S of the untrusted world (this project's table, after the
-- SBI and its legacy calls).
use Rattle.std.specs.Prelude.{ℕ, ◌+◌, ◌-◌, ◌%◌, ◌^◌, ◌==◌, Bool, true, false, nat_le, nat_lt, not}
use Rattle.std.specs.Prelude.{◌&&◌, ◌||◌, if◌then◌else◌, List, slice_index, slice_index_or}
use Rattle.std.specs.List.{list_all, range_with_len}
use Rattle.bn_types.specs.declared.regs.Regs.{Regs}
use Rattle.bn_types.specs.declared.sbi_ask.SbiAsk.{SbiAsk}
use Rattle.bn_types.specs.declared.sbi_ask.SbiAsk.TheVariants as ask
use Rattle.bn_model.specs.Bits.{flag, is_set}

-- ---- the calls by their numbers

pub data HyperCall : Type 0 where
  SetTimer : HyperCall
  ConsolePutchar : HyperCall
  ConsoleGetchar : HyperCall
  Shutdown : HyperCall
  HartStart : HyperCall
  SendIpi : HyperCall
  NoCall : HyperCall

abbrev pub call_if : Bool → HyperCall → HyperCall
call_if true call = call
call_if false call = NoCall

-- the call of an extension, in a7, and a function, in a6, which the legacy calls ignore
unfoldable pub call_of : (extension function : ℕ) → HyperCall
call_of extension function =
    if extension == 0
    then SetTimer
    else if extension == 1
    then ConsolePutchar
    else if extension == 2
    then ConsoleGetchar
    else if extension == 8
    then Shutdown
    else if extension == 0x48534D
    then call_if (function == 0) HartStart
    else call_if ((extension == 0x735049) && (function == 0)) SendIpi

-- ---- errors, in 64 bits

abbrev pub not_supported : ℕ
not_supported = 2 ^ 64 - 2

abbrev pub invalid_parameter : ℕ
invalid_parameter = 2 ^ 64 - 3

abbrev pub invalid_address : ℕ
invalid_address = 2 ^ 64 - 5

abbrev pub already_available : ℕ
already_available = 2 ^ 64 - 6

-- ---- hart_start

abbrev pub refuse_unless : Bool → ℕ → SbiAsk → SbiAsk
refuse_unless true error next = next
refuse_unless false error next = ask.Refuse error

-- a hart that isn't started, at a multiple of 4
abbrev pub ask_of_start : (harts : ℕ) → (started : List Bool) → (hart pc opaque : ℕ) → SbiAsk
ask_of_start harts started hart pc opaque =
    refuse_unless (nat_lt hart harts) invalid_parameter (
    refuse_unless (pc % 4 == 0) invalid_address (
    refuse_unless (not (slice_index_or started hart false)) already_available (
    ask.Start hart pc opaque)))

-- ---- send_ipi

-- the base that names all harts
abbrev pub all_harts : ℕ
all_harts = 2 ^ 64 - 1

-- bit i of the mask names hart base + i
abbrev pub names_hart : (mask base hart : ℕ) → Bool
names_hart mask base hart = nat_le base hart && is_set mask (hart - base)

-- a mask of the harts 0 to 3
abbrev pub mask_of : (ℕ → Bool) → ℕ
mask_of names = flag 0 (names 0) + flag 1 (names 1) + flag 2 (names 2) + flag 3 (names 3)

abbrev pub is_hart_if_named : (harts mask base i : ℕ) → Bool
is_hart_if_named harts mask base i = not (is_set mask i) || nat_lt (base + i) harts

-- each bit of the mask names a hart
unfoldable pub are_harts : (harts mask base : ℕ) → Bool
are_harts harts mask base = list_all (is_hart_if_named harts mask base) (range_with_len 0 64)

abbrev pub is_below : (harts hart : ℕ) → Bool
is_below harts hart = nat_lt hart harts

abbrev pub ask_of_ipi_if : (names_all : Bool) → (harts mask base : ℕ) → SbiAsk
ask_of_ipi_if true harts mask base = ask.Ipi (mask_of (is_below harts))
ask_of_ipi_if false harts mask base =
    refuse_unless (are_harts harts mask base) invalid_parameter
    (ask.Ipi (mask_of (names_hart mask base)))

abbrev pub ask_of_ipi : (harts mask base : ℕ) → SbiAsk
ask_of_ipi harts mask base = ask_of_ipi_if (base == all_harts) harts mask base

-- ---- the table

abbrev pub ask_by : HyperCall → (harts : ℕ) → (started : List Bool) → (a0 a1 a2 : ℕ) → SbiAsk
ask_by SetTimer harts started a0 a1 a2 = ask.SetTimer a0
ask_by ConsolePutchar harts started a0 a1 a2 = ask.Put (a0 % 2 ^ 8)
ask_by ConsoleGetchar harts started a0 a1 a2 = ask.Get
ask_by Shutdown harts started a0 a1 a2 = ask.Shutdown
ask_by HartStart harts started a0 a1 a2 = ask_of_start harts started a0 a1 a2
ask_by SendIpi harts started a0 a1 a2 = ask_of_ipi harts a0 a1
ask_by NoCall harts started a0 a1 a2 = ask.Refuse not_supported

-- what a call asks for, by its registers, the number of harts and which of them are started
unfoldable pub ask_of : Regs → (harts : ℕ) → (started : List Bool) → SbiAsk
ask_of regs harts started =
    ask_by (call_of (slice_index regs.x 17) (slice_index regs.x 16)) harts started
    (slice_index regs.x 10) (slice_index regs.x 11) (slice_index regs.x 12)
