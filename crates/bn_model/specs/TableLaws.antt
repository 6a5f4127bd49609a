-- What holds of the instruction table as a whole.
use Rattle.std.specs.Prelude.{◌≡◌, ℕ, ◌^◌, ◌<◌, ◌↔◌, Some}
use Rattle.bn_types.specs.declared.insn.Insn.{Insn}
use Rattle.bn_model.specs.Decoding.{insn_of}
use Rattle.bn_model.specs.Encoding.{Encodes}
use Rattle.bn_model.specs.InsnRanges.{IsInRange}

-- the definition by opcodes is the table
abbrev pub FollowsTable : Type 0
FollowsTable = (word : ℕ) (insn : Insn) → (insn_of word ≡ Some insn) ↔ Encodes word insn

-- the table relates a word to one instruction at most
abbrev pub HasOneInsn : Type 0
HasOneInsn = (word : ℕ) (one other : Insn) → Encodes word one → Encodes word other → one ≡ other

-- the table relates an instruction in range to exactly one word of 32 bits
abbrev pub HasOneWord : Type 0
HasOneWord =
    (insn : Insn) → IsInRange insn →
    (word : ℕ) × (word < 2 ^ 32) × Encodes word insn ×
    ((other : ℕ) → other < 2 ^ 32 → Encodes other insn → other ≡ word)

-- each field of an instruction that the table relates to a word is in its range
abbrev pub KeepsRanges : Type 0
KeepsRanges = (word : ℕ) (insn : Insn) → Encodes word insn → IsInRange insn
