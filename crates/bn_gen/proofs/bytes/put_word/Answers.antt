-- The table has one word of 32 bits for an instruction.
use Rattle.std.proofs.Common.{◌≡◌, ℕ, ◌++◌, OnOk, rules, subst}
use Rattle.std.specs.Int.{to_le_bytes, w32}
use Rattle.bn_model.proofs.AssemblingLemmas.{Encodes-word_of}
use Rattle.bn_model.specs.Assembling.{word_of}
use Rattle.bn_gen.proofs.WordSizes.{word_of-fits}
use Rattle.bn_gen.specs.Parts.{word_bytes}
use Rattle.bn_gen.proofs.bytes.put_word.Goals as goal

pub returns : goal.returns
unfolding word_bytes
returns c =
    let insn = c.args.insn.now in
    let word : c.encode.result ≡ word_of insn =
    c.encode.ensures.only (word_of insn) (word_of-fits insn c.requires)
    (Encodes-word_of insn c.requires) in
    subst (λ (w : ℕ). OnOk c.extend_from_slice.result
    (c.extend_from_slice.new.self.items ≡ c.args.bytes.now.items ++ to_le_bytes w32 w)) word
    (search rules)
