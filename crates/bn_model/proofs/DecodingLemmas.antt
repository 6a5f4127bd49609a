-- Laws of the instruction of a word.
use Rattle.std.proofs.Common.{◌≡◌, ℕ, Option, Some, IfSome, subst}
use Rattle.bn_types.specs.declared.insn.Insn.{Insn}
use Rattle.bn_model.specs.Decoding.{insn_of}
use Rattle.bn_model.specs.Encoding.{Encodes}
use Rattle.bn_model.specs.InsnRanges.{IsInRange}
use Rattle.bn_model.proofs.ListedLemmas.{Encodes-insn_of}
use Rattle.bn_model.proofs.WordLemmas.{IsInRange-Encodes}

-- a word's instruction has its fields in range
pub insn_in_range : (w : ℕ) (i : Insn) → insn_of w ≡ Some i → IsInRange i
insn_in_range w i e = IsInRange-Encodes w i
    (subst (λ (r : Option Insn). IfSome r (Encodes w)) e (Encodes-insn_of w))
