-- Words as texts.
use Rattle.std.proofs.Common.{◌≡◌, ◌==◌, ℕ, Bool, true, false, List, [], ◌∷◌}
use Rattle.std.proofs.Common.{length, refl, arith}
use Rattle.std.proofs.lemmas.Bool.Decides.{nat_tests}
use Rattle.std.proofs.lemmas.Str.{IsUtf8-from_is_utf8, is_utf8-from_IsUtf8}
use Rattle.std.specs.Str.{is_utf8, IsUtf8}
use Rattle.bn_model.specs.CommandLines.{is_some_text}

pub some_text : (word : List ℕ) → (length word == 0) ≡ false → IsUtf8 word
    → is_some_text word ≡ true
some_text [] some text = grind (arith, nat_tests)
some_text (first ∷ word) some text = is_utf8-from_IsUtf8 (first ∷ word) text

pub no_text : (word : List ℕ) → (IsUtf8 word → ⊥) → is_some_text word ≡ false
no_text [] unless = refl
no_text (first ∷ word) unless = by_test (is_utf8 (first ∷ word)) refl where
  by_test : (b : Bool) → is_utf8 (first ∷ word) ≡ b → is_utf8 (first ∷ word) ≡ false
  by_test true t = absurd (unless (IsUtf8-from_is_utf8 (first ∷ word) t))
  by_test false t = t
