-- The bytes of a page, read by words.
use Rattle.std.proofs.Common.{◌≡◌, ℕ, ◌+◌, ◌*◌, ◌++◌, ◌%◌, ◌<◌, List, take, drop}
use Rattle.std.proofs.Common.{Option, Some, None, sym, ap, ◌∙◌, arith}
use Rattle.std.specs.Prelude.{slice_get}
use Rattle.std.proofs.lemmas.List.{drop-drop, take_all}
use Rattle.std.proofs.Math.Seq.{take-add}
use Rattle.std.specs.Int.{to_le_bytes, w64}
use Rattle.bn_types.specs.Numbers.{number_at}
use Rattle.bn_types.specs.Visible.{state_at, state_of, word_at, word_of}
use Rattle.bn_types.specs.declared.page_state.PageState.TheVariants.{Free}
use Rattle.bn_types.specs.declared.width.Width.TheVariants.{B8}
use Rattle.bn_model.specs.Launching.{bytes_if_readable, bytes_on}
use Rattle.bn_model.proofs.SegmentTexts.{word-text}
use Rattle.bn_launch.specs.Readable.{AreWhole, IsWhole}

-- a word of a free page has the bytes that stand there
pub word_read : (pages : List (Option (List ℕ))) (page offset word : ℕ) → AreWhole pages
    → state_at pages page ≡ Free → offset % 8 ≡ 0 → offset < 4096
    → Some word ≡ word_at pages page offset
    → to_le_bytes w64 word ≡ take 8 (drop offset (bytes_on pages page))
word_read pages page offset word whole free is_aligned inside e =
    by_page (slice_get pages page) (whole page) free e where
      by_page : (o : Option (Option (List ℕ))) → IsWhole o → state_of o ≡ Free
          → Some word ≡ word_of o offset
          → to_le_bytes w64 word ≡ take 8 (drop offset (bytes_if_readable o))
      by_page None h s w = cc
      by_page (Some None) h s w = cc
      by_page (Some (Some bytes)) h s w =
          ap (to_le_bytes w64) (same word (number_at B8 bytes offset) w)
          ∙ word-text bytes offset h.1 (omega (arith, h.0)) where
            same : (a b : ℕ) → Some a ≡ Some b → a ≡ b
            same a b e = cc

-- a free page's word can be read
pub word_there : (pages : List (Option (List ℕ))) (page offset : ℕ) → state_at pages page ≡ Free
    → None ≡ word_at pages page offset → ⊥
word_there pages page offset free e = by_page (slice_get pages page) free e where
  by_page : (o : Option (Option (List ℕ))) → state_of o ≡ Free → None ≡ word_of o offset → ⊥
  by_page None s w = cc
  by_page (Some None) s w = cc
  by_page (Some (Some bytes)) s w = cc

-- a whole page is all that stands on it
pub whole_page : (pages : List (Option (List ℕ))) (page : ℕ) → AreWhole pages
    → state_at pages page ≡ Free
    → take 4096 (drop 0 (bytes_on pages page)) ≡ bytes_on pages page
whole_page pages page whole free = by_page (slice_get pages page) (whole page) free where
  by_page : (o : Option (Option (List ℕ))) → IsWhole o → state_of o ≡ Free
      → take 4096 (bytes_if_readable o) ≡ bytes_if_readable o
  by_page None h s = cc
  by_page (Some None) h s = cc
  by_page (Some (Some bytes)) h s = take_all 4096 bytes (omega (arith, h.0))

-- one word more of a stretch
more_words : (bytes : List ℕ) (from i : ℕ)
    → take (8 * (i + 1)) (drop from bytes) ≡
    take (8 * i) (drop from bytes) ++ take 8 (drop (from + 8 * i) bytes)
more_words bytes from i =
    let next : 8 * (i + 1) ≡ 8 * i + 8 = omega arith in
    rw next (take-add (8 * i) 8 (drop from bytes)
    ∙ ap (λ (rest : List ℕ). take (8 * i) (drop from bytes) ++ take 8 rest)
    (drop-drop (8 * i) from bytes))

pub word_step : (bytes now new word : List ℕ) (from i : ℕ)
    → take (8 * i) now ≡ take (8 * i) (drop from bytes)
    → take (8 * i + 8) new ≡ take (8 * i) now ++ word → word ≡ take 8 (drop (from + 8 * i) bytes)
    → take (8 * (i + 1)) new ≡ take (8 * (i + 1)) (drop from bytes)
word_step bytes now new word from i before put read =
    let next : 8 * (i + 1) ≡ 8 * i + 8 = omega arith in
    ap (λ (n : ℕ). take n new) next
    ∙ put
    ∙ ap (λ (front : List ℕ). front ++ word) before
    ∙ ap (λ (back : List ℕ). take (8 * i) (drop from bytes) ++ back) read
    ∙ sym (more_words bytes from i)
