-- The pages that no module owns, one after another.
use Rattle.std.proofs.Common.{◌≡◌, ℕ, ◌+◌, ◌*◌, ◌<◌, Bool, true, false, List, [], ◌∷◌, ◌++◌, take}
use Rattle.std.proofs.Common.{length, get_or, Option, None, refl, ap, ◌∙◌, arith}
use Rattle.std.proofs.lemmas.List.{append-nil, take_more}
use Rattle.std.proofs.lemmas.List.Concat.{flat_map-append}
use Rattle.std.proofs.lemmas.List.Sums.{count_by_more_no, count_by_more_yes}
use Rattle.std.specs.Prelude.{count_by, flat_map, is_some, slice_index_or}
use Rattle.bn_model.specs.Reporting.{bytes_if_free}
use Rattle.bn_unit.specs.Memory.{words_if}

-- what can be read of the pages, one page more
pub flat_map-take : (seen : List (Option (List ℕ))) (i : ℕ) → i < length seen
    → flat_map bytes_if_free (take (i + 1) seen) ≡
    flat_map bytes_if_free (take i seen) ++ bytes_if_free (slice_index_or seen i None)
flat_map-take seen i below =
    ap (flat_map bytes_if_free) (take_more seen i None below)
    ∙ flat_map-append bytes_if_free (take i seen) (get_or seen i None ∷ [])
    ∙ ap (λ (last : List ℕ). flat_map bytes_if_free (take i seen) ++ last)
    (append-nil (bytes_if_free (get_or seen i None)))

-- and the table words that it costs
pub words-take : (seen : List (Option (List ℕ))) (i start old new : ℕ) → i < length seen
    → old ≡ start + 3 * count_by is_some (take i seen)
    → new ≡ old + words_if (is_some (slice_index_or seen i None))
    → new ≡ start + 3 * count_by is_some (take (i + 1) seen)
words-take seen i start old new below before e =
    go (is_some (slice_index_or seen i None)) refl where
      go : (b : Bool) → is_some (slice_index_or seen i None) ≡ b
          → new ≡ start + 3 * count_by is_some (take (i + 1) seen)
      go true here =
          let more = count_by_more_yes is_some seen i None below here in
          let cost : words_if (is_some (slice_index_or seen i None)) ≡ 3 = ap words_if here in
          omega (arith, more, cost, before, e)
      go false here =
          let more = count_by_more_no is_some seen i None below here in
          let cost : words_if (is_some (slice_index_or seen i None)) ≡ 0 = ap words_if here in
          omega (arith, more, cost, before, e)
