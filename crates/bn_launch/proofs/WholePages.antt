-- Pages that are whole, each by itself.
use Rattle.std.proofs.Common.{◌≡◌, ℕ, ◌<◌, ◌≤◌, ◌⊎◌, List, length, take, Option, Some, None, inl}
use Rattle.std.proofs.Common.{inr, sym, subst}
use Rattle.std.specs.List.{All}
use Rattle.std.specs.Prelude.{slice_get}
use Rattle.std.proofs.lemmas.Bool.{cases_lt}
use Rattle.std.proofs.lemmas.List.{take_all}
use Rattle.std.proofs.lemmas.Option.{slice_get-get_or, slice_get_past}
use Rattle.bn_launch.specs.Readable.{AreWhole, IsWhole, IsWholePage}

whole_all : (pages : List (Option (List ℕ))) → All IsWholePage pages → AreWhole pages
whole_all pages each page = by_place (cases_lt page (length pages)) where
  by_place : (page < length pages) ⊎ (length pages ≤ page) → IsWhole (slice_get pages page)
  by_place (inl lt) =
      subst IsWhole (sym (slice_get-get_or pages page None lt)) (each page None lt)
  by_place (inr past) = subst IsWhole (sym (slice_get_past pages page past)) tt

-- once all have been read
pub whole_end : (pages : List (Option (List ℕ))) (i : ℕ) → length pages ≤ i
    → All IsWholePage (take i pages) → AreWhole pages
whole_end pages i all each =
    whole_all pages (subst (All IsWholePage) (take_all i pages all) each)
