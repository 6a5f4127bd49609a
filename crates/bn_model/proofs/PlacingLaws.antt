-- The placement and the tree after a frame past the tables changes.
use Rattle.std.proofs.Common.{◌≡◌, ℕ, ◌+◌, ◌/◌, ◌%◌, ◌≤◌, List, set, sym, ap, ◌∙◌, arith}
use Rattle.bn_types.specs.declared.frame.Frame.{Frame}
use Rattle.bn_model.specs.Nesting.{Nested, IsTree, leaf_to, table_frames, placed_in}
use Rattle.bn_model.proofs.NestingLaws.{entry-other_frame, placed-kept}

-- a frame past the tables that changes leaves the placement
pub placed-past : (ram : ℕ) (frames : List (List ℕ)) (f : ℕ) (bytes : List ℕ) (page : ℕ)
    → table_frames ram ≤ f
    → placed_in ram (set frames f bytes) page ≡ placed_in ram frames page
placed-past ram frames f bytes page past =
    placed-kept ram frames (set frames f bytes) page
    (λ lt. entry-other_frame frames f bytes (5 + page / 512) (page % 512)
    (λ e. absurd (omega arith)))

-- and the tree
pub tree-past : (n : Nested) (f : ℕ) (bytes : List ℕ) (free : List Frame) → table_frames n.ram ≤ f
    → IsTree n
    → IsTree (record { frames = set n.frames f bytes; free = free; ram = n.ram })
tree-past n f bytes free past t = record {
  root = λ i lt. entry-other_frame n.frames f bytes (i / 512) (i % 512) (λ e. absurd (omega arith))
      ∙ t.root i lt;
  middle = λ i lt. entry-other_frame n.frames f bytes 4 i (λ e. absurd (omega arith))
      ∙ t.middle i lt;
  low = λ page lt.
      entry-other_frame n.frames f bytes (5 + page / 512) (page % 512) (λ e. absurd (omega arith))
      ∙ t.low page lt
      ∙ ap leaf_to (sym (placed-past n.ram n.frames f bytes page past));
}
