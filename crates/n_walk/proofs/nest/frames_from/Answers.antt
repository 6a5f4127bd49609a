use Rattle.std.proofs.Common.{◌≡◌, ℕ, ◌+◌, ◌-◌, List, ◌∷◌, ◌++◌, [], ap, sym, ◌∙◌, arith, length}
use Rattle.std.proofs.lemmas.List.{length_push}
use Rattle.std.proofs.lemmas.List.FromFn.{map-range_with_len_more}
use Rattle.bn_types.specs.declared.frame.Frame.{Frame}
use Rattle.n_walk.specs.Building.{numbered, frame_numbered}
use Rattle.n_walk.proofs.nest.frames_from.Goals as goal

pub loop-frame-preserved : goal.loop-frame-preserved
loop-frame-preserved c =
    let more : c.loop-frame.frame + 1 - c.args.first ≡ c.loop-frame.frame - c.args.first + 1 =
    omega arith in
    record {
      items =
          c.push.ensures.items
          ∙ ap (λ (xs : List Frame). xs ++ frame_numbered c.loop-frame.frame ∷ [])
          c.loop-frame.invariant.items
          ∙ sym (map-range_with_len_more frame_numbered c.args.first
          (c.loop-frame.frame - c.args.first) c.loop-frame.frame (omega arith))
          ∙ ap (numbered c.args.first) (sym more);
      count =
          ap length c.push.ensures.items
          ∙ length_push c.loop-frame.frames.items (frame_numbered c.loop-frame.frame)
          ∙ ap (λ (n : ℕ). n + 1) c.loop-frame.invariant.count ∙ sym more;
    }
