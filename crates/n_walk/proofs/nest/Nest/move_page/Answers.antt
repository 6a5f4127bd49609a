use Rattle.std.proofs.Common.{◌≡◌, ◌<◌, ◌∷◌, ◌++◌, [], Some, length, ap, sym, ◌∙◌}
use Rattle.bn_types.specs.Numbers.{page_at}
use Rattle.bn_types.specs.declared.frame.Frame.{Frame}
use Rattle.bn_model.specs.Nesting.{placed_in}
use Rattle.n_walk.proofs.Leading.{last-free, frame-from_number}
use Rattle.n_walk.proofs.Looking.{leaf-place}
use Rattle.n_walk.proofs.Writing.{whole-set}
use Rattle.n_walk.proofs.Moving.{CanMove, holds-moved, contents-moved, here-moved, others-moved}
use Rattle.n_walk.proofs.Moving.{left-free-at}
use Rattle.n_walk.proofs.nest.Nest.move_page.Goals as goal

-- the page lies on the frame that its entry names, and the pool's last frame is free
can : (c : goal.After-push)
    → CanMove c.self.inside.frames c.lead.new.frames c.self.inside.ram_pages c.pop.new.self.items
    c.in-Some.target c.args.page.0 c.leaf_frame-left.result
can c =
    let inside : c.args.page.0 < c.self.inside.ram_pages =
    rw (← c.self.view_is) at c.requires.inside in
    let some = rw (← c.self.view_is) at c.requires.placed in
    record {
      holds = rw c.in-Some.ensures.items at c.self.invariant;
      inside = inside;
      placed =
          leaf-place c.self.inside.ram_pages c.self.inside.frames c.args.page.0 inside some
          ∙ ap (λ (f : Frame). Some f)
          (frame-from_number _ c.leaf_frame-left.result (sym c.leaf_frame-left.ensures));
      led = rw c.copy_frame.ensures at c.lead.ensures;
    }

pub lead-requires-clause-whole : goal.lead-requires-clause-whole
lead-requires-clause-whole c =
    rw c.copy_frame.ensures
    (whole-set c.self.inside.frames c.in-Some.target.0 _ size c.self.invariant.whole)
  where
    inside : c.args.page.0 < c.self.inside.ram_pages
    inside = rw (← c.self.view_is) at c.requires.inside

    placed : placed_in c.self.inside.ram_pages c.self.inside.frames c.args.page.0 ≡
        Some c.leaf_frame-left.result
    placed =
        leaf-place c.self.inside.ram_pages c.self.inside.frames c.args.page.0 inside
        (rw (← c.self.view_is) at c.requires.placed)
        ∙ ap (λ (f : Frame). Some f)
        (frame-from_number _ c.leaf_frame-left.result (sym c.leaf_frame-left.ensures))

    size : length (page_at c.self.inside.frames c.leaf_frame-left.result.0) ≡ 4096
    size =
        c.self.invariant.whole c.leaf_frame-left.result.0
        (c.self.invariant.nested.inside c.args.page.0 c.leaf_frame-left.result placed)

pub invariant_of-self-2 : goal.invariant_of-self-2
invariant_of-self-2 c =
    rw (c.zero.ensures, c.push.ensures.items) (holds-moved _ _ _ _ _ _ _ (can c))

pub returns-clause-free : goal.returns-clause-free
returns-clause-free c =
    let free = last-free _ _ c.pop.new.self.items c.in-Some.target (can c).holds in
    rw (← c.self.view_is)
    (record { apart = free.apart; inside = free.inside; unplaced = free.unplaced })

pub returns-clause-answer : goal.returns-clause-answer
returns-clause-answer c =
    (λ e. absurd (cc), λ none. absurd (none c.in-Some.target (returns-clause-free c)))

pub returns-clause-placed : goal.returns-clause-placed
returns-clause-placed c =
    rw (c.zero.ensures) (here-moved _ _ _ _ _ _ _ (can c))

pub returns-clause-others : goal.returns-clause-others
returns-clause-others c =
    rw (← c.self.view_is, c.zero.ensures) (others-moved _ _ _ _ _ _ _ (can c))

pub returns-clause-contents : goal.returns-clause-contents
returns-clause-contents c =
    rw (← c.self.view_is, c.zero.ensures) (contents-moved _ _ _ _ _ _ _ (can c))

pub returns-clause-left : goal.returns-clause-left
returns-clause-left c =
    rw (← c.self.view_is, c.zero.ensures, c.push.ensures.items)
    (left-free-at _ _ _ _ _ _ _ (can c) (c.pop.new.self.items ++ c.leaf_frame-left.result ∷ []))

pub returns-clause-nested : goal.returns-clause-nested
returns-clause-nested c = (invariant_of-self-2 c).nested
