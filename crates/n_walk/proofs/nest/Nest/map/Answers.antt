use Rattle.std.proofs.Common.{◌≡◌, ◌<◌, None, set}
use Rattle.bn_types.specs.Numbers.{zero_page}
use Rattle.bn_model.specs.Nesting.{placed_in}
use Rattle.bn_model.proofs.PageNumbers.{length-zero_page}
use Rattle.n_walk.specs.Holding.{Holds}
use Rattle.n_walk.proofs.Leading.{before, is-led, IsLed, last-free, holds-mapped, contents-mapped}
use Rattle.n_walk.proofs.Writing.{IsLeaf, whole-set}
use Rattle.n_walk.proofs.nest.Nest.map.Goals as goal

-- what holds before, with the frame at the end of the pool
holds : (c : goal.After-lead)
    → Holds (before c.self.inside.frames c.self.inside.ram_pages c.pop.new.self.items
    c.in-Some.fresh)
holds c = rw c.in-Some.ensures.items at c.self.invariant

inside : (c : goal.After-lead) → c.args.page.0 < c.self.inside.ram_pages
inside c = rw (← c.self.view_is) at c.requires.inside

unplaced : (c : goal.After-lead)
    → placed_in c.self.inside.ram_pages c.self.inside.frames c.args.page.0 ≡ None
unplaced c = rw (← c.self.view_is) at c.requires.unplaced

leaf : (c : goal.After-lead)
    → IsLeaf (set c.self.inside.frames c.in-Some.fresh.0 zero_page) c.lead.new.frames c.args.page.0
    c.in-Some.fresh
leaf c = rw c.zero.ensures at c.lead.ensures

is_led : (c : goal.After-lead)
    → IsLed c.self.inside.frames c.lead.new.frames c.self.inside.ram_pages c.args.page.0
    c.in-Some.fresh
is_led c =
    is-led _ _ c.pop.new.self.items c.in-Some.fresh (holds c) c.lead.new.frames c.args.page.0
    zero_page
    (inside c) (leaf c)

pub lead-requires-clause-whole : goal.lead-requires-clause-whole
lead-requires-clause-whole c =
    rw c.zero.ensures (whole-set c.self.inside.frames c.in-Some.fresh.0 zero_page length-zero_page
    c.self.invariant.whole)

pub invariant_of-self-2 : goal.invariant_of-self-2
invariant_of-self-2 c =
    holds-mapped _ _ c.pop.new.self.items c.in-Some.fresh (holds c) c.lead.new.frames c.args.page.0
    (is_led c) (unplaced c)

pub returns-clause-free : goal.returns-clause-free
returns-clause-free c =
    let free = last-free _ _ c.pop.new.self.items c.in-Some.fresh (holds c) in
    rw (← c.self.view_is)
    (record { apart = free.apart; inside = free.inside; unplaced = free.unplaced })

pub returns-clause-answer : goal.returns-clause-answer
returns-clause-answer c =
    (λ e. absurd (cc), λ none. absurd (none c.in-Some.fresh (returns-clause-free c)))

pub returns-clause-placed : goal.returns-clause-placed
returns-clause-placed c = (is_led c).here

pub returns-clause-others : goal.returns-clause-others
returns-clause-others c = rw (← c.self.view_is) (is_led c).others

pub returns-clause-contents : goal.returns-clause-contents
returns-clause-contents c =
    rw (← c.self.view_is)
    (contents-mapped _ _ c.pop.new.self.items c.in-Some.fresh (holds c) c.lead.new.frames
    c.args.page.0 (inside c) (unplaced c) (leaf c))

pub returns-clause-nested : goal.returns-clause-nested
returns-clause-nested c = (invariant_of-self-2 c).nested
