use Rattle.bn_types.specs.Numbers.{page_at}
use Rattle.bn_model.proofs.MixedLists.{mixed}
use Rattle.bn_model.specs.Nesting.{contents}
use Rattle.bn_machine.proofs.Filling.{HasBytes}
use Rattle.bn_machine.proofs.machine.booting.write_page.Given as goal

-- the page so far holds its bytes
abbrev pub invariant-loop-offset : goal.invariant-loop-offset
invariant-loop-offset l =
    HasBytes l.initial.nest l.nest l.fn.page.0
    (mixed l.offset l.bytes (page_at (contents l.initial.nest) l.fn.page.0))
