use Rattle.std.proofs.Common.{◌<◌, ◌∙◌, arith}
use Rattle.bn_machine.proofs.Filling.{opening_harts_more}
use Rattle.bn_machine.proofs.machine.booting.start_harts.Goals as goal

pub loop-hart-preserved : goal.loop-hart-preserved
loop-hart-preserved c =
    let some : 0 < c.loop-hart._hart = omega arith in
    c.in_ok-push_hart-2.ensures
    ∙ rw (c.loop-hart.invariant, c.resting.ensures)
    (opening_harts_more c.loop-hart._hart c.args.entry some)
