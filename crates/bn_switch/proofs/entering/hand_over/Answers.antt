use Rattle.std.proofs.Common.{◌∙◌, ap, subst, List}
use Rattle.bn_types.specs.declared.row.Row.{Row}
use Rattle.bn_model.specs.Soundness.{state_at}
use Rattle.bn_table.specs.Tables.{IsRunning}
use Rattle.bn_switch.specs.Contexts.{IsSeated}
use Rattle.bn_switch.proofs.HandoverLemmas.{idle-after_wait, may_call-after_wait, rows-after_call}
use Rattle.bn_switch.proofs.entering.hand_over.Goals as goal

pub enter-requires-in-Some-clause-idle : goal.enter-requires-in-Some-clause-idle
enter-requires-in-Some-clause-idle c =
    let running : IsRunning (state_at c.args.table.now.rows c.in-Some.seat.0) =
    subst (IsSeated c.args.table.now.rows) c.in-Some.is c.requires.seated in
    rw c.wait.ensures (idle-after_wait _ _ _ _ running c.requires.idle)

pub enter-requires-in-Some-clause-caller : goal.enter-requires-in-Some-clause-caller
enter-requires-in-Some-clause-caller c =
    let running : IsRunning (state_at c.args.table.now.rows c.in-Some.seat.0) =
    subst (IsSeated c.args.table.now.rows) c.in-Some.is c.requires.seated in
    rw (c.wait.ensures, c.id-caller.ensures) (may_call-after_wait _ _ _ _ running)

pub returns-in-Some-clause-table : goal.returns-in-Some-clause-table
returns-in-Some-clause-table c =
    let running : IsRunning (state_at c.args.table.now.rows c.in-Some.seat.0) =
    subst (IsSeated c.args.table.now.rows) c.in-Some.is c.requires.seated in
    c.enter-in-Some.ensures.table
    ∙ rw (c.wait.ensures, c.id-caller.ensures, c.zero.ensures, c.in-Some.is)
    (ap (λ (rows : List Row). record c.args.table.now { rows = rows })
    (rows-after_call c.args.table.now _ _ _ _ c.facts.ensures running))
