use Rattle.std.proofs.Common.{List, ap, ap₂, subst, ◌∙◌, w64}
use Rattle.std.proofs.Math.Facts.{sfits_lit, yes_ltb}
use Rattle.std.proofs.lemmas.Int.{to_z-of_z}
use Rattle.bn_types.specs.declared.mode.Mode.{Mode}
use Rattle.bn_types.specs.declared.request.Request.TheVariants as request
use Rattle.bn_types.specs.declared.row.Row.{Row}
use Rattle.bn_model.specs.Deciding.{decision_of_call}
use Rattle.bn_model.specs.Decision.{Refuse}
use Rattle.bn_model.specs.Rows.{row_of}
use Rattle.bn_model.specs.State.{State, hart_at}
use Rattle.bn_switch.specs.Refusals.{call_code}
use Rattle.bn_machine.specs.Making.{IsMade, state_after, text_after}
use Rattle.bn_machine.proofs.Switches.{state_called, state_put_back, told_called}
use Rattle.bn_machine.proofs.engine.Engine.call.Goals as goal

pub returns-in-Ok : goal.returns-in-Ok
returns-in-Ok c =
    let s = c.args.self.now.state in
    let stands = c.leave-here.ensures.context in
    let goes = c.in-Ok.ensures.context in
    let left = c.leave-here.ensures.left in
    let is = c.in-Ok.ensures.decision
    ∙ ap₂ (λ (mode : Mode) (rows : List Row).
    decision_of_call mode c.args.rd c.args.id c.args.entry (row_of rows c.args.id)) stands.mode
    (ap (λ (x : State). x.rows) left) in
    record {
      made = subst (IsMade s c.go_on_in.new.self.state c.tell_call.new.lines c.args.h) is
          (record {
            stepped = state_called s _ _ _ c.args.h c.args.rd c.args.id c.args.entry
                c.leave-here.result c.in-Ok.callee c.requires.hart stands goes left
                c.in-Ok.ensures.called c.go_on_in.ensures;
            told = told_called _ s.clock c.args.h c.args.entry _ (hart_at s c.args.h).current _
                (record { 0 = c.args.id }) _
                (ap (λ (x : State). x.clock) c.in-Ok.ensures.called
                ∙ ap (λ (x : State). x.clock) left)
                c.current-caller.ensures (c.module_of.ensures ∙ goes.current) c.tell_call.ensures;
          });
    }

pub returns-in-Err : goal.returns-in-Err
returns-in-Err c =
    let s = c.args.self.now.state in
    let h = c.args.h in
    let stands = c.leave-here.ensures.context in
    let left = c.leave-here.ensures.left in
    let number = call_code c.in-Err.refusal in
    let is = c.in-Err.ensures.decision
    ∙ ap₂ (λ (mode : Mode) (rows : List Row).
    decision_of_call mode c.args.rd c.args.id c.args.entry (row_of rows c.args.id)) stands.mode
    (ap (λ (x : State). x.rows) left) in
    let same = state_put_back s _ _ _ h c.leave-here.result c.in-Err.here c.requires.hart stands
    left
    c.in-Err.ensures.same c.in-Err.ensures.back c.settle.ensures.stepped in
    let code = to_z-of_z w64 c.code_of.result (sfits_lit (yes_ltb c.code_of.type_inv))
    ∙ c.code_of.ensures in
    record {
      made = subst (IsMade s c.refuse.new.self.state c.refuse.new.lines h) is
          (record {
            stepped = c.refuse.ensures.stepped number code
                ∙ ap (λ (x : State). state_after x h (Refuse c.args.rd request.Call number)) same;
            told = c.refuse.ensures.told number code
                ∙ ap (λ (x : State). text_after x h (Refuse c.args.rd request.Call number)) same;
          });
    }
