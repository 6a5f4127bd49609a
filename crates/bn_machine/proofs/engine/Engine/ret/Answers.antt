use Rattle.std.proofs.Common.{ℕ, List, ap, ap₂, ◌∙◌}
use Rattle.bn_types.specs.declared.mod_id.ModId.{ModId}
use Rattle.bn_types.specs.declared.row.Row.{Row}
use Rattle.bn_model.specs.Deciding.{caller_of}
use Rattle.bn_model.specs.Rows.{row_of}
use Rattle.bn_model.specs.State.{State, hart_at}
use Rattle.bn_model.specs.Switching.{frame_of_caller}
use Rattle.bn_machine.proofs.Switches.{state_returned, told_returned}
use Rattle.bn_machine.proofs.engine.Engine.ret.Goals as goal

-- where the caller of a module goes on
pc-of : List Row → ModId → ℕ
pc-of rows m = (frame_of_caller (caller_of (row_of rows m.0)).0 rows m.0).pc

pub returns : goal.returns
unfolding pc-of
returns c =
    let s = c.args.self.now.state in
    let m = (hart_at s c.args.h).current in
    let rows = ap (λ (x : State). x.rows) c.leave-here.ensures.left in
    let stands = c.leave-here.ensures.context in
    let goes = c.return_in_table-back.ensures.context in
    record {
      made = record {
        stepped = state_returned s _ _ _ c.args.h (pc-of s.rows m) c.leave-here.result
            c.return_in_table-back.result c.requires.hart stands goes c.leave-here.ensures.left
            c.return_in_table-back.ensures.returned c.go_on_in.ensures;
        told = told_returned _ s.clock c.args.h _ (pc-of s.rows m) _ m _
            (caller_of (row_of s.rows m.0)) _
            (ap (λ (x : State). x.clock) c.return_in_table-back.ensures.returned
            ∙ ap (λ (x : State). x.clock) c.leave-here.ensures.left)
            c.current-returned.ensures
            (c.module_of.ensures ∙ goes.current
            ∙ ap₂ (λ (rows : List Row) (m : ModId). caller_of (row_of rows m.0)) rows
            stands.current)
            (goes.pc ∙ ap₂ pc-of rows stands.current)
            c.tell_return.ensures;
      };
    }
