use Rattle.std.proofs.Common.{◌≡◌, ◌<◌, ◌≤◌, ◌+◌, ◌∙◌, ◌==◌, [], List, ℕ, false, true, sym, ap}
use Rattle.std.proofs.Common.{subst, arith, rules, length}
use Rattle.std.proofs.lemmas.Bool.Decides.{nat_tests}
use Rattle.bn_types.specs.Splitting.{pieces_after, split_by}
use Rattle.bn_model.specs.declared.command.Command.{Command}
use Rattle.bn_model.specs.Scripts.{commands_from, joined}
use Rattle.bn_script.specs.Drawing.{OrdersEvents}
use Rattle.bn_script.proofs.LineLemmas.{joined_none, line_added, few_left, lines_over, no_pieces}
use Rattle.bn_script.proofs.LineLemmas.{pieces_from, rest_is, text_refused}
use Rattle.bn_script.proofs.reading.read_lines.Goals as goal

pub lines-init : goal.lines-init
lines-init c =
    let empty : c.new-commands.result.items ≡ [] = search rules in
    record {
      whole = subst (λ (cs : List Command).
          commands_from c.args.harts 1 (split_by 10 c.args.text.now) ≡
          joined cs (commands_from c.args.harts 1 (split_by 10 c.args.text.now)))
          (sym empty) (sym
          (joined_none (commands_from c.args.harts 1 (split_by 10 c.args.text.now))));
      few = omega (arith, c.requires.short);
      orders = subst (OrdersEvents c.args.harts) (sym empty) (λ i. c.requires.some);
    }

pub returns-in-Err-clause-refused : goal.returns-in-Err-clause-refused
returns-in-Err-clause-refused c =
    text_refused c.args.harts c.lines.number c.lines.commands.items c.in-Err.error
    (commands_from c.args.harts 1 (split_by 10 c.args.text.now)) c.lines.rest.now
    c.split_first.result.0.now c.split_first.result.1.now c.lines.invariant.whole
    c.split_first.ensures.pieces c.in-Err.ensures.refused

pub lines-preserved : goal.lines-preserved
lines-preserved c =
    let line = c.split_first.result.0.now in
    let more = c.split_first.result.1.now in
    let new = c.read_line.new.commands.items in
    let test : (length c.split_first.result.1.now == 0) ≡ false = sym c.is_empty.ensures
    ∙ c.if-is_empty.false in
    let some : 0 < length c.split_first.result.1.now = grind (arith, nat_tests) in
    let left = rest_is more some in
    record {
      whole = c.lines.invariant.whole
          ∙ line_added c.args.harts c.lines.number c.lines.commands.items new c.lines.rest.now line
          more c.split_first.ensures.pieces c.in-Ok.ensures.added
          ∙ ap (λ (ps : List (List ℕ)).
          joined new (commands_from c.args.harts (c.lines.number + 1) ps)) (pieces_from more some)
          ∙ ap (λ (t : List ℕ).
          joined new (commands_from c.args.harts (c.lines.number + 1) (split_by 10 t))) (sym left);
      few = subst (λ (t : List ℕ). c.lines.number + 1 + length t ≤ 1048577) (sym left)
          (few_left c.lines.number 1048577 c.lines.rest.now line more c.split_first.ensures.whole
          some c.lines.invariant.few);
      orders = c.in-Ok.ensures.orders c.lines.invariant.orders;
    }

pub returns-then-is_empty-clause-read : goal.returns-then-is_empty-clause-read
returns-then-is_empty-clause-read c =
    let line = c.split_first.result.0.now in
    let more = c.split_first.result.1.now in
    let new = c.read_line.new.commands.items in
    let test : (length c.split_first.result.1.now == 0) ≡ true = sym c.is_empty.ensures
    ∙ c.if-is_empty.true in
    let none : pieces_after 10 c.split_first.result.1.now ≡ [] = no_pieces more test in
    c.lines.invariant.whole
    ∙ line_added c.args.harts c.lines.number c.lines.commands.items new c.lines.rest.now line more
    c.split_first.ensures.pieces c.in-Ok.ensures.added
    ∙ ap (λ (ps : List (List ℕ)). joined new (commands_from c.args.harts (c.lines.number + 1) ps))
    none
    ∙ lines_over c.args.harts (c.lines.number + 1) new
