use Rattle.std.proofs.Common.{◌≡◌, ◌<◌, ◌≤◌, ◌+◌, ◌%◌, ◌∙◌, ℕ, sym, ap, subst, arith}
use Rattle.bn_model.specs.Scripts.{after_event}
use Rattle.bn_script.specs.Drawing.{GoesOn, script_at}
use Rattle.bn_script.proofs.DrawingLemmas.{draws_here, goes_over, next_past, on_over, on_past}
use Rattle.bn_script.proofs.DrawingLemmas.{on_within, past_here, rest_past, rest_within}
use Rattle.bn_script.proofs.DrawingLemmas.{within_here}
use Rattle.bn_script.proofs.script.draw.Goals as goal

pub overflow_add-more : goal.overflow_add-more
overflow_add-more c =
    let within = within_here c.args.harts c.args.commands.now c.args.at c.args.done
    c.in-Some.command c.requires (sym c.in-Some.ensures) in
    let few : c.args.done < c.count_of-count.result =
    subst (λ (n : ℕ). c.args.done < n) (sym c.count_of-count.ensures) within in
    omega (arith, few, c.count_of-count.type_inv)

pub overflow_cast-result : goal.overflow_cast-result
overflow_cast-result c =
    let few : c.args.done < c.args.harts =
    past_here c.args.harts c.args.commands.now c.args.at c.args.done c.requires
    (sym c.in-None.ensures) in
    omega (arith, few, c.requires.few)

pub hart_after-requires : goal.hart_after-requires
hart_after-requires c =
    rw c.from.ensures
    (past_here c.args.harts c.args.commands.now c.args.at c.args.done c.requires
    (sym c.in-None.ensures))

pub returns-then-more : goal.returns-then-more
returns-then-more c =
    let harts = c.args.harts in let commands = c.args.commands.now in let at = c.args.at in
    let done = c.args.done in
    let below = subst (λ (n : ℕ). c.args.done + 1 < n) c.count_of-count.ensures c.if-more.true in
    record {
      event = c.event_of-event.ensures
          ∙ draws_here harts commands at done c.in-Some.command c.requires (sym c.in-Some.ensures);
      rest = rest_within harts commands at done c.in-Some.command (sym c.in-Some.ensures) below;
      on = on_within harts commands at done c.in-Some.command c.requires (sym c.in-Some.ensures)
          below;
    }

pub returns-else-more : goal.returns-else-more
returns-else-more c =
    let harts = c.args.harts in let commands = c.args.commands.now in let at = c.args.at in
    let done = c.args.done in
    let over = subst (λ (n : ℕ). n ≤ c.args.done + 1) c.count_of-count.ensures c.if-more.false in
    record {
      event = c.event_of-event.ensures
          ∙ draws_here harts commands at done c.in-Some.command c.requires (sym c.in-Some.ensures);
      rest = goes_over harts commands at done c.in-Some.command c.requires (sym c.in-Some.ensures)
          over;
      on = on_over harts commands at done c.in-Some.command c.requires (sym c.in-Some.ensures);
    }

pub returns-in-None : goal.returns-in-None
returns-in-None c =
    let harts = c.args.harts in let commands = c.args.commands.now in let at = c.args.at in
    let done = c.args.done in
    let none = sym c.in-None.ensures in
    let next : c.hart_after.result ≡ (done + 1) % harts =
    c.hart_after.ensures ∙ ap (λ (n : ℕ). (done + 1) % n) c.from.ensures in
    record {
      event = next_past harts commands at done none;
      rest = subst (λ (n : ℕ). script_at harts commands at n
          ≡ after_event (script_at harts commands at done)) (sym next)
          (rest_past harts commands at done none);
      on = subst (λ (n : ℕ). GoesOn harts commands at n) (sym next)
          (on_past harts commands at done c.requires none);
    }
