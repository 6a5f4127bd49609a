use Rattle.std.proofs.Common.{Some, refl, subst, sym}
use Rattle.bn_front.specs.declared.order.Order.{Order}
use Rattle.bn_front.specs.Tasks.{task_by}
use Rattle.bn_front.specs.Headline.{outside}
use Rattle.bn_front.specs.Meant.{order_meant}
use Rattle.bn_front.specs.Stored.{store_of}
use Rattle.bn_front.specs.Story.{IsStory}
use Rattle.bn_front.proofs.Serving.{generated_story}
use Rattle.bn_front.proofs.top.serve_order.Goals as goal

pub returns-in-Gen-clause-story : goal.returns-in-Gen-clause-story
returns-in-Gen-clause-story g c =
    let old = outside (g.D.Desk.account c.args.desk.now) (g.V.Vault.account c.args.vault.now)
    (g.C.Chip.account c.args.chip.now) (g.O.Sink.account c.args.out.now) in
    let new = outside (g.D.Desk.account c.args.desk.now) (g.V.Vault.account c.args.vault.now)
    (g.C.Chip.account c.args.chip.now) (g.O.Sink.account c.serve_generated.new.out) in
    subst (λ (order : Order).
    IsStory c.serve_generated.result (task_by (Some (order_meant order))) old new)
    (sym c.in-Gen.is)
    (generated_story (g.D.Desk.account c.args.desk.now) (g.D.Desk.account c.args.desk.now)
    (store_of (g.V.Vault.account c.args.vault.now) (g.C.Chip.account c.args.chip.now))
    (g.O.Sink.account c.args.out.now) (g.O.Sink.account c.serve_generated.new.out) _
    c.serve_generated.result refl c.serve_generated.ensures.runs)
