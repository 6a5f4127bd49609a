use Rattle.bn_front.specs.Headline.{outside}
use Rattle.bn_front.specs.Meant.{own_meant}
use Rattle.bn_front.specs.Stored.{store_of}
use Rattle.bn_front.proofs.Serving.{plain_story, refusal_story, stored_story}
use Rattle.bn_front.proofs.top.serve_run.Goals as goal

pub returns-then-order-clause-story : goal.returns-then-order-clause-story
returns-then-order-clause-story g c =
    stored_story (own_meant c.args.order.now) c.in-Ok.inputs
    (outside (g.D.Desk.account c.args.desk.now) (g.V.Vault.account c.args.vault.now)
    (g.C.Chip.account c.args.chip.now) (g.O.Sink.account c.args.out.now))
    (outside (g.D.Desk.account c.read_inputs.new.desk)
    (g.V.Vault.account c.serve_stored.new.vault) (g.C.Chip.account c.serve_stored.new.chip)
    (g.O.Sink.account c.serve_stored.new.out))
    c.in-Ok.ensures.reads c.if-order.true c.serve_stored.result c.serve_stored.ensures.runs

pub returns-else-order-clause-story : goal.returns-else-order-clause-story
returns-else-order-clause-story g c =
    plain_story (own_meant c.args.order.now) c.in-Ok.inputs (g.D.Desk.account c.args.desk.now)
    (g.D.Desk.account c.read_inputs.new.desk)
    (store_of (g.V.Vault.account c.args.vault.now) (g.C.Chip.account c.args.chip.now))
    (g.O.Sink.account c.args.out.now) (g.O.Sink.account c.serve_plain.new.out)
    c.serve_plain.result c.if-order.false c.in-Ok.ensures.reads c.serve_plain.ensures.runs

pub returns-in-Err-clause-story : goal.returns-in-Err-clause-story
returns-in-Err-clause-story g c =
    refusal_story (g.D.Desk.account c.args.desk.now) (g.D.Desk.account c.read_inputs.new.desk)
    (store_of (g.V.Vault.account c.args.vault.now) (g.C.Chip.account c.args.chip.now))
    (g.O.Sink.account c.args.out.now) (g.O.Sink.account c.refuse.new.out)
    (own_meant c.args.order.now) c.in-Err.refusal c.refuse.result c.in-Err.ensures.reads
    c.refuse.ensures.answers
