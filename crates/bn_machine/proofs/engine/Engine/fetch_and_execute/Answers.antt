use Rattle.std.proofs.Common.{sym, ◌∙◌}
use Rattle.bn_machine.proofs.Turns.{counted-fetched, counted-unfetched, made-fetched}
use Rattle.bn_machine.proofs.Turns.{made-unfetched}
use Rattle.bn_machine.proofs.engine.Engine.fetch_and_execute.Goals as goal

pub returns-in-Ok-clause-made : goal.returns-in-Ok-clause-made
returns-in-Ok-clause-made g c =
    made-fetched _ _ _ _ _ c.in-Ok.word c.fetch.ensures.kept
    (sym c.fetch.ensures.word ∙ c.in-Ok.is) c.execute.ensures.made

pub returns-in-Err-clause-made : goal.returns-in-Err-clause-made
returns-in-Err-clause-made g c =
    made-unfetched c.args.self.now.state _ _ _ _ c.in-Err.fault c.fetch.ensures.kept
    (sym c.fetch.ensures.word ∙ c.in-Err.is) c.fail_fetch.ensures.made

pub returns-in-Ok-clause-few : goal.returns-in-Ok-clause-few
returns-in-Ok-clause-few g c =
    counted-fetched _ _ _ c.in-Ok.word _ _ _ c.fetch.ensures.kept
    (sym c.fetch.ensures.word ∙ c.in-Ok.is) c.fetch.ensures.few c.execute.ensures.few

pub returns-in-Err-clause-few : goal.returns-in-Err-clause-few
returns-in-Err-clause-few g c =
    counted-unfetched c.args.self.now.state c.args.h c.in-Err.fault _ _ (sym
    c.fetch.ensures.word ∙ c.in-Err.is)
    c.fetch.ensures.few
