use Rattle.std.proofs.Common.{ap, refl, subst, ◌∙◌}
use Rattle.bn_front.specs.Tasks.{Task, has_store}
use Rattle.bn_front.specs.Headline.{outside}
use Rattle.bn_front.specs.Meant.{bytes_of_words}
use Rattle.bn_front.specs.Stored.{store_of}
use Rattle.bn_front.specs.Story.{IsStory}
use Rattle.bn_front.proofs.Serving.{asked, words_story}
use Rattle.bn_front.proofs.top.serve.Goals as goal

pub returns-in-Ok-clause-story : goal.returns-in-Ok-clause-story
returns-in-Ok-clause-story g c =
    let old = outside (g.D.Desk.account c.args.desk.now) (g.V.Vault.account c.args.vault.now)
    (g.C.Chip.account c.args.chip.now) (g.O.Sink.account c.args.out.now) in
    let new = outside (g.D.Desk.account c.serve_order.new.desk)
    (g.V.Vault.account c.serve_order.new.vault) (g.C.Chip.account c.serve_order.new.chip)
    (g.O.Sink.account c.serve_order.new.out) in
    subst (λ (task : Task). IsStory c.serve_order.result task old new)
    (asked (bytes_of_words c.args.words.now) _ c.in-Ok.ensures.read)
    c.serve_order.ensures.story

pub returns-in-Err-clause-story : goal.returns-in-Err-clause-story
returns-in-Err-clause-story g c =
    words_story (g.D.Desk.account c.args.desk.now) (g.D.Desk.account c.args.desk.now)
    (store_of (g.V.Vault.account c.args.vault.now) (g.C.Chip.account c.args.chip.now))
    (g.O.Sink.account c.args.out.now) (g.O.Sink.account c.refuse_words.new.out)
    (bytes_of_words c.args.words.now) c.in-Err.error c.refuse_words.result c.in-Err.ensures.read
    refl c.refuse_words.ensures.answers

pub returns-in-Ok-clause-uncalled : goal.returns-in-Ok-clause-uncalled
returns-in-Ok-clause-uncalled g c = λ plain.
    c.serve_order.ensures.uncalled
    (ap has_store (asked (bytes_of_words c.args.words.now) _ c.in-Ok.ensures.read) ∙ plain)
