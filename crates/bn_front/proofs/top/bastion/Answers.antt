use Rattle.bn_front.proofs.Stories as stories
use Rattle.bn_front.proofs.top.bastion.Goals as goal

pub returns-clause-promise : goal.returns-clause-promise
returns-clause-promise g c =
    stories.promise _ _ _ _ (λ a left. g.met.V.Vault.only_now c.args.vault.now a left)
    c.serve.ensures.story c.serve.ensures.counted
