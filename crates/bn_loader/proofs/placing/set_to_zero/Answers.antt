use Rattle.bn_loader.proofs.placing.set_to_zero.Goals as goal

pub returns : goal.returns
returns c = c.fill.ensures.after (λ y e. e)
