use Rattle.std.proofs.Common.{inl, inr, refl}
use Rattle.bn_front.proofs.Commits.{ends_plainly}
use Rattle.bn_front.proofs.plain.run_plainly.Goals as goal

pub returns-in-Ok-clause-runs : goal.returns-in-Ok-clause-runs
returns-in-Ok-clause-runs g c =
    inr (inr (ends_plainly _ _ _ c.close.result c.in-Ok.ending _ _ _ _ c.in-Ok.ensures.finished
    c.close.ensures.answers))

pub returns-clause-runs : goal.returns-clause-runs
returns-clause-runs g c = inr (inl (record { is = refl; front = c.in-Err.ensures.front }))
