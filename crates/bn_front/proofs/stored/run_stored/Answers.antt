use Rattle.std.proofs.Common.{inl, inr, refl}
use Rattle.bn_front.specs.Stored.{store_of}
use Rattle.bn_front.proofs.Commits.{ends_stored, unread}
use Rattle.bn_front.proofs.stored.run_stored.Goals as goal

pub returns-in-Ok-clause-runs : goal.returns-in-Ok-clause-runs
returns-in-Ok-clause-runs g c =
    inr (inr (ends_stored _ _ _ c.commit_and_close.result c.in-Ok.ending _ _ _ _ _ _
    c.in-Ok.ensures.finished c.commit_and_close.ensures.closes))

pub returns-clause-runs : goal.returns-clause-runs
returns-clause-runs g c =
    inr (inl (
      record { is = refl; front = c.in-Err.ensures.front },
      unread (store_of (g.V.Vault.account c.args.vault.now) (g.C.Chip.account c.args.chip.now)),
    ))
