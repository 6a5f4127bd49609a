use Rattle.std.proofs.Common.{refl}
use Rattle.bn_edge.proofs.mem_vault.MemVaultVault.read_area.Goals as goal

pub returns-then-is_listed-clause-listed : goal.returns-then-is_listed-clause-listed
returns-then-is_listed-clause-listed c = rw (← c.self.view_is) (λ small. (
  λ failed. rw (c.deref.ensures.value, c.counted-self-inside.ensures small) at (c.if-is_listed.ensures.0 refl),
  λ listed. refl,
))
