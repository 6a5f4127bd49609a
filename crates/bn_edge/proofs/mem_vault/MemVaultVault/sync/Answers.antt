use Rattle.std.proofs.Common.{refl, sym, [], vec_capacity}
use Rattle.std.proofs.lemmas.List.{append-nil}
use Rattle.bn_edge.proofs.StandingLemmas.{elapses_to, kept_syncing}
use Rattle.bn_edge.proofs.mem_vault.MemVaultVault.sync.Goals as goal

pub returns-then-is_listed-clause-listed : goal.returns-then-is_listed-clause-listed
returns-then-is_listed-clause-listed c = rw (← c.self.view_is) (λ small. (
  λ failed. rw (c.deref.ensures.value, c.counted-self-inside.ensures small) at (c.if-is_listed.ensures.0 refl),
  λ listed. refl,
))

pub invariant_of-self-then-has_loose : goal.invariant_of-self-then-has_loose
invariant_of-self-then-has_loose c = kept_syncing c.self.inside.texts.items c.self.inside.past.items c.push.new.self.items
    c.self.inside.now c.on_disk-self-inside.result c.self.inside.writes
    (vec_capacity c.self.inside.texts) (vec_capacity c.self.inside.past) (vec_capacity c.push.new.self)
    c.in-Ok.ensures.items c.on_disk-self-inside.ensures c.in-Ok.ensures.capacity (sym c.if-has_loose.ensures) c.self.invariant

pub returns-in-Ok-clause-time : goal.returns-in-Ok-clause-time
returns-in-Ok-clause-time c = rw (← c.self.view_is) (elapses_to c.self.inside.texts.items c.self.inside.texts.items c.self.inside.past.items c.push.new.self.items
    c.self.inside.now c.on_disk-self-inside.result c.self.inside.faults c.self.inside.faults [] (sym (append-nil c.self.inside.texts.items)) c.in-Ok.ensures.items
    c.self.invariant.now_whole c.self.invariant.past_whole)
