use Rattle.std.proofs.Common.{refl, vec_capacity, arith}
use Rattle.bn_edge.proofs.StandingLemmas.{not_torn, torn_to, elapses_to, kept_writing}
use Rattle.bn_edge.proofs.mem_vault.MemVaultVault.write_area.Goals as goal

pub returns-then-is_refused-clause-crash : goal.returns-then-is_refused-clause-crash
returns-then-is_refused-clause-crash c = rw (← c.self.view_is) (not_torn c.args.area c.self.inside.texts.items c.self.inside.now c.self.invariant.now_whole)

pub returns-then-is_refused-clause-refused : goal.returns-then-is_refused-clause-refused
returns-then-is_refused-clause-refused c = rw (← c.self.view_is) (λ small. (
  λ failed. rw (c.deref.ensures.value, c.counted-self-inside.ensures small) at (c.if-is_refused.ensures.0 refl),
  λ refused. refl,
))

pub invariant_of-self-2 : goal.invariant_of-self-2
invariant_of-self-2 c = kept_writing c.args.area c.self.inside.texts.items c.args.text.now c.extend_from_slice.new.self.items
    c.self.inside.past.items c.push.new.self.items c.self.inside.now c.with_area_at-self-inside.result c.len-at.result c.self.inside.writes
    (vec_capacity c.self.inside.texts) (vec_capacity c.self.inside.past) (vec_capacity c.extend_from_slice.new.self) (vec_capacity c.push.new.self)
    (omega (arith, c.self.inside.texts.ok.0, c.len-at.ensures)) c.in-Ok.ensures.items c.in-Ok-push.ensures.items c.with_area_at-self-inside.ensures
    c.in-Ok.ensures.capacity c.in-Ok-push.ensures.capacity c.self.invariant (grind (arith, c.if-is_refused.ensures)) c.requires

pub returns-clause-crash : goal.returns-clause-crash
returns-clause-crash c = rw (← c.self.view_is) (torn_to c.args.area c.self.inside.texts.items c.args.text.now c.extend_from_slice.new.self.items
    c.self.inside.now c.with_area_at-self-inside.result c.len-at.result (omega (arith, c.self.inside.texts.ok.0, c.len-at.ensures)) c.in-Ok.ensures.items c.with_area_at-self-inside.ensures c.self.invariant.now_whole c.requires)

pub returns-clause-time : goal.returns-clause-time
returns-clause-time c = rw (← c.self.view_is) (elapses_to c.self.inside.texts.items c.extend_from_slice.new.self.items c.self.inside.past.items c.push.new.self.items
    c.self.inside.now c.with_area_at-self-inside.result c.self.inside.faults c.self.inside.faults c.args.text.now c.in-Ok.ensures.items c.in-Ok-push.ensures.items
    c.self.invariant.now_whole c.self.invariant.past_whole)
