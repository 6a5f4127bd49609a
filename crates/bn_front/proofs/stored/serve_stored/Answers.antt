use Rattle.std.proofs.Common.{inr, sym, ◌∙◌}
use Rattle.bn_front.specs.Meant.{own_meant}
use Rattle.bn_front.specs.Stored.{areas_of, store_of}
use Rattle.bn_front.proofs.Commits.{runs_on, unopened}
use Rattle.bn_front.proofs.StoreLemmas.{opened_in, opened_place}
use Rattle.bn_front.proofs.stored.serve_stored.Goals as goal

pub serve_opened-requires-clause-place : goal.serve_opened-requires-clause-place
serve_opened-requires-clause-place g c = λ storage tells.
    let e = c.in-Ok.ensures in
    opened_place storage c.in-Ok.opened.fresh c.in-Ok.opened.store c.in-Ok.opened.held.current
    (e.opened (areas_of storage) storage.register (sym e.areas_stay ∙ tells.areas)
    (sym e.register_stays ∙ tells.register))

pub returns-in-Ok-clause-runs : goal.returns-in-Ok-clause-runs
returns-in-Ok-clause-runs g c =
    let e = c.in-Ok.ensures in
    let s = store_of (g.V.Vault.account c.args.vault.now) (g.C.Chip.account c.args.chip.now) in
    let m = store_of (g.V.Vault.account c.reopen.new.vault)
    (g.C.Chip.account c.reopen.new.chip) in
    let n = store_of (g.V.Vault.account c.serve_opened.new.vault)
    (g.C.Chip.account c.serve_opened.new.chip) in
    inr (inr (inr (record {
      records = c.in-Ok.opened.store;
      finds = λ storage tells.
          opened_in storage c.in-Ok.opened.fresh c.in-Ok.opened.store
          c.in-Ok.opened.held.current
          (e.opened (areas_of storage) storage.register tells.areas tells.register);
      runs = runs_on s m n (λ a left. g.met.V.Vault.only_now c.args.vault.now a left)
          (record {
            stays = record {
              areas = e.areas_stay;
              register = e.register_stays;
              crash = e.crash;
              time = e.time;
            };
            counts = record { vault = e.vault_faults; chip = e.chip_faults };
          })
          _ c.serve_opened.result _ _ c.serve_opened.ensures.runs;
    })))

pub returns-in-Err-clause-runs : goal.returns-in-Err-clause-runs
returns-in-Err-clause-runs g c =
    let e = c.in-Err.ensures in
    let s = store_of (g.V.Vault.account c.args.vault.now) (g.C.Chip.account c.args.chip.now) in
    let n = store_of (g.V.Vault.account c.reopen.new.vault)
    (g.C.Chip.account c.reopen.new.chip) in
    unopened (own_meant c.args.order.now) c.args.inputs c.in-Err.fault c.refuse_store.result s n _ _
    (record {
      areas = e.areas_stay;
      register = e.register_stays;
      crash = e.crash;
      time = e.time;
    })
    e.vault_faults e.chip_faults e.refused c.refuse_store.ensures.answers
