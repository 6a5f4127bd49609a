use Rattle.std.proofs.Common.{List, None, Some, subst}
use Rattle.bn_types.specs.declared.record.Record.{Record}
use Rattle.bn_model.specs.Reporting.{closing}
use Rattle.bn_front.specs.Stored.{store_of}
use Rattle.bn_front.specs.Story.{ClosesStored, device_of}
use Rattle.bn_front.proofs.Commits.{commit_left, failure_counts, failure_left, image_stands}
use Rattle.bn_front.proofs.stored.commit_and_close.Goals as goal

pub returns-in-Ok-clause-closes : goal.returns-in-Ok-clause-closes
returns-in-Ok-clause-closes g c =
    let s = store_of (g.V.Vault.account c.args.vault.now) (g.C.Chip.account c.args.chip.now) in
    let n = store_of (g.V.Vault.account c.commit.new.vault)
    (g.C.Chip.account c.commit.new.chip) in
    let current = c.args.held.current in
    let records = c.store.result.now in
    subst (λ (rs : List Record). ClosesStored rs
    (closing c.args.ending c.args.machine.now.state) c.close.result s n
    (g.O.Sink.account c.args.out.now) (g.O.Sink.account c.close.new.out)) c.store.ensures
    (record {
      failed = None;
      left = commit_left s n current records c.requires.place c.in-Ok.ensures.any_moment
          (image_stands s n current records c.requires.place
          (c.in-Ok.ensures.stable (λ e. cc)) c.in-Ok.ensures.opens_old
          c.in-Ok.ensures.opens_new)
          c.in-Ok.ensures.set;
      counts = record {
        vault = c.in-Ok.ensures.vault_faults;
        chip = c.in-Ok.ensures.chip_faults;
      };
      closed = c.close.ensures.answers;
    })

pub returns-in-Err-clause-closes : goal.returns-in-Err-clause-closes
returns-in-Err-clause-closes g c =
    let s = store_of (g.V.Vault.account c.args.vault.now) (g.C.Chip.account c.args.chip.now) in
    let n = store_of (g.V.Vault.account c.commit.new.vault)
    (g.C.Chip.account c.commit.new.chip) in
    let current = c.args.held.current in
    let records = c.store.result.now in
    subst (λ (rs : List Record). ClosesStored rs
    (closing c.args.ending c.args.machine.now.state) c.say_unwritten.result s n
    (g.O.Sink.account c.args.out.now) (g.O.Sink.account c.say_unwritten.new.out))
    c.store.ensures
    (record {
      failed = Some (device_of c.in-Err.fault);
      left = failure_left s n current records c.requires.place c.in-Err.fault
          c.in-Err.ensures.any_moment
          (λ apart. image_stands s n current records c.requires.place
          (c.in-Err.ensures.stable apart) c.in-Err.ensures.opens_old
          c.in-Err.ensures.opens_new)
          c.in-Err.ensures.unset c.in-Err.ensures.unsure;
      counts = failure_counts c.in-Err.fault s n c.in-Err.ensures.vault_faults
          c.in-Err.ensures.chip_faults;
      closed = c.say_unwritten.ensures.answers;
    })
