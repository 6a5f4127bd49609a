use Rattle.std.proofs.Common.{◌≡◌, ◌∙◌, rules}
use Rattle.bn_gen.proofs.TallyLemmas.{summary_made}
use Rattle.bn_gen.specs.Tallies.{tally_of}
use Rattle.bn_gen.proofs.tally.Tally.summary.Goals as goal

pub returns-in-Ok : goal.returns-in-Ok
returns-in-Ok c = λ run told clock finish digest.
    let counts : c.self.inside.counts ≡ tally_of run.told = search rules in
    c.in-Ok.ensures
    ∙ summary_made c.args.number c.args.events c.self.inside.counts c.args.finish c.args.digest.now
    run counts clock finish digest
