use Rattle.std.proofs.Common.{ap, subst, sym, ◌∙◌}
use Rattle.bn_model.specs.Rows.{owners}
use Rattle.bn_unit.specs.Dropping.{AreOffered}
use Rattle.bn_machine.specs.Standing.{Standing}
use Rattle.bn_machine.proofs.Askers.{all-offered}
use Rattle.bn_machine.proofs.engine.Engine.remove_rows.Goals as goal

pub release-requires : goal.release-requires
release-requires g c = record {
  offered = subst AreOffered
      (sym (c.self.invariant.owned
      ∙ ap (λ (v : Standing). owners v.state.rows) c.self.view_is))
      (all-offered c.args.self.now.state c.requires);
}
