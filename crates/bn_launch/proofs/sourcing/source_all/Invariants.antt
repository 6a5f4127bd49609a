use Rattle.std.proofs.Common.{◌≡◌, map, take, true}
use Rattle.std.specs.List.{list_all}
use Rattle.bn_model.specs.Launching.{has_source, with_source}
use Rattle.bn_model.specs.Rows.{enclaves}
use Rattle.bn_launch.proofs.sourcing.source_all.Given as goal

abbrev pub invariant-loop-decl : goal.invariant-loop-decl
invariant-loop-decl l = record {
  offered : list_all (has_source (enclaves l.table.rows) l.who) (take l.decl-index l.decls) ≡ true;
  decls : l.sourced.items ≡
      map (with_source (enclaves l.table.rows) l.who) (take l.decl-index l.decls);
}
