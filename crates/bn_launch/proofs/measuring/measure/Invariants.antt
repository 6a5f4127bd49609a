use Rattle.std.proofs.Common.{◌++◌, take}
use Rattle.std.specs.Prelude.{flat_map}
use Rattle.sha2.specs.Hashers.{Holds256}
use Rattle.bn_model.specs.Launching.{measured_bytes}
use Rattle.bn_launch.proofs.measuring.measure.Given as goal

abbrev pub invariant-loop-decl : goal.invariant-loop-decl
invariant-loop-decl g l =
    Holds256 l.hasher (l.text ++
    flat_map (measured_bytes (g.P.Pages.visible l.pages)) (take l.decl-index l.decls))
