use Rattle.std.proofs.Common.{w64}
use Rattle.std.proofs.Math.Facts.{sfits_lit, yes_ltb}
use Rattle.std.proofs.lemmas.Int.{to_z-of_z}
use Rattle.bn_machine.proofs.Launches.{refusal_code}
use Rattle.bn_machine.proofs.engine.Engine.launch.Goals as goal

pub refuse-requires-clause-code : goal.refuse-requires-clause-code
refuse-requires-clause-code g c =
    rw (to_z-of_z w64 c.code_of.result (sfits_lit (yes_ltb c.code_of.type_inv)))
    (rw (c.code_of.ensures) (refusal_code c.in-Err.refusal))
