use Rattle.std.proofs.Common.{◌≡◌, arith, true}
use Rattle.std.proofs.lemmas.Grind.{common_steps}
use Rattle.bn_model.specs.LineReading.{is_in}
use Rattle.bn_model.specs.LineShapes.{Sha}
use Rattle.bn_trace.proofs.ValueLemmas.{digest_in}
use Rattle.bn_trace.proofs.values.is_digest_text.Goals as goal

pub returns : goal.returns
returns c =
    let within : is_in Sha c.args.bytes.now ≡ true =
    digest_in c.args.bytes.now c.requires (λ i. omega (arith, c.type_inv.bytes i)) in
    rw within (grind (arith, common_steps))
