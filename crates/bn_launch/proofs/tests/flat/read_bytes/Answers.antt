use Rattle.std.proofs.Common.{◌<◌}
use Rattle.std.proofs.lemmas.List.Elements.{All-from_get_or}
use Rattle.bn_launch.proofs.tests.flat.read_bytes.Goals as goal

pub returns-clause-bytes : goal.returns-clause-bytes
returns-clause-bytes c =
    All-from_get_or (λ byte. byte < 256) c.args.bytes.now 0 (λ i lt. c.fits-bytes i)
