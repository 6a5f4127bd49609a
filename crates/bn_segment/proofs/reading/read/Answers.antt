use Rattle.bn_segment.proofs.ReadTexts.{read-sound, read-spelling}
use Rattle.bn_segment.proofs.reading.read.Goals as goal

pub returns-clause-spelling : goal.returns-clause-spelling
returns-clause-spelling c =
    read-spelling c.args.text.now c.read_slice.result c.fits-text c.told-text c.read_slice.ensures

pub returns-clause-sound : goal.returns-clause-sound
returns-clause-sound c =
    read-sound c.args.text.now c.read_slice.result c.fits-text c.told-text c.read_slice.ensures
