use Rattle.bn_front.proofs.Readings.{image_fills}
use Rattle.bn_front.proofs.images.load_image.Goals as goal

pub returns-in-Ok-clause-fills : goal.returns-in-Ok-clause-fills
returns-in-Ok-clause-fills c =
    image_fills c.args.ram_pages c.args.file.now c.in-Ok.image c.requires.most c.in-Ok.ensures
